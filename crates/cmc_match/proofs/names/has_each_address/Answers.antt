use Rattle.std.proofs.Common.{◌∙◌}
use Rattle.cmc_match.specs.SubjectNames.{addresses, values_of}
use Rattle.cmc_match.proofs.NameLaws.{written_within}
use Rattle.cmc_match.proofs.names.has_each_address.Goals as goal

pub returns : goal.returns
returns c = c.all_have.ensures ∙ written_within c.args.texts.now (addresses (values_of c.args.alternative.now))
