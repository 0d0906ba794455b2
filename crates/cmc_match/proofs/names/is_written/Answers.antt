use Rattle.std.proofs.Common.{◌∙◌}
use Rattle.cmc_match.proofs.NameLaws.{among_written}
use Rattle.cmc_match.proofs.names.is_written.Goals as goal

pub returns : goal.returns
returns c = c.one_writes.ensures ∙ among_written c.args.texts.now c.args.octets.now
