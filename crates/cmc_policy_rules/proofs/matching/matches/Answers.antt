use Rattle.std.proofs.lemmas.Bool.Decides.{same_from_decides}
use Rattle.cmc_policy_rules.specs.Patterns.{is_match}
use Rattle.cmc_policy_rules.proofs.Decided.{is_match-Decides}
use Rattle.cmc_policy_rules.proofs.matching.matches.Goals as goal

pub returns-clause-value : goal.returns-clause-value
returns-clause-value c =
    same_from_decides c.fits.result (is_match c.args.pattern.now c.args.text.now) c.fits.ensures (is_match-Decides c.args.pattern.now c.args.text.now)
