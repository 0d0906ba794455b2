use Rattle.cmc_scenario.proofs.LoadLaws.{is_setup}
use Rattle.cmc_scenario.proofs.generating.generate.Goals as goal

pub new-requires-3 : goal.new-requires-3
new-requires-3 c = rw (c.in_ok-script.ensures, c.in_ok-roles.ensures, c.in_ok-approver.ensures, c.new.ensures, c.new-2.ensures) (is_setup c.args.count c.requires.some c.requires.few)
