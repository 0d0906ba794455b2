use Rattle.std.specs.List.{list_any}
use Rattle.cmc_model.specs.Histories.{role_eq}
use Rattle.cmc_audit_state.specs.Standings.{first_standing}
use Rattle.cmc_audit_state.proofs.EachRole.{standing_of_each}
use Rattle.cmc_audit_state.proofs.standings.Standings.new.Goals as goal

pub returns : goal.returns
returns c = λ r. rw (c.in_ok-rows.ensures.items, c.first_of.ensures, c.first_of-2.ensures, c.first_of-3.ensures, c.first_of-4.ensures, c.first_of-5.ensures, c.first_of-6.ensures, c.first_of-7.ensures, c.first_of-8.ensures)
    (standing_of_each (λ role. first_standing (list_any (λ other. role_eq other role) c.args.running.now)) r)
