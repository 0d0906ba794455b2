use Rattle.std.proofs.Common.{◌∙◌, ap, rules, w64, List, ℕ}
use Rattle.std.proofs.lemmas.Int.{to_z-of_z}
use Rattle.std.specs.List.{list_any}
use Rattle.cmc_objects.specs.declared.role.Role.{Role}
use Rattle.cmc_store.specs.Kept.{Kept}
use Rattle.cmc_model.specs.Replies.{empty_store}
use Rattle.cmc_model.specs.Histories.{role_eq}
use Rattle.cmc_audit_state.specs.Standings.{first_standing}
use Rattle.cmc_audit_ledger.proofs.Beginning.{follows_none}
use Rattle.cmc_audit_ledger.proofs.ledger.Ledger.new.Goals as goal

kept_with : List ℕ → Kept
kept_with faults = record { faults = faults; state = empty_store }

pub returns-clause-follows : goal.returns-clause-follows
unfolding kept_with
returns-clause-follows c =
    follows_none c.args.scenario.now _ c.events-events.ensures.setup
    (c.seeded.ensures ∙ ap kept_with (c.in_ok-faults.ensures ∙ c.faults.ensures)) c.new-2.ensures (to_z-of_z w64 c.now.result (search rules) ∙ c.now.ensures) c.window.ensures
    (λ r. c.in_ok-standings.ensures r ∙ ap (λ (l : List Role). first_standing (list_any (λ role. role_eq role r) l)) c.roles.ensures)
    c.new-3.ensures.begun c.new-3.ensures.none
