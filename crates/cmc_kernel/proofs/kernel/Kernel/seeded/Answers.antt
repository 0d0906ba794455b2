use Rattle.std.proofs.Common.{◌∙◌, ap, refl, rules, w64, to_z, of_z, List}
use Rattle.std.proofs.lemmas.Int.{to_z-of_z}
use Rattle.std.specs.List.{list_any}
use Rattle.cmc_objects.specs.declared.role.Role.{Role}
use Rattle.cmc_store.specs.Kept.{Kept}
use Rattle.cmc_model.specs.Histories.{role_eq}
use Rattle.cmc_caches.specs.Posted.{told_of}
use Rattle.cmc_held.specs.Open.{pass_at}
use Rattle.cmc_held.specs.Questioned.{count_under}
use Rattle.cmc_held.specs.Remembered.{past_at}
use Rattle.cmc_held.specs.RoleStates.{role_state_of, first_role_state}
use Rattle.cmc_kernel.proofs.Starting.{kept_new}
use Rattle.cmc_kernel.proofs.kernel.Kernel.seeded.Goals as goal

pub invariant_of-result : goal.invariant_of-result
invariant_of-result c =
    rw c.new-3.ensures
    (kept_new c.args.scenario
    (record {
      faults = c.seeded-2.result.faults;
      state = c.seeded-2.result.state;
      log = c.in_ok-caches.caches.writes;
      moment = to_z w64 (of_z w64 c.now-moment.result);
      made = 0;
      role_state = λ r. role_state_of c.in_ok-role_states.role_states r;
      told = λ r. told_of c.in_ok-caches.caches.told r;
      origins = c.new-4.result.origins;
      opened = λ n. pass_at c.new-5.result n;
      past = λ r k. past_at c.in_ok-memories.memories r k;
      keys_asked = count_under c.new-6.result.keys;
      answers_asked = count_under c.new-6.result.answers;
      desk = record { material = c.in_ok-material.material; asked = 0; rules = c.in_ok-rules.rules };
    })
    (ap (λ (k : Kept). k.faults) c.seeded-2.ensures ∙ c.in_ok-faults.ensures ∙ c.faults.ensures)
    (ap (λ (k : Kept). k.state) c.seeded-2.ensures)
    c.in_ok-caches.ensures.writes
    (to_z-of_z w64 c.now-moment.result (search rules) ∙ c.now-moment.ensures)
    refl
    (λ r. c.in_ok-role_states.ensures r ∙ ap (λ (l : List Role). first_role_state (list_any (λ role. role_eq role r) l)) c.roles.ensures)
    c.in_ok-caches.ensures.told
    c.new-4.ensures
    c.new-5.ensures
    c.in_ok-memories.ensures
    c.new-6.ensures.keys
    c.new-6.ensures.answers
    (λ i. record { material = (c.in_ok-material.ensures ∙ c.material.ensures) i; asked = 0; rules = (c.in_ok-rules.ensures ∙ c.approver.ensures) i })
    c.events-events.ensures.setup)
