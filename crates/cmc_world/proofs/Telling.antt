-- What the queue of a role tells.
use Rattle.std.proofs.Common.{◌≡◌, true, List, sym, subst}
use Rattle.std.specs.Prelude.{◌↔◌, IsTrue}
use Rattle.cmc_meta.specs.declared.key.Key.{Key}
use Rattle.cmc_objects.specs.declared.role.Role.{Role}
use Rattle.cmc_objects.specs.Informers.{kind_of_work}
use Rattle.cmc_queue.specs.Queues.{row_of, Work}
use Rattle.cmc_queue.specs.Rows.{no_row}
use Rattle.cmc_model.specs.Histories.{runs}
use Rattle.cmc_rules.specs.Passes.{IsWorking}
use Rattle.cmc_waking.specs.Queues.{queue_in}
use Rattle.cmc_waking.specs.WakeUps.{IsSearched, LosesNoWakeUp}
use Rattle.cmc_waking.proofs.Promise.{loses_none}
use Rattle.cmc_kernel.specs.Kept.{Seen, setting_of, on}
use Rattle.cmc_world.specs.Fed.{IsFed}
use Rattle.cmc_world.proofs.Finding.{says}
use Rattle.cmc_world.proofs.Looking.{row_works}
use Rattle.cmc_world.proofs.Moves.{fed_of}

pub queue_wakes : (w : Seen) (role : Role) (queues : List Work) (queue : Work) → queue ≡ queue_in queues role → on IsFed w queues → on runs w role ≡ true → on LosesNoWakeUp w role (row_of queue)
queue_wakes w role queues queue is fed up =
    subst (λ (q : Work). on LosesNoWakeUp w role (row_of q)) (sym is) (loses_none (setting_of w.scenario) w.history role (row_of (queue_in queues role)) up (fed_of (setting_of w.scenario) w.history role queues fed))

pub queue_finds : (w : Seen) (role : Role) (queues : List Work) (queue : Work) → queue ≡ queue_in queues role → on IsFed w queues → on runs w role ≡ true → (k : Key) → k.kind ≡ kind_of_work role → on IsSearched w role k (row_of queue k)
queue_finds w role queues queue is fed up k work = subst (λ (q : Work). on IsSearched w role k (row_of q k)) (sym is) (says (setting_of w.scenario) w.history role k queues fed up work)

pub queue_works : (w : Seen) (role : Role) (queues : List Work) (queue : Work) → queue ≡ queue_in queues role → on IsFed w queues → (k : Key) → k.kind ≡ kind_of_work role → IsTrue (row_of queue k).working ↔ on IsWorking w role k
queue_works w role queues queue is fed k work = subst (λ (q : Work). IsTrue (row_of q k).working ↔ on IsWorking w role k) (sym is) (row_works (setting_of w.scenario) w.history role k queues fed work)

pub queue_work : (w : Seen) (role : Role) (queues : List Work) (queue : Work) → queue ≡ queue_in queues role → on IsFed w queues → (k : Key) → (k.kind ≡ kind_of_work role → ⊥) → row_of queue k ≡ no_row
queue_work w role queues queue is fed k other = subst (λ (q : Work). row_of q k ≡ no_row) (sym is) ((fed_of (setting_of w.scenario) w.history role queues fed).others k other)
