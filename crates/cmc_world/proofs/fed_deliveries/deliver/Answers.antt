use Rattle.std.proofs.Common.{◌≡◌, ◌∙◌, sym, subst, List, ℕ, Option}
use Rattle.cmc_meta.specs.declared.key.Key.{Key}
use Rattle.cmc_caches.specs.Affected.{is_among}
use Rattle.cmc_moves.specs.Answers.{AnswersDelivery, Leaves}
use Rattle.cmc_moves.specs.declared.moves.Move.TheVariants as moves
use Rattle.cmc_moves.specs.declared.moves.Stepped.{Stepped}
use Rattle.cmc_moves.proofs.Tables.{the_done}
use Rattle.cmc_waking.specs.Feeds.{added_if}
use Rattle.cmc_waking.specs.Queues.{queue_in, row_at, WakesSome}
use Rattle.cmc_kernel.specs.Kept.{on}
use Rattle.cmc_world.specs.Fed.{IsReach}
use Rattle.cmc_world.proofs.Wakings.{fed_woken, others_twice, told_rows}
use Rattle.cmc_world.proofs.Feeding.{fed_not_made, fed_refused, fed_same, fed_told}
use Rattle.cmc_world.proofs.fed_deliveries.deliver.Goals as goal

pub returns-in_default-clause-fed : goal.returns-in_default-clause-fed
returns-in_default-clause-fed c =
    fed_refused c.args.kernel.now c.step_deliver.new.self (moves.Deliver c.args.role c.args.kind c.args.to) (λ a. on AnswersDelivery c.args.kernel.now c.args.role c.args.kind c.args.to a) c.step_deliver.result c.args.queues.now c.is_run.ensures.run
    (subst (λ (o : Option ℕ). on IsReach c.args.kernel.now c.args.role c.args.kind c.args.to o) c.in_default.is c.reach.ensures) c.step_deliver.ensures.scenario c.step_deliver.ensures.answer c.step_deliver.ensures.leaves c.step_deliver.ensures.err c.requires

pub returns-in_err-wake-clause-fed : goal.returns-in_err-wake-clause-fed
returns-in_err-wake-clause-fed c = fed_woken c.args.kernel.now c.args.role c.in_ok-keys.keys.items c.args.queues.now c.wake.new.self c.in_ok-keys.ensures.work (subst (λ (ks : List Key). WakesSome ks (queue_in c.args.queues.now c.args.role) (queue_in c.wake.new.self c.args.role)) c.deref.ensures.value c.wake.ensures.some) c.wake.ensures.others c.requires

pub returns-in_err-answer-clause-fed : goal.returns-in_err-answer-clause-fed
returns-in_err-answer-clause-fed c = fed_same c.args.kernel.now c.step_deliver-2.new.self c.wake.new.self c.in_err-answer.ensures.err (fed_woken c.args.kernel.now c.args.role c.in_ok-keys.keys.items c.args.queues.now c.wake.new.self c.in_ok-keys.ensures.work (subst (λ (ks : List Key). WakesSome ks (queue_in c.args.queues.now c.args.role) (queue_in c.wake.new.self c.args.role)) c.deref.ensures.value c.wake.ensures.some) c.wake.ensures.others c.requires)

pub returns-then-not-is_done-clause-fed : goal.returns-then-not-is_done-clause-fed
returns-then-not-is_done-clause-fed c =
    fed_not_made c.args.kernel.now c.step_deliver-2.new.self (moves.Deliver c.args.role c.args.kind c.args.to) c.in_ok-answer.answer c.wake.new.self c.is_run.ensures.run (sym c.is_done.ensures ∙ c.if-not-is_done.true) c.step_deliver-2.ensures.scenario
    c.in_ok-answer.ensures.leaves (fed_woken c.args.kernel.now c.args.role c.in_ok-keys.keys.items c.args.queues.now c.wake.new.self c.in_ok-keys.ensures.work (subst (λ (ks : List Key). WakesSome ks (queue_in c.args.queues.now c.args.role) (queue_in c.wake.new.self c.args.role)) c.deref.ensures.value c.wake.ensures.some) c.wake.ensures.others c.requires)

pub returns-clause-fed : goal.returns-clause-fed
returns-clause-fed c =
    fed_told c.args.kernel.now c.step_deliver-2.new.self c.args.role c.args.kind c.args.to c.in-Some.upto c.in_ok-keys.keys.items c.args.queues.now c.told.new.self c.step_deliver-2.ensures.run c.step_deliver-2.ensures.scenario
    (subst (λ (a : Stepped). on Leaves c.args.kernel.now (moves.Deliver c.args.role c.args.kind c.args.to) a c.step_deliver-2.new.self.history) (the_done c.in_ok-answer.answer (sym c.is_done.ensures ∙ c.if-not-is_done.false)) c.in_ok-answer.ensures.leaves)
    (subst (λ (o : Option ℕ). on IsReach c.args.kernel.now c.args.role c.args.kind c.args.to o) c.in-Some.is c.reach.ensures) c.in_ok-keys.ensures
    (told_rows c.args.role c.args.kind c.in-Some.upto c.in_ok-keys.keys.items c.args.queues.now c.wake.new.self c.told.new.self
    (subst (λ (ks : List Key). (key : Key) → row_at c.wake.new.self c.args.role key ≡ added_if (is_among ks key) (row_at c.args.queues.now c.args.role key)) c.deref.ensures.value c.in_ok-wake.ensures.rows) c.told.ensures.rows) (others_twice c.args.role c.args.queues.now c.wake.new.self c.told.new.self c.wake.ensures.others c.told.ensures.others)
    c.requires
