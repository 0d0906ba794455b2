use Rattle.std.proofs.Common.{◌+◌, ◌<◌, ◌≤◌, ℤ, List, ap, arith, drop, length, rules, set, subst, sym, w64, ◌∙◌}
use Rattle.std.proofs.lemmas.Int.{to_z-of_z}
use Rattle.std.proofs.lemmas.List.{take_at}
use Rattle.cmc_queue.specs.Queues.{ChangesRows, Work}
use Rattle.cmc_queue.specs.Rows.{ticked}
use Rattle.cmc_waking.proofs.Eight.{gone_all, gone_on, IsGone}
use Rattle.cmc_waking.proofs.queues.Queues.ticked.Goals as goal

pub loop-queue-preserved : goal.loop-queue-preserved
loop-queue-preserved c =
    let same = to_z-of_z w64 c.args.now (search rules) in
    let low : c.loop-queue.queue-index < length c.loop-queue.queue-items = omega (arith, c.loop-queue-test.true, c.loop-queue.auto.queue-items) in
    subst (λ (now : ℤ). IsGone (ticked now) c.deref_mut-queue-items.result.now (set c.loop-queue.queue-items c.loop-queue.queue-index c.tick.new.self) (c.loop-queue.queue-index + 1)) (sym same)
    (gone_on (ticked c.args.now) c.deref_mut-queue-items.result.now c.loop-queue.queue-items c.loop-queue.queue-index c.queue-item.result c.tick.new.self
    (subst (λ (now : ℤ). IsGone (ticked now) c.deref_mut-queue-items.result.now c.loop-queue.queue-items c.loop-queue.queue-index) same c.loop-queue.invariant)
    low c.queue-item.is (subst (λ (q : Work). ChangesRows (ticked c.args.now) q c.tick.new.self) (sym c.queue-item.is) (simp same at c.tick.ensures.rows)))

pub returns : goal.returns
returns c =
    let same = to_z-of_z w64 c.args.now (search rules) in
    let first = c.deref_mut-queue-items.ensures.value in
    let all : 8 ≤ c.loop-queue.queue-index = omega (arith, c.loop-queue-test.false, ap length first, c.self.invariant) in
    let gone =
    subst (λ (qs : List Work). IsGone (ticked c.args.now) qs c.loop-queue.queue-items c.loop-queue.queue-index) first
    (subst (λ (now : ℤ). IsGone (ticked now) c.deref_mut-queue-items.result.now c.loop-queue.queue-items c.loop-queue.queue-index) same c.loop-queue.invariant)
    in
    rw (take_at c.loop-queue.queue-items (drop (length c.loop-queue.queue-items) c.self.inside.rows.items) c.self.inside.rows.len (c.loop-queue.auto.queue-items ∙ c.deref_mut-queue-items.ensures.len))
    (rw (← c.self.view_is) (gone_all (ticked c.args.now) c.self.inside.rows.items c.loop-queue.queue-items c.loop-queue.queue-index all gone))
