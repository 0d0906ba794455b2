use Rattle.std.proofs.Common.{◌<◌, sym, subst, length}
use Rattle.cmc_rules.specs.Passes.{open_pass}
use Rattle.cmc_rules.specs.Causes.{MayEnd}
use Rattle.cmc_held.specs.Open.{pass_at}
use Rattle.cmc_held.specs.Remembered.{past_at}
use Rattle.cmc_kernel.specs.Advances.{IsClosing}
use Rattle.cmc_kernel.specs.Kept.{Seen, on}
use Rattle.cmc_kernel.proofs.Calls.{kept_end}
use Rattle.cmc_kernel.proofs.kernel.Kernel.end.Goals as goal

pub invariant_of-self-2 : goal.invariant_of-self-2
invariant_of-self-2 c =
    rw (c.push.ensures.entries, c.in_ok-reserve.ensures.same)
    (kept_end _ _ _ c.args.pass c.args.cause c.in_ok-closing.closing (λ n. pass_at c.close.new.self n) (λ r k. past_at c.ended.new.self r k) c.self.invariant
    (subst (λ (v : Seen). on IsClosing v c.args.pass c.in_ok-closing.closing) (sym c.self.view_is) c.in_ok-closing.ensures)
    (subst (λ (v : Seen). on MayEnd v (on open_pass v c.args.pass) c.args.cause) (sym c.self.view_is) c.requires.may)
    (subst (λ (v : Seen). length v.history < v.scenario.events) (sym c.self.view_is) c.requires.room)
    c.close.ensures c.ended.ensures.past)
