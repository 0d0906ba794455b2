use Rattle.std.proofs.Common.{◌≡◌, ◌∙◌, ◌<◌, ap, sym, subst, length, false, arith}
use Rattle.std.specs.Prelude.{if◌then◌else◌}
use Rattle.cmc_model.specs.Histories.{role_eq}
use Rattle.cmc_rules.specs.Legality.{IsDelivery}
use Rattle.cmc_rules.specs.Scripts.{held}
use Rattle.cmc_held.specs.declared.role_states.RoleState.{RoleState}
use Rattle.cmc_held.specs.RoleStates.{role_state_of}
use Rattle.cmc_kernel.specs.Kept.{Seen, setting_of, on}
use Rattle.cmc_kernel.specs.Changes.{telling}
use Rattle.cmc_model.specs.Writes.{writes}
use Rattle.cmc_model.proofs.Writes.{writes_count}
use Rattle.cmc_caches.specs.Posted.{told_of}
use Rattle.cmc_rules.proofs.Positions.{write_at-low}
use Rattle.cmc_kernel.proofs.RolePositions.{log_length}
use Rattle.cmc_kernel.proofs.Events.{kept_delivered}
use Rattle.cmc_kernel.proofs.kernel.Kernel.deliver.Goals as goal

pub tell-requires : goal.tell-requires
tell-requires c =
    let may = subst (λ (v : Seen). on IsDelivery v c.args.role c.args.kind c.args.to) (sym c.self.view_is) c.requires.may in
    let count = log_length _ _ _ c.self.invariant.held in
    let low = write_at-low c.args.kind c.args.to (writes (setting_of c.self.inside.scenario) c.self.inside.history.entries) may.written in
    omega (arith, count, low, writes_count (setting_of c.self.inside.scenario) c.self.inside.history.entries)

pub invariant_of-self-2 : goal.invariant_of-self-2
invariant_of-self-2 c =
    rw (c.push.ensures.entries, c.in_ok-reserve.ensures.same, c.in_ok-tell.ensures.writes)
    (kept_delivered _ _ _ c.args.role c.args.kind c.args.to (λ r. role_state_of c.set.new.self r) (λ r. told_of c.tell.new.self.told r) c.self.invariant
    (subst (λ (v : Seen). on IsDelivery v c.args.role c.args.kind c.args.to) (sym c.self.view_is) c.requires.may)
    (subst (λ (v : Seen). on held v c.args.role c.args.kind ≡ false) (sym c.self.view_is) c.requires.free)
    (subst (λ (v : Seen). length v.history < v.scenario.events) (sym c.self.view_is) c.requires.room)
    (λ r. c.set.ensures r ∙ ap (λ (t : RoleState). if role_eq c.args.role r then t else role_state_of c.self.inside.role_states r) (c.with_told.ensures ∙ ap (telling c.args.kind c.args.to) c.get-standing.ensures))
    c.in_ok-tell.ensures.ok)
