use Rattle.std.proofs.Common.{◌≡◌, ◌≤◌, ◌+◌, sym, subst, length, arith, rules, w64, to_z, of_z}
use Rattle.std.proofs.lemmas.Int.{to_z-of_z}
use Rattle.cmc_rules.specs.Views.{views}
use Rattle.cmc_kernel.specs.Kept.{Seen, on}
use Rattle.cmc_kernel.specs.Prepared.{IsPrepared}
use Rattle.cmc_kernel.proofs.Begins.{prepared, number_fits}
use Rattle.cmc_kernel.proofs.kernel.Kernel.prepare.Goals as goal

pub overflow_add-result : goal.overflow_add-result
overflow_add-result c =
    let low = number_fits _ _ _ c.len.result c.self.invariant (subst (λ (v : Seen). length v.history ≤ 250000) (sym c.self.view_is) c.is_short.ensures) c.len.ensures in
    omega (arith, low)

pub returns : goal.returns
returns c =
    subst
    (λ (v : Seen). on IsPrepared v c.args.role c.args.key (record { number = c.len.result + 1; origin = record { role = c.args.role; incarnation = c.get-standing.result.incarnation }; pass = c.in_ok-pass.pass; seen = c.args.seen; key = c.args.key; at = c.shown_positions-at.result }))
    c.self.view_is
    (prepared _ _ _ c.args.role c.args.key c.get-standing.result c.shown_positions-at.result c.args.seen c.in_ok-pass.pass (to_z w64 (of_z w64 c.self.inside.moment)) c.len.result
    c.self.invariant c.get-standing.ensures c.shown_positions-at.ensures
    (subst (λ (v : Seen). c.args.seen ≡ on views v c.args.role c.args.key) (sym c.self.view_is) c.requires)
    (to_z-of_z w64 c.self.inside.moment (search rules)) c.in_ok-pass.ensures c.len.ensures)
