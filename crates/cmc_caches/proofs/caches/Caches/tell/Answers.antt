use Rattle.std.proofs.Common.{◌<◌, ◌∙◌, ap, arith, length}
use Rattle.std.specs.Prelude.{if◌then◌else◌}
use Rattle.std.proofs.lemmas.List.{get_or_default, length-set}
use Rattle.cmc_objects.proofs.Ranks.{rank_low}
use Rattle.cmc_model.specs.Histories.{role_eq}
use Rattle.cmc_rules.specs.Memory.{with_position}
use Rattle.cmc_caches.specs.Posted.{Posted, told_of, untold}
use Rattle.cmc_caches.proofs.ToldRows.{row_at, tell_put, within_more, within_told}
use Rattle.cmc_caches.proofs.caches.Caches.tell.Goals as goal

pub invariant_of-self-2 : goal.invariant_of-self-2
invariant_of-self-2 c =
    let low : c.rank-place.result < length c.self.inside.rows.items = omega (arith, c.rank-place.ensures, rank_low c.args.role, c.self.invariant.0) in (
      length-set c.self.inside.rows.items c.rank-place.result c.put_at_kind.result ∙ c.self.invariant.0,
      within_told c.catch_up.new.self.known c.rank-place.result c.args.kind c.args.to c.self.inside.rows.items c.index.result.now c.put_at_kind.result c.in_ok-catch_up.ensures.ok low
          (c.index.ensures ∙ get_or_default c.self.inside.rows.items c.rank-place.result c.index.result.now untold low) c.put_at_kind.ensures
          (within_more c.self.inside.board.known c.catch_up.new.self.known c.self.inside.rows.items c.catch_up.ensures.known c.self.invariant.1),
    )

pub returns-clause-ok : goal.returns-clause-ok
returns-clause-ok c r =
    let low : c.rank-place.result < length c.self.inside.rows.items = omega (arith, c.rank-place.ensures, rank_low c.args.role, c.self.invariant.0) in
    tell_put c.self.inside.rows.items c.args.role r c.rank-place.result c.args.kind c.args.to c.index.result.now c.put_at_kind.result low c.rank-place.ensures
    (row_at c.self.inside.rows.items c.args.role c.rank-place.result c.index.result.now c.self.invariant.0 c.rank-place.ensures c.index.ensures) c.put_at_kind.ensures
    ∙ ap (λ (p : Posted). if role_eq c.args.role r then with_position c.args.kind c.args.to (told_of p.told c.args.role) else told_of p.told r) c.self.view_is
