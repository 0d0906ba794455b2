use Rattle.std.proofs.Common.{◌<◌, ◌∙◌, ap, arith, length}
use Rattle.std.specs.Prelude.{if◌then◌else◌}
use Rattle.cmc_objects.proofs.Ranks.{rank_low}
use Rattle.cmc_model.specs.Histories.{role_eq}
use Rattle.cmc_caches.specs.Posted.{Posted, told_of}
use Rattle.cmc_caches.proofs.ToldRows.{row_put}
use Rattle.cmc_caches.proofs.caches.Caches.start.Goals as goal

pub returns-clause-ok : goal.returns-clause-ok
returns-clause-ok c r =
    let low : c.rank.result < length c.self.inside.rows.items = omega (arith, c.rank.ensures, rank_low c.args.role, c.self.invariant.0) in
    row_put c.self.inside.rows.items c.args.role r c.rank.result c.args.at low c.rank.ensures ∙ ap (λ (p : Posted). if role_eq c.args.role r then c.args.at else told_of p.told r) c.self.view_is
