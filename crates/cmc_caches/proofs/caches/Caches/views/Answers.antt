use Rattle.std.proofs.Common.{◌∙◌, ap, arith, sym}
use Rattle.std.proofs.lemmas.Result.{IfOk-weaker}
use Rattle.cmc_meta.specs.declared.key.Kind.TheVariants as kinds
use Rattle.cmc_objects.proofs.Ranks.{rank_low}
use Rattle.cmc_rules.specs.Views.{Caches, views_in}
use Rattle.cmc_caches.specs.Posted.{Posted, caches_of}
use Rattle.cmc_caches.specs.Told.{caches_at}
use Rattle.cmc_caches.proofs.ToldRows.{row_at, row_within, shown_caches}
use Rattle.cmc_caches.proofs.caches.Caches.views.Goals as goal

pub new-certificates-requires : goal.new-certificates-requires
new-certificates-requires c =
    row_within kinds.Certificate c.self.inside.board.known c.self.inside.rows.items c.rank.result c.index-at.result.now c.self.invariant.1 (omega (arith, c.rank.ensures, rank_low c.args.role, c.self.invariant.0)) c.index-at.ensures

pub new-requests-requires : goal.new-requests-requires
new-requests-requires c =
    row_within kinds.CertificateRequest c.self.inside.board.known c.self.inside.rows.items c.rank.result c.index-at.result.now c.self.invariant.1 (omega (arith, c.rank.ensures, rank_low c.args.role, c.self.invariant.0))
    c.index-at.ensures

pub new-secrets-requires : goal.new-secrets-requires
new-secrets-requires c =
    row_within kinds.Secret c.self.inside.board.known c.self.inside.rows.items c.rank.result c.index-at.result.now c.self.invariant.1 (omega (arith, c.rank.ensures, rank_low c.args.role, c.self.invariant.0)) c.index-at.ensures

pub returns : goal.returns
returns c =
    IfOk-weaker c.views_on.result _ _
    (λ seen is.
    is
    ∙ ap (λ (x : Caches). views_in c.args.role x c.args.key.now)
    (shown_caches c.self.inside.board.writes c.index-at.result.now c.new-certificates.result c.new-requests.result c.new-secrets.result c.new-certificates.ensures c.new-requests.ensures c.new-secrets.ensures
    ∙ ap (caches_at c.self.inside.board.writes) (sym (row_at c.self.inside.rows.items c.args.role c.rank.result c.index-at.result.now c.self.invariant.0 c.rank.ensures c.index-at.ensures))
    ∙ ap (λ (p : Posted). caches_of p c.args.role) c.self.view_is))
    c.views_on.ensures
