use Rattle.std.proofs.Common.{◌≡◌, ◌≤◌, ◌∙◌, ℕ, List, ap, arith, reverse, subst, sym}
use Rattle.std.proofs.lemmas.Result.{IfOk-weaker}
use Rattle.cmc_meta.specs.declared.key.Kind.TheVariants as kinds
use Rattle.cmc_objects.proofs.Ranks.{rank_low}
use Rattle.cmc_model.specs.declared.write.Write.{Write}
use Rattle.cmc_rules.specs.Positions.{position_of}
use Rattle.cmc_rules.specs.Views.{Caches}
use Rattle.cmc_caches.specs.Affected.{SeesSame}
use Rattle.cmc_caches.specs.Board.{AreBornWhereNumbered, ShownKind, objects_by, shown_by}
use Rattle.cmc_caches.specs.Posted.{Posted, caches_of, told_of}
use Rattle.cmc_caches.specs.Told.{caches_at, with_cached}
use Rattle.cmc_caches.proofs.Naming.{stand_under_named}
use Rattle.cmc_caches.proofs.ToldRows.{row_at, row_within, shown_caches, shown_in}
use Rattle.cmc_caches.proofs.caches.Caches.affected.Goals as goal

pub new-certificates-requires : goal.new-certificates-requires
new-certificates-requires c =
    row_within kinds.Certificate c.self.inside.board.known c.self.inside.rows.items c.rank.result c.index-at.result.now c.self.invariant.1 (omega (arith, c.rank.ensures, rank_low c.args.role, c.self.invariant.0)) c.index-at.ensures

pub new-requests-requires : goal.new-requests-requires
new-requests-requires c =
    row_within kinds.CertificateRequest c.self.inside.board.known c.self.inside.rows.items c.rank.result c.index-at.result.now c.self.invariant.1 (omega (arith, c.rank.ensures, rank_low c.args.role, c.self.invariant.0))
    c.index-at.ensures

pub new-secrets-requires : goal.new-secrets-requires
new-secrets-requires c =
    row_within kinds.Secret c.self.inside.board.known c.self.inside.rows.items c.rank.result c.index-at.result.now c.self.invariant.1 (omega (arith, c.rank.ensures, rank_low c.args.role, c.self.invariant.0)) c.index-at.ensures

pub affected_on-requires-clause-above : goal.affected_on-requires-clause-above
affected_on-requires-clause-above c =
    subst (λ (n : ℕ). n ≤ c.args.to)
    (sym
    (c.at_kind.ensures
    ∙ ap (position_of c.args.kind)
    (sym (row_at c.self.inside.rows.items c.args.role c.rank.result c.index-at.result.now c.self.invariant.0 c.rank.ensures c.index-at.ensures) ∙ ap (λ (p : Posted). told_of p.told c.args.role) c.self.view_is)))
    c.requires.above

pub affected_on-requires-clause-named : goal.affected_on-requires-clause-named
affected_on-requires-clause-named c =
    stand_under_named kinds.Certificate c.as_slice.result.now (shown_by c.new-certificates.result) (
      c.index-at.result.now.certificates,
      ap shown_by c.new-certificates.ensures ∙ ap (objects_by kinds.Certificate c.index-at.result.now.certificates) (sym (c.as_slice.ensures ∙ c.log.ensures.writes)),
    )

pub affected_on-requires-clause-born : goal.affected_on-requires-clause-born
affected_on-requires-clause-born c =
    subst AreBornWhereNumbered (ap (λ (p : Posted). p.writes) (sym c.self.view_is) ∙ ap (λ (s : ShownKind). s.writes) (sym c.new-certificates.ensures)) c.requires.born

pub returns-clause-sees : goal.returns-clause-sees
returns-clause-sees c =
    let shown : Caches = shown_in c.new-certificates.result c.new-requests.result c.new-secrets.result in
    let same : shown ≡ caches_of c.args.self.now c.args.role =
    shown_caches c.self.inside.board.writes c.index-at.result.now c.new-certificates.result c.new-requests.result c.new-secrets.result c.new-certificates.ensures c.new-requests.ensures c.new-secrets.ensures
    ∙ ap (caches_at c.self.inside.board.writes) (sym (row_at c.self.inside.rows.items c.args.role c.rank.result c.index-at.result.now c.self.invariant.0 c.rank.ensures c.index-at.ensures))
    ∙ ap (λ (p : Posted). caches_of p c.args.role) c.self.view_is in
    let whole : reverse c.as_slice.result.now ≡ c.args.self.now.writes = c.as_slice.ensures ∙ c.log.ensures.writes ∙ ap (λ (p : Posted). p.writes) c.self.view_is in
    IfOk-weaker c.affected_on.result _ _
    (λ keys sees.
    subst (λ (x : Caches). SeesSame c.args.role keys.items x (with_cached c.args.kind (objects_by c.args.kind c.args.to c.args.self.now.writes) x)) same
    (subst (λ (ws : List Write). SeesSame c.args.role keys.items shown (with_cached c.args.kind (objects_by c.args.kind c.args.to ws) shown)) whole sees))
    c.affected_on.ensures.sees
