use Rattle.std.proofs.Common.{List, reverse, ap, subst, ◌∙◌}
use Rattle.std.proofs.lemmas.Result.{IfOk-weaker}
use Rattle.std.specs.List.Sorted.{IsStrictlySortedBy}
use Rattle.std.specs.Prelude.{filter_map, option_and_then}
use Rattle.cmc_meta.specs.declared.key.Key.{Key}
use Rattle.cmc_meta.specs.declared.key.Kind.TheVariants as kinds
use Rattle.cmc_meta.specs.Keys.{key_cmp}
use Rattle.cmc_model.specs.Objects.{object_at}
use Rattle.cmc_rules.specs.Views.{owned_in}
use Rattle.cmc_audit_state.specs.Journaled.{cached}
use Rattle.cmc_audit_state.proofs.Indexing.{requests_found, none_sorted}
use Rattle.cmc_audit_state.proofs.journal.Journal.requests.Goals as goal

pub returns-in-Some : goal.returns-in-Some
returns-in-Some c =
    let ws = reverse c.self.inside.items.items in
    let same = c.keys.ensures.list ∙ c.in-Some.ensures in
    IfOk-weaker c.owned_under.result _ _
    (λ found is.
    is ∙ rw (← c.self.view_is)
    (ap (λ (ks : List Key). filter_map (λ k. option_and_then (owned_in c.args.certificate.now) (object_at (cached kinds.CertificateRequest ws c.args.up_to) k)) ks) same
    ∙ requests_found ws c.self.inside.indexes c.args.certificate.now c.args.up_to c.self.invariant (subst (λ (ks : List Key). IsStrictlySortedBy key_cmp ks) c.in-Some.ensures c.keys.ensures.ordered)))
    c.owned_under.ensures

pub returns-in-None : goal.returns-in-None
returns-in-None c =
    let ws = reverse c.self.inside.items.items in
    c.new.ensures ∙ rw (← c.self.view_is)
    (ap (λ (ks : List Key). filter_map (λ k. option_and_then (owned_in c.args.certificate.now) (object_at (cached kinds.CertificateRequest ws c.args.up_to) k)) ks) c.in-None.ensures
    ∙ requests_found ws c.self.inside.indexes c.args.certificate.now c.args.up_to c.self.invariant (subst (λ (ks : List Key). IsStrictlySortedBy key_cmp ks) c.in-None.ensures none_sorted))
