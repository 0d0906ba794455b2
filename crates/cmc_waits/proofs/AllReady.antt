-- Where no Certificate waits, a summary has no item; and what is seen of all that stands is dated.
use Rattle.std.proofs.Common.{◌≡◌, List, [], ◌∷◌, Option, Some, None, Ok, Err, option_and_then, false, refl, sym, ap, subst, ◌∙◌}
use Rattle.std.specs.Prelude.{IfOk, Result}
use Rattle.std.specs.declared.alloc.AllocError.{AllocError}
use Rattle.std.specs.List.{list_any}
use Rattle.std.proofs.lemmas.Bool.{or_parts}
use Rattle.cmc_meta.specs.declared.key.Key.{Key}
use Rattle.cmc_objects.specs.declared.object.Object.{Object}
use Rattle.cmc_objects.specs.declared.object.Object.TheVariants.{Cert, Request, Secret}
use Rattle.cmc_objects.specs.declared.role.Role.TheVariants.{Issuing}
use Rattle.cmc_objects.specs.declared.entry.Entry.{Entry}
use Rattle.cmc_summary.specs.declared.summary.Waiting.{Waiting}
use Rattle.cmc_pass.specs.declared.pass.Views.{Views}
use Rattle.cmc_model.specs.Objects.{object_at}
use Rattle.cmc_model.specs.Histories.{Setting, objects}
use Rattle.cmc_model.specs.Summaries.{is_waiting}
use Rattle.cmc_rules.specs.Dates.{HasDatedFailure, IsDatedCertificate}
use Rattle.cmc_rules.specs.Views.{Caches, certificate_in, views_of, views_in, present_views}
use Rattle.cmc_rules.specs.Legality.{IsLegal}
use Rattle.cmc_rules.proofs.Versions.{stands_is_version}
use Rattle.cmc_safety.specs.Invariants.{KeepsInvariants}
use Rattle.cmc_kernel.proofs.Newest.{views_of_all}
use Rattle.cmc_waits.specs.Waits.{waits_among, IsAllThatExists}

-- none waits
none_among : (s : Setting) (h : List Entry) (es : List (Key × Object)) → list_any (λ e. is_waiting e.1) es ≡ false → waits_among s h es ≡ []
none_among s h [] none = refl
none_among s h (e ∷ es) none =
    let parts = or_parts (is_waiting e.1) (list_any (λ x. is_waiting x.1) es) none in rw parts.0 (none_among s h es parts.1)

pub none_waiting : (s : Setting) (h : List Entry) (es : List (Key × Object)) (waits : List Waiting) → waits ≡ [] → list_any (λ e. is_waiting e.1) es ≡ false → waits ≡ waits_among s h es
none_waiting s h es waits is none = is ∙ sym (none_among s h es none)

-- what stands is dated
dated_in : (s : Setting) (h : List Entry) (key : Key) (x : Option Object) → object_at (objects s h) key ≡ x → KeepsInvariants s h → IsDatedCertificate (option_and_then certificate_in x)
dated_in s h key None is order = tt
dated_in s h key (Some (Cert c)) is order = (order.moments key (Cert c) (stands_is_version s h key (Cert c) is)).status.last_failure
dated_in s h key (Some (Request r)) is order = tt
dated_in s h key (Some (Secret k)) is order = tt

present_dated : (s : Setting) (h : List Entry) (key : Key) → KeepsInvariants s h → HasDatedFailure (present_views s h Issuing key)
unfolding views_in views_of
present_dated s h key order = dated_in s h key (object_at (objects s h) key) refl order

pub seen_of_all : (s : Setting) (h : List Entry) (key : Key) (all : Caches) (r : Result Views AllocError) → IsLegal s h → IsAllThatExists s h all → IfOk r (λ seen. seen ≡ views_in Issuing all key) → IfOk r (λ seen. seen ≡ present_views s h Issuing key)
seen_of_all s h key all r legal is seen =
    subst (λ (v : Views). IfOk r (λ x. x ≡ v)) (ap (λ (c : Caches). views_in Issuing c key) is ∙ views_of_all s h Issuing key _ refl legal) seen

pub dated_of_all : (s : Setting) (h : List Entry) (key : Key) (all : Caches) (r : Result Views AllocError) → IsLegal s h → KeepsInvariants s h → IsAllThatExists s h all → IfOk r (λ seen. seen ≡ views_in Issuing all key) → IfOk r (λ seen. HasDatedFailure seen)
dated_of_all s h key all r legal order is seen = by r (seen_of_all s h key all r legal is seen) where
  by : (r : Result Views AllocError) → IfOk r (λ x. x ≡ present_views s h Issuing key) → IfOk r (λ x. HasDatedFailure x)
  by (Ok x) same = subst HasDatedFailure (sym same) (present_dated s h key order)
  by (Err lack) same = tt
