-- The record of laws of the revision controller, and the search for the oldest request.
use Rattle.std.proofs.Common.{◌≡◌, ℕ, ℤ, Bool, true, false, List, [], ◌∷◌, Option, Some, None, refl, sym, ap, ◌∙◌, inl, inr, cond}
use Rattle.std.specs.Prelude.{if◌then◌else◌, filter, length, nat_lt, drop, slice_index_or, ◌+◌, ◌<◌, ◌≤◌}
use Rattle.std.proofs.lemmas.List.{drop_more, drop_all}
use Rattle.cmc_meta.specs.declared.conditions.ConditionKind.TheVariants.{Issuing}
use Rattle.cmc_objects.specs.declared.certificate.Certificate.{Certificate}
use Rattle.cmc_objects.specs.declared.request.CertificateRequest.{CertificateRequest}
use Rattle.cmc_objects.specs.declared.object.Object.TheVariants.{Request}
use Rattle.cmc_objects.specs.declared.role.Role.TheVariants.{Revision}
use Rattle.cmc_objects.specs.Requests.{is_stated}
use Rattle.cmc_pass.specs.declared.pass.Views.{Views}
use Rattle.cmc_pass.specs.declared.pass.Desk.{Desk}
use Rattle.cmc_pass.specs.declared.pass.Act.{Act}
use Rattle.cmc_pass.specs.declared.pass.Act.TheVariants.{Nothing}
use Rattle.cmc_rules.specs.RevisionManager.{counts, revision, older_of, oldest_from, oldest_of, delete_call, delete_of, by_limit, revise_of, revise}
use Rattle.cmc_rules.specs.Acts.{act, call_after}
use Rattle.cmc_rules.specs.SeenObjects.{IsPartOf, OnSeen}
use Rattle.cmc_rules.specs.Sound.{IsWithin, views_shown, IsSound}
use Rattle.cmc_rules.proofs.Lines.{by_test}

-- ---- the search for the oldest request

more_counted : (b : Bool) (o : Option CertificateRequest) (r : CertificateRequest) (rest : List CertificateRequest)
    → oldest_from o (cond b (r ∷ rest) rest) ≡ oldest_from (if b then older_of o r else o) rest
more_counted true o r rest = refl
more_counted false o r rest = refl

-- one request more
pub one_more : (requests : List CertificateRequest) (i : ℕ) (r : CertificateRequest) (o next all : Option CertificateRequest) → i < length requests → r ≡ slice_index_or requests i r
    → next ≡ (if counts r then older_of o r else o) → oldest_from o (filter counts (drop i requests)) ≡ all → oldest_from next (filter counts (drop (i + 1) requests)) ≡ all
one_more requests i r o next all left is next_is before =
    let here : drop i requests ≡ r ∷ drop (i + 1) requests = drop_more requests i r left ∙ ap (λ (q : CertificateRequest). q ∷ drop (i + 1) requests) (sym is) in
    ap (λ (p : Option CertificateRequest). oldest_from p (filter counts (drop (i + 1) requests))) next_is
    ∙ sym (more_counted (counts r) o r (filter counts (drop (i + 1) requests)))
    ∙ sym (ap (λ (l : List CertificateRequest). oldest_from o (filter counts l)) here)
    ∙ before

-- and none left
pub none_left : (requests : List CertificateRequest) (i : ℕ) (o : Option CertificateRequest) → length requests ≤ i
    → oldest_from o (filter counts (drop i requests)) ≡ oldest_from None (filter counts requests) → o ≡ oldest_of (filter counts requests)
unfolding oldest_of
none_left requests i o end before = sym (ap (λ (l : List CertificateRequest). oldest_from o (filter counts l)) (drop_all i requests end)) ∙ before

-- ---- the oldest request is one of those that are seen

abbrev IsIn : List CertificateRequest → Option CertificateRequest → Type 0
IsIn requests None = Unit {0}
IsIn requests (Some r) = IsPartOf Request requests (Request r)

older_in : (b : Bool) (requests : List CertificateRequest) (r o : CertificateRequest) → IsPartOf Request requests (Request r) → IsPartOf Request requests (Request o)
    → IsIn requests (if b then Some r else Some o)
older_in true requests r o here before = here
older_in false requests r o here before = before

one_older : (requests : List CertificateRequest) (r : CertificateRequest) (oldest : Option CertificateRequest) → IsPartOf Request requests (Request r) → IsIn requests oldest → IsIn requests (older_of oldest r)
one_older requests r None here before = here
one_older requests r (Some o) here before = older_in (nat_lt (revision r) (revision o)) requests r o here before

-- each of these requests is among those
abbrev AreIn : List CertificateRequest → List CertificateRequest → Type 0
AreIn requests some = (r : CertificateRequest) → IsPartOf Request some (Request r) → IsPartOf Request requests (Request r)

all_older : (requests some : List CertificateRequest) (oldest : Option CertificateRequest) → AreIn requests some → IsIn requests oldest → IsIn requests (oldest_from oldest some)
all_older requests [] oldest are before = before
all_older requests (r ∷ some) oldest are before = all_older requests some (older_of oldest r) (λ q later. are q (inr later)) (one_older requests r oldest (are r (inl refl)) before)

more_kept : (b : Bool) (r : CertificateRequest) (some rest : List CertificateRequest) → AreIn rest some → AreIn (r ∷ rest) (cond b (r ∷ some) some)
more_kept true r some rest are q (inl is) = inl is
more_kept true r some rest are q (inr later) = inr (are q later)
more_kept false r some rest are q later = inr (are q later)

kept_in : (requests : List CertificateRequest) → AreIn requests (filter counts requests)
kept_in [] r is = is
kept_in (r ∷ requests) q is = more_kept (counts r) r (filter counts requests) requests (kept_in requests) q is

pub oldest_in : (requests : List CertificateRequest) → IsIn requests (oldest_of (filter counts requests))
unfolding oldest_of
oldest_in requests = all_older requests (filter counts requests) None (kept_in requests) tt

-- ---- the call

abbrev Is : Views → ℤ → Act → Type 0
Is seen now a = IsWithin Revision (call_after Revision seen now) seen now a

call_is : (seen : Views) (now : ℤ) (r : CertificateRequest) → IsPartOf Request seen.requests (Request r) → Is seen now (delete_call r)
unfolding delete_call OnSeen
call_is seen now r there = record {
  old = Request r;
  sees = inr (inr (inr (inr there)));
  key = refl;
  version = refl;
  changes = λ next. record { rights = tt; dated = λ timed dated. tt; revision = tt; no_secret = λ written issuing is. absurd (cc issuing); no_approval = λ o n approver b a x y. absurd (cc approver); no_request = λ made before after. absurd (cc before) };
  passes = λ taken. refl;
}

delete_is : (seen : Views) (now : ℤ) (oldest : Option CertificateRequest) → IsIn seen.requests oldest → Is seen now (delete_of oldest)
delete_is seen now None there = tt
delete_is seen now (Some r) there = call_is seen now r there

limit_is : (seen : Views) (now : ℤ) (limit : Option ℕ) → Is seen now (by_limit limit seen.requests)
limit_is seen now None = tt
limit_is seen now (Some limit) =
    by_test (Is seen now) (nat_lt limit (length (filter counts seen.requests))) _ _ (λ on. delete_is seen now (oldest_of (filter counts seen.requests)) (oldest_in seen.requests)) (λ off. tt)

of_is : (seen : Views) (now : ℤ) (o : Option Certificate) → Is seen now (revise_of seen.requests o)
of_is seen now None = tt
of_is seen now (Some c) = by_test (Is seen now) (is_stated Issuing c.status.conditions) _ _ (λ on. tt) (λ off. limit_is seen now c.spec.history_limit)

within : (seen : Views) (now : ℤ) → Is seen now (revise seen)
unfolding revise
within seen now = of_is seen now seen.certificate

-- ---- the record

told : (seen : Views) (now : ℤ) (desk : Desk) → act Revision seen now desk ≡ act Revision (views_shown Revision seen) now desk
unfolding act revise
told seen now desk = refl

none : (seen : Views) → seen.certificate ≡ None → revise seen ≡ Nothing
unfolding revise
none seen is = ap (λ (o : Option Certificate). revise_of seen.requests o) is

pub revision_sound : IsSound Revision
unfolding act
revision_sound = record {
  within = λ seen now desk well. within seen now;
  told = told;
  absent = λ seen now desk is. none seen is.certificate;
  idle = λ seen t u d e rules quiet le is. is;
}
