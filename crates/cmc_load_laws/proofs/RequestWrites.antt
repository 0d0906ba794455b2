-- What there is to see where the status of a request is written.
use Rattle.std.proofs.Common.{◌≡◌, ◌+◌, ◌<◌, ◌++◌, ◌∷◌, [], ℕ, ℤ, List, Bool, true, false, Option, Some, None, refl, sym, ap, subst, ◌∙◌, inl, inr}
use Rattle.std.proofs.lemmas.Bool.{and_from}
use Rattle.std.proofs.lemmas.Slice.Eq.{bytes_eq-Decides}
use Rattle.std.specs.BTreeMap.{is_at}
use Rattle.std.specs.List.{cons_option}
use Rattle.std.specs.Prelude.{option_and_then, if◌then◌else◌}
use Rattle.std.specs.Str.{bytes_eq}
use Rattle.cmc_meta.specs.declared.key.Key.{Key}
use Rattle.cmc_meta.specs.Keys.{key_cmp}
use Rattle.cmc_objects.specs.declared.certificate.Certificate.{Certificate}
use Rattle.cmc_objects.specs.declared.request.CertificateRequest.{CertificateRequest}
use Rattle.cmc_objects.specs.declared.request.RequestStatus.{RequestStatus}
use Rattle.cmc_objects.specs.declared.object.Object.{Object}
use Rattle.cmc_objects.specs.declared.object.Object.TheVariants.{Cert, Request}
use Rattle.cmc_objects.specs.declared.call.Call.{Call}
use Rattle.cmc_objects.specs.declared.call.Call.TheVariants.{UpdateStatus}
use Rattle.cmc_objects.specs.declared.call.Reply.{Reply}
use Rattle.cmc_objects.specs.declared.entry.Entry.{Entry}
use Rattle.cmc_objects.specs.declared.entry.Entry.TheVariants.{Call as Called}
use Rattle.cmc_objects.specs.declared.entry.Who.TheVariants.{Pass}
use Rattle.cmc_objects.specs.Objects.{key_of, numbered}
use Rattle.cmc_pass.specs.declared.pass.Desk.{Desk}
use Rattle.cmc_pass.specs.declared.pass.Views.{Views}
use Rattle.cmc_model.specs.Acceptance.{IsFounded}
use Rattle.cmc_model.specs.Objects.{Objects, object_at}
use Rattle.cmc_model.specs.Replies.{from_old, is_accepted, key_of_call, put_at, settled, stored}
use Rattle.cmc_model.specs.Stored.{restated, with_status}
use Rattle.cmc_model.specs.Histories.{Setting, moment, objects, accepted}
use Rattle.cmc_model.specs.Writes.{writes}
use Rattle.cmc_informer.specs.Caches.{names}
use Rattle.cmc_rules.specs.Legality.{IsLegal}
use Rattle.cmc_rules.specs.Owners.{owner_of}
use Rattle.cmc_rules.specs.Views.{certificate_at, certificate_in, next_in, owned_in, views_in, views_of}
use Rattle.cmc_rules.proofs.Sighted.{AreKnown, stands_as_seen}
use Rattle.cmc_rules.proofs.Sights.{seen_request}
use Rattle.cmc_load_laws.specs.Belonging.{IsOfOrNone}
use Rattle.cmc_load_laws.specs.Frame.{HasOneChange, IsSameOwner, is_of, key_of_target, seen_of}
use Rattle.cmc_load_laws.specs.LoadRuns.{IsStanding, LowersMeasure}
use Rattle.cmc_load_laws.specs.Measure.{measure, restated_request, with_requests}
use Rattle.cmc_load_laws.proofs.Approved.{the_views}
use Rattle.cmc_load_laws.proofs.Belonging.{not_true, one_certificate}
use Rattle.cmc_load_laws.proofs.BelongingVersions.{IsMadeFor}
use Rattle.cmc_load_laws.proofs.Elsewhere.{elsewhere_at}
use Rattle.cmc_load_laws.proofs.LoadHistories.{IsForOneIn}
use Rattle.cmc_load_laws.proofs.MeasureLowers.{LowersOver, lowers_measure, lowers_over}
use Rattle.cmc_load_laws.proofs.OneWrite.{one_write, only_requests}
use Rattle.cmc_load_laws.proofs.Totals.{one_key}
use Rattle.cmc_load_laws.proofs.WritesForOne.{own_uid, owned_by}

-- ---- the call

abbrev pub request_call : CertificateRequest → RequestStatus → Call
request_call r status = UpdateStatus (Request (record r { status = status })) r.meta.version

-- the request was there as it is seen, and is so afterwards
pub record IsRestatedRequest (s : Setting) (h : List Entry) (call : Call) (reply : Reply) (r : CertificateRequest) (status : RequestStatus) : Type 0 where
  pub key : key_of_call (settled call reply) ≡ key_of (Request r)
  pub was : object_at (objects s h) (key_of (Request r)) ≡ Some (Request r)
  pub is : stored (accepted s h + 1) (moment s h) (objects s h) (settled call reply) ≡ Some (Request (restated_request (accepted s h + 1) status r))

restated_as : (v : ℕ) (r : CertificateRequest) (status : RequestStatus) → restated v (Request r) (Request (record r { status = status })) ≡ Request (restated_request v status r)
unfolding numbered with_status
restated_as v r status = refl

restated_by : (s : Setting) (h : List Entry) (seen : Views) (reply : Reply) (r : CertificateRequest) (status : RequestStatus) → IsLegal s h → AreKnown (writes s h) seen → seen.request ≡ Some r
    → IsFounded (objects s h) (settled (request_call r status) reply) → IsRestatedRequest s h (request_call r status) reply r status
unfolding settled IsFounded
restated_by s h seen reply r status legal known sees on =
    let same : Request r ≡ on.0 = stands_as_seen s h seen (key_of (Request r)) r.meta.version (Request r) on.0 legal known (seen_request seen r sees) refl on.1 on.2.version in
    let was : object_at (objects s h) (key_of (Request r)) ≡ Some (Request r) = on.1 ∙ ap Some (sym same) in
    record {
      key = refl;
      was = was;
      is = ap (from_old (λ (o : Object). restated (accepted s h + 1) o (Request (record r { status = status })))) was ∙ ap Some (restated_as (accepted s h + 1) r status);
    }

pub is_restated_request : (s : Setting) (h : List Entry) (seen : Views) (call : Call) (reply : Reply) (r : CertificateRequest) (status : RequestStatus) → IsLegal s h → AreKnown (writes s h) seen → seen.request ≡ Some r
    → IsFounded (objects s h) (settled call reply) → call ≡ request_call r status → IsRestatedRequest s h call reply r status
is_restated_request s h seen call reply r status legal known sees on is =
    subst (λ (x : Call). IsRestatedRequest s h x reply r status) (sym is) (restated_by s h seen reply r status legal known sees (subst (λ (x : Call). IsFounded (objects s h) (settled x reply)) is on))

-- ---- the Certificate that owns it

-- the request is one of those that its Certificate owns
owned : (c d : Certificate) (r : CertificateRequest) → IsSameOwner c d → r.meta.namespace ≡ c.meta.namespace → r.meta.owners ≡ owner_of c ∷ [] → owned_in d (Request r) ≡ Some r
owned c d r same namespace owners =
    let here : bytes_eq r.meta.namespace d.meta.namespace ≡ true = (bytes_eq-Decides r.meta.namespace d.meta.namespace).1 (namespace ∙ same.namespace) in
    let uid : names d.meta.uid r.meta.owners ≡ true = ap (names d.meta.uid) owners ∙ own_uid c d same in
    ap (λ (b : Bool). if b then Some r else None) (and_from (bytes_eq r.meta.namespace d.meta.namespace) (names d.meta.uid r.meta.owners) here uid)

pub no_own : (c : Certificate) (r : CertificateRequest) → is_at (key_cmp (key_of (Cert c))) (key_of (Request r)) ≡ false
no_own c r = not_true (is_at (key_cmp (key_of (Cert c))) (key_of (Request r))) (λ on. absurd (let kind = ap (λ (k : Key). k.kind) (one_key (key_of (Cert c)) (key_of (Request r)) on) in cc kind))

pub no_target : (d : Certificate) (r : CertificateRequest) → is_at (key_cmp (key_of_target d)) (key_of (Request r)) ≡ false
no_target d r = not_true (is_at (key_cmp (key_of_target d)) (key_of (Request r))) (λ on. absurd (let kind = ap (λ (k : Key). k.kind) (one_key (key_of_target d) (key_of (Request r)) on) in cc kind))

-- ---- what there is to see

-- the request among those of its Certificate, before and after
pub record IsAmongRequests (m n : Objects) (own : Key) (c : Certificate) (r new : CertificateRequest) : Type 0 where
  pub first : List CertificateRequest
  pub rest : List CertificateRequest
  pub was : seen_of m own ≡ the_views (seen_of m own) c (first ++ r ∷ rest)
  pub is : seen_of n own ≡ the_views (seen_of m own) c (first ++ new ∷ rest)

same_views : (v w : Views) (c : Certificate) (requests : List CertificateRequest) → v.certificate ≡ Some c → v.requests ≡ requests → v ≡ the_views v c requests
same_views v w c requests at are = λ i. record v { certificate = at i; requests = are i }

after_views : (v w : Views) (c : Certificate) (requests : List CertificateRequest) → v.certificate ≡ Some c → w ≡ with_requests w.requests v → w.requests ≡ requests → w ≡ the_views v c requests
after_views v w c requests at only are = only ∙ (λ i. record v { certificate = at i; requests = are i })

module _ (m : Objects) (c0 c : Certificate) (r new : CertificateRequest) (at : certificate_at m (key_of (Cert c0)) ≡ Some c) (was : object_at m (key_of (Request r)) ≡ Some (Request r)) (owns : owned_in c (Request r) ≡ Some r) (keeps : owned_in c (Request new) ≡ Some new) where
  later : certificate_at (put_at m (key_of (Request r)) (Some (Request new))) (key_of (Cert c0)) ≡ Some c
  later = ap (option_and_then certificate_in) (elsewhere_at m (key_of (Request r)) (Some (Request new)) (key_of (Cert c0)) (no_own c0 r)) ∙ at

  change : HasOneChange (key_of (Cert c0)) c (key_of (Request r)) (object_at m (key_of (Request r))) (Some (Request new)) (seen_of m (key_of (Cert c0))) (seen_of (put_at m (key_of (Request r)) (Some (Request new))) (key_of (Cert c0)))
  change = one_write m (key_of (Cert c0)) (key_of (Request r)) (Some (Request new)) c c at later (record { namespace = refl; uid = refl; secret_name = refl })

  pub among : IsAmongRequests m (put_at m (key_of (Request r)) (Some (Request new))) (key_of (Cert c0)) c r new
  unfolding views_in views_of
  among =
      let own : Key = key_of (Cert c0) in
      let n : Objects = put_at m (key_of (Request r)) (Some (Request new)) in
      let before : Views = seen_of m own in
      let after : Views = seen_of n own in
      let first : List CertificateRequest = change.requests.first in
      let rest : List CertificateRequest = change.requests.rest in
      let old_one : option_and_then (owned_in c) (object_at m (key_of (Request r))) ≡ Some r = ap (option_and_then (owned_in c)) was ∙ owns in
      let were : before.requests ≡ first ++ r ∷ rest = change.requests.was ∙ ap (λ (o : Option CertificateRequest). first ++ cons_option o rest) old_one in
      let are : after.requests ≡ first ++ new ∷ rest = change.requests.is ∙ ap (λ (o : Option CertificateRequest). first ++ cons_option o rest) keeps in
      let only : after ≡ with_requests after.requests before =
      only_requests own c (key_of (Request r)) (object_at m (key_of (Request r))) (Some (Request new)) before after change (no_own c0 r) (no_target c r) (ap (option_and_then (next_in c)) was) refl in
      record { first = first; rest = rest; was = same_views before before c (first ++ r ∷ rest) at were; is = after_views before after c (first ++ new ∷ rest) at only are }

-- what is written under the key of a request is for the Certificate that owns it
own_is : (m : Objects) (key : Key) (new : Option Object) (one : IsForOneIn m key new) (c0 c : Certificate) (r : CertificateRequest) → object_at m key ≡ Some (Request r) → certificate_at m (key_of (Cert c0)) ≡ Some c → IsSameOwner c0 c
    → r.meta.owners ≡ owner_of c0 ∷ [] → one.own ≡ key_of (Cert c0)
own_is m key new one c0 c r was at same owners = by one.write.finds where
  by : IsOfOrNone one.own one.write.before key (object_at m key) → one.own ≡ key_of (Cert c0)
  by (inl none) = absurd (let e : None ≡ Some (Request r) = sym none ∙ was in cc e)
  by (inr on) =
      one_certificate m one.parted one.own (key_of (Cert c0)) key one.write.before c one.write.was at on
      (subst (λ (o : Option Object). is_of (key_of (Cert c0)) c key o ≡ true) (sym was) (owned_by (key_of (Cert c0)) key c0 c (Request r) same owners))

falls_over : (s : Setting) (now : ℤ) (m : Objects) (c0 c : Certificate) (r new : CertificateRequest) → certificate_at m (key_of (Cert c0)) ≡ Some c → IsSameOwner c0 c → r.meta.owners ≡ owner_of c0 ∷ [] → object_at m (key_of (Request r)) ≡ Some (Request r)
    → IsForOneIn m (key_of (Request r)) (Some (Request new)) → (a : IsAmongRequests m (put_at m (key_of (Request r)) (Some (Request new))) (key_of (Cert c0)) c r new)
    → ((desk : Desk) (due : ℕ) → desk.rules ≡ s.rules
    → measure desk due now (the_views (seen_of m (key_of (Cert c0))) c (a.first ++ new ∷ a.rest)) < measure desk due now (the_views (seen_of m (key_of (Cert c0))) c (a.first ++ r ∷ a.rest)))
    → LowersOver s now m (put_at m (key_of (Request r)) (Some (Request new)))
falls_over s now m c0 c r new at same owners was one a falls =
    let own : Key = key_of (Cert c0) in
    lowers_over s now m (key_of (Request r)) (Some (Request new)) one own (c, at) (own_is m (key_of (Request r)) (Some (Request new)) one c0 c r was at same owners)
    (λ desk due rules.
    subst (λ (v : Views). measure desk due now v < measure desk due now (seen_of m own)) (sym a.is)
    (subst (λ (v : Views). measure desk due now (the_views (seen_of m own) c (a.first ++ new ∷ a.rest)) < measure desk due now v) (sym a.was) (falls desk due rules)))

-- where the measure falls whatever else its Certificate owns, the write lowers it
pub request_lowers : (s : Setting) (h : List Entry) (n : ℕ) (call : Call) (reply : Reply) (r : CertificateRequest) (status : RequestStatus) → is_accepted reply ≡ true → IsRestatedRequest s h call reply r status
    → (made : IsMadeFor (writes s h) r.meta) → (own : IsStanding (objects s h) made.certificate)
    → IsForOneIn (objects s h) (key_of_call (settled call reply)) (stored (accepted s h + 1) (moment s h) (objects s h) (settled call reply))
    → ((desk : Desk) (due : ℕ) (seen : Views) (b a : List CertificateRequest) → desk.rules ≡ s.rules
    → measure desk due (moment s h) (the_views seen own.present (b ++ restated_request (accepted s h + 1) status r ∷ a)) < measure desk due (moment s h) (the_views seen own.present (b ++ r ∷ a)))
    → LowersMeasure s h (Called (Pass n) call reply)
request_lowers s h n call reply r status ok is made own one falls =
    let m : Objects = objects s h in
    let c0 : Certificate = made.certificate in
    let c : Certificate = own.present in
    let later : CertificateRequest = restated_request (accepted s h + 1) status r in
    let new : Option Object = stored (accepted s h + 1) (moment s h) m (settled call reply) in
    let here = subst (λ (x : Option Object). IsForOneIn m (key_of (Request r)) x) is.is (subst (λ (k : Key). IsForOneIn m k new) is.key one) in
    let a = among m c0 c r later own.at is.was (owned c0 c r own.same made.namespace made.owners) (owned c0 c later own.same made.namespace made.owners) in
    let over = falls_over s (moment s h) m c0 c r later own.at own.same made.owners is.was here a (λ desk due rules. falls desk due (seen_of m (key_of (Cert c0))) a.first a.rest rules) in
    lowers_measure s h n call reply ok
    (subst (λ (k : Key). LowersOver s (moment s h) m (put_at m k new)) (sym is.key) (subst (λ (x : Option Object). LowersOver s (moment s h) m (put_at m (key_of (Request r)) x)) (sym is.is) over))
