-- The measure falls where an issuer has issued, and where it has failed in the issuance that is under way.
use Rattle.std.proofs.Common.{◌≡◌, ◌==◌, ◌<◌, ◌≤◌, ℕ, ℤ, List, [], ◌∷◌, ◌++◌, Bool, true, false, not, Option, Some, None, refl, sym, ap, ◌∙◌, arith, Less, Equal, Greater}
use Rattle.std.specs.Prelude.{if◌then◌else◌, ◌&&◌, ◌||◌, codes, int_lt}
use Rattle.std.specs.Ordering.{nat_cmp, match_ordering}
use Rattle.std.specs.Str.{bytes_eq}
use Rattle.cmc_meta.specs.declared.conditions.Condition.{Condition}
use Rattle.cmc_meta.specs.declared.conditions.ConditionKind.{ConditionKind}
use Rattle.cmc_meta.specs.declared.conditions.ConditionKind.TheVariants.{Ready, Approved, Denied, Issuing}
use Rattle.cmc_meta.specs.declared.conditions.Tri.TheVariants.{True}
use Rattle.cmc_meta.specs.ConditionLists.{condition_rank, condition_at, tri_eq, kept_since, renewed, transitioned}
use Rattle.cmc_objects.specs.declared.certificate.Certificate.{Certificate}
use Rattle.cmc_objects.specs.declared.orders.Signing.TheVariants.{Issued, Failed}
use Rattle.cmc_objects.specs.declared.request.CertificateRequest.{CertificateRequest}
use Rattle.cmc_objects.specs.declared.request.RequestStatus.{RequestStatus}
use Rattle.cmc_objects.specs.Requests.{is_denied, is_approved, is_stated}
use Rattle.cmc_model.specs.Admission.{is_of_condition as is_of_kind}
use Rattle.cmc_pass.specs.declared.pass.Views.{Views}
use Rattle.cmc_pass.specs.declared.pass.Desk.{Desk}
use Rattle.cmc_pass.specs.declared.pass.Act.{Act}
use Rattle.cmc_pass.specs.declared.pass.Act.TheVariants.{Nothing}
use Rattle.cmc_rules.proofs.Conditions.{own_kind}
use Rattle.cmc_rules.proofs.Verdicts.{any_same, apart, and_first}
use Rattle.cmc_rules.specs.NextRequests.{next_revision, is_next, is_wanted, is_refused, says_refused, failed_before, is_before}
use Rattle.cmc_rules.specs.IssuerAnswers.{answered, issued_condition, failed_condition}
use Rattle.cmc_rules.specs.Approver.{judge_one, is_covered, ask_judgement}
use Rattle.cmc_rules.specs.Issuer.{grant_one, deny, is_own, is_request_waiting, ask_issuer, has_reason, gives}
use Rattle.cmc_rules.specs.Issuance.{says_issued}
use Rattle.cmc_load_laws.specs.Measure.{weight, acts, is_fresh_request, measure, restated_request}
use Rattle.cmc_load_laws.proofs.Keeping.{greater_apart, kept_status}
use Rattle.cmc_load_laws.proofs.Restated.{of_same, matches_by, has_by}
use Rattle.cmc_load_laws.proofs.Approved.{the_views, restated_falls, settled_by}

-- ---- the condition that was set is found

found_put : (kind : ConditionKind) (cs : List Condition) (new : Condition) → condition_rank new.kind ≡ condition_rank kind → (condition_rank new.kind == condition_rank kind) ≡ true → condition_at (renewed cs new) kind ≡ Some new
found_put kind [] new own is = rw is refl
found_put kind (c ∷ cs) new own is =
    let n : ℕ = condition_rank kind in
    elim (nat_cmp (condition_rank new.kind) (condition_rank c.kind)) as (λ o. nat_cmp (condition_rank new.kind) (condition_rank c.kind) ≡ o → condition_at (match_ordering o (new ∷ c ∷ cs) (new ∷ cs) (c ∷ renewed cs new)) kind ≡ Some new) [
      | Less ↦ λ e. ap (λ (x : Bool). if x then Some new else condition_at (c ∷ cs) kind) is
      | Equal ↦ λ e. ap (λ (x : Bool). if x then Some new else condition_at cs kind) is
      | Greater ↦ λ e. ap (λ (x : Bool). if x then Some c else condition_at (renewed cs new) kind) (greater_apart (condition_rank c.kind == n) n (condition_rank c.kind) refl (ap (λ (i : ℕ). nat_cmp i (condition_rank c.kind)) (sym own) ∙ e))
          ∙ found_put kind cs new own is
    ] refl

kept_rank : (old : Option Condition) (new : Condition) → condition_rank (kept_since old new).kind ≡ condition_rank new.kind
kept_rank None new = refl
kept_rank (Some old) new = refl

pub own_found : (cs : List Condition) (new : Condition) → condition_at (transitioned cs new) new.kind ≡ Some (kept_since (condition_at cs new.kind) new)
unfolding transitioned
own_found cs new = let old : Option Condition = condition_at cs new.kind in found_put new.kind cs (kept_since old new) (kept_rank old new) (own_kind old new)

pub kept_reason : (old : Option Condition) (new : Condition) → (kept_since old new).reason ≡ new.reason
kept_reason None new = refl
kept_reason (Some old) new = refl

pub other_stated : (cs : List Condition) (new : Condition) (k : ConditionKind) → (condition_rank new.kind == condition_rank k) ≡ false → is_stated k (transitioned cs new) ≡ is_stated k cs
other_stated cs new k off = any_same (λ c. is_of_kind k c && tri_eq c.status True) cs new (λ c is. and_first (is_of_kind k c) (tri_eq c.status True) (apart new.kind k off c is))

-- ---- what the issuer asks about is approved, not denied and not granted

pub record IsAsked (r : CertificateRequest) : Type 0 where
  pub approved : is_approved r ≡ true
  pub not_denied : is_denied r ≡ false
  pub not_issued : has_reason (codes "Issued") r ≡ false

asked_by : (denied approved issued failed own later : Bool) (one ask : Act) → denied ≡ false
    → acts (if denied then one else (if (approved && (not issued && (not failed && own))) then (if later then Nothing else ask) else Nothing)) ≡ true → (approved ≡ true) × (issued ≡ false)
asked_by true approved issued failed own later one ask off is = absurd (cc off)
asked_by false true true failed own later one ask off is = absurd (cc is)
asked_by false true false failed own later one ask off is = (refl, refl)
asked_by false false issued failed own later one ask off is = absurd (cc is)

pub asked : (desk : Desk) (now : ℤ) (r : CertificateRequest) → is_denied r ≡ false → acts (grant_one now desk r) ≡ true → IsAsked r
asked desk now r off is =
    let both = asked_by (is_denied r) (is_approved r) (has_reason (codes "Issued") r) (has_reason (codes "Failed") r) (is_own r.spec.issuer) (is_request_waiting now r) (deny now r) (ask_issuer now desk r) off is in
    record { approved = both.0; not_denied = off; not_issued = both.1 }

granted_off : (o : Option Condition) (rest : Bool) → gives (codes "Issued") o ≡ false → (says_issued o && rest) ≡ false
granted_off None rest off = refl
granted_off (Some ready) rest off = by_status (tri_eq ready.status True) (bytes_eq ready.reason (codes "Issued")) off where
  by_status : (x y : Bool) → y ≡ false → ((x && y) && rest) ≡ false
  by_status true true e = absurd (cc e)
  by_status true false e = refl
  by_status false y e = refl

-- ---- the new status

closed_by : (denied approved issued failed own later : Bool) (one ask : Act) → denied ≡ false → (issued || failed) ≡ true
    → acts (if denied then one else (if (approved && (not issued && (not failed && own))) then (if later then Nothing else ask) else Nothing)) ≡ false
closed_by true approved issued failed own later one ask off is = absurd (cc off)
closed_by false true true failed own later one ask off is = refl
closed_by false true false true own later one ask off is = refl
closed_by false true false false own later one ask off is = absurd (cc is)
closed_by false false issued failed own later one ask off is = refl

pub none_waits : (x y : Bool) → x ≡ false → y ≡ false → (if x then 2 else weight 1 y) ≡ 0
none_waits x y a b = rw (a, b) refl

pub some_waits : (x y : Bool) → y ≡ true → 1 ≤ (if x then 2 else weight 1 y)
some_waits true y b = omega arith
some_waits false true b = omega arith
some_waits false false b = absurd (cc b)

abbrev reason_is : List ℕ → Condition → Bool
reason_is reason new = bytes_eq new.reason reason

answered_falls : (desk : Desk) (due : ℕ) (now : ℤ) (seen : Views) (c : Certificate) (version : ℕ) (status : RequestStatus) (new : Condition) (b a : List CertificateRequest) (r : CertificateRequest)
    → status.conditions ≡ transitioned r.status.conditions new → new.kind ≡ Ready → IsAsked r → acts (grant_one now desk r) ≡ true → (has_reason (codes "Issued") (restated_request version status r) || has_reason (codes "Failed") (restated_request version status r)) ≡ true
    → ((file : List ℕ) → is_fresh_request c file r ≡ true → is_fresh_request c file (restated_request version status r) ≡ true)
    → measure desk due now (the_views seen c (b ++ restated_request version status r ∷ a)) < measure desk due now (the_views seen c (b ++ r ∷ a))
answered_falls desk due now seen c version status new b a r sets kind is acts_now ends stays =
    let s : CertificateRequest = restated_request version status r in
    let apart_of : (k : ConditionKind) → (condition_rank Ready == condition_rank k) ≡ false → is_stated k s.status.conditions ≡ is_stated k r.status.conditions =
    λ k off. ap (is_stated k) sets ∙ other_stated r.status.conditions new k (ap (λ (j : ConditionKind). condition_rank j == condition_rank k) kind ∙ off) in
    let approved : is_approved s ≡ true = apart_of Approved refl ∙ is.approved in
    let denied : is_denied s ≡ false = apart_of Denied refl ∙ is.not_denied in
    let judge_off : acts (judge_one desk.rules s) ≡ false = settled_by (is_approved s || is_denied s) (if is_covered desk.rules s.spec.issuer then ask_judgement s desk.rules else Nothing) (ap (λ (x : Bool). x || is_denied s) approved) in
    let grant_off : acts (grant_one now desk s) ≡ false =
    closed_by (is_denied s) (is_approved s) (has_reason (codes "Issued") s) (has_reason (codes "Failed") s) (is_own s.spec.issuer) (is_request_waiting now s) (deny now s) (ask_issuer now desk s) denied ends in
    restated_falls desk due now seen c version status b a r
    (omega (arith, none_waits (acts (judge_one desk.rules s)) (acts (grant_one now desk s)) judge_off grant_off, some_waits (acts (judge_one desk.rules r)) (acts (grant_one now desk r)) acts_now))
    (granted_off (condition_at r.status.conditions Ready) (is_approved r && not (is_denied r)) is.not_issued) stays

fresh_still : (next wanted refused before : Bool) (later : Bool) → later ≡ false → (next && not (not wanted || (refused && before))) ≡ true → (next && not (not wanted || later)) ≡ true
fresh_still true true refused before later off is = rw off refl
fresh_still true false refused before later off is = is
fresh_still false wanted refused before later off is = is

pub stays_fresh : (c : Certificate) (file : List ℕ) (version : ℕ) (status : RequestStatus) (r : CertificateRequest) → (is_refused (restated_request version status r) && failed_before c (restated_request version status r)) ≡ false
    → is_fresh_request c file r ≡ true → is_fresh_request c file (restated_request version status r) ≡ true
stays_fresh c file version status r off is =
    let s : CertificateRequest = restated_request version status r in
    let moved = fresh_still (is_next c r) (is_wanted c file r) (is_refused r) (failed_before c r) (is_refused s && failed_before c s) off is in
    rw (of_same (next_revision c) version status r, matches_by c.spec r s refl, has_by file r s refl) moved

pub issued_falls : (desk : Desk) (due : ℕ) (now : ℤ) (seen : Views) (c : Certificate) (version : ℕ) (certificate ca : List ℕ) (b a : List CertificateRequest) (r : CertificateRequest) → is_denied r ≡ false → acts (grant_one now desk r) ≡ true
    → measure desk due now (the_views seen c (b ++ restated_request version (answered r.status (Issued certificate ca) now) r ∷ a)) < measure desk due now (the_views seen c (b ++ r ∷ a))
unfolding answered issued_condition
issued_falls desk due now seen c version certificate ca b a r off is =
    let status : RequestStatus = answered r.status (Issued certificate ca) now in
    let s : CertificateRequest = restated_request version status r in
    let new : Condition = issued_condition now in
    let old : Option Condition = condition_at r.status.conditions Ready in
    let found : condition_at s.status.conditions Ready ≡ Some (kept_since old new) = own_found r.status.conditions new in
    let reason : has_reason (codes "Issued") s ≡ true = ap (gives (codes "Issued")) found ∙ ap (λ (t : List ℕ). bytes_eq t (codes "Issued")) (kept_reason old new) in
    let unrefused : is_refused s ≡ false = ap says_refused found ∙ not_refused (kept_since old new) (kept_status old new) in
    answered_falls desk due now seen c version status new b a r refl refl (asked desk now r off is) is (ap (λ (x : Bool). x || has_reason (codes "Failed") s) reason)
    (λ file fresh. stays_fresh c file version status r (ap (λ (x : Bool). x && failed_before c s) unrefused) fresh) where
      not_refused : (x : Condition) → x.status ≡ True → says_refused (Some x) ≡ false
      not_refused x on = rw on refl

-- a failure at this moment lies in the issuance that is under way, where the clock did not go back since it began
abbrev pub IsSince : ℤ → Option Condition → Type 0
IsSince now None = Unit {0}
IsSince now (Some issuing) = int_lt now issuing.since ≡ false

pub not_before : (now : ℤ) (issuing : Option Condition) → IsSince now issuing → is_before (Some now) issuing ≡ false
not_before now None is = refl
not_before now (Some issuing) is = is

pub and_none : (x y : Bool) → y ≡ false → (x && y) ≡ false
and_none true y is = is
and_none false y is = refl

pub or_second : (x y : Bool) → y ≡ true → (x || y) ≡ true
or_second true y is = refl
or_second false y is = is

pub failed_falls : (desk : Desk) (due : ℕ) (now : ℤ) (seen : Views) (c : Certificate) (version : ℕ) (message : List ℕ) (b a : List CertificateRequest) (r : CertificateRequest) → is_denied r ≡ false → acts (grant_one now desk r) ≡ true
    → IsSince now (condition_at c.status.conditions Issuing)
    → measure desk due now (the_views seen c (b ++ restated_request version (answered r.status (Failed message) now) r ∷ a)) < measure desk due now (the_views seen c (b ++ r ∷ a))
unfolding answered failed_condition
failed_falls desk due now seen c version message b a r off is since =
    let status : RequestStatus = answered r.status (Failed message) now in
    let s : CertificateRequest = restated_request version status r in
    let new : Condition = failed_condition message now in
    let old : Option Condition = condition_at r.status.conditions Ready in
    let found : condition_at s.status.conditions Ready ≡ Some (kept_since old new) = own_found r.status.conditions new in
    let reason : has_reason (codes "Failed") s ≡ true = ap (gives (codes "Failed")) found ∙ ap (λ (t : List ℕ). bytes_eq t (codes "Failed")) (kept_reason old new) in
    answered_falls desk due now seen c version status new b a r refl refl (asked desk now r off is) is (or_second (has_reason (codes "Issued") s) (has_reason (codes "Failed") s) reason)
    (λ file fresh. stays_fresh c file version status r (and_none (is_refused s) (failed_before c s) (not_before now (condition_at c.status.conditions Issuing) since)) fresh)
