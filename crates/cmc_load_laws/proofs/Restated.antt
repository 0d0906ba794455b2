-- One of the requests gets another status.
use Rattle.std.proofs.Common.{◌≡◌, ◌+◌, ◌==◌, ◌<◌, ℕ, suc, ℤ, List, [], ◌∷◌, ◌++◌, length, Bool, true, false, not, Option, Some, None, refl, sym, ap, ◌∙◌, arith}
use Rattle.std.specs.Prelude.{if◌then◌else◌, ◌&&◌, ◌||◌, filter, find, unwrap_or, nat_le}
use Rattle.std.specs.List.{list_any}
use Rattle.std.proofs.lemmas.Option.{none-some}
use Rattle.cmc_objects.specs.declared.certificate.Certificate.{Certificate}
use Rattle.cmc_objects.specs.declared.certificate.CertSpec.{CertSpec}
use Rattle.cmc_objects.specs.declared.key_spec.KeySpec.{KeySpec}
use Rattle.cmc_objects.specs.declared.request.CertificateRequest.{CertificateRequest}
use Rattle.cmc_objects.specs.declared.request.RequestSpec.{RequestSpec}
use Rattle.cmc_objects.specs.declared.request.RequestStatus.{RequestStatus}
use Rattle.cmc_objects.specs.declared.secret.Secret.{Secret}
use Rattle.cmc_match.specs.Facts.{key_in, fits, is_requested, is_unchanged, has_requested_key, known_for}
use Rattle.cmc_objects.specs.Requests.{is_denied}
use Rattle.cmc_answers.specs.Temporary.{temporary}
use Rattle.cmc_match.specs.Marks.{asks_for_temporary}
use Rattle.cmc_match.specs.Matches.{matches, has_key}
use Rattle.cmc_match.specs.Revisions.{revision_of, is_of_revision, only_of, next_request}
use Rattle.cmc_pass.specs.declared.pass.Views.{Views}
use Rattle.cmc_pass.specs.declared.pass.Desk.{Desk}
use Rattle.cmc_pass.specs.declared.pass.Act.{Act}
use Rattle.cmc_pass.specs.declared.pass.Act.TheVariants.{Nothing, Temporary}
use Rattle.cmc_rules.specs.NextKeys.{named_key}
use Rattle.cmc_rules.specs.NextRequests.{is_wanted, is_refused}
use Rattle.cmc_rules.specs.Trigger.{is_issuing, is_in_back_off, is_backing_off, is_outrun}
use Rattle.cmc_rules.specs.Issuance.{temporary_plan, is_kept_for_keys, lacks_certificate, issuing, with_key_of, with_file, with_request, with_wanted, with_granted, while_waiting, temporary_with, is_granted, failure, fails_now, refusal}
use Rattle.cmc_run_laws.specs.Issuances.{with_certificate}
use Rattle.cmc_load_laws.specs.Measure.{is_target_written, waits, requests_part, restated_request, with_requests}

-- ---- lists in which one stands

pub waiting_falls : (desk : Desk) (now : ℤ) (b a : List CertificateRequest) (r s : CertificateRequest) → waits desk now s < waits desk now r → requests_part desk now (b ++ s ∷ a) < requests_part desk now (b ++ r ∷ a)
waiting_falls desk now [] a r s less = omega (arith, less)
waiting_falls desk now (x ∷ b) a r s less = let rest = waiting_falls desk now b a r s less in omega (arith, rest)

pub length_same : (b a : List CertificateRequest) (r s : CertificateRequest) → length (b ++ s ∷ a) ≡ length (b ++ r ∷ a)
length_same [] a r s = refl
length_same (x ∷ b) a r s = ap suc (length_same b a r s)

filter_by : (x y : Bool) (r s : CertificateRequest) (later rest : List CertificateRequest) → x ≡ y → length later ≡ length rest → length (if x then s ∷ later else later) ≡ length (if y then r ∷ rest else rest)
filter_by true true r s later rest is same = ap suc same
filter_by true false r s later rest is same = absurd (cc is)
filter_by false true r s later rest is same = absurd (cc is)
filter_by false false r s later rest is same = same

count_same : (p : CertificateRequest → Bool) (b a : List CertificateRequest) (r s : CertificateRequest) → p s ≡ p r → length (filter p (b ++ s ∷ a)) ≡ length (filter p (b ++ r ∷ a))
count_same p [] a r s is = filter_by (p s) (p r) r s (filter p a) (filter p a) is refl
count_same p (x ∷ b) a r s is = filter_by (p x) (p x) x x _ _ refl (count_same p b a r s is)

any_by : (x y : Bool) (rest : Bool) → (x ≡ true → y ≡ true) → (x || rest) ≡ true → (y || rest) ≡ true
any_by true true rest f is = refl
any_by true false rest f is = absurd (cc (f refl))
any_by false true rest f is = refl
any_by false false rest f is = is

any_later : (x rest later : Bool) → (rest ≡ true → later ≡ true) → (x || rest) ≡ true → (x || later) ≡ true
any_later true rest later f is = refl
any_later false rest later f is = f is

pub any_kept : (p : CertificateRequest → Bool) (b a : List CertificateRequest) (r s : CertificateRequest) → (p r ≡ true → p s ≡ true) → list_any p (b ++ r ∷ a) ≡ true → list_any p (b ++ s ∷ a) ≡ true
any_kept p [] a r s f is = any_by (p r) (p s) (list_any p a) f is
any_kept p (x ∷ b) a r s f is = any_later (p x) _ _ (any_kept p b a r s f) is

-- ---- what is asked for

abbrev spec_in : Option CertificateRequest → Option RequestSpec
spec_in None = None
spec_in (Some r) = Some r.spec

find_by : (x y : Bool) (r s : CertificateRequest) (rest : Option CertificateRequest) → x ≡ y → s.spec ≡ r.spec → spec_in (if x then Some s else rest) ≡ spec_in (if y then Some r else rest)
find_by true true r s rest is same = ap Some same
find_by true false r s rest is same = absurd (cc is)
find_by false true r s rest is same = absurd (cc is)
find_by false false r s rest is same = refl

find_later : (x : Bool) (r : CertificateRequest) (later rest : Option CertificateRequest) → spec_in later ≡ spec_in rest → spec_in (if x then Some r else later) ≡ spec_in (if x then Some r else rest)
find_later true r later rest same = refl
find_later false r later rest same = same

find_spec : (p : CertificateRequest → Bool) (b a : List CertificateRequest) (r s : CertificateRequest) → p s ≡ p r → s.spec ≡ r.spec → spec_in (find p (b ++ s ∷ a)) ≡ spec_in (find p (b ++ r ∷ a))
find_spec p [] a r s is same = find_by (p s) (p r) r s (find p a) is same
find_spec p (x ∷ b) a r s is same = find_later (p x) x _ _ (find_spec p b a r s is same)

pub of_same : (n version : ℕ) (status : RequestStatus) (r : CertificateRequest) → is_of_revision n (restated_request version status r) ≡ is_of_revision n r
unfolding revision_of
of_same n version status r = refl

only_by : (x : Bool) (one other : Option CertificateRequest) → spec_in one ≡ spec_in other → spec_in (if x then one else None) ≡ spec_in (if x then other else None)
only_by true one other same = same
only_by false one other same = refl

only_spec : (n version : ℕ) (status : RequestStatus) (b a : List CertificateRequest) (r : CertificateRequest) → spec_in (only_of n (b ++ restated_request version status r ∷ a)) ≡ spec_in (only_of n (b ++ r ∷ a))
unfolding only_of
only_spec n version status b a r =
    let s : CertificateRequest = restated_request version status r in
    ap (λ (l : ℕ). spec_in (if l == 1 then find (is_of_revision n) (b ++ s ∷ a) else None)) (count_same (is_of_revision n) b a r s (of_same n version status r))
    ∙ only_by (length (filter (is_of_revision n) (b ++ r ∷ a)) == 1) _ _ (find_spec (is_of_revision n) b a r s (of_same n version status r) refl)

pub matches_by : (spec : CertSpec) (r s : CertificateRequest) → s.spec ≡ r.spec → matches spec s ≡ matches spec r
unfolding matches
matches_by spec r s same = rw same refl

pub has_by : (file : List ℕ) (r s : CertificateRequest) → s.spec ≡ r.spec → has_key s file ≡ has_key r file
unfolding has_key
has_by file r s same = rw same refl

some_spec : (a b : RequestSpec) → Some a ≡ Some b → a ≡ b
some_spec a b is = cc is

unchanged_by : (spec : CertSpec) (one other : Option CertificateRequest) → spec_in one ≡ spec_in other → is_unchanged spec one ≡ is_unchanged spec other
unchanged_by spec None None same = refl
unchanged_by spec None (Some r) same = absurd (cc same)
unchanged_by spec (Some s) None same = absurd (cc same)
unchanged_by spec (Some s) (Some r) same = matches_by spec r s (some_spec s.spec r.spec same)

outrun_by : (spec : CertSpec) (one other : Option CertificateRequest) → spec_in one ≡ spec_in other → is_outrun spec one ≡ is_outrun spec other
outrun_by spec None None same = refl
outrun_by spec None (Some r) same = absurd (cc same)
outrun_by spec (Some s) None same = absurd (cc same)
outrun_by spec (Some s) (Some r) same = ap not (matches_by spec r s (some_spec s.spec r.spec same))

requested_by : (spec : KeySpec) (key : Option (List ℕ)) (one other : Option CertificateRequest) → spec_in one ≡ spec_in other → is_requested spec key one ≡ is_requested spec key other
requested_by spec None one other same = refl
requested_by spec (Some key) None None same = refl
requested_by spec (Some key) None (Some r) same = absurd (cc same)
requested_by spec (Some key) (Some s) None same = absurd (cc same)
requested_by spec (Some key) (Some s) (Some r) same = ap (λ (b : Bool). fits spec key && b) (has_by key r s (some_spec s.spec r.spec same))

kind_by : (spec : KeySpec) (secret : Option Secret) (one other : Option CertificateRequest) → spec_in one ≡ spec_in other → has_requested_key spec secret one ≡ has_requested_key spec secret other
unfolding has_requested_key
kind_by spec None one other same = refl
kind_by spec (Some k) one other same = requested_by spec (key_in k) one other same

pub known_same : (c : Certificate) (secret : Option Secret) (version : ℕ) (status : RequestStatus) (b a : List CertificateRequest) (r : CertificateRequest)
    → known_for c secret (b ++ restated_request version status r ∷ a) ≡ known_for c secret (b ++ r ∷ a)
known_same c secret version status b a r =
    let same = only_spec (unwrap_or c.status.revision 0) version status b a r in
    ap (λ (k : Bool). record (known_for c secret (b ++ restated_request version status r ∷ a)) { kind = k }) (kind_by c.spec.key secret _ _ same)
    ∙ ap (λ (k : Bool). record (known_for c secret (b ++ r ∷ a)) { request = k }) (unchanged_by c.spec _ _ same)

pub held_same : (now : ℤ) (c : Certificate) (version : ℕ) (status : RequestStatus) (b a : List CertificateRequest) (r : CertificateRequest) → is_in_back_off now (b ++ restated_request version status r ∷ a) c ≡ is_in_back_off now (b ++ r ∷ a) c
held_same now c version status b a r = ap (λ (x : Bool). is_backing_off c.status now && not x) (outrun_by c.spec _ _ (only_spec (unwrap_or c.status.revision 0 + 1) version status b a r))

-- ---- a written target stays written

-- the target stands as the issuance for this request leaves it
pub unwritten_failure : (old : Option Secret) (now : ℤ) (reason : List ℕ) (c : Certificate) → is_target_written old (failure now reason c) ≡ false
unfolding failure
unwritten_failure old now reason c = refl

off_by : (b : Bool) (old : Option Secret) (one : Act) → is_target_written old one ≡ false → is_target_written old (if b then one else Nothing) ≡ false
off_by true old one is = is
off_by false old one is = refl

stand_in_off : (old : Option Secret) (c : Certificate) (file : List ℕ) (target : Option Secret) (o : Option (List ℕ)) → is_target_written old (temporary_with c file target o) ≡ false
stand_in_off old c file target None = refl
stand_in_off old c file target (Some certificate) = off_by (nat_le (length certificate) 16777216) old (Temporary (temporary_plan c file certificate target)) refl

pub waiting_off : (old : Option Secret) (now : ℤ) (c : Certificate) (file : List ℕ) (target : Option Secret) (r : CertificateRequest) → is_target_written old (while_waiting now c file target r) ≡ false
waiting_off old now c file target r =
    off_by (asks_for_temporary c && (not (is_denied r) && (not (is_kept_for_keys target) && lacks_certificate file target))) old (temporary_with c file target (temporary r.spec.request file now))
    (stand_in_off old c file target (temporary r.spec.request file now))

wanted_by : (old : Option Secret) (x y z : Bool) (fail one waits : Act) → is_target_written old fail ≡ false → is_target_written old waits ≡ false
    → is_target_written old (if x then (if z then fail else Nothing) else (if y then one else waits)) ≡ true → y ≡ true
wanted_by old true y true fail one waits f w is = absurd (cc (sym is ∙ f))
wanted_by old true y false fail one waits f w is = absurd (cc is)
wanted_by old false true z fail one waits f w is = refl
wanted_by old false false z fail one waits f w is = absurd (cc (sym is ∙ w))

pub wanted_granted : (old : Option Secret) (now : ℤ) (c : Certificate) (file : List ℕ) (target : Option Secret) (r : CertificateRequest) → is_target_written old (with_wanted now c file target r) ≡ true → is_granted r ≡ true
wanted_granted old now c file target r is =
    wanted_by old (is_refused r) (is_granted r) (fails_now c r r.status.failure) (failure now (refusal r) c) (with_granted now c file target r) (while_waiting now c file target r)
    (unwritten_failure old now (refusal r) c) (waiting_off old now c file target r) is

on_by : (b : Bool) (old : Option Secret) (a : Act) → is_target_written old (if b then a else Nothing) ≡ true → is_target_written old a ≡ true
on_by true old a is = is
on_by false old a is = absurd (cc is)

-- the one next request of a written target is granted
next_granted : (old : Option Secret) (now : ℤ) (c : Certificate) (file : List ℕ) (target : Option Secret) (next : Option CertificateRequest) → is_target_written old (with_request now c file target next) ≡ true
    → (r : CertificateRequest) × (next ≡ Some r) × (is_granted r ≡ true)
next_granted old now c file target None is = absurd (cc is)
next_granted old now c file target (Some r) is = (r, refl, wanted_granted old now c file target r (on_by (is_wanted c file r) old (with_wanted now c file target r) is))

file_granted : (old : Option Secret) (now : ℤ) (c : Certificate) (target : Option Secret) (requests : List CertificateRequest) (file : Option (List ℕ)) → is_target_written old (with_file now c target requests file) ≡ true
    → (r : CertificateRequest) × (next_request c.status.revision requests ≡ Some r) × (is_granted r ≡ true)
file_granted old now c target requests None is = absurd (cc is)
file_granted old now c target requests (Some file) is = next_granted old now c file target (next_request c.status.revision requests) (on_by (fits c.spec.key file) old (with_request now c file target (next_request c.status.revision requests)) is)

key_granted : (old : Option Secret) (now : ℤ) (c : Certificate) (target : Option Secret) (requests : List CertificateRequest) (k : Option Secret) → is_target_written old (with_key_of now c target requests k) ≡ true
    → (r : CertificateRequest) × (next_request c.status.revision requests ≡ Some r) × (is_granted r ≡ true)
key_granted old now c target requests None is = absurd (cc is)
key_granted old now c target requests (Some k) is = file_granted old now c target requests (key_in k) is

-- what is granted is not the one that is restated, so that it is found again
kept_by : (x y : Bool) (r s found : CertificateRequest) (rest : Option CertificateRequest) → x ≡ y → is_granted r ≡ false → is_granted found ≡ true → (if y then Some r else rest) ≡ Some found → (if x then Some s else rest) ≡ Some found
kept_by true true r s found rest is off on e = absurd (cc (sym off ∙ ap is_granted (some_same r found e) ∙ on)) where
  some_same : (p q : CertificateRequest) → Some p ≡ Some q → p ≡ q
  some_same p q h = cc h
kept_by true false r s found rest is off on e = absurd (cc is)
kept_by false true r s found rest is off on e = absurd (cc is)
kept_by false false r s found rest is off on e = e

kept_later : (x : Bool) (r found : CertificateRequest) (later rest : Option CertificateRequest) → (rest ≡ Some found → later ≡ Some found) → (if x then Some r else rest) ≡ Some found → (if x then Some r else later) ≡ Some found
kept_later true r found later rest f e = e
kept_later false r found later rest f e = f e

find_kept : (p : CertificateRequest → Bool) (b a : List CertificateRequest) (r s found : CertificateRequest) → p s ≡ p r → is_granted r ≡ false → is_granted found ≡ true → find p (b ++ r ∷ a) ≡ Some found → find p (b ++ s ∷ a) ≡ Some found
find_kept p [] a r s found is off on e = kept_by (p s) (p r) r s found (find p a) is off on e
find_kept p (x ∷ b) a r s found is off on e = kept_later (p x) x found _ _ (find_kept p b a r s found is off on) e

only_at : (x y : Bool) (found : CertificateRequest) (one other : Option CertificateRequest) → x ≡ y → (other ≡ Some found → one ≡ Some found) → (if y then other else None) ≡ Some found → (if x then one else None) ≡ Some found
only_at true true found one other is f e = f e
only_at true false found one other is f e = absurd (none-some found e)
only_at false true found one other is f e = absurd (cc is)
only_at false false found one other is f e = e

only_kept : (n version : ℕ) (status : RequestStatus) (b a : List CertificateRequest) (r found : CertificateRequest) → is_granted r ≡ false → is_granted found ≡ true → only_of n (b ++ r ∷ a) ≡ Some found
    → only_of n (b ++ restated_request version status r ∷ a) ≡ Some found
unfolding only_of
only_kept n version status b a r found off on e =
    let s : CertificateRequest = restated_request version status r in
    only_at _ _ found _ _ (ap (λ (l : ℕ). l == 1) (count_same (is_of_revision n) b a r s (of_same n version status r))) (find_kept (is_of_revision n) b a r s found (of_same n version status r) off on) e

pub written_kept : (now : ℤ) (seen : Views) (c : Certificate) (version : ℕ) (status : RequestStatus) (b a : List CertificateRequest) (r : CertificateRequest) → is_granted r ≡ false
    → is_target_written seen.secret (issuing (with_requests (b ++ r ∷ a) (with_certificate c seen)) now) ≡ true → is_target_written seen.secret (issuing (with_requests (b ++ restated_request version status r ∷ a) (with_certificate c seen)) now) ≡ true
unfolding issuing
written_kept now seen c version status b a r off is =
    let found = key_granted seen.secret now c seen.secret (b ++ r ∷ a) (named_key c.status.next_key seen.next) (on_by (is_issuing c) seen.secret (with_key_of now c seen.secret (b ++ r ∷ a) (named_key c.status.next_key seen.next)) is) in
    let later = only_kept (unwrap_or c.status.revision 0 + 1) version status b a r found.0 off found.2 found.1 in
    same_key (named_key c.status.next_key seen.next) (later ∙ sym found.1) ∙ is where
      same_file : (file : Option (List ℕ)) → next_request c.status.revision (b ++ restated_request version status r ∷ a) ≡ next_request c.status.revision (b ++ r ∷ a)
          → with_file now c seen.secret (b ++ r ∷ a) file ≡ with_file now c seen.secret (b ++ restated_request version status r ∷ a) file
      same_file None e = refl
      same_file (Some file) e = rw e refl

      same_of : (k : Option Secret) → next_request c.status.revision (b ++ restated_request version status r ∷ a) ≡ next_request c.status.revision (b ++ r ∷ a)
          → with_key_of now c seen.secret (b ++ r ∷ a) k ≡ with_key_of now c seen.secret (b ++ restated_request version status r ∷ a) k
      same_of None e = refl
      same_of (Some k) e = same_file (key_in k) e

      same_key : (k : Option Secret) → next_request c.status.revision (b ++ restated_request version status r ∷ a) ≡ next_request c.status.revision (b ++ r ∷ a)
          → is_target_written seen.secret (if is_issuing c then with_key_of now c seen.secret (b ++ restated_request version status r ∷ a) k else Nothing)
          ≡ is_target_written seen.secret (if is_issuing c then with_key_of now c seen.secret (b ++ r ∷ a) k else Nothing)
      same_key k e = ap (λ (x : Act). is_target_written seen.secret (if is_issuing c then x else Nothing)) (sym (same_of k e))
