-- The request manager's own request is wanted, and the measure falls where it is made.
use Rattle.std.proofs.Common.{◌≡◌, ◌+◌, ◌==◌, ◌<◌, ◌≤◌, ℕ, suc, ℤ, List, [], ◌∷◌, ◌++◌, length, Bool, true, false, not, Option, Some, None, refl, ap, ◌∙◌, arith}
use Rattle.std.specs.Prelude.{if◌then◌else◌, ◌&&◌, ◌||◌, filter, find, unwrap_or, codes, decimal}
use Rattle.std.specs.List.{list_any}
use Rattle.std.specs.Str.{bytes_eq}
use Rattle.std.proofs.lemmas.Bool.{and_parts}
use Rattle.std.proofs.lemmas.Bool.Decides.{Decides-eqb}
use Rattle.std.proofs.lemmas.Slice.Eq.{bytes_eq-Decides}
use Rattle.cmc_meta.specs.Decimals.{number_in}
use Rattle.cmc_meta.specs.PairLists.{text_by_key, with_text}
use Rattle.cmc_objects.specs.declared.issuer.IssuerRef.{IssuerRef}
use Rattle.cmc_objects.specs.declared.certificate.Certificate.{Certificate}
use Rattle.cmc_objects.specs.declared.certificate.CertSpec.{CertSpec}
use Rattle.cmc_objects.specs.declared.request.CertificateRequest.{CertificateRequest}
use Rattle.cmc_objects.specs.declared.secret.Secret.{Secret}
use Rattle.cmc_objects.specs.Objects.{no_request_status}
use Rattle.cmc_objects.specs.Defaults.{issuer_kind, issuer_group, certificate_duration}
use Rattle.cmc_policies.specs.Reasons.{first_of}
use Rattle.cmc_match.specs.Sets.{is_among, is_within}
use Rattle.cmc_match.specs.Facts.{key_in, fits, known_of, pair_at}
use Rattle.cmc_match.specs.Matches.{has_terms, is_same_issuer, is_same_flag}
use Rattle.cmc_match.specs.Revisions.{revision_of, revision_text, number_of, is_number, is_of_revision, only_of, next_request}
use Rattle.cmc_pass.specs.declared.pass.Views.{Views}
use Rattle.cmc_pass.specs.declared.pass.Desk.{Desk}
use Rattle.cmc_pass.specs.declared.pass.Act.{Act}
use Rattle.cmc_pass.specs.declared.pass.Act.TheVariants.{Nothing}
use Rattle.cmc_rules.specs.NextKeys.{named_key}
use Rattle.cmc_rules.specs.NextRequests.{next_revision, is_next, next_requests, is_wanted, is_refused, failed_before}
use Rattle.cmc_rules.specs.RequestManager.{request_spec, request_marks, is_stale}
use Rattle.cmc_rules.specs.Chains.{readiness_chain}
use Rattle.cmc_rules.specs.Trigger.{is_issuing, frame_of}
use Rattle.cmc_rules.specs.Readiness.{readiness, ready_condition, ready_by}
use Rattle.cmc_rules.specs.Issuance.{issuing, with_key_of, with_file, with_request}
use Rattle.cmc_rules.specs.Approver.{judge_one}
use Rattle.cmc_rules.specs.Issuer.{grant_one}
use Rattle.cmc_load_laws.specs.Measure.{weight, acts, is_fresh_request, has_fresh, has_fresh_for, is_target_written, waits, requests_part, measure}
use Rattle.cmc_issuing.proofs.PairLists.{put_stands, put_beside}
use Rattle.cmc_load_laws.proofs.Parts.{weight_within, while_issued}
use Rattle.cmc_load_laws.proofs.Approved.{the_views}

-- ---- its own request is wanted

itself : (text : List ℕ) → bytes_eq text text ≡ true
itself text = (bytes_eq-Decides text text).1 refl

and_two : (a b : Bool) → a ≡ true → b ≡ true → (a && b) ≡ true
and_two a b x y = rw (x, y) refl

or_second : (x y : Bool) → y ≡ true → (x || y) ≡ true
or_second true y is = refl
or_second false y is = is

within_more : (y : List ℕ) (ys xs : List (List ℕ)) → is_within xs ys ≡ true → is_within xs (y ∷ ys) ≡ true
within_more y ys [] is = refl
within_more y ys (x ∷ xs) is =
    let both = and_parts (is_among ys x) _ is in
    and_two (is_among (y ∷ ys) x) (is_within xs (y ∷ ys)) (or_second (bytes_eq y x) (is_among ys x) both.0) (within_more y ys xs both.1)

within_itself : (xs : List (List ℕ)) → is_within xs xs ≡ true
within_itself [] = refl
within_itself (x ∷ xs) = and_two (is_among (x ∷ xs) x) (is_within xs (x ∷ xs)) (ap (λ (b : Bool). b || is_among xs x) (itself x)) (within_more x xs xs (within_itself xs))

same_flag : (b : Bool) → is_same_flag b b ≡ true
same_flag true = refl
same_flag false = refl

same_issuer : (issuer : IssuerRef) → is_same_issuer issuer issuer ≡ true
same_issuer issuer = rw (itself issuer.name, itself (issuer_kind issuer), itself (issuer_group issuer)) refl

pub own_terms : (spec : CertSpec) (octets : List ℕ) → has_terms spec (request_spec spec octets) ≡ true
unfolding has_terms request_spec
own_terms spec octets =
    let duration : ℕ = certificate_duration spec.duration in
    rw (same_issuer spec.issuer, (Decides-eqb duration duration).1 refl, same_flag spec.is_ca, within_itself spec.usages) refl

pub own_revision : (c : Certificate) (k : Secret) (r : CertificateRequest) → r.meta.annotations ≡ request_marks c k → number_in (decimal (next_revision c)) ≡ Some (next_revision c) → is_next c r ≡ true
unfolding revision_of request_marks
own_revision c k r marks reads =
    let named = with_text [] (codes "cert-manager.io/certificate-name") c.meta.name in
    let found : revision_text r ≡ Some (decimal (next_revision c)) =
    ap (λ (l : List (List ℕ × List ℕ)). text_by_key l (codes "cert-manager.io/certificate-revision")) marks
    ∙ put_beside (with_text named (codes "cert-manager.io/certificate-revision") (decimal (next_revision c))) (codes "cert-manager.io/private-key-secret-name") k.meta.name (codes "cert-manager.io/certificate-revision") refl
    ∙ put_stands named (codes "cert-manager.io/certificate-revision") (decimal (next_revision c)) in
    ap (λ (o : Option (List ℕ)). is_number (next_revision c) (number_of o)) found ∙ ap (is_number (next_revision c)) reads ∙ (Decides-eqb (next_revision c) (next_revision c)).1 refl

fresh_by : (a b c d : Bool) → a ≡ true → b ≡ true → c ≡ false → (a && not (not b || (c && d))) ≡ true
fresh_by a b c d x y z = rw (x, y, z) refl

pub own_fresh : (c : Certificate) (file : List ℕ) (r : CertificateRequest) → is_next c r ≡ true → is_wanted c file r ≡ true → r.status ≡ no_request_status → is_fresh_request c file r ≡ true
own_fresh c file r next wanted new = fresh_by (is_next c r) (is_wanted c file r) (is_refused r) (failed_before c r) next wanted (rw new refl)

-- ---- one more request

pub length_more : (b a : List CertificateRequest) (r : CertificateRequest) → length (b ++ r ∷ a) ≡ suc (length (b ++ a))
length_more [] a r = refl
length_more (x ∷ b) a r = ap suc (length_more b a r)

pub waiting_more : (desk : Desk) (now : ℤ) (b a : List CertificateRequest) (r : CertificateRequest) → requests_part desk now (b ++ r ∷ a) ≡ waits desk now r + requests_part desk now (b ++ a)
waiting_more desk now [] a r = refl
waiting_more desk now (x ∷ b) a r = let rest = waiting_more desk now b a r in omega (arith, rest)

any_more : (p : CertificateRequest → Bool) (b a : List CertificateRequest) (r : CertificateRequest) → p r ≡ true → list_any p (b ++ r ∷ a) ≡ true
any_more p [] a r is = ap (λ (x : Bool). x || list_any p a) is
any_more p (x ∷ b) a r is = or_second (p x) (list_any p (b ++ r ∷ a)) (any_more p b a r is)

filter_more : (p : CertificateRequest → Bool) (b a : List CertificateRequest) (r : CertificateRequest) → p r ≡ false → filter p (b ++ r ∷ a) ≡ filter p (b ++ a)
filter_more p [] a r off = rw off refl
filter_more p (x ∷ b) a r off = ap (λ (l : List CertificateRequest). if p x then x ∷ l else l) (filter_more p b a r off)

find_more : (p : CertificateRequest → Bool) (b a : List CertificateRequest) (r : CertificateRequest) → p r ≡ false → find p (b ++ r ∷ a) ≡ find p (b ++ a)
find_more p [] a r off = rw off refl
find_more p (x ∷ b) a r off = ap (λ (o : Option CertificateRequest). if p x then Some x else o) (find_more p b a r off)

pub only_more : (n : ℕ) (b a : List CertificateRequest) (r : CertificateRequest) → is_of_revision n r ≡ false → only_of n (b ++ r ∷ a) ≡ only_of n (b ++ a)
unfolding only_of
only_more n b a r off =
    ap (λ (l : List CertificateRequest). if length l == 1 then find (is_of_revision n) (b ++ r ∷ a) else None) (filter_more (is_of_revision n) b a r off)
    ∙ ap (λ (o : Option CertificateRequest). if length (filter (is_of_revision n) (b ++ a)) == 1 then o else None) (find_more (is_of_revision n) b a r off)

-- a request of the next revision is not of the current one
one_number : (x : Bool) (m n : ℕ) → (n == m + 1) ≡ true → (n == m) ≡ x → x ≡ false
one_number true m n is other = absurd (omega (arith, (Decides-eqb n (m + 1)).0 is, (Decides-eqb n m).0 other))
one_number false m n is other = refl

not_current_by : (m : ℕ) (o : Option ℕ) → is_number (m + 1) o ≡ true → is_number m o ≡ false
not_current_by m None is = refl
not_current_by m (Some n) is = one_number (n == m) m n is refl

pub not_current : (c : Certificate) (r : CertificateRequest) → is_next c r ≡ true → is_of_revision (unwrap_or c.status.revision 0) r ≡ false
not_current c r is = not_current_by (unwrap_or c.status.revision 0) (revision_of r) is

pub ready_same : (now : ℤ) (seen : Views) (c : Certificate) (b a : List CertificateRequest) (r : CertificateRequest) → is_next c r ≡ true
    → acts (readiness (the_views seen c (b ++ r ∷ a)) now) ≡ acts (readiness (the_views seen c (b ++ a)) now)
unfolding readiness
ready_same now seen c b a r next =
    ap (λ (o : Option CertificateRequest). acts (ready_by (ready_condition now (first_of readiness_chain (frame_of now c) (known_of c.spec c.meta.name seen.secret o))) (frame_of now c).renew (pair_at seen.secret) c))
    (only_more (unwrap_or c.status.revision 0) b a r (not_current c r next))

-- ---- where none stands

none_fresh : (p q : CertificateRequest → Bool) (rs : List CertificateRequest) → filter p rs ≡ [] → list_any (λ r. p r && q r) rs ≡ false
none_fresh p q [] none = refl
none_fresh p q (r ∷ rs) none = by_first (p r) none (none_fresh p q rs) where
  by_first : (x : Bool) → (if x then r ∷ filter p rs else filter p rs) ≡ [] → (filter p rs ≡ [] → list_any (λ s. p s && q s) rs ≡ false) → ((x && q r) || list_any (λ s. p s && q s) rs) ≡ false
  by_first true is later = absurd (cc is)
  by_first false is later = later is

no_fresh : (c : Certificate) (rs : List CertificateRequest) (k : Option Secret) → next_requests c rs ≡ [] → has_fresh_for c rs k ≡ false
no_fresh c rs None none = refl
no_fresh c rs (Some k) none = by_file (key_in k) where
  by_file : (file : Option (List ℕ)) → has_fresh c rs file ≡ false
  by_file None = refl
  by_file (Some file) = off (fits c.spec.key file) (none_fresh (is_next c) (λ r. not (is_stale c file r)) rs none) where
    off : (x : Bool) → list_any (is_fresh_request c file) rs ≡ false → (x && list_any (is_fresh_request c file) rs) ≡ false
    off true is = is
    off false is = refl

no_next : (c : Certificate) (rs : List CertificateRequest) → next_requests c rs ≡ [] → next_request c.status.revision rs ≡ None
unfolding only_of
no_next c rs none = rw none refl

nothing_for : (now : ℤ) (c : Certificate) (target : Option Secret) (rs : List CertificateRequest) (k : Option Secret) → next_request c.status.revision rs ≡ None → with_key_of now c target rs k ≡ Nothing
nothing_for now c target rs None none = refl
nothing_for now c target rs (Some k) none = by_file (key_in k) where
  by_file : (file : Option (List ℕ)) → with_file now c target rs file ≡ Nothing
  by_file None = refl
  by_file (Some file) = by_fit (fits c.spec.key file) (with_request now c file target (next_request c.status.revision rs)) (ap (with_request now c file target) none) where
    by_fit : (x : Bool) (a : Act) → a ≡ Nothing → (if x then a else Nothing) ≡ Nothing
    by_fit true a is = is
    by_fit false a is = refl

nothing_yet : (now : ℤ) (seen : Views) (c : Certificate) (rs : List CertificateRequest) → next_requests c rs ≡ [] → is_issuing c ≡ true → issuing (the_views seen c rs) now ≡ Nothing
unfolding issuing
nothing_yet now seen c rs none on = rw on (nothing_for now c seen.secret rs (named_key c.status.next_key seen.next) (no_next c rs none))

two_at_most : (x y : Bool) → (if x then 2 else weight 1 y) ≤ 2
two_at_most true y = omega arith
two_at_most false true = omega arith
two_at_most false false = omega arith

pub requested_falls : (desk : Desk) (due : ℕ) (now : ℤ) (seen : Views) (c : Certificate) (b a : List CertificateRequest) (r : CertificateRequest) → is_issuing c ≡ true → next_requests c (b ++ a) ≡ [] → is_next c r ≡ true
    → has_fresh_for c (b ++ r ∷ a) (named_key c.status.next_key seen.next) ≡ true → measure desk due now (the_views seen c (b ++ r ∷ a)) < measure desk due now (the_views seen c (b ++ a))
requested_falls desk due now seen c b a r on none next fresh =
    omega (
      arith,
      while_issued now (the_views seen c (b ++ r ∷ a)) c on,
      while_issued now (the_views seen c (b ++ a)) c on,
      ap (weight 1) (ready_same now seen c b a r next),
      length_more b a r,
      waiting_more desk now b a r,
      two_at_most (acts (judge_one desk.rules r)) (acts (grant_one now desk r)),
      ap (λ (x : Bool). weight 4 (not x)) fresh,
      ap (λ (x : Bool). weight 4 (not x)) (no_fresh c (b ++ a) (named_key c.status.next_key seen.next) none),
      ap (λ (x : Act). weight 2 (not (is_target_written seen.secret x))) (nothing_yet now seen c (b ++ a) none on),
      weight_within 2 (not (is_target_written seen.secret (issuing (the_views seen c (b ++ r ∷ a)) now))),
    )

-- its own request is fresh for the named key that fits
pub own_fresh_for : (c : Certificate) (b a : List CertificateRequest) (r : CertificateRequest) (next : List Secret) (k : Secret) (file : List ℕ) → named_key c.status.next_key next ≡ Some k → key_in k ≡ Some file → fits c.spec.key file ≡ true
    → is_fresh_request c file r ≡ true → has_fresh_for c (b ++ r ∷ a) (named_key c.status.next_key next) ≡ true
own_fresh_for c b a r next k file named holds fit fresh =
    ap (has_fresh_for c (b ++ r ∷ a)) named ∙ ap (has_fresh c (b ++ r ∷ a)) holds ∙ and_two (fits c.spec.key file) (list_any (is_fresh_request c file) (b ++ r ∷ a)) fit (any_more (is_fresh_request c file) b a r fresh)
