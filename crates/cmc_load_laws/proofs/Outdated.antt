-- The measure falls where the request manager deletes a stale request.
use Rattle.std.proofs.Common.{◌≡◌, ◌+◌, ◌==◌, ◌<◌, ℕ, suc, ℤ, List, [], ◌∷◌, ◌++◌, length, Bool, true, false, not, Option, Some, None, refl, sym, ap, ◌∙◌, arith}
use Rattle.std.specs.Prelude.{if◌then◌else◌, ◌&&◌, ◌||◌, filter, find, unwrap_or}
use Rattle.std.specs.List.{list_any}
use Rattle.std.proofs.lemmas.Bool.Decides.{Decides-eqb}
use Rattle.std.proofs.lemmas.Option.{none-some}
use Rattle.cmc_objects.specs.declared.certificate.Certificate.{Certificate}
use Rattle.cmc_objects.specs.declared.request.CertificateRequest.{CertificateRequest}
use Rattle.cmc_objects.specs.declared.secret.Secret.{Secret}
use Rattle.cmc_match.specs.Facts.{key_in}
use Rattle.cmc_match.specs.Revisions.{is_of_revision, only_of}
use Rattle.cmc_pass.specs.declared.pass.Views.{Views}
use Rattle.cmc_pass.specs.declared.pass.Desk.{Desk}
use Rattle.cmc_pass.specs.declared.pass.Act.{Act}
use Rattle.cmc_pass.specs.declared.pass.Act.TheVariants.{Nothing}
use Rattle.cmc_rules.specs.NextKeys.{named_key}
use Rattle.cmc_rules.specs.NextRequests.{is_next, is_wanted, is_refused, failed_before}
use Rattle.cmc_rules.specs.RequestManager.{is_stale}
use Rattle.cmc_rules.specs.Trigger.{is_issuing}
use Rattle.cmc_rules.specs.Issuance.{issuing, with_wanted, with_granted, while_waiting, is_granted, fails_now, failure, refusal}
use Rattle.cmc_run_laws.specs.Issuances.{with_certificate}
use Rattle.cmc_load_laws.specs.Measure.{weight, is_fresh_request, has_fresh_for, is_target_written, measure, with_requests}
use Rattle.cmc_load_laws.proofs.Parts.{weight_within, while_issued}
use Rattle.cmc_load_laws.proofs.Restated.{unwritten_failure}
use Rattle.cmc_run_laws.proofs.Going.{going}
use Rattle.cmc_load_laws.proofs.Issued.{written_acts}
use Rattle.cmc_run_laws.proofs.Going.{going_is}
use Rattle.cmc_load_laws.proofs.Approved.{the_views}
use Rattle.cmc_load_laws.proofs.Requested.{length_more, waiting_more, ready_same}

-- ---- the only one that passes is the one that stands there

not_zero : (x : Bool) (n : ℕ) → (suc n == 0) ≡ x → x ≡ false
not_zero true n is = absurd (omega (arith, (Decides-eqb (suc n) 0).0 is))
not_zero false n is = refl

one_less : (n : ℕ) → (suc n == 1) ≡ true → (n == 0) ≡ true
one_less n is = (Decides-eqb n 0).1 (omega (arith, (Decides-eqb (suc n) 1).0 is))

some_more : (p : CertificateRequest → Bool) (b a : List CertificateRequest) (r : CertificateRequest) → p r ≡ true → (length (filter p (b ++ r ∷ a)) == 0) ≡ false
some_more p [] a r is = ap (λ (x : Bool). length (if x then r ∷ filter p a else filter p a) == 0) is ∙ not_zero (suc (length (filter p a)) == 0) (length (filter p a)) refl
some_more p (x ∷ b) a r is = by_first (p x) (some_more p b a r is) where
  by_first : (y : Bool) → (length (filter p (b ++ r ∷ a)) == 0) ≡ false → (length (if y then x ∷ filter p (b ++ r ∷ a) else filter p (b ++ r ∷ a)) == 0) ≡ false
  by_first true rest = not_zero (suc (length (filter p (b ++ r ∷ a))) == 0) (length (filter p (b ++ r ∷ a))) refl
  by_first false rest = rest

only_by : (y : Bool) (p : CertificateRequest → Bool) (x r : CertificateRequest) (l : List CertificateRequest) → (length (filter p l) == 0) ≡ false → (length (if y then x ∷ filter p l else filter p l) == 1) ≡ true
    → ((length (filter p l) == 1) ≡ true → find p l ≡ Some r) → (if y then Some x else find p l) ≡ Some r
only_by true p x r l some is f = absurd (cc (sym some ∙ one_less (length (filter p l)) is))
only_by false p x r l some is f = f is

only_here : (p : CertificateRequest → Bool) (b a : List CertificateRequest) (r : CertificateRequest) → p r ≡ true → (length (filter p (b ++ r ∷ a)) == 1) ≡ true → find p (b ++ r ∷ a) ≡ Some r
only_here p [] a r is one = rw is refl
only_here p (x ∷ b) a r is one = only_by (p x) p x r (b ++ r ∷ a) (some_more p b a r is) one (only_here p b a r is)

found_by : (x : Bool) (one : Option CertificateRequest) (r found : CertificateRequest) → (x ≡ true → one ≡ Some r) → (if x then one else None) ≡ Some found → Some r ≡ Some found
found_by true one r found f is = sym (f refl) ∙ is
found_by false one r found f is = absurd (none-some found is)

only_is : (n : ℕ) (b a : List CertificateRequest) (r found : CertificateRequest) → is_of_revision n r ≡ true → only_of n (b ++ r ∷ a) ≡ Some found → r ≡ found
unfolding only_of
only_is n b a r found is e = some_same (found_by (length (filter (is_of_revision n) (b ++ r ∷ a)) == 1) (find (is_of_revision n) (b ++ r ∷ a)) r found (only_here (is_of_revision n) b a r is) e) where
  some_same : Some r ≡ Some found → r ≡ found
  some_same h = cc h

-- ---- a target is not written for a stale request

stale_by : (wanted refused before : Bool) → wanted ≡ true → (not wanted || (refused && before)) ≡ true → refused ≡ true
stale_by true true before on is = refl
stale_by true false before on is = absurd (cc is)
stale_by false refused before on is = absurd (cc on)

refused_off : (old : Option Secret) (x z : Bool) (fail other : Act) → x ≡ true → is_target_written old fail ≡ false → is_target_written old (if x then (if z then fail else Nothing) else other) ≡ false
refused_off old true true fail other is off = off
refused_off old true false fail other is off = refl
refused_off old false z fail other is off = absurd (cc is)

same_some : (x y : List ℕ) → Some x ≡ Some y → x ≡ y
same_some x y is = cc is

same_secret : (x y : Secret) → Some x ≡ Some y → x ≡ y
same_secret x y is = cc is

unwritten_by : (x : Bool) (old : Option Secret) (a : Act) → is_target_written old a ≡ x → (x ≡ true → ⊥) → is_target_written old a ≡ false
unwritten_by true old a is none = absurd (none refl)
unwritten_by false old a is none = is

stale_unwritten : (now : ℤ) (seen : Views) (c : Certificate) (b a : List CertificateRequest) (r : CertificateRequest) (k : Secret) (file : List ℕ) → named_key c.status.next_key seen.next ≡ Some k → key_in k ≡ Some file → is_next c r ≡ true → is_stale c file r ≡ true
    → is_target_written seen.secret (issuing (the_views seen c (b ++ r ∷ a)) now) ≡ false
stale_unwritten now seen c b a r k file named holds next stale = unwritten_by _ seen.secret (issuing (the_views seen c (b ++ r ∷ a)) now) refl (λ is.
    let here : Views = with_requests (b ++ r ∷ a) seen in
    let on = going now here c (written_acts seen.secret (issuing (with_certificate c here) now) is) in
    let g = on.1 in
    let one : r ≡ g.request = only_is (unwrap_or c.status.revision 0 + 1) b a r g.request next g.stands in
    let key : k ≡ g.key = same_secret k g.key (sym named ∙ g.named) in
    let same : file ≡ g.file = same_some file g.file (sym holds ∙ ap key_in key ∙ g.holds) in
    let stale_then : is_stale c g.file g.request ≡ true = sym (ap (λ (f : List ℕ). is_stale c f r) same ∙ ap (is_stale c g.file) one) ∙ stale in
    let refused : is_refused g.request ≡ true = stale_by (is_wanted c g.file g.request) (is_refused g.request) (failed_before c g.request) g.wanted stale_then in
    let off : is_target_written seen.secret (with_wanted now c g.file seen.secret g.request) ≡ false =
    refused_off seen.secret (is_refused g.request) (fails_now c g.request g.request.status.failure) (failure now (refusal g.request) c) (if is_granted g.request then with_granted now c g.file seen.secret g.request else while_waiting now c g.file seen.secret g.request)
    refused (unwritten_failure seen.secret now (refusal g.request) c) in
    cc (sym off ∙ ap (is_target_written seen.secret) (sym (going_is now here c g on.0)) ∙ is))

-- ---- the measure

any_less : (p : CertificateRequest → Bool) (b a : List CertificateRequest) (r : CertificateRequest) → p r ≡ false → list_any p (b ++ r ∷ a) ≡ list_any p (b ++ a)
any_less p [] a r off = ap (λ (x : Bool). x || list_any p a) off
any_less p (x ∷ b) a r off = ap (λ (y : Bool). p x || y) (any_less p b a r off)

not_fresh : (next stale : Bool) → stale ≡ true → (next && not stale) ≡ false
not_fresh true stale is = ap not is
not_fresh false stale is = refl

pub outdated_falls : (desk : Desk) (due : ℕ) (now : ℤ) (seen : Views) (c : Certificate) (b a : List CertificateRequest) (r : CertificateRequest) (k : Secret) (file : List ℕ) → is_issuing c ≡ true → named_key c.status.next_key seen.next ≡ Some k → key_in k ≡ Some file
    → is_next c r ≡ true → is_stale c file r ≡ true → measure desk due now (the_views seen c (b ++ a)) < measure desk due now (the_views seen c (b ++ r ∷ a))
outdated_falls desk due now seen c b a r k file on named holds next stale =
    let same : has_fresh_for c (b ++ r ∷ a) (named_key c.status.next_key seen.next) ≡ has_fresh_for c (b ++ a) (named_key c.status.next_key seen.next) =
    rw (named, holds, any_less (is_fresh_request c file) b a r (not_fresh (is_next c r) (is_stale c file r) stale)) refl in
    omega (
      arith,
      while_issued now (the_views seen c (b ++ r ∷ a)) c on,
      while_issued now (the_views seen c (b ++ a)) c on,
      ap (weight 1) (ready_same now seen c b a r next),
      length_more b a r,
      waiting_more desk now b a r,
      ap (λ (x : Bool). weight 4 (not x)) same,
      ap (λ (x : Bool). weight 2 (not x)) (stale_unwritten now seen c b a r k file named holds next stale),
      weight_within 2 (not (is_target_written seen.secret (issuing (the_views seen c (b ++ a)) now))),
    )
