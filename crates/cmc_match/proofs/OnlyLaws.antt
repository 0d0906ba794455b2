-- One walk finds the first request of a revision and whether there are more, and a text is the number's where it is its digits.
use Rattle.std.proofs.Common.{◌≡◌, ℕ, ◌^◌, ◌<◌, Bool, true, false, Option, Some, None, ◌∙◌, List, [], ◌∷◌, length, filter, eqb, nat_lt, refl, ap, sym, arith, inl, inr}
use Rattle.std.specs.Prelude.{if◌then◌else◌, ◌==◌, find, decimal}
use Rattle.std.specs.Str.{bytes_eq}
use Rattle.std.specs.List.{list_any}
use Rattle.std.proofs.lemmas.Bool.{cases_Bool, ne_eqb, lt-ltb}
use Rattle.std.proofs.lemmas.Bool.Decides.{Decides-eqb}
use Rattle.std.proofs.lemmas.Slice.Eq.{bytes_eq-Decides}
use Rattle.cmc_meta.specs.Decimals.{number_in}
use Rattle.cmc_meta.proofs.DecimalLaws.{number_written, number_again}
use Rattle.cmc_objects.specs.declared.request.CertificateRequest.{CertificateRequest}
use Rattle.cmc_match.specs.Revisions.{number_of, revision_text, revision_of, is_number, is_text_of, is_of_revision, only_of}

-- ---- the first of those that pass a test

abbrev head_of : List CertificateRequest → Option CertificateRequest
head_of [] = None
head_of (r ∷ rs) = Some r

found_first : (p : CertificateRequest → Bool) (rs : List CertificateRequest) → find p rs ≡ head_of (filter p rs)
found_first p [] = refl
found_first p (r ∷ rs) =
    elim (cases_Bool (p r)) [
      | inl here ↦ rw here refl
      | inr not_here ↦ rw not_here (found_first p rs)
    ]

two_at_least : (r q : CertificateRequest) (rs : List CertificateRequest) → nat_lt 1 (length (r ∷ q ∷ rs)) ≡ true
two_at_least r q rs = lt-ltb 1 (length (r ∷ q ∷ rs)) (omega arith)

none_in : (l : List CertificateRequest) → head_of l ≡ None → l ≡ []
none_in [] none = refl
none_in (r ∷ rs) none = absurd (cc none)

one_in : (l : List CertificateRequest) (r : CertificateRequest) → head_of l ≡ Some r → nat_lt 1 (length l) ≡ false → l ≡ r ∷ []
one_in [] r is one = absurd (cc is)
one_in (q ∷ []) r is one = let same : q ≡ r = cc is in ap (λ (s : CertificateRequest). s ∷ []) same
one_in (q ∷ s ∷ rs) r is one = absurd (cc (sym (two_at_least q s rs) ∙ one))

pub found_none : (p : CertificateRequest → Bool) (rs : List CertificateRequest) → find p rs ≡ None → filter p rs ≡ []
found_none p rs none = none_in (filter p rs) (sym (found_first p rs) ∙ none)

pub found_one : (p : CertificateRequest → Bool) (rs : List CertificateRequest) (r : CertificateRequest) → find p rs ≡ Some r → nat_lt 1 (length (filter p rs)) ≡ false → filter p rs ≡ r ∷ []
found_one p rs r is one = one_in (filter p rs) r (sym (found_first p rs) ∙ is) one

only_in : (l : List CertificateRequest) → (if nat_lt 1 (length l) then None else head_of l) ≡ (if length l == 1 then head_of l else None)
only_in [] = refl
only_in (r ∷ []) = refl
only_in (r ∷ q ∷ rs) =
    ap (λ (b : Bool). if b then None else Some r) (two_at_least r q rs)
    ∙ sym (ap (λ (b : Bool). if b then Some r else None) (ne_eqb (length (r ∷ q ∷ rs)) 1 (omega arith)))

-- the only one is the first where there are no more
pub only_first : (n : ℕ) (rs : List CertificateRequest) (more : Bool) (first : Option CertificateRequest) → more ≡ nat_lt 1 (length (filter (λ r. is_of_revision n r) rs)) → first ≡ find (λ r. is_of_revision n r) rs
    → (if more then None else first) ≡ only_of n rs
unfolding only_of
only_first n rs more first is found =
    ap (λ (b : Bool). if b then None else first) is
    ∙ ap (λ (o : Option CertificateRequest). if nat_lt 1 (length (filter (λ r. is_of_revision n r) rs)) then None else o) (found ∙ found_first (λ r. is_of_revision n r) rs)
    ∙ only_in (filter (λ r. is_of_revision n r) rs)
    ∙ ap (λ (o : Option CertificateRequest). if length (filter (λ r. is_of_revision n r) rs) == 1 then o else None) (sym (found_first (λ r. is_of_revision n r) rs))

-- ---- the walk

pub find_passes : (p : CertificateRequest → Bool) (r : CertificateRequest) (rs : List CertificateRequest) → p r ≡ false → find p rs ≡ find p (r ∷ rs)
find_passes p r rs other = rw other refl

pub filter_passes : (p : CertificateRequest → Bool) (r : CertificateRequest) (rs : List CertificateRequest) → p r ≡ false → filter p rs ≡ filter p (r ∷ rs)
filter_passes p r rs other = rw other refl

pub find_here : (p : CertificateRequest → Bool) (r : CertificateRequest) (rs : List CertificateRequest) → p r ≡ true → Some r ≡ find p (r ∷ rs)
find_here p r rs here = rw here refl

more_kept : (p : CertificateRequest → Bool) (rs : List CertificateRequest) (r : CertificateRequest) → list_any p rs ≡ nat_lt 1 (length (r ∷ filter p rs))
more_kept p [] r = refl
more_kept p (q ∷ rs) r =
    elim (cases_Bool (p q)) [
      | inl here ↦ rw here (sym (two_at_least r q (filter p rs)))
      | inr not_here ↦ rw not_here (more_kept p rs r)
    ]

pub more_here : (p : CertificateRequest → Bool) (r : CertificateRequest) (rs : List CertificateRequest) → p r ≡ true → list_any p rs ≡ nat_lt 1 (length (filter p (r ∷ rs)))
more_here p r rs here = more_kept p rs r ∙ ap (λ (l : List CertificateRequest). nat_lt 1 (length l)) (kept (p r) here)
  where
    kept : (b : Bool) → b ≡ true → r ∷ filter p rs ≡ (if b then r ∷ filter p rs else filter p rs)
    kept b same = rw same refl

pub find_nowhere : (p : CertificateRequest → Bool) (rs : List CertificateRequest) → length rs ≡ 0 → None ≡ find p rs
find_nowhere p [] end = refl
find_nowhere p (r ∷ rs) end = absurd (omega (arith, end))

pub more_nowhere : (p : CertificateRequest → Bool) (rs : List CertificateRequest) → length rs ≡ 0 → false ≡ nat_lt 1 (length (filter p rs))
more_nowhere p [] end = refl
more_nowhere p (r ∷ rs) end = absurd (omega (arith, end))

-- ---- digits

number_is : (n : ℕ) (text : List ℕ) (read : Option ℕ) → bytes_eq text (decimal n) ≡ false → number_in text ≡ read → false ≡ is_number n read
number_is n text None differs is = refl
number_is n text (Some m) differs is =
    elim (cases_Bool (eqb m n)) [
      | inl same ↦
          let one : text ≡ decimal n = number_written text m is ∙ ap decimal ((Decides-eqb m n).0 same) in
          absurd (cc (sym differs ∙ (bytes_eq-Decides text (decimal n)).1 one))
      | inr other ↦ sym other
    ]

digits_are : (n : ℕ) (text : List ℕ) → n < 2 ^ 64 → bytes_eq text (decimal n) ≡ is_number n (number_in text)
digits_are n text small =
    elim (cases_Bool (bytes_eq text (decimal n))) [
      | inl same ↦
          let read : number_in text ≡ Some n = ap number_in ((bytes_eq-Decides text (decimal n)).0 same) ∙ number_again n small in
          same ∙ sym (ap (is_number n) read ∙ (Decides-eqb n n).1 refl)
      | inr differs ↦ differs ∙ number_is n text (number_in text) differs refl
    ]

text_is : (n : ℕ) (text : Option (List ℕ)) → n < 2 ^ 64 → is_text_of (decimal n) text ≡ is_number n (number_of text)
text_is n None small = refl
text_is n (Some text) small = digits_are n text small

written_is : (n : ℕ) (r : CertificateRequest) → n < 2 ^ 64 → is_text_of (decimal n) (revision_text r) ≡ is_of_revision n r
unfolding revision_of
written_is n r small = text_is n (revision_text r) small

pub find_written : (n : ℕ) (rs : List CertificateRequest) → n < 2 ^ 64 → find (λ r. is_text_of (decimal n) (revision_text r)) rs ≡ find (λ r. is_of_revision n r) rs
find_written n [] small = refl
find_written n (r ∷ rs) small = rw (written_is n r small) (ap (λ (o : Option CertificateRequest). if is_of_revision n r then Some r else o) (find_written n rs small))

pub filter_written : (n : ℕ) (rs : List CertificateRequest) → n < 2 ^ 64 → filter (λ r. is_text_of (decimal n) (revision_text r)) rs ≡ filter (λ r. is_of_revision n r) rs
filter_written n [] small = refl
filter_written n (r ∷ rs) small = rw (written_is n r small) (ap (λ (l : List CertificateRequest). if is_of_revision n r then r ∷ l else l) (filter_written n rs small))
