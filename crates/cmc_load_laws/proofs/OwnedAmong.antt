-- A request that stands and is owned is among those of its Certificate, and where one of a revision is found it is that one.
use Rattle.std.proofs.Common.{◌≡◌, ◌⊎◌, ◌≤◌, ◌+◌, ◌++◌, ◌==◌, ℕ, List, [], ◌∷◌, length, Bool, true, false, Option, Some, None, refl, sym, ap, subst, ◌∙◌, inl, inr, arith}
use Rattle.std.proofs.lemmas.Bool.{eqb-true}
use Rattle.std.specs.List.{cons_option}
use Rattle.std.specs.Prelude.{filter, find, option_and_then, if◌then◌else◌}
use Rattle.cmc_meta.specs.declared.key.Key.{Key}
use Rattle.cmc_objects.specs.declared.certificate.Certificate.{Certificate}
use Rattle.cmc_objects.specs.declared.request.CertificateRequest.{CertificateRequest}
use Rattle.cmc_objects.specs.declared.object.Object.TheVariants.{Request}
use Rattle.cmc_match.specs.Revisions.{is_of_revision, only_of}
use Rattle.cmc_model.specs.Objects.{Objects, object_at}
use Rattle.cmc_rules.specs.SeenObjects.{IsAmong}
use Rattle.cmc_rules.specs.Views.{is_owned, owned_in, requests_of}
use Rattle.cmc_load_laws.proofs.Splits.{one_change}

within : (first rest : List CertificateRequest) (r : CertificateRequest) → IsAmong r (first ++ r ∷ rest)
within [] rest r = inl refl
within (x ∷ first) rest r = inr (within first rest r)

pub owned_among : (m : Objects) (c : Certificate) (key : Key) (r : CertificateRequest) → object_at m key ≡ Some (Request r) → is_owned c r.meta ≡ true → IsAmong r (requests_of m c)
owned_among m c key r there owned =
    let one = one_change (owned_in c) m key None in
    let picks : option_and_then (owned_in c) (object_at m key) ≡ Some r = ap (option_and_then (owned_in c)) there ∙ ap (λ (b : Bool). if b then Some r else None) owned in
    subst (IsAmong r) (sym (one.was ∙ ap (λ (o : Option CertificateRequest). one.first ++ cons_option o one.rest) picks)) (within one.first one.rest r)

-- ---- the only one

some_pass : (p : CertificateRequest → Bool) (xs : List CertificateRequest) (r : CertificateRequest) → IsAmong r xs → p r ≡ true → 1 ≤ length (filter p xs)
some_pass p [] r there on = absurd there
some_pass p (x ∷ xs) r there on = by (p x) refl there (λ later. some_pass p xs r later on) where
  by : (b : Bool) → p x ≡ b → (x ≡ r) ⊎ IsAmong r xs → (IsAmong r xs → 1 ≤ length (filter p xs)) → 1 ≤ length (if b then x ∷ filter p xs else filter p xs)
  by true at any below = omega arith
  by false at (inl same) below = absurd (let e : false ≡ true = sym at ∙ ap p same ∙ on in cc e)
  by false at (inr later) below = below later

one_passes : (p : CertificateRequest → Bool) (xs : List CertificateRequest) (q r : CertificateRequest) → length (filter p xs) ≡ 1 → find p xs ≡ Some q → IsAmong r xs → p r ≡ true → r ≡ q
one_passes p [] q r one found there on = absurd there
one_passes p (x ∷ xs) q r one found there on = by (p x) refl one found there (λ one found later. one_passes p xs q r one found later on) where
  by : (b : Bool) → p x ≡ b → length (if b then x ∷ filter p xs else filter p xs) ≡ 1 → (if b then Some x else find p xs) ≡ Some q → (x ≡ r) ⊎ IsAmong r xs → (length (filter p xs) ≡ 1 → find p xs ≡ Some q → IsAmong r xs → r ≡ q) → r ≡ q
  by true at one found (inl same) below = sym same ∙ (let its : x ≡ q = cc found in its)
  by true at one found (inr later) below = absurd (omega (arith, one, some_pass p xs r later on))
  by false at one found (inl same) below = absurd (let e : false ≡ true = sym at ∙ ap p same ∙ on in cc e)
  by false at one found (inr later) below = below one found later

only_by : (b : Bool) (n : ℕ) (xs : List CertificateRequest) (q r : CertificateRequest) → (length (filter (is_of_revision n) xs) == 1) ≡ b → (if b then find (is_of_revision n) xs else None) ≡ Some q → IsAmong r xs → is_of_revision n r ≡ true → r ≡ q
only_by true n xs q r one found there on = one_passes (is_of_revision n) xs q r (eqb-true (length (filter (is_of_revision n) xs)) 1 one) found there on
only_by false n xs q r one found there on = absurd (cc found)

pub only_is : (n : ℕ) (xs : List CertificateRequest) (q r : CertificateRequest) → only_of n xs ≡ Some q → IsAmong r xs → is_of_revision n r ≡ true → r ≡ q
unfolding only_of
only_is n xs q r found there on = only_by (length (filter (is_of_revision n) xs) == 1) n xs q r refl found there on

find_passes : (b : Bool) (p : CertificateRequest → Bool) (x : CertificateRequest) (xs : List CertificateRequest) (r : CertificateRequest) → p x ≡ b → (find p xs ≡ Some r → p r ≡ true) → (if b then Some x else find p xs) ≡ Some r → p r ≡ true
find_passes true p x xs r at below is = sym (ap p (let same : x ≡ r = cc is in same)) ∙ at
find_passes false p x xs r at below is = below is

found_passes : (p : CertificateRequest → Bool) (xs : List CertificateRequest) (r : CertificateRequest) → find p xs ≡ Some r → p r ≡ true
found_passes p [] r is = absurd (cc is)
found_passes p (x ∷ xs) r is = find_passes (p x) p x xs r refl (found_passes p xs r) is

chosen_passes : (b : Bool) (p : CertificateRequest → Bool) (xs : List CertificateRequest) (r : CertificateRequest) → (if b then find p xs else None) ≡ Some r → p r ≡ true
chosen_passes true p xs r is = found_passes p xs r is
chosen_passes false p xs r is = absurd (cc is)

pub only_passes : (n : ℕ) (xs : List CertificateRequest) (r : CertificateRequest) → only_of n xs ≡ Some r → is_of_revision n r ≡ true
unfolding only_of
only_passes n xs r is = chosen_passes (length (filter (is_of_revision n) xs) == 1) (is_of_revision n) xs r is
