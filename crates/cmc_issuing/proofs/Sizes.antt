-- A stand-in certificate that begins later is never shorter: its two times are UTCTime up to 2049, and GeneralizedTime, which
-- has two digits more, from 2050 on.
use Rattle.std.proofs.Common.{◌≡◌, ◌≤◌, ◌+◌, ℕ, zero, suc, ℤ, pos, negsuc, ◌+ℤ◌, int_le, List, [], ◌∷◌, ◌++◌, length, length-append, Bool, true, false, cond, nat_lt, Some, refl, arith}
use Rattle.std.specs.Prelude.{codes}
use Rattle.std.specs.Int.{int_div_euclid}
use Rattle.std.proofs.lemmas.Int.{ints}
use Rattle.std.proofs.lemmas.Bool.Decides.{nat_tests}
use Rattle.jiff_core.specs.Calendar.{days_from_civil}
use Rattle.cmc_der.specs.Builders.{length_octets, value}
use Rattle.cmc_der.specs.Keys.{PublicKey, SubjectNames}
use Rattle.cmc_time.specs.declared.moment.Moment.{Moment}
use Rattle.cmc_time.specs.Asn1.{utc_time_text, generalized_time_text, asn1_tag, asn1_text}
use Rattle.cmc_time.specs.Moment.{last_passing, year_of, moment_of}
use Rattle.cmc_x509_build.specs.Octets.{signature_algorithm, signed_octets, name_octets}
use Rattle.cmc_x509_build.specs.Certificates.{time_octets, validity_octets, head_octets, first_octets, subject_octets, certificate_body}
use Rattle.cmc_keys.proofs.SignatureLaws.{signature_size}
use Rattle.cmc_answers.specs.Signings.{certificate_of_plan}
use Rattle.cmc_answers.specs.Temporary.{temporary_cert_plan}

-- ---- the octets of a longer body are not fewer

abbrev size_of : ℕ → ℕ
size_of n = cond (nat_lt n 128) 1 (cond (nat_lt n 256) 2 (cond (nat_lt n 65536) 3 (cond (nat_lt n 16777216) 4 5)))

length_by : (a b c d : Bool) (p q r s t : List ℕ) → length p ≡ 1 → length q ≡ 2 → length r ≡ 3 → length s ≡ 4 → length t ≡ 5
    → length (cond a p (cond b q (cond c r (cond d s t)))) ≡ cond a 1 (cond b 2 (cond c 3 (cond d 4 5)))
length_by true b c d p q r s t e f g h i = e
length_by false true c d p q r s t e f g h i = f
length_by false false true d p q r s t e f g h i = g
length_by false false false true p q r s t e f g h i = h
length_by false false false false p q r s t e f g h i = i

length_is : (n : ℕ) → length (length_octets n) ≡ size_of n
unfolding length_octets
length_is n = length_by (nat_lt n 128) (nat_lt n 256) (nat_lt n 65536) (nat_lt n 16777216) _ _ _ _ _ refl refl refl refl refl

sizes : (n m : ℕ) → n ≤ m → size_of n ≤ size_of m
sizes n m h = grind (arith, nat_tests)

value_grows : (s t : ℕ) (a b : List ℕ) → length a ≤ length b → length (value s a) ≤ length (value t b)
unfolding value
value_grows s t a b h =
    omega (arith, length-append (length_octets (length a)) a, length-append (length_octets (length b)) b, length_is (length a), length_is (length b), sizes (length a) (length b) h)

joined_grows : (a b c d : List ℕ) → length a ≤ length b → length c ≤ length d → length (a ++ c) ≤ length (b ++ d)
joined_grows a b c d h k = omega (arith, length-append a c, length-append b d)

same_size : (a : List ℕ) → length a ≤ length a
same_size a = omega arith

-- ---- a later moment is of no earlier year

passing_within : (p : ℕ → Bool) (n : ℕ) → last_passing p n ≤ n
unfolding last_passing
passing_within p zero = omega arith
passing_within p (suc n) = by (p (suc n)) (passing_within p n)
  where
    by : (t : Bool) → last_passing p n ≤ n → cond t (suc n) (last_passing p n) ≤ suc n
    by true h = omega arith
    by false h = omega arith

passing_by : (s t : Bool) (n a b : ℕ) → (s ≡ true → t ≡ true) → a ≤ b → a ≤ n → cond s (suc n) a ≤ cond t (suc n) b
passing_by true true n a b f h k = omega arith
passing_by true false n a b f h k = absurd (let e : false ≡ true = f refl in cc e)
passing_by false true n a b f h k = omega arith
passing_by false false n a b f h k = h

passing_grows : (p q : ℕ → Bool) (n : ℕ) → ((k : ℕ) → p k ≡ true → q k ≡ true) → last_passing p n ≤ last_passing q n
unfolding last_passing
passing_grows p q zero f = omega arith
passing_grows p q (suc n) f = passing_by (p (suc n)) (q (suc n)) n (last_passing p n) (last_passing q n) (f (suc n)) (passing_grows p q n f) (passing_within p n)

below : (a b c : ℤ) → int_le a b ≡ true → int_le b c ≡ true → int_le a c ≡ true
below a b c h k = grind (arith, ints)

year_grows : (day later : ℤ) → int_le day later ≡ true → year_of day ≤ year_of later
unfolding year_of
year_grows day later h = passing_grows _ _ 9999 (λ k is. below (days_from_civil (pos k) 1 1) day later is h)

day_grows : (t u : ℤ) → int_le t u ≡ true → int_le (int_div_euclid t (pos 86400)) (int_div_euclid u (pos 86400)) ≡ true
day_grows (pos t) (pos u) h = grind (arith, ints, nat_tests)
day_grows (pos t) (negsuc u) h = absurd (cc h)
day_grows (negsuc t) (pos u) h = refl
day_grows (negsuc t) (negsuc u) h = grind (arith, ints, nat_tests)

-- ---- its times are not shorter

text_by : (early : Bool) (m : Moment) → length (cond early (utc_time_text m) (generalized_time_text m)) ≡ cond early 13 15
text_by true m = refl
text_by false m = refl

text_size : (at : ℤ) → length (asn1_text at) ≡ cond (nat_lt (moment_of at).year 2050) 13 15
unfolding asn1_text
text_size at = text_by (nat_lt (moment_of at).year 2050) (moment_of at)

year_is : (at : ℤ) → (moment_of at).year ≡ year_of (int_div_euclid at (pos 86400))
unfolding moment_of
year_is at = refl

texts : (y z : ℕ) → y ≤ z → cond {A = ℕ} (nat_lt y 2050) 13 15 ≤ cond {A = ℕ} (nat_lt z 2050) 13 15
texts y z h = grind (arith, nat_tests)

text_grows : (t u : ℤ) → int_le t u ≡ true → length (asn1_text t) ≤ length (asn1_text u)
text_grows t u h =
    let years : (moment_of t).year ≤ (moment_of u).year = omega (arith, year_is t, year_is u, year_grows (int_div_euclid t (pos 86400)) (int_div_euclid u (pos 86400)) (day_grows t u h)) in
    omega (arith, text_size t, text_size u, texts (moment_of t).year (moment_of u).year years)

time_grows : (t u : ℤ) → int_le t u ≡ true → length (time_octets t) ≤ length (time_octets u)
time_grows t u h = value_grows (asn1_tag t) (asn1_tag u) (asn1_text t) (asn1_text u) (text_grows t u h)

-- ---- nor is the certificate

validity_grows : (t u s v : ℤ) → int_le t u ≡ true → int_le s v ≡ true → length (validity_octets t s) ≤ length (validity_octets u v)
validity_grows t u s v h k =
    value_grows 48 48 (time_octets t ++ time_octets s) (time_octets u ++ time_octets v) (joined_grows (time_octets t) (time_octets u) (time_octets s) (time_octets v) (time_grows t u h) (time_grows s v k))

head_grows : (serial issuer : List ℕ) (t u s v : ℤ) → int_le t u ≡ true → int_le s v ≡ true → length (head_octets serial issuer t s) ≤ length (head_octets serial issuer u v)
head_grows serial issuer t u s v h k =
    joined_grows (first_octets serial) (first_octets serial) (name_octets (Some issuer) ++ validity_octets t s) (name_octets (Some issuer) ++ validity_octets u v) (same_size (first_octets serial))
    (joined_grows (name_octets (Some issuer)) (name_octets (Some issuer)) (validity_octets t s) (validity_octets u v) (same_size (name_octets (Some issuer))) (validity_grows t u s v h k))

body_grows : (serial issuer : List ℕ) (names : SubjectNames) (key : PublicKey) (t u s v : ℤ) → int_le t u ≡ true → int_le s v ≡ true
    → length (certificate_body issuer (record { serial = serial; not_before = t; not_after = s; key = key; names = names }))
    ≤ length (certificate_body issuer (record { serial = serial; not_before = u; not_after = v; key = key; names = names }))
unfolding certificate_body
body_grows serial issuer names key t u s v h k =
    value_grows 48 48 (head_octets serial issuer t s ++ subject_octets names key) (head_octets serial issuer u v ++ subject_octets names key)
    (joined_grows (head_octets serial issuer t s) (head_octets serial issuer u v) (subject_octets names key) (subject_octets names key) (head_grows serial issuer t u s v h k) (same_size (subject_octets names key)))

signed_grows : (a b s z : List ℕ) → length a ≤ length b → length s ≡ 32 → length z ≡ 32 → length (signed_octets a s) ≤ length (signed_octets b z)
unfolding signed_octets
signed_grows a b s z h e f =
    value_grows 48 48 (a ++ (signature_algorithm ++ value 3 (0 ∷ s))) (b ++ (signature_algorithm ++ value 3 (0 ∷ z)))
    (joined_grows a b (signature_algorithm ++ value 3 (0 ∷ s)) (signature_algorithm ++ value 3 (0 ∷ z)) h
    (joined_grows signature_algorithm signature_algorithm (value 3 (0 ∷ s)) (value 3 (0 ∷ z)) (same_size signature_algorithm)
    (value_grows 3 3 (0 ∷ s) (0 ∷ z) (omega arith))))

ends_later : (t u : ℤ) → int_le t u ≡ true → int_le (t +ℤ pos 7776000) (u +ℤ pos 7776000) ≡ true
ends_later t u h = grind (arith, ints)

pub stand_in_grows : (t u : ℤ) (names : SubjectNames) (key : PublicKey) → int_le t u ≡ true → length (certificate_of_plan (temporary_cert_plan t) names key) ≤ length (certificate_of_plan (temporary_cert_plan u) names key)
unfolding certificate_of_plan temporary_cert_plan
stand_in_grows t u names key h =
    signed_grows _ _ _ _ (body_grows _ (codes "cert-manager.local") names key t u (t +ℤ pos 7776000) (u +ℤ pos 7776000) h (ends_later t u h)) (signature_size _) (signature_size _)
