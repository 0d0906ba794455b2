-- A public key that is read is in the grammar, and one of the grammar is read.
use Rattle.std.proofs.Common.{◌≡◌, ◌≢◌, ℕ, ◌*◌, ◌≤◌, true, false, eqb, ltb, List, [], ◌∷◌, length, Option, Some, None, refl, ap, subst, ◌∙◌, arith, inl, inr}
use Rattle.std.proofs.lemmas.Bool.{eqb-true, eqb-false, eq-eqb, ne_eqb, cases_Bool, cases_lt, lt-ltb, le-ltb, ltb-true}
use Rattle.std.specs.Str.{bytes_eq}
use Rattle.cmc_der.specs.declared.fields.KeyKind.{KeyKind}
use Rattle.cmc_der.specs.declared.fields.KeyKind.TheVariants.{Rsa, P256, P384, P521}
use Rattle.cmc_der.specs.Values.{BeginsWith}
use Rattle.cmc_der.specs.Integers.{is_integer, signed}
use Rattle.cmc_der.specs.Keys.{PublicKey, RsaKey, EcKey, OtherKey}
use Rattle.cmc_x509.specs.declared.oids.TheConstants.{RSA_ENCRYPTION, EC_PUBLIC_KEY, SECP256R1, SECP384R1, SECP521R1}
use Rattle.cmc_x509.specs.Options.{Value, Taken, take_at, whole_at, end_at, only_at, at_most_one_at}
use Rattle.cmc_x509.specs.PublicKeys.{AlgorithmIdentifier, BeginsWithAlgorithm, BeginsWithInteger, IsMagnitude, BeginsWithPositive, IsRsaPublicKey, IsNull, NamesCurve, IsCurve, width, IsPoint, ArePublicKeyBits, IsSpki, BeginsWithSpki}
use Rattle.cmc_x509.specs.ReadKeys.{algorithm_at, integer_at, high_first, magnitude_of, positive_at, version_at, rsa_public_at, curve_named, curve_of, is_point, is_null, point_at, bits_of, public_key_at, spki_of, spki_at}
use Rattle.cmc_x509.proofs.TakingLaws.{some, some_is, bind_some, guard_some, take_found, take_again, end_found, end_again, only_found, only_again, at_most_one_found, at_most_one_again, whole_found, whole_again, bytes_same, bytes_differ, same_bytes, other_bytes}

abbrev valued : ℕ → List ℕ → Value
valued tag body = (tag, body)

pub algorithm_found : (bs : List ℕ) (x : AlgorithmIdentifier × List ℕ) → algorithm_at bs ≡ Some x → BeginsWithAlgorithm bs x.0 x.1
unfolding algorithm_at
algorithm_found bs x e =
    let w = bind_some (take_at 48 bs) _ x e in
    let o = bind_some (take_at 6 w.0.0) _ x w.2 in
    let p = bind_some (at_most_one_at o.0.1) _ x o.2 in
    subst (λ (y : AlgorithmIdentifier × List ℕ). BeginsWithAlgorithm bs y.0 y.1) (some_is _ x p.2)
    (record { body = w.0.0; inner = o.0.1; whole = take_found 48 bs w.0 w.1; algorithm = take_found 6 w.0.0 o.0 o.1; parameters = at_most_one_found o.0.1 p.0 p.1 })

pub algorithm_again : (bs : List ℕ) (a : AlgorithmIdentifier) (rest : List ℕ) → BeginsWithAlgorithm bs a rest → algorithm_at bs ≡ Some (a, rest)
unfolding algorithm_at
algorithm_again bs a rest h = rw (take_again 48 bs h.body rest h.whole, take_again 6 h.body a.oid h.inner h.algorithm, at_most_one_again h.inner a.parameter h.parameters) refl

pub integer_found : (bs : List ℕ) (p : Taken) → integer_at bs ≡ Some p → BeginsWithInteger bs p.0 p.1
unfolding integer_at
integer_found bs p e =
    let t = bind_some (take_at 2 bs) _ p e in
    let g = guard_some (is_integer t.0.0) (Some t.0) p t.2 in
    subst (λ (q : Taken). BeginsWithInteger bs q.0 q.1) (some_is t.0 p g.1) (take_found 2 bs t.0 t.1, g.0)

pub integer_again : (bs body rest : List ℕ) → BeginsWithInteger bs body rest → integer_at bs ≡ Some (body, rest)
unfolding integer_at
integer_again bs body rest h = rw (take_again 2 bs body rest h.0, h.1) refl

-- ---- positive numbers

record IsMagnitudeOf (body magnitude : List ℕ) : Type 0 where
  pub positive : IsMagnitude magnitude
  pub spelled : body ≡ signed magnitude

high_found : (bs m : List ℕ) → high_first bs ≡ Some m → IsMagnitudeOf (0 ∷ bs) m
high_found [] m e = absurd cc
high_found (b ∷ bs) m e =
    let g = guard_some (ltb 127 b) (Some (b ∷ bs)) m e in
    let high : 128 ≤ b = ltb-true 127 b g.0 in
    subst (λ (y : List ℕ). IsMagnitudeOf (0 ∷ (b ∷ bs)) y) (some_is (b ∷ bs) m g.1) (record { positive = omega arith; spelled = rw (le-ltb b 128 high) refl })

magnitude_found : (body m : List ℕ) → magnitude_of body ≡ Some m → IsMagnitudeOf body m
magnitude_found [] m e = absurd cc
magnitude_found (b ∷ bs) m e =
    elim (cases_Bool (eqb b 0)) [
      | inl z ↦ rw (eqb-true b 0 z) (high_found bs m (rw z at e))
      | inr n ↦
          let ne : b ≢ 0 = eqb-false b 0 n in
          let g = guard_some (ltb b 128) (Some (b ∷ bs)) m (rw n at e) in
          subst (λ (y : List ℕ). IsMagnitudeOf (b ∷ bs) y) (some_is (b ∷ bs) m g.1) (record { positive = omega arith; spelled = rw (g.0) refl })
    ]

magnitude_again : (m : List ℕ) → IsMagnitude m → magnitude_of (signed m) ≡ Some m
magnitude_again [] h = absurd h
magnitude_again (b ∷ bs) h =
    elim (cases_lt b 128) [
      | inl low ↦ rw (lt-ltb b 128 low, ne_eqb b 0 (omega arith), lt-ltb b 128 low) refl
      | inr high ↦ rw (le-ltb b 128 high, lt-ltb 127 b (omega arith)) refl
    ]

pub positive_found : (bs : List ℕ) (p : Taken) → positive_at bs ≡ Some p → BeginsWithPositive bs p.0 p.1
unfolding positive_at
positive_found bs p e =
    let t = bind_some (take_at 2 bs) _ p e in
    let m = bind_some (magnitude_of t.0.0) _ p t.2 in
    let f = magnitude_found t.0.0 m.0 m.1 in
    let stands : BeginsWith bs 2 (signed m.0) t.0.1 = subst (λ (y : List ℕ). BeginsWith bs 2 y t.0.1) f.spelled (take_found 2 bs t.0 t.1) in
    subst (λ (q : Taken). BeginsWithPositive bs q.0 q.1) (some_is (m.0, t.0.1) p m.2) (stands, f.positive)

pub positive_again : (bs m rest : List ℕ) → BeginsWithPositive bs m rest → positive_at bs ≡ Some (m, rest)
unfolding positive_at
positive_again bs m rest h = rw (take_again 2 bs (signed m) rest h.0, magnitude_again m h.1) refl

pub version_found : (n : ℕ) (bs rest : List ℕ) → version_at n bs ≡ Some rest → BeginsWith bs 2 (n ∷ []) rest
unfolding version_at
version_found n bs rest e =
    let t = bind_some (take_at 2 bs) _ rest e in
    let g = guard_some (bytes_eq t.0.0 (n ∷ [])) (Some t.0.1) rest t.2 in
    let stands : BeginsWith bs 2 (n ∷ []) t.0.1 = subst (λ (y : List ℕ). BeginsWith bs 2 y t.0.1) (bytes_same t.0.0 (n ∷ []) g.0) (take_found 2 bs t.0 t.1) in
    subst (λ (y : List ℕ). BeginsWith bs 2 (n ∷ []) y) (some_is t.0.1 rest g.1) stands

pub version_again : (n : ℕ) (bs rest : List ℕ) → BeginsWith bs 2 (n ∷ []) rest → version_at n bs ≡ Some rest
unfolding version_at
version_again n bs rest h = rw (take_again 2 bs (n ∷ []) rest h, same_bytes (n ∷ []) (n ∷ []) refl) refl

-- ---- RSA keys

record IsRsaFound (bs : List ℕ) (key : PublicKey) : Type 0 where
  pub m : List ℕ
  pub e : List ℕ
  pub key_is : RsaKey m e ≡ key
  pub stands : IsRsaPublicKey bs m e

rsa_found : (bs : List ℕ) (k : PublicKey) → rsa_public_at bs ≡ Some k → IsRsaFound bs k
unfolding rsa_public_at
rsa_found bs k e =
    let b = bind_some (only_at 48 bs) _ k e in
    let m = bind_some (positive_at b.0) _ k b.2 in
    let x = bind_some (positive_at m.0.1) _ k m.2 in
    let n = bind_some (end_at x.0.1) _ k x.2 in
    let last : BeginsWithPositive m.0.1 x.0.0 [] = subst (λ (r : List ℕ). BeginsWithPositive m.0.1 x.0.0 r) (end_found x.0.1 n.0 n.1) (positive_found m.0.1 x.0 x.1) in
    record { m = m.0.0; e = x.0.0; key_is = some_is _ k n.2; stands = record { body = b.0; inner = m.0.1; whole = only_found 48 bs b.0 b.1; modulus_is = positive_found b.0 m.0 m.1; exponent_is = last } }

rsa_again : (bs m e : List ℕ) → IsRsaPublicKey bs m e → rsa_public_at bs ≡ Some (RsaKey m e)
unfolding rsa_public_at
rsa_again bs m e h = rw (only_again 48 bs h.body h.whole, positive_again h.body m h.inner h.modulus_is, positive_again h.inner e [] h.exponent_is, end_again) refl

pub null_found : (p : Option Value) → is_null p ≡ true → IsNull p
null_found None e = absurd cc
null_found (Some v) e =
    elim (cases_Bool (eqb v.0 5)) [
      | inl t ↦ null_body v (eqb-true v.0 5 t) (rw t at e)
      | inr f ↦ absurd (let z : false ≡ true = rw f at e in cc)
    ]
  where
    empty : (bs : List ℕ) → eqb (length bs) 0 ≡ true → bs ≡ []
    empty [] e = refl
    empty (b ∷ bs) e = absurd (omega (arith, eqb-true (length (b ∷ bs)) 0 e))

    null_body : (v : Value) → v.0 ≡ 5 → eqb (length v.1) 0 ≡ true → some v ≡ some (5, [])
    null_body v t e = ap (λ (n : ℕ). some (valued n v.1)) t ∙ ap (λ (w : List ℕ). some (valued 5 w)) (empty v.1 e)

pub null_again : (p : Option Value) → IsNull p → is_null p ≡ true
null_again p h = rw h refl

-- ---- curves and points

pub curve_found : (oid : List ℕ) (c : KeyKind) → curve_named oid ≡ Some c → NamesCurve oid c
curve_found oid c e =
    elim (cases_Bool (bytes_eq oid SECP256R1)) [
      | inl t ↦ subst (λ (k : KeyKind). NamesCurve oid k) (some_is P256 c (rw t at e)) (bytes_same oid SECP256R1 t)
      | inr f ↦ elim (cases_Bool (bytes_eq oid SECP384R1)) [
        | inl t ↦ subst (λ (k : KeyKind). NamesCurve oid k) (some_is P384 c (rw (f, t) at e)) (bytes_same oid SECP384R1 t)
        | inr g ↦
            let u = guard_some (bytes_eq oid SECP521R1) (Some P521) c (rw (f, g) at e) in
            subst (λ (k : KeyKind). NamesCurve oid k) (some_is P521 c u.1) (bytes_same oid SECP521R1 u.0)
      ]
    ]

pub curve_again : (oid : List ℕ) (c : KeyKind) → NamesCurve oid c → curve_named oid ≡ Some c
curve_again oid P256 h = rw h refl
curve_again oid P384 h = rw h refl
curve_again oid P521 h = rw h refl
curve_again oid (Rsa bits) h = absurd h

pub stated_found : (p : Option Value) (c : KeyKind) → curve_of p ≡ Some c → IsCurve p c
stated_found None c e = absurd cc
stated_found (Some v) c e =
    let g = guard_some (eqb v.0 6) (curve_named v.1) c e in
    let t : v.0 ≡ 6 = eqb-true v.0 6 g.0 in
    (v.1, six v t, curve_found v.1 c g.1)
  where
    six : (v : Value) → v.0 ≡ 6 → some v ≡ some (6, v.1)
    six v t = ap (λ (n : ℕ). some (valued n v.1)) t

pub stated_again : (p : Option Value) (c : KeyKind) → IsCurve p c → curve_of p ≡ Some c
stated_again p c h = rw (h.1) (curve_again h.0 c h.2)

is_point_found : (c : KeyKind) (bits : List ℕ) → is_point c bits ≡ true → IsPoint c bits
is_point_found c [] e = absurd cc
is_point_found c (b ∷ bs) e =
    elim (cases_Bool (eqb b 4)) [
      | inl t ↦ (bs, ap (λ (y : ℕ). y ∷ bs) (eqb-true b 4 t), eqb-true (length bs) (2 * width c) (rw t at e))
      | inr f ↦ absurd (let z : false ≡ true = rw f at e in cc)
    ]

is_point_again : (c : KeyKind) (bits : List ℕ) → IsPoint c bits → is_point c bits ≡ true
is_point_again c bits h = rw (h.1, eq-eqb (length h.0) (2 * width c) h.2) refl

pub record IsPointFound (c : KeyKind) (bits : List ℕ) (key : PublicKey) : Type 0 where
  pub key_is : EcKey c bits ≡ key
  pub stands : IsPoint c bits

pub point_found : (c : KeyKind) (bits : List ℕ) (k : PublicKey) → point_at c bits ≡ Some k → IsPointFound c bits k
unfolding point_at
point_found c bits k e = let g = guard_some (is_point c bits) (Some (EcKey c bits)) k e in record { key_is = some_is (EcKey c bits) k g.1; stands = is_point_found c bits g.0 }

pub point_again : (c : KeyKind) (bits : List ℕ) → IsPoint c bits → point_at c bits ≡ Some (EcKey c bits)
unfolding point_at
point_again c bits h = rw (is_point_again c bits h) refl

pub bits_found : (bs bits : List ℕ) → bits_of bs ≡ Some bits → bs ≡ 0 ∷ bits
unfolding bits_of
bits_found [] bits e = absurd cc
bits_found (b ∷ bs) bits e =
    let g = guard_some (eqb b 0) (Some bs) bits e in
    rw (eqb-true b 0 g.0, some_is bs bits g.1) refl

pub bits_again : (bits : List ℕ) → bits_of (0 ∷ bits) ≡ Some bits
unfolding bits_of
bits_again bits = refl

-- ---- SubjectPublicKeyInfo

key_found : (a : AlgorithmIdentifier) (whole bits : List ℕ) (k : PublicKey) → public_key_at a whole bits ≡ Some k → ArePublicKeyBits a whole bits k
unfolding public_key_at
key_found a whole bits k e =
    elim (cases_Bool (bytes_eq a.oid RSA_ENCRYPTION)) [
      | inl r ↦
          let g = guard_some (is_null a.parameter) (rsa_public_at bits) k (rw r at e) in
          let f = rsa_found bits k g.1 in
          subst (λ (y : PublicKey). ArePublicKeyBits a whole bits y) f.key_is (bytes_same a.oid RSA_ENCRYPTION r, null_found a.parameter g.0, f.stands)
      | inr r ↦ elim (cases_Bool (bytes_eq a.oid EC_PUBLIC_KEY)) [
        | inl c ↦
            let b = bind_some (curve_of a.parameter) (λ d. point_at d bits) k (rw (r, c) at e) in
            let f = point_found b.0 bits k b.2 in
            subst (λ (y : PublicKey). ArePublicKeyBits a whole bits y) f.key_is (bytes_same a.oid EC_PUBLIC_KEY c, stated_found a.parameter b.0 b.1, f.stands, refl)
        | inr c ↦ subst (λ (y : PublicKey). ArePublicKeyBits a whole bits y) (some_is (OtherKey whole) k (rw (r, c) at e)) (bytes_differ a.oid RSA_ENCRYPTION r, bytes_differ a.oid EC_PUBLIC_KEY c, refl)
      ]
    ]

pub rsa_not_ec : (oid : List ℕ) → oid ≡ EC_PUBLIC_KEY → bytes_eq oid RSA_ENCRYPTION ≡ false
rsa_not_ec oid h = rw h refl

key_again : (a : AlgorithmIdentifier) (whole bits : List ℕ) (k : PublicKey) → ArePublicKeyBits a whole bits k → public_key_at a whole bits ≡ Some k
unfolding public_key_at
key_again a whole bits (RsaKey m e) h = rw (same_bytes a.oid RSA_ENCRYPTION h.0, null_again a.parameter h.1) (rsa_again bits m e h.2)
key_again a whole bits (EcKey c p) h = rw (rsa_not_ec a.oid h.0, same_bytes a.oid EC_PUBLIC_KEY h.0, stated_again a.parameter c h.1, h.3) (point_again c p h.2)
key_again a whole bits (OtherKey w) h = rw (other_bytes a.oid RSA_ENCRYPTION h.0, other_bytes a.oid EC_PUBLIC_KEY h.1, h.2) refl

spki_found : (bs : List ℕ) (k : PublicKey) → spki_of bs ≡ Some k → IsSpki bs k
unfolding spki_of
spki_found bs k e =
    let b = bind_some (only_at 48 bs) _ k e in
    let a = bind_some (algorithm_at b.0) _ k b.2 in
    let s = bind_some (only_at 3 a.0.1) _ k a.2 in
    let t = bind_some (bits_of s.0) _ k s.2 in
    record {
      body = b.0;
      algorithm = a.0.0;
      after = a.0.1;
      bits = t.0;
      whole = only_found 48 bs b.0 b.1;
      algorithm_is = algorithm_found b.0 a.0 a.1;
      bits_are = rw (bits_found s.0 t.0 t.1) at (only_found 3 a.0.1 s.0 s.1);
      key_is = key_found a.0.0 bs t.0 k t.2;
    }

spki_again : (bs : List ℕ) (k : PublicKey) → IsSpki bs k → spki_of bs ≡ Some k
unfolding spki_of
spki_again bs k h =
    rw (only_again 48 bs h.body h.whole, algorithm_again h.body h.algorithm h.after h.algorithm_is, only_again 3 h.after (0 ∷ h.bits) h.bits_are, bits_again h.bits)
    (key_again h.algorithm bs h.bits k h.key_is)

pub spki_front_found : (bs : List ℕ) (x : PublicKey × List ℕ) → spki_at bs ≡ Some x → BeginsWithSpki bs x.0 x.1
unfolding spki_at
spki_front_found bs x e =
    let w = bind_some (whole_at bs) _ x e in
    let k = bind_some (spki_of w.0.0) _ x w.2 in
    let f = whole_found bs w.0 w.1 in
    subst (λ (y : PublicKey × List ℕ). BeginsWithSpki bs y.0 y.1) (some_is (k.0, w.0.1) x k.2) (w.0.0, spki_found w.0.0 k.0 k.1, f.3)

pub spki_front_again : (bs : List ℕ) (key : PublicKey) (rest : List ℕ) → BeginsWithSpki bs key rest → spki_at bs ≡ Some (key, rest)
unfolding spki_at
spki_front_again bs key rest h = let s = h.1 in rw (whole_again bs h.0 rest 48 s.body s.whole h.2, spki_again h.0 key s) refl
