-- A file of a private key that is read is in the grammar, and one of the grammar is read.
use Rattle.std.proofs.Common.{◌≡◌, ℕ, true, leb, List, [], ◌∷◌, length, Option, Some, None, Result, Ok, Err, refl, sym, ap, subst, ◌∙◌, inl, inr}
use Rattle.std.proofs.lemmas.Bool.{eqb-true, eq-eqb, cases_Bool, leb-true, le-leb}
use Rattle.std.specs.Str.{bytes_eq}
use Rattle.std.specs.Prelude.{◌↔◌, IfOk, IsErr}
use Rattle.cmc_der.specs.declared.fields.Spki.{Spki}
use Rattle.cmc_x509.specs.declared.taking.NotForm.{NotForm}
use Rattle.cmc_der.specs.declared.fields.KeyKind.{KeyKind}
use Rattle.cmc_der.specs.declared.fields.KeyKind.TheVariants.{Rsa, P256, P384, P521}
use Rattle.cmc_der.specs.Values.{IsDerValue}
use Rattle.cmc_der.specs.Keys.{PublicKey, RsaKey, EcKey, OtherKey, same_kind, key_shown}
use Rattle.cmc_x509.specs.declared.oids.TheConstants.{RSA_ENCRYPTION, EC_PUBLIC_KEY}
use Rattle.cmc_x509.specs.declared.taking.TheConstants.{MAX_INPUT}
use Rattle.cmc_x509.specs.Options.{Gives, Value, BeginsWithOptional, ◌>>=◌, take_at, end_at, only_at, optional_value_at}
use Rattle.cmc_x509.specs.Lists.{first_at}
use Rattle.cmc_x509.specs.Names.{IsRequestAttribute}
use Rattle.cmc_x509.specs.PublicKeys.{AlgorithmIdentifier, BeginsWithInteger, NamesCurve}
use Rattle.cmc_x509.specs.KeyFiles.{IsIntegers, IsRsaPrivateKey, IsAgreed, IsEcPrivateKey, IsAround, IsPrivateKeyOf, AreAttributes, IsPrivateKeyInfo, IsPrivateKey, IsKeyFile}
use Rattle.cmc_x509.specs.ReadNames.{request_attribute_of}
use Rattle.cmc_x509.specs.ReadKeys.{algorithm_at, integer_at, positive_at, version_at, curve_named, curve_of, is_null, bits_of, three_at, six_at, rsa_private_at, curve_inside_at, agreed_curve, ec_private_at, attributes_at, around_of, private_key_of_at, private_key_info_at, or_else, private_key_at, key_file_at}
use Rattle.cmc_x509.proofs.TakingLaws.{some, some_is, bind_some, guard_some, take_found, take_again, take_other, end_found, end_again, only_found, only_again, optional_found, optional_again, bytes_same, same_bytes}
use Rattle.cmc_x509.proofs.ListLaws.{list_found, list_again}
use Rattle.cmc_x509.proofs.NameLaws.{request_attribute_found, request_attribute_again}
use Rattle.cmc_x509.proofs.KeyLaws.{algorithm_found, algorithm_again, integer_found, integer_again, positive_found, positive_again, version_found, version_again, null_found, null_again, curve_found, curve_again, stated_found, stated_again, point_found, point_again, bits_found, bits_again, rsa_not_ec}

-- ---- six INTEGERs

record IsThree (bs rest : List ℕ) : Type 0 where
  pub b0 : List ℕ
  pub b1 : List ℕ
  pub b2 : List ℕ
  pub r0 : List ℕ
  pub r1 : List ℕ
  pub first : BeginsWithInteger bs b0 r0
  pub second : BeginsWithInteger r0 b1 r1
  pub third : BeginsWithInteger r1 b2 rest

three_found : (bs rest : List ℕ) → three_at bs ≡ Some rest → IsThree bs rest
unfolding three_at
three_found bs rest e =
    let a = bind_some (integer_at bs) _ rest e in
    let b = bind_some (integer_at a.0.1) _ rest a.2 in
    let c = bind_some (integer_at b.0.1) _ rest b.2 in
    subst (λ (r : List ℕ). IsThree bs r) (some_is c.0.1 rest c.2)
    (record { b0 = a.0.0; b1 = b.0.0; b2 = c.0.0; r0 = a.0.1; r1 = b.0.1; first = integer_found bs a.0 a.1; second = integer_found a.0.1 b.0 b.1; third = integer_found b.0.1 c.0 c.1 })

six_found : (bs : List ℕ) (n : ℕ) → six_at bs ≡ Some n → IsIntegers 6 bs
unfolding six_at
six_found bs n e =
    let x = bind_some (three_at bs) _ n e in
    let y = bind_some (three_at x.0) _ n x.2 in
    let a = three_found bs x.0 x.1 in
    let b = three_found x.0 y.0 y.1 in
    (a.b0, a.r0, a.first, (a.b1, a.r1, a.second, (a.b2, x.0, a.third, (b.b0, b.r0, b.first, (b.b1, b.r1, b.second, (b.b2, y.0, b.third, end_found y.0 n y.2))))))

three_again : (bs b0 r0 b1 r1 b2 rest : List ℕ) → BeginsWithInteger bs b0 r0 → BeginsWithInteger r0 b1 r1 → BeginsWithInteger r1 b2 rest → three_at bs ≡ Some rest
unfolding three_at
three_again bs b0 r0 b1 r1 b2 rest f s t = rw (integer_again bs b0 r0 f, integer_again r0 b1 r1 s, integer_again r1 b2 rest t) refl

six_again : (bs : List ℕ) → IsIntegers 6 bs → six_at bs ≡ Some 0
unfolding six_at
six_again bs h =
    let h1 = h.3 in let h2 = h1.3 in let h3 = h2.3 in let h4 = h3.3 in let h5 = h4.3 in
    rw (three_again bs h.0 h.1 h1.0 h1.1 h2.0 h2.1 h.2 h1.2 h2.2, three_again h2.1 h3.0 h3.1 h4.0 h4.1 h5.0 h5.1 h3.2 h4.2 h5.2, h5.3) end_again

-- ---- RSAPrivateKey

pub record IsRsaFound (bs : List ℕ) (key : PublicKey) : Type 0 where
  pub m : List ℕ
  pub e : List ℕ
  pub key_is : RsaKey m e ≡ key
  pub stands : IsRsaPrivateKey bs m e

rsa_found : (bs : List ℕ) (k : PublicKey) → rsa_private_at bs ≡ Some k → IsRsaFound bs k
unfolding rsa_private_at
rsa_found bs k e =
    let b = bind_some (only_at 48 bs) _ k e in
    let v = bind_some (version_at 0 b.0) _ k b.2 in
    let m = bind_some (positive_at v.0) _ k v.2 in
    let x = bind_some (positive_at m.0.1) _ k m.2 in
    let o = bind_some (six_at x.0.1) _ k x.2 in
    record {
      m = m.0.0;
      e = x.0.0;
      key_is = some_is _ k o.2;
      stands = record {
        body = b.0;
        r0 = v.0;
        r1 = m.0.1;
        r2 = x.0.1;
        whole = only_found 48 bs b.0 b.1;
        version = version_found 0 b.0 v.0 v.1;
        modulus_is = positive_found v.0 m.0 m.1;
        exponent_is = positive_found m.0.1 x.0 x.1;
        others = six_found x.0.1 o.0 o.1;
      };
    }

rsa_again : (bs m e : List ℕ) → IsRsaPrivateKey bs m e → rsa_private_at bs ≡ Some (RsaKey m e)
unfolding rsa_private_at
rsa_again bs m e h = rw (only_again 48 bs h.body h.whole, version_again 0 h.body h.r0 h.version, positive_again h.r0 m h.r1 h.modulus_is, positive_again h.r1 e h.r2 h.exponent_is, six_again h.r2 h.others) refl

-- ---- ECPrivateKey

kind_same : (a b : KeyKind) → same_kind a b ≡ true → a ≡ b
kind_same (Rsa m) (Rsa n) e = ap (λ (k : ℕ). Rsa k) (eqb-true m n e)
kind_same (Rsa m) P256 e = absurd cc
kind_same (Rsa m) P384 e = absurd cc
kind_same (Rsa m) P521 e = absurd cc
kind_same P256 (Rsa n) e = absurd cc
kind_same P256 P256 e = refl
kind_same P256 P384 e = absurd cc
kind_same P256 P521 e = absurd cc
kind_same P384 (Rsa n) e = absurd cc
kind_same P384 P256 e = absurd cc
kind_same P384 P384 e = refl
kind_same P384 P521 e = absurd cc
kind_same P521 (Rsa n) e = absurd cc
kind_same P521 P256 e = absurd cc
kind_same P521 P384 e = absurd cc
kind_same P521 P521 e = refl

kind_itself : (a : KeyKind) → same_kind a a ≡ true
kind_itself (Rsa m) = eq-eqb m m refl
kind_itself P256 = refl
kind_itself P384 = refl
kind_itself P521 = refl

inside_found : (around : Option KeyKind) (inside : List ℕ) (d : KeyKind) → curve_inside_at around inside ≡ Some d → IsAgreed around (Some inside) d
unfolding curve_inside_at
inside_found None inside d e =
    let o = bind_some (only_at 6 inside) _ d e in
    let c = bind_some (curve_named o.0) _ d o.2 in
    (o.0, only_found 6 inside o.0 o.1, subst (λ (k : KeyKind). NamesCurve o.0 k) (some_is c.0 d c.2) (curve_found o.0 c.0 c.1))
inside_found (Some a) inside d e =
    let o = bind_some (only_at 6 inside) _ d e in
    let c = bind_some (curve_named o.0) _ d o.2 in
    let g = guard_some (same_kind a c.0) (Some c.0) d c.2 in
    let same : c.0 ≡ d = some_is c.0 d g.1 in
    (o.0, only_found 6 inside o.0 o.1, subst (λ (k : KeyKind). NamesCurve o.0 k) same (curve_found o.0 c.0 c.1), kind_same a c.0 g.0 ∙ same)

agreed_curve_found : (around : Option KeyKind) (parameters : Option (List ℕ)) (d : KeyKind) → agreed_curve around parameters ≡ Some d → IsAgreed around parameters d
agreed_curve_found None None d e = absurd cc
agreed_curve_found (Some a) None d e = some_is a d e
agreed_curve_found around (Some inside) d e = inside_found around inside d e

agreed_curve_again : (around : Option KeyKind) (parameters : Option (List ℕ)) (d : KeyKind) → IsAgreed around parameters d → agreed_curve around parameters ≡ Some d
unfolding curve_inside_at
agreed_curve_again None None d h = absurd h
agreed_curve_again (Some a) None d h = ap some h
agreed_curve_again None (Some inside) d h = rw (only_again 6 inside h.0 h.1, curve_again h.0 d h.2) refl
agreed_curve_again (Some a) (Some inside) d h = rw (only_again 6 inside h.0 h.1, curve_again h.0 d h.2, h.3, kind_itself d) refl

pub record IsEcFound (around : Option KeyKind) (bs : List ℕ) (key : PublicKey) : Type 0 where
  pub curve : KeyKind
  pub point : List ℕ
  pub key_is : EcKey curve point ≡ key
  pub stands : IsEcPrivateKey around bs curve point

ec_found : (around : Option KeyKind) (bs : List ℕ) (k : PublicKey) → ec_private_at around bs ≡ Some k → IsEcFound around bs k
unfolding ec_private_at
ec_found around bs k e =
    let b = bind_some (only_at 48 bs) _ k e in
    let v = bind_some (version_at 1 b.0) _ k b.2 in
    let s = bind_some (take_at 4 v.0) _ k v.2 in
    let p = bind_some (optional_value_at 160 s.0.1) _ k s.2 in
    let q = bind_some (only_at 161 p.0.1) _ k p.2 in
    let t = bind_some (only_at 3 q.0) _ k q.2 in
    let u = bind_some (bits_of t.0) _ k t.2 in
    let c = bind_some (agreed_curve around p.0.0) _ k u.2 in
    let f = point_found c.0 u.0 k c.2 in
    record {
      curve = c.0;
      point = u.0;
      key_is = f.key_is;
      stands = record {
        body = b.0;
        r0 = v.0;
        r1 = s.0.1;
        r2 = p.0.1;
        secret = s.0.0;
        parameters = p.0.0;
        public_key = q.0;
        whole = only_found 48 bs b.0 b.1;
        version = version_found 1 b.0 v.0 v.1;
        secret_is = take_found 4 v.0 s.0 s.1;
        parameters_are = optional_found 160 s.0.1 p.0 p.1;
        public_key_is = only_found 161 p.0.1 q.0 q.1;
        bits_are = subst (λ (y : List ℕ). IsDerValue q.0 3 y) (bits_found t.0 u.0 u.1) (only_found 3 q.0 t.0 t.1);
        curve_is = agreed_curve_found around p.0.0 c.0 c.1;
        point_is = f.stands;
      };
    }

ec_again : (around : Option KeyKind) (bs : List ℕ) (curve : KeyKind) (point : List ℕ) → IsEcPrivateKey around bs curve point → ec_private_at around bs ≡ Some (EcKey curve point)
unfolding ec_private_at
ec_again around bs curve point h =
    rw (
      only_again 48 bs h.body h.whole,
      version_again 1 h.body h.r0 h.version,
      take_again 4 h.r0 h.secret h.r1 h.secret_is,
      optional_again 160 h.r1 h.parameters h.r2 h.parameters_are,
      only_again 161 h.r2 h.public_key h.public_key_is,
      only_again 3 h.public_key (0 ∷ point) h.bits_are,
      bits_again point,
      agreed_curve_again around h.parameters curve h.curve_is,
    )
    (point_again curve point h.point_is)

-- ---- PrivateKeyInfo

attributes_found : (o : Option (List ℕ)) (n : ℕ) → attributes_at o ≡ Some n → AreAttributes o
attributes_found None n e = tt
attributes_found (Some bs) n e = let l = bind_some (first_at request_attribute_of bs) _ n e in (l.0, list_found request_attribute_of IsRequestAttribute request_attribute_found bs l.0 l.1)

attributes_again : (o : Option (List ℕ)) → AreAttributes o → attributes_at o ≡ Some 0
attributes_again None h = refl
attributes_again (Some bs) h = rw (list_again request_attribute_of IsRequestAttribute request_attribute_again bs h.0 h.1) refl

around_found : (p : Option Value) (around : Option KeyKind) → around_of p ≡ Some around → IsAround p around
around_found None around e = subst (λ (a : Option KeyKind). IsAround None a) (some_is None around e) refl
around_found (Some v) around e =
    let c = bind_some (curve_of (Some v)) (λ k. some (some k)) around e in
    subst (λ (a : Option KeyKind). IsAround (Some v) a) (some_is (some c.0) around c.2) (stated_found (Some v) c.0 c.1)

around_again : (p : Option Value) (around : Option KeyKind) → IsAround p around → around_of p ≡ Some around
around_again p None h = rw h refl
around_again None (Some c) h = absurd (let e = h.1 in cc)
around_again (Some v) (Some c) h = rw (stated_again (Some v) c h) refl

held_found : (a : AlgorithmIdentifier) (bs : List ℕ) (k : PublicKey) → private_key_of_at a bs ≡ Some k → IsPrivateKeyOf a bs k
unfolding private_key_of_at
held_found a bs k e =
    elim (cases_Bool (bytes_eq a.oid RSA_ENCRYPTION)) [
      | inl r ↦
          let g = guard_some (is_null a.parameter) (rsa_private_at bs) k (rw r at e) in
          let f = rsa_found bs k g.1 in
          subst (λ (y : PublicKey). IsPrivateKeyOf a bs y) f.key_is (bytes_same a.oid RSA_ENCRYPTION r, null_found a.parameter g.0, f.stands)
      | inr r ↦
          let g = guard_some (bytes_eq a.oid EC_PUBLIC_KEY) (around_of a.parameter >>= (λ around. ec_private_at around bs)) k (rw r at e) in
          let b = bind_some (around_of a.parameter) (λ around. ec_private_at around bs) k g.1 in
          let f = ec_found b.0 bs k b.2 in
          subst (λ (y : PublicKey). IsPrivateKeyOf a bs y) f.key_is (bytes_same a.oid EC_PUBLIC_KEY g.0, (b.0, around_found a.parameter b.0 b.1, f.stands))
    ]

held_again : (a : AlgorithmIdentifier) (bs : List ℕ) (k : PublicKey) → IsPrivateKeyOf a bs k → private_key_of_at a bs ≡ Some k
unfolding private_key_of_at
held_again a bs (RsaKey m e) h = rw (same_bytes a.oid RSA_ENCRYPTION h.0, null_again a.parameter h.1) (rsa_again bs m e h.2)
held_again a bs (EcKey c p) h = let k = h.1 in rw (rsa_not_ec a.oid h.0, same_bytes a.oid EC_PUBLIC_KEY h.0, around_again a.parameter k.0 k.1) (ec_again k.0 bs c p k.2)
held_again a bs (OtherKey w) h = absurd h

info_found : (bs : List ℕ) (k : PublicKey) → private_key_info_at bs ≡ Some k → IsPrivateKeyInfo bs k
unfolding private_key_info_at
info_found bs k e =
    let b = bind_some (only_at 48 bs) _ k e in
    let v = bind_some (version_at 0 b.0) _ k b.2 in
    let a = bind_some (algorithm_at v.0) _ k v.2 in
    let p = bind_some (take_at 4 a.0.1) _ k a.2 in
    let o = bind_some (optional_value_at 160 p.0.1) _ k p.2 in
    let n = bind_some (end_at o.0.1) _ k o.2 in
    let t = bind_some (attributes_at o.0.0) _ k n.2 in
    let last : BeginsWithOptional p.0.1 160 o.0.0 [] = subst (λ (r : List ℕ). BeginsWithOptional p.0.1 160 o.0.0 r) (end_found o.0.1 n.0 n.1) (optional_found 160 p.0.1 o.0 o.1) in
    record {
      body = b.0;
      r0 = v.0;
      r1 = a.0.1;
      r2 = p.0.1;
      algorithm = a.0.0;
      private_key = p.0.0;
      attributes = o.0.0;
      whole = only_found 48 bs b.0 b.1;
      version = version_found 0 b.0 v.0 v.1;
      algorithm_is = algorithm_found v.0 a.0 a.1;
      private_key_is = take_found 4 a.0.1 p.0 p.1;
      attributes_stand = last;
      attributes_are = attributes_found o.0.0 t.0 t.1;
      key_is = held_found a.0.0 p.0.0 k t.2;
    }

info_again : (bs : List ℕ) (k : PublicKey) → IsPrivateKeyInfo bs k → private_key_info_at bs ≡ Some k
unfolding private_key_info_at
info_again bs k h =
    rw (
      only_again 48 bs h.body h.whole,
      version_again 0 h.body h.r0 h.version,
      algorithm_again h.r0 h.algorithm h.r1 h.algorithm_is,
      take_again 4 h.r1 h.private_key h.r2 h.private_key_is,
      optional_again 160 h.r2 h.attributes [] h.attributes_stand,
      end_again,
      attributes_again h.attributes h.attributes_are,
    )
    (held_again h.algorithm h.private_key k h.key_is)

-- ---- one of the three, and no two of them

ec_is_not_rsa : (bs : List ℕ) (curve : KeyKind) (point : List ℕ) → IsEcPrivateKey None bs curve point → rsa_private_at bs ≡ None
unfolding rsa_private_at version_at
ec_is_not_rsa bs curve point h = rw (only_again 48 bs h.body h.whole, take_again 2 h.body (1 ∷ []) h.r0 h.version) refl

info_is_not_rsa : (bs : List ℕ) (k : PublicKey) → IsPrivateKeyInfo bs k → rsa_private_at bs ≡ None
unfolding rsa_private_at positive_at
info_is_not_rsa bs k h =
    rw (only_again 48 bs h.body h.whole, version_again 0 h.body h.r0 h.version, take_other 2 48 h.r0 h.algorithm_is.body h.r1 h.algorithm_is.whole (λ e. absurd cc)) refl

info_is_not_ec : (bs : List ℕ) (k : PublicKey) → IsPrivateKeyInfo bs k → ec_private_at None bs ≡ None
unfolding ec_private_at version_at
info_is_not_ec bs k h = rw (only_again 48 bs h.body h.whole, take_again 2 h.body (0 ∷ []) h.r0 h.version) refl

abbrev nothing : Option PublicKey
nothing = None

first_info : (bs : List ℕ) (k : PublicKey) → IsPrivateKeyInfo bs k → IsPrivateKey bs k
first_info bs (RsaKey m e) h = inr h
first_info bs (EcKey c p) h = inr h
first_info bs (OtherKey w) h = absurd h.key_is

by_cases : (bs : List ℕ) (k : PublicKey) (r s : Option PublicKey) → rsa_private_at bs ≡ r → ec_private_at None bs ≡ s → or_else r (or_else s (private_key_info_at bs)) ≡ Some k → IsPrivateKey bs k
by_cases bs k (Some x) s e f h = let g = rsa_found bs k (e ∙ h) in subst (λ (y : PublicKey). IsPrivateKey bs y) g.key_is (inl g.stands)
by_cases bs k None (Some x) e f h = let g = ec_found None bs k (f ∙ h) in subst (λ (y : PublicKey). IsPrivateKey bs y) g.key_is (inl g.stands)
by_cases bs k None None e f h = first_info bs k (info_found bs k h)

private_key_found : (bs : List ℕ) (k : PublicKey) → private_key_at bs ≡ Some k → IsPrivateKey bs k
unfolding private_key_at
private_key_found bs k e = by_cases bs k (rsa_private_at bs) (ec_private_at None bs) refl refl e

private_key_again : (bs : List ℕ) (k : PublicKey) → IsPrivateKey bs k → private_key_at bs ≡ Some k
unfolding private_key_at
private_key_again bs (RsaKey m e) (inl h) = rw (rsa_again bs m e h) refl
private_key_again bs (RsaKey m e) (inr h) = rw (info_is_not_rsa bs (RsaKey m e) h, info_is_not_ec bs (RsaKey m e) h) (info_again bs (RsaKey m e) h)
private_key_again bs (EcKey c p) (inl h) = rw (ec_is_not_rsa bs c p h, ec_again None bs c p h) refl
private_key_again bs (EcKey c p) (inr h) = rw (info_is_not_rsa bs (EcKey c p) h, info_is_not_ec bs (EcKey c p) h) (info_again bs (EcKey c p) h)
private_key_again bs (OtherKey w) h = absurd h

pub key_file_found : (bs : List ℕ) (k : PublicKey) → key_file_at bs ≡ Some k → IsKeyFile bs k
unfolding key_file_at
key_file_found bs k e = let g = guard_some (leb (length bs) MAX_INPUT) (private_key_at bs) k e in (leb-true (length bs) MAX_INPUT g.0, private_key_found bs k g.1)

pub key_file_again : (bs : List ℕ) (k : PublicKey) → IsKeyFile bs k → key_file_at bs ≡ Some k
unfolding key_file_at
key_file_again bs k h = rw (le-leb (length bs) MAX_INPUT h.0) (private_key_again bs k h.1)

-- ---- what the code answers

pub answer_found : (r : Result Spki NotForm) (bs : List ℕ) → Gives key_shown r (key_file_at bs) → IfOk r (λ k. IsKeyFile bs (key_shown k))
answer_found (Ok k) bs e = key_file_found bs (key_shown k) e
answer_found (Err d) bs e = tt

pub answer_only : (r : Result Spki NotForm) (bs : List ℕ) → Gives key_shown r (key_file_at bs) → (key : PublicKey) → IsKeyFile bs key → Gives key_shown r (Some key)
answer_only r bs e key h = rw (key_file_again bs key h) at e

none_is_not : (k : PublicKey) (r : Option PublicKey) → r ≡ nothing → r ≡ some k → ⊥
none_is_not k r e f = let z : nothing ≡ some k = sym e ∙ f in cc

pub answer_refused : (r : Result Spki NotForm) (bs : List ℕ) → Gives key_shown r (key_file_at bs) → IsErr r ↔ ((k : PublicKey) → IsKeyFile bs k → ⊥)
answer_refused (Ok k) bs e = (λ h. absurd cc, λ h. absurd (h (key_shown k) (key_file_found bs (key_shown k) e)))
answer_refused (Err d) bs e = (λ h k f. none_is_not k (key_file_at bs) e (key_file_again bs k f), λ h. refl)
