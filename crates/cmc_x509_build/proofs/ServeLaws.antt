-- What was read serves what is built: the names and the key of a request, and the key of a file.
use Rattle.std.proofs.Common.{◌≡◌, inl, inr, ℕ, List, [], ◌∷◌, Option, Some, None, IsSome, refl, sym, subst}
use Rattle.std.proofs.lemmas.Bool.{false≢true}
use Rattle.std.proofs.lemmas.Option.{none-some, same_Some}
use Rattle.cmc_der.specs.declared.fields.KeyKind.{KeyKind}
use Rattle.cmc_der.specs.declared.fields.KeyKind.TheVariants.{Rsa, P256, P384, P521}
use Rattle.cmc_der.specs.Keys.{PublicKey, RsaKey, EcKey, OtherKey, RequestFields, key_kind_of}
use Rattle.cmc_x509.specs.Options.{Value}
use Rattle.cmc_x509.specs.Lists.{IsValueList, FirstOf, IsListOf, or_first}
use Rattle.cmc_x509.specs.Names.{IsExtension, IsExtensions, IsRequestAttribute}
use Rattle.cmc_x509.specs.PublicKeys.{AlgorithmIdentifier, NamesCurve, ArePublicKeyBits}
use Rattle.cmc_x509.specs.KeyFiles.{IsRsaPrivateKey, IsAgreed, IsEcPrivateKey, IsAround, IsPrivateKeyOf, IsPrivateKey, IsKeyFile}
use Rattle.cmc_x509.specs.Certificates.{IsRequest, or_none}
use Rattle.cmc_x509_build.specs.Keys.{IsNamedCurve, IsWritable}
use Rattle.cmc_x509_build.proofs.ValueLaws.{no_values}

-- what the first of several values gives is a list of values, if what each gives is one
first_gives : (R : Value → Option (List ℕ) → Type 0) → ((v : Value) (x : List ℕ) → R v (Some x) → IsValueList x) → (vs : List Value) (x : List ℕ) → FirstOf R vs (Some x) → IsValueList x
first_gives R each [] x h = absurd (none-some x (sym h))
first_gives R each (v ∷ vs) x h = go h.0 h.1 h.2 h.3 h.4 (first_gives R each vs)
  where
    go : (here later : Option (List ℕ)) → R v here → FirstOf R vs later → Some x ≡ or_first here later → ((y : List ℕ) → FirstOf R vs (Some y) → IsValueList y) → IsValueList x
    go (Some y) later r f e rest = subst IsValueList (sym (same_Some x y e)) (each v y r)
    go None (Some y) r f e rest = subst IsValueList (sym (same_Some x y e)) (rest y f)
    go None None r f e rest = absurd (none-some x (sym e))

list_gives : (R : Value → Option (List ℕ) → Type 0) → ((v : Value) (x : List ℕ) → R v (Some x) → IsValueList x) → (octets x : List ℕ) → IsListOf R octets (Some x) → IsValueList x
list_gives R each octets x h = first_gives R each h.0 x h.2

extension_gives : (v : Value) (x : List ℕ) → IsExtension v (Some x) → IsValueList x
extension_gives v x h = h.gives.2

extensions_give : (v : Value) (x : List ℕ) → IsExtensions v (Some x) → IsValueList x
extensions_give v x h = list_gives IsExtension extension_gives v.1 x h.1

attribute_gives : (v : Value) (x : List ℕ) → IsRequestAttribute v (Some x) → IsValueList x
attribute_gives v x h = elim h.gives [
  | inl none ↦ absurd (none-some x (sym none.1))
  | inr some ↦ list_gives IsExtensions extensions_give h.set x some.1
]

found_values : (found : Option (List ℕ)) (names attributes : List ℕ) → IsListOf IsRequestAttribute attributes found → names ≡ or_none found → IsValueList names
found_values None names attributes h e = subst IsValueList (sym e) no_values
found_values (Some x) names attributes h e = subst IsValueList (sym e) (list_gives IsRequestAttribute attribute_gives attributes x h)

named_curve : (curve : KeyKind) (oid : List ℕ) → NamesCurve oid curve → IsNamedCurve curve
named_curve P256 oid h = tt
named_curve P384 oid h = tt
named_curve P521 oid h = tt
named_curve (Rsa bits) oid h = absurd h

writable_key : (key : PublicKey) (a : AlgorithmIdentifier) (whole bits : List ℕ) → ArePublicKeyBits a whole bits key → IsSome (key_kind_of key) → IsWritable key
writable_key (RsaKey m e) a whole bits h known = (h.2.modulus_is.1, h.2.exponent_is.1)
writable_key (EcKey curve point) a whole bits h known = (named_curve curve h.1.0 h.1.2, h.2)
writable_key (OtherKey w) a whole bits h known = absurd (false≢true known)

pub request_serves : (octets : List ℕ) (fields : RequestFields) → IsRequest octets fields → IsValueList fields.names.alternative × (IsSome (key_kind_of fields.key) → IsWritable fields.key)
request_serves octets fields h =
    let info = h.is in
    let key = info.key_is.1 in
    (found_values info.found fields.names.alternative info.attributes info.attributes_are info.alternative_is, λ known. writable_key fields.key key.algorithm info.key_is.0 key.bits key.key_is known)

-- ---- files of keys

agreed_curve : (around : Option KeyKind) (inside : Option (List ℕ)) (curve : KeyKind) → ((c : KeyKind) → around ≡ Some c → IsNamedCurve c) → IsAgreed around inside curve → IsNamedCurve curve
agreed_curve None None curve known h = absurd h
agreed_curve (Some c) None curve known h = subst IsNamedCurve h (known c refl)
agreed_curve None (Some inside) curve known h = named_curve curve h.0 h.2
agreed_curve (Some c) (Some inside) curve known h = named_curve curve h.0 h.2

around_named : (parameter : Option Value) (around : Option KeyKind) → IsAround parameter around → (c : KeyKind) → around ≡ Some c → IsNamedCurve c
around_named parameter None h c e = absurd (none-some c e)
around_named parameter (Some d) h c e = subst IsNamedCurve (same_Some d c e) (named_curve d h.0 h.2)

ec_writable : (around : Option KeyKind) (octets : List ℕ) (curve : KeyKind) (point : List ℕ) → ((c : KeyKind) → around ≡ Some c → IsNamedCurve c) → IsEcPrivateKey around octets curve point → IsWritable (EcKey curve point)
ec_writable around octets curve point known h = (agreed_curve around h.parameters curve known h.curve_is, h.point_is)

rsa_writable : (octets m e : List ℕ) → IsRsaPrivateKey octets m e → IsWritable (RsaKey m e)
rsa_writable octets m e h = (h.modulus_is.1, h.exponent_is.1)

held_writable : (key : PublicKey) (a : AlgorithmIdentifier) (octets : List ℕ) → IsPrivateKeyOf a octets key → IsWritable key
held_writable (RsaKey m e) a octets h = rsa_writable octets m e h.2
held_writable (EcKey curve point) a octets h = ec_writable h.1.0 octets curve point (around_named a.parameter h.1.0 h.1.1) h.1.2
held_writable (OtherKey w) a octets h = absurd h

private_writable : (key : PublicKey) (octets : List ℕ) → IsPrivateKey octets key → IsWritable key
private_writable (RsaKey m e) octets (inl h) = rsa_writable octets m e h
private_writable (RsaKey m e) octets (inr h) = held_writable (RsaKey m e) h.algorithm h.private_key h.key_is
private_writable (EcKey curve point) octets (inl h) = ec_writable None octets curve point (λ c e. absurd (none-some c e)) h
private_writable (EcKey curve point) octets (inr h) = held_writable (EcKey curve point) h.algorithm h.private_key h.key_is
private_writable (OtherKey w) octets h = absurd h

pub key_file_serves : (octets : List ℕ) (key : PublicKey) → IsKeyFile octets key → IsWritable key
key_file_serves octets key h = private_writable key octets h.1
