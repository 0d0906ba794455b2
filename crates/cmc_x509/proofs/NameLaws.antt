-- A name that is read is in the grammar, and one of the grammar is read; so extensions and attributes.
use Rattle.std.proofs.Common.{◌≡◌, ℕ, cond, eqb, List, [], ◌∷◌, Option, Some, None, refl, sym, subst, inl, inr}
use Rattle.std.proofs.lemmas.Bool.{eqb-true, eq-eqb, cases_Bool}
use Rattle.std.specs.Str.{bytes_eq}
use Rattle.cmc_der.specs.Values.{IsDerValue, BeginsWith}
use Rattle.cmc_x509.specs.declared.oids.TheConstants.{SUBJECT_ALT_NAME, EXTENSION_REQUEST}
use Rattle.cmc_x509.specs.Options.{Value, Maybe, value_at, take_at, end_at, only_at, optional_value_at}
use Rattle.cmc_x509.specs.Lists.{IsValueList, or_first, FirstOf, IsListOf, first_at, any_value}
use Rattle.cmc_x509.specs.Names.{IsAttribute, IsRdn, BeginsWithName, IsTrueOrAbsent, IsExtensionValue, IsExtension, IsExtensions, IsAttributeValue, IsRequestAttribute}
use Rattle.cmc_x509.specs.ReadNames.{inside, attribute_of, rdn_of, distinguished_name_at, true_or_absent, general_names_at, extension_value_at, extension_of, extensions_of, request_attribute_of}
use Rattle.cmc_x509.proofs.TakingLaws.{some, some_is, bind_some, guard_some, take_found, take_again, value_found, value_again, end_found, end_again, only_found, only_again, optional_found, optional_again, whole_from_begins, begins_from_whole, bytes_same, bytes_differ, same_bytes, other_bytes}
use Rattle.cmc_x509.proofs.ListLaws.{list_found, list_again, any_found, any_again}

-- the contents of a value of this tag
record IsInside (tag : ℕ) (v : Value) (body : List ℕ) : Type 0 where
  pub tag_is : v.0 ≡ tag
  pub body_is : v.1 ≡ body

inside_found : (tag : ℕ) (v : Value) (body : List ℕ) → inside tag v ≡ Some body → IsInside tag v body
inside_found tag v body e = let g = guard_some (eqb v.0 tag) (Some v.1) body e in record { tag_is = eqb-true _ _ g.0; body_is = some_is v.1 body g.1 }

inside_again : (tag : ℕ) (v : Value) → v.0 ≡ tag → inside tag v ≡ Some v.1
inside_again tag v e = rw (eq-eqb v.0 tag e) refl

pub attribute_found : (v : Value) (common : Option (List ℕ)) → attribute_of v ≡ Some common → IsAttribute v common
unfolding attribute_of
attribute_found v common e =
    let b = bind_some (inside 48 v) _ common e in
    let i = inside_found 48 v b.0 b.1 in
    let o = bind_some (take_at 6 b.0) _ common b.2 in
    let t = bind_some (value_at o.0.1) _ common o.2 in
    let n = bind_some (end_at t.0.2) _ common t.2 in
    record {
      oid = o.0.0;
      rest = o.0.1;
      text = (t.0.0, t.0.1);
      sequence = i.tag_is;
      type_is = subst (λ (x : List ℕ). BeginsWith x 6 o.0.0 o.0.1) (sym i.body_is) (take_found 6 b.0 o.0 o.1);
      value_is = whole_from_begins o.0.1 t.0.0 t.0.1 t.0.2 (value_found o.0.1 t.0 t.1) (end_found t.0.2 n.0 n.1);
      gives = sym (some_is _ common n.2);
    }

pub attribute_again : (v : Value) (common : Option (List ℕ)) → IsAttribute v common → attribute_of v ≡ Some common
unfolding attribute_of
attribute_again v common h = rw (inside_again 48 v h.sequence, take_again 6 v.1 h.oid h.rest h.type_is, value_again h.rest h.text.0 h.text.1 [] (begins_from_whole h.rest h.text.0 h.text.1 h.value_is), end_again, h.gives) refl

pub rdn_found : (v : Value) (common : Option (List ℕ)) → rdn_of v ≡ Some common → IsRdn v common
unfolding rdn_of
rdn_found v common e =
    let b = bind_some (inside 49 v) _ common e in
    let i = inside_found 49 v b.0 b.1 in
    (i.tag_is, subst (λ (x : List ℕ). IsListOf IsAttribute x common) (sym i.body_is) (list_found attribute_of IsAttribute attribute_found b.0 common b.2))

pub rdn_again : (v : Value) (common : Option (List ℕ)) → IsRdn v common → rdn_of v ≡ Some common
unfolding rdn_of
rdn_again v common h = rw (inside_again 49 v h.0) (list_again attribute_of IsAttribute attribute_again v.1 common h.1)

pub name_found : (bs : List ℕ) (x : Maybe) → distinguished_name_at bs ≡ Some x → BeginsWithName bs x.0 x.1
unfolding distinguished_name_at
name_found bs x e =
    let b = bind_some (take_at 48 bs) _ x e in
    let c = bind_some (first_at rdn_of b.0.0) _ x b.2 in
    subst (λ (y : Maybe). BeginsWithName bs y.0 y.1) (some_is _ x c.2) (b.0.0, take_found 48 bs b.0 b.1, list_found rdn_of IsRdn rdn_found b.0.0 c.0 c.1)

pub name_again : (bs : List ℕ) (common : Option (List ℕ)) (rest : List ℕ) → BeginsWithName bs common rest → distinguished_name_at bs ≡ Some (common, rest)
unfolding distinguished_name_at
name_again bs common rest h = rw (take_again 48 bs h.0 rest h.1, list_again rdn_of IsRdn rdn_again h.0 common h.2) refl

-- ---- extensions

true_found : (o : Option (List ℕ)) (n : ℕ) → true_or_absent o ≡ Some n → IsTrueOrAbsent o
true_found None n e = tt
true_found (Some body) n e = bytes_same body (255 ∷ []) (guard_some (bytes_eq body (255 ∷ [])) (Some 0) n e).0

true_again : (o : Option (List ℕ)) → IsTrueOrAbsent o → true_or_absent o ≡ Some 0
true_again None h = refl
true_again (Some body) h = rw (same_bytes body (255 ∷ []) h) refl

general_names_found : (bs names : List ℕ) → general_names_at bs ≡ Some names → IsDerValue bs 48 names × IsValueList names
unfolding general_names_at
general_names_found bs names e =
    let b = bind_some (only_at 48 bs) _ names e in
    let l = bind_some (first_at any_value b.0) _ names b.2 in
    subst (λ (y : List ℕ). IsDerValue bs 48 y × IsValueList y) (some_is b.0 names l.2) (only_found 48 bs b.0 b.1, any_found b.0 l.0 l.1)

general_names_again : (bs names : List ℕ) → IsDerValue bs 48 names → IsValueList names → general_names_at bs ≡ Some names
unfolding general_names_at
general_names_again bs names v h = rw (only_again 48 bs names v, any_again names h) refl

extension_value_found : (oid contents : List ℕ) (names : Option (List ℕ)) → extension_value_at oid contents ≡ Some names → IsExtensionValue oid contents names
unfolding extension_value_at
extension_value_found oid contents names e =
    elim (cases_Bool (bytes_eq oid SUBJECT_ALT_NAME)) [
      | inl t ↦
          let b = bind_some (general_names_at contents) (λ n. some (some n)) names (rw t at e) in
          let g = general_names_found contents b.0 b.1 in
          subst (λ (y : Option (List ℕ)). IsExtensionValue oid contents y) (some_is (some b.0) names b.2) (bytes_same oid SUBJECT_ALT_NAME t, g.0, g.1)
      | inr t ↦ subst (λ (y : Option (List ℕ)). IsExtensionValue oid contents y) (some_is None names (rw t at e)) (bytes_differ oid SUBJECT_ALT_NAME t)
    ]

extension_value_again : (oid contents : List ℕ) (names : Option (List ℕ)) → IsExtensionValue oid contents names → extension_value_at oid contents ≡ Some names
unfolding extension_value_at
extension_value_again oid contents None h = rw (other_bytes oid SUBJECT_ALT_NAME h) refl
extension_value_again oid contents (Some names) h = rw (same_bytes oid SUBJECT_ALT_NAME h.0, general_names_again contents names h.1 h.2) refl

pub extension_found : (v : Value) (names : Option (List ℕ)) → extension_of v ≡ Some names → IsExtension v names
unfolding extension_of
extension_found v names e =
    let b = bind_some (inside 48 v) _ names e in
    let i = inside_found 48 v b.0 b.1 in
    let o = bind_some (take_at 6 b.0) _ names b.2 in
    let c = bind_some (optional_value_at 1 o.0.1) _ names o.2 in
    let t = bind_some (true_or_absent c.0.0) _ names c.2 in
    let w = bind_some (only_at 4 c.0.1) _ names t.2 in
    record {
      oid = o.0.0;
      critical = c.0.0;
      contents = w.0;
      r0 = o.0.1;
      r1 = c.0.1;
      sequence = i.tag_is;
      id_is = subst (λ (x : List ℕ). BeginsWith x 6 o.0.0 o.0.1) (sym i.body_is) (take_found 6 b.0 o.0 o.1);
      critical_stands = optional_found 1 o.0.1 c.0 c.1;
      critical_is = true_found c.0.0 t.0 t.1;
      value_is = only_found 4 c.0.1 w.0 w.1;
      gives = extension_value_found o.0.0 w.0 names w.2;
    }

pub extension_again : (v : Value) (names : Option (List ℕ)) → IsExtension v names → extension_of v ≡ Some names
unfolding extension_of
extension_again v names h =
    rw (inside_again 48 v h.sequence, take_again 6 v.1 h.oid h.r0 h.id_is, optional_again 1 h.r0 h.critical h.r1 h.critical_stands, true_again h.critical h.critical_is, only_again 4 h.r1 h.contents h.value_is)
    (extension_value_again h.oid h.contents names h.gives)

extensions_found : (v : Value) (names : Option (List ℕ)) → extensions_of v ≡ Some names → IsExtensions v names
unfolding extensions_of
extensions_found v names e =
    let b = bind_some (inside 48 v) _ names e in
    let i = inside_found 48 v b.0 b.1 in
    (i.tag_is, subst (λ (x : List ℕ). IsListOf IsExtension x names) (sym i.body_is) (list_found extension_of IsExtension extension_found b.0 names b.2))

extensions_again : (v : Value) (names : Option (List ℕ)) → IsExtensions v names → extensions_of v ≡ Some names
unfolding extensions_of
extensions_again v names h = rw (inside_again 48 v h.0) (list_again extension_of IsExtension extension_again v.1 names h.1)

-- ---- attributes of requests

abbrev given : List ℕ → List ℕ → Option (Option (List ℕ))
given oid set = cond (bytes_eq oid EXTENSION_REQUEST) (first_at extensions_of set) (Some None)

given_found : (oid set : List ℕ) (names : Option (List ℕ)) → given oid set ≡ Some names → IsAttributeValue oid set names
given_found oid set names e =
    elim (cases_Bool (bytes_eq oid EXTENSION_REQUEST)) [
      | inl t ↦ inr (bytes_same oid EXTENSION_REQUEST t, list_found extensions_of IsExtensions extensions_found set names (rw t at e))
      | inr t ↦ inl (bytes_differ oid EXTENSION_REQUEST t, sym (some_is None names (rw t at e)))
    ]

given_again : (oid set : List ℕ) (names : Option (List ℕ)) → IsAttributeValue oid set names → given oid set ≡ Some names
given_again oid set names (inl h) = rw (other_bytes oid EXTENSION_REQUEST h.0, h.1) refl
given_again oid set names (inr h) = rw (same_bytes oid EXTENSION_REQUEST h.0) (list_again extensions_of IsExtensions extensions_again set names h.1)

pub request_attribute_found : (v : Value) (names : Option (List ℕ)) → request_attribute_of v ≡ Some names → IsRequestAttribute v names
unfolding request_attribute_of
request_attribute_found v names e =
    let b = bind_some (inside 48 v) _ names e in
    let i = inside_found 48 v b.0 b.1 in
    let o = bind_some (take_at 6 b.0) _ names b.2 in
    let s = bind_some (only_at 49 o.0.1) _ names o.2 in
    record {
      oid = o.0.0;
      rest = o.0.1;
      set = s.0;
      sequence = i.tag_is;
      type_is = subst (λ (x : List ℕ). BeginsWith x 6 o.0.0 o.0.1) (sym i.body_is) (take_found 6 b.0 o.0 o.1);
      set_is = only_found 49 o.0.1 s.0 s.1;
      gives = given_found o.0.0 s.0 names s.2;
    }

pub request_attribute_again : (v : Value) (names : Option (List ℕ)) → IsRequestAttribute v names → request_attribute_of v ≡ Some names
unfolding request_attribute_of
request_attribute_again v names h =
    rw (inside_again 48 v h.sequence, take_again 6 v.1 h.oid h.rest h.type_is, only_again 49 h.rest h.set h.set_is) (given_again h.oid h.set names h.gives)

-- ---- alternative names are a list of values

-- the names that are given, if any are, are a list of values
abbrev pub AreValues : Option (List ℕ) → Type 0
AreValues None = Unit {0}
AreValues (Some names) = IsValueList names

either_values : (here later : Option (List ℕ)) → AreValues here → AreValues later → AreValues (or_first here later)
either_values (Some names) later h l = h
either_values None later h l = l

first_values : (R : Value → Option (List ℕ) → Type 0) → ((v : Value) (x : Option (List ℕ)) → R v x → AreValues x) → (vs : List Value) (found : Option (List ℕ)) → FirstOf R vs found → AreValues found
first_values R k [] found h = subst AreValues (sym h) tt
first_values R k (v ∷ vs) found h = subst AreValues (sym h.4) (either_values h.0 h.1 (k v h.0 h.2) (first_values R k vs h.1 h.3))

list_values : (R : Value → Option (List ℕ) → Type 0) → ((v : Value) (x : Option (List ℕ)) → R v x → AreValues x) → (bs : List ℕ) (found : Option (List ℕ)) → IsListOf R bs found → AreValues found
list_values R k bs found h = first_values R k h.0 found h.2

value_values : (oid contents : List ℕ) (names : Option (List ℕ)) → IsExtensionValue oid contents names → AreValues names
value_values oid contents None h = tt
value_values oid contents (Some names) h = h.2

one_extension_values : (v : Value) (names : Option (List ℕ)) → IsExtension v names → AreValues names
one_extension_values v names h = value_values h.oid h.contents names h.gives

pub extension_values : (bs : List ℕ) (names : Option (List ℕ)) → IsListOf IsExtension bs names → AreValues names
extension_values = list_values IsExtension one_extension_values

extensions_values : (v : Value) (names : Option (List ℕ)) → IsExtensions v names → AreValues names
extensions_values v names h = extension_values v.1 names h.1

given_values : (oid set : List ℕ) (names : Option (List ℕ)) → IsAttributeValue oid set names → AreValues names
given_values oid set names (inl h) = subst AreValues (sym h.1) tt
given_values oid set names (inr h) = list_values IsExtensions extensions_values set names h.1

one_attribute_values : (v : Value) (names : Option (List ℕ)) → IsRequestAttribute v names → AreValues names
one_attribute_values v names h = given_values h.oid h.set names h.gives

pub attribute_values : (bs : List ℕ) (names : Option (List ℕ)) → IsListOf IsRequestAttribute bs names → AreValues names
attribute_values = list_values IsRequestAttribute one_attribute_values
