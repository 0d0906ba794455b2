-- No two next keys of a Certificate that stand have one name.
use Rattle.std.proofs.Common.{◌≡◌, ◌&&◌, List, [], ◌∷◌, Option, Some, None, Bool, true, false, T, refl, sym, ap, subst, ◌∙◌, inl, inr, Ordering, filter_map}
use Rattle.std.proofs.lemmas.Slice.Eq.{bytes_eq-Decides}
use Rattle.std.specs.Prelude.{if◌then◌else◌}
use Rattle.std.specs.Cmp.{tied_itself}
use Rattle.std.specs.List.{cons_option}
use Rattle.std.specs.FinMap as map
use Rattle.std.specs.FinMap.Entries.{is_sorted, below_all}
use Rattle.std.specs.Ordering.{is_lt}
use Rattle.std.specs.Str.{bytes_eq}
use Rattle.std.proofs.lemmas.Bool.{and_parts}
use Rattle.cmc_meta.specs.declared.key.Key.{Key}
use Rattle.cmc_meta.specs.declared.key.Kind.TheVariants as kinds
use Rattle.cmc_meta.specs.Keys.{key_cmp}
use Rattle.cmc_objects.specs.declared.certificate.Certificate.{Certificate}
use Rattle.cmc_objects.specs.declared.secret.Secret.{Secret as SecretObject}
use Rattle.cmc_objects.specs.declared.object.Object.{Object}
use Rattle.cmc_objects.specs.declared.object.Object.TheVariants.{Cert, Request, Secret}
use Rattle.cmc_objects.specs.declared.entry.Entry.{Entry}
use Rattle.cmc_objects.specs.Objects.{key_of}
use Rattle.cmc_model.specs.Histories.{Setting, objects}
use Rattle.cmc_meta.proofs.KeyOrder.{key_cmp-total}
use Rattle.cmc_rules.specs.Legality.{IsLegal}
use Rattle.cmc_rules.specs.SeenObjects.{IsAmong}
use Rattle.cmc_rules.specs.Views.{is_owned, has_next_label, next_in, next_of}
use Rattle.cmc_rules.proofs.Sighted.{stands_among, picked}
use Rattle.cmc_rules.proofs.Versions.{stands_is_version, version_keyed}

-- ---- of sorted entries

both_of : (a b : Bool) → T (a && b) → T a × T b
both_of true b h = (tt, h)
both_of false b h = absurd h

above : (x : Key) (es : List (Key × Object)) (e : Key × Object) → T (below_all key_cmp x es) → IsAmong e es → T (is_lt (key_cmp x e.0))
above x [] e low is = absurd is
above x (d ∷ es) e low (inl is) = subst (λ (f : Key × Object). T (is_lt (key_cmp x f.0))) is (both_of (is_lt (key_cmp x d.0)) (below_all key_cmp x es) low).0
above x (d ∷ es) e low (inr is) = above x es e (both_of (is_lt (key_cmp x d.0)) (below_all key_cmp x es) low).1 is

-- the two come from entries of which the first stands before the second
pub record ArePicked {B : Type 0} (f : Object → Option B) (es : List (Key × Object)) (x y : B) : Type 0 where
  pub first : Key × Object
  pub second : Key × Object
  pub has_first : IsAmong first es
  pub has_second : IsAmong second es
  pub gives_first : f first.1 ≡ Some x
  pub gives_second : f second.1 ≡ Some y
  pub before : T (is_lt (key_cmp first.0 second.0))

picked_later : {B : Type 0} (f : Object → Option B) (e : Key × Object) (es : List (Key × Object)) (x y : B) → ArePicked f es x y → ArePicked f (e ∷ es) x y
picked_later f e es x y p = record {
  first = p.first;
  second = p.second;
  has_first = inr p.has_first;
  has_second = inr p.has_second;
  gives_first = p.gives_first;
  gives_second = p.gives_second;
  before = p.before;
}

picked_here : {B : Type 0} (f : Object → Option B) (e : Key × Object) (es : List (Key × Object)) (x y : B) → f e.1 ≡ Some x → T (below_all key_cmp e.0 es)
    → IsAmong y (filter_map (λ (d : Key × Object). f d.1) es) → ArePicked f (e ∷ es) x y
picked_here f e es x y gives low there =
    let p = picked (λ (d : Key × Object). f d.1) es y there in record {
      first = e;
      second = p.0;
      has_first = inl refl;
      has_second = inr p.1;
      gives_first = gives;
      gives_second = p.2;
      before = above e.0 es p.0 low p.1;
    }

two_by : {B : Type 0} (f : Object → Option B) (o : Option B) (e : Key × Object) (es : List (Key × Object)) (x y : B) (rest : List B) → f e.1 ≡ o → T (below_all key_cmp e.0 es)
    → cons_option o (filter_map (λ (d : Key × Object). f d.1) es) ≡ x ∷ y ∷ rest → (filter_map (λ (d : Key × Object). f d.1) es ≡ x ∷ y ∷ rest → ArePicked f es x y) → ArePicked f (e ∷ es) x y
two_by f None e es x y rest gives low is below = picked_later f e es x y (below is)
two_by {B} f (Some z) e es x y rest gives low is below =
    let same : z ≡ x = cc is in
    let later : filter_map (λ (d : Key × Object). f d.1) es ≡ y ∷ rest = cc is in
    picked_here f e es x y (gives ∙ ap (λ (b : B). Some b) same) low (subst (λ (l : List B). IsAmong y l) (sym later) (inl refl))

two_picked : {B : Type 0} (f : Object → Option B) (es : List (Key × Object)) (x y : B) (rest : List B) → T (is_sorted key_cmp es) → filter_map (λ (d : Key × Object). f d.1) es ≡ x ∷ y ∷ rest → ArePicked f es x y
two_picked f [] x y rest sorted is = absurd (cc is)
two_picked f (e ∷ es) x y rest sorted is =
    let parts = both_of (below_all key_cmp e.0 es) (is_sorted key_cmp es) sorted in two_by f (f e.1) e es x y rest refl parts.0 is (two_picked f es x y rest parts.1)

-- ---- of next keys

-- what stands under its key is the Secret, in the namespace of the Certificate
next_by : (label owns : Bool) (j k : SecretObject) (c : Certificate) → (if label && owns then Some j else None) ≡ Some k → is_owned c j.meta ≡ owns → (Secret j ≡ Secret k) × (is_owned c k.meta ≡ true)
next_by true true j k c is own = let same : j ≡ k = cc is in (ap Secret same, subst (λ (x : SecretObject). is_owned c x.meta ≡ true) same own)
next_by true false j k c is own = absurd (cc is)
next_by false owns j k c is own = absurd (cc is)

next_there : (c : Certificate) (o : Object) (k : SecretObject) → next_in c o ≡ Some k → (o ≡ Secret k) × (is_owned c k.meta ≡ true)
next_there c (Cert d) k is = absurd (cc is)
next_there c (Request r) k is = absurd (cc is)
next_there c (Secret j) k is = next_by (has_next_label j.meta) (is_owned c j.meta) j k c is refl

in_namespace : (c : Certificate) (k : SecretObject) → is_owned c k.meta ≡ true → k.meta.namespace ≡ c.meta.namespace
in_namespace c k owned = (bytes_eq-Decides k.meta.namespace c.meta.namespace).0 (and_parts (bytes_eq k.meta.namespace c.meta.namespace) _ owned).0

keyed : (s : Setting) (h : List Entry) (e : Key × Object) (k : SecretObject) → IsLegal s h → IsAmong e (map.entries (objects s h)) → e.1 ≡ Secret k → key_of (Secret k) ≡ e.0
keyed s h e k legal among is = version_keyed s h e.0 (Secret k) legal (stands_is_version s h e.0 (Secret k) (stands_among (objects s h) e among ∙ ap Some is))

never_before : (k : Key) → T (is_lt (key_cmp k k)) → ⊥
never_before k less = subst (λ (o : Ordering). T (is_lt o)) (tied_itself key_cmp-total k) less

pub next_apart : (s : Setting) (h : List Entry) (c : Certificate) (k j : SecretObject) (ks : List SecretObject) → IsLegal s h → next_of (objects s h) c ≡ k ∷ j ∷ ks → k.meta.name ≡ j.meta.name → ⊥
next_apart s h c k j ks legal is name =
    let p = two_picked (next_in c) (map.entries (objects s h)) k j ks (map.entries_sorted (objects s h)) is in
    let one = next_there c p.first.1 k p.gives_first in
    let two = next_there c p.second.1 j p.gives_second in
    let namespace = in_namespace c k one.1 ∙ sym (in_namespace c j two.1) in
    let key : key_of (Secret k) ≡ key_of (Secret j) = λ i. record { kind = kinds.Secret; namespace = namespace i; name = name i } in
    let same : p.first.0 ≡ p.second.0 = sym (keyed s h p.first k legal p.has_first one.0) ∙ key ∙ keyed s h p.second j legal p.has_second two.0 in
    never_before p.second.0 (subst (λ (x : Key). T (is_lt (key_cmp x p.second.0))) same p.before)
