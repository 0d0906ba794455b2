-- What stands under a name after a pair was put into a list of pairs, or taken out of it.
use Rattle.std.proofs.Common.{◌≡◌, ℕ, List, [], ◌∷◌, Bool, true, false, not, cond, Option, Some, None, refl, sym, ap, subst, ◌∙◌, inl, inr, Ordering, Less, Equal, Greater}
use Rattle.std.proofs.lemmas.Bool.{cases_Bool}
use Rattle.std.proofs.lemmas.Map.Text.{is_eq-slice_cmp}
use Rattle.std.proofs.lemmas.Slice.Eq.{bytes_eq-Decides}
use Rattle.std.specs.Ordering.{nat_cmp, match_ordering, is_eq}
use Rattle.std.specs.Str.{bytes_eq}
use Rattle.std.specs.Cmp.Lexicographic.{slice_cmp}
use Rattle.std.specs.FinMap.{slice_cmp-IsAntisymmetric, nat_cmp-IsAntisymmetric}
use Rattle.std.specs.BTreeMap.{is_at}
use Rattle.std.specs.Map.{keys_of}
use Rattle.std.specs.List.{AllByRecursion}
use Rattle.std.specs.List.Sorted.{IsStrictlySortedBy}
use Rattle.cmc_meta.specs.PairLists.{text_by_key, with_text, without_text}
use Rattle.cmc_rules.specs.Issuance.{without}

abbrev Entries : Type 0
Entries = List (List ℕ × List ℕ)

-- the name is that of the pair
abbrev pub is_name : List ℕ → List ℕ → Bool
is_name name = is_at (slice_cmp nat_cmp name)

itself : (name : List ℕ) → is_name name name ≡ true
itself name = is_eq-slice_cmp name name ∙ (bytes_eq-Decides name name).1 refl

equal_names : (left right : List ℕ) → slice_cmp nat_cmp left right ≡ Equal → left ≡ right
equal_names left right is = slice_cmp-IsAntisymmetric nat_cmp-IsAntisymmetric left right is

-- ---- put under this name

put_by : (name text : List ℕ) (e : List ℕ × List ℕ) (es later : Entries) (o : Ordering) → slice_cmp nat_cmp name e.0 ≡ o → text_by_key later name ≡ Some text
    → text_by_key (match_ordering o ((name, text) ∷ e ∷ es) ((e.0, text) ∷ es) (e ∷ later)) name ≡ Some text
put_by name text e es later Less is below = ap (λ (b : Bool). cond b (Some text) (text_by_key (e ∷ es) name)) (itself name)
put_by name text e es later Equal is below = ap (λ (o : Ordering). cond (is_eq o) (Some text) (text_by_key es name)) is
put_by name text e es later Greater is below = ap (λ (o : Ordering). cond (is_eq o) (Some e.1) (text_by_key later name)) is ∙ below

pub put_stands : (pairs : Entries) (name text : List ℕ) → text_by_key (with_text pairs name text) name ≡ Some text
put_stands [] name text = ap (λ (b : Bool). cond b (Some text) None) (itself name)
put_stands (e ∷ es) name text = put_by name text e es (with_text es name text) (slice_cmp nat_cmp name e.0) refl (put_stands es name text)

-- ---- put under another name

beside_by : (name text other : List ℕ) (e : List ℕ × List ℕ) (es later : Entries) (o : Ordering) → slice_cmp nat_cmp name e.0 ≡ o → is_name other name ≡ false → text_by_key later other ≡ text_by_key es other
    → text_by_key (match_ordering o ((name, text) ∷ e ∷ es) ((e.0, text) ∷ es) (e ∷ later)) other ≡ text_by_key (e ∷ es) other
beside_by name text other e es later Less is apart below = ap (λ (b : Bool). cond b (Some text) (text_by_key (e ∷ es) other)) apart
beside_by name text other e es later Equal is apart below =
    let first : is_name other e.0 ≡ false = subst (λ (x : List ℕ). is_name other x ≡ false) (equal_names name e.0 is) apart in
    ap (λ (b : Bool). cond b (Some text) (text_by_key es other)) first ∙ sym (ap (λ (b : Bool). cond b (Some e.1) (text_by_key es other)) first)
beside_by name text other e es later Greater is apart below = ap (λ (x : Option (List ℕ)). cond (is_name other e.0) (Some e.1) x) below

pub put_beside : (pairs : Entries) (name text other : List ℕ) → is_name other name ≡ false → text_by_key (with_text pairs name text) other ≡ text_by_key pairs other
put_beside [] name text other apart = ap (λ (b : Bool). cond b (Some text) None) apart
put_beside (e ∷ es) name text other apart =
    beside_by name text other e es (with_text es name text) (slice_cmp nat_cmp name e.0) refl apart (put_beside es name text other apart)

-- ---- taken out

differs : (name other : List ℕ) → bytes_eq other name ≡ false → is_name name other ≡ false
differs name other is =
    elim (cases_Bool (bytes_eq name other)) [
      | inl same ↦ let back : bytes_eq other name ≡ true = (bytes_eq-Decides other name).1 (sym ((bytes_eq-Decides name other).0 same)) in absurd (cc (back, is))
      | inr apart ↦ is_eq-slice_cmp name other ∙ apart
    ]

none_by : (b : Bool) (name : List ℕ) (e : List ℕ × List ℕ) (left : Entries) → bytes_eq e.0 name ≡ b → text_by_key left name ≡ None → text_by_key (cond (not b) (e ∷ left) left) name ≡ None
none_by true name e left is none = none
none_by false name e left is none = ap (λ (b : Bool). cond b (Some e.1) (text_by_key left name)) (differs name e.0 is) ∙ none

pub out_of : (pairs : Entries) (name : List ℕ) → text_by_key (without name pairs) name ≡ None
out_of [] name = refl
out_of (e ∷ es) name = none_by (bytes_eq e.0 name) name e (without name es) refl (out_of es name)

left_by : (b : Bool) (name other : List ℕ) (e : List ℕ × List ℕ) (left es : Entries) → bytes_eq e.0 name ≡ b → is_name other name ≡ false → text_by_key left other ≡ text_by_key es other
    → text_by_key (cond (not b) (e ∷ left) left) other ≡ text_by_key (e ∷ es) other
left_by true name other e left es is apart below =
    let first : is_name other e.0 ≡ false = subst (λ (x : List ℕ). is_name other x ≡ false) (sym ((bytes_eq-Decides e.0 name).0 is)) apart in
    below ∙ sym (ap (λ (b : Bool). cond b (Some e.1) (text_by_key es other)) first)
left_by false name other e left es is apart below = ap (λ (x : Option (List ℕ)). cond (is_name other e.0) (Some e.1) x) below

pub out_beside : (pairs : Entries) (name other : List ℕ) → is_name other name ≡ false → text_by_key (without name pairs) other ≡ text_by_key pairs other
out_beside [] name other apart = refl
out_beside (e ∷ es) name other apart = left_by (bytes_eq e.0 name) name other e (without name es) es refl apart (out_beside es name other apart)

-- ---- in the order of names one pair at most has a name, so it is the one that is taken out

later_name : (name other : List ℕ) → slice_cmp nat_cmp name other ≡ Less → bytes_eq other name ≡ false
later_name name other is =
    elim (cases_Bool (bytes_eq other name)) [
      | inl same ↦
          let one : is_name name other ≡ true = subst (λ (x : List ℕ). is_name name x ≡ true) (sym ((bytes_eq-Decides other name).0 same)) (itself name) in
          let less : is_name name other ≡ false = ap is_eq is in
          absurd (cc (one, less))
      | inr apart ↦ apart
    ]

none_later : (name : List ℕ) (es : Entries) → AllByRecursion (λ other. slice_cmp nat_cmp name other ≡ Less) (keys_of es) → without name es ≡ es
none_later name [] later = refl
none_later name (e ∷ es) later = ap (λ (b : Bool). cond (not b) (e ∷ without name es) (without name es)) (later_name name e.0 later.0) ∙ ap (λ (l : Entries). e ∷ l) (none_later name es later.1)

first_by : (b : Bool) (name : List ℕ) (e : List ℕ × List ℕ) (es : Entries) → bytes_eq e.0 name ≡ b → AllByRecursion (λ other. slice_cmp nat_cmp e.0 other ≡ Less) (keys_of es)
    → without_text es name ≡ without name es → without_text (e ∷ es) name ≡ cond (not b) (e ∷ without name es) (without name es)
first_by true name e es is later rest =
    let same : e.0 ≡ name = (bytes_eq-Decides e.0 name).0 is in
    let here : is_name name e.0 ≡ true = subst (λ (x : List ℕ). is_name name x ≡ true) (sym same) (itself name) in
    let gone : without name es ≡ es = none_later name es (subst (λ (x : List ℕ). AllByRecursion (λ other. slice_cmp nat_cmp x other ≡ Less) (keys_of es)) same later) in
    ap (λ (b : Bool). cond b es (e ∷ without_text es name)) here ∙ sym gone
first_by false name e es is later rest =
    ap (λ (b : Bool). cond b es (e ∷ without_text es name)) (differs name e.0 is) ∙ ap (λ (l : Entries). e ∷ l) rest

pub taken_out : (pairs : Entries) (name : List ℕ) → IsStrictlySortedBy (slice_cmp nat_cmp) (keys_of pairs) → without_text pairs name ≡ without name pairs
unfolding IsStrictlySortedBy
taken_out [] name sorted = refl
taken_out (e ∷ es) name sorted = first_by (bytes_eq e.0 name) name e es refl sorted.0 (taken_out es name sorted.1)
