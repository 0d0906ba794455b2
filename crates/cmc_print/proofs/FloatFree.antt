-- What is built without floats has none.
use Rattle.std.proofs.Common.{[], ◌∷◌, ◌++◌, ◌≡◌, ℕ, List, false, refl}
use Rattle.serde_json.specs.Data.{Data, Members, no_members, member, put}
use Rattle.std.specs.Prelude.{◌||◌}
use Rattle.std.specs.declared.cmp.Ordering.{Ordering}
use Rattle.std.specs.declared.cmp.Ordering.TheVariants.{Less, Equal, Greater}
use Rattle.std.specs.Ordering.{match_ordering, nat_cmp}
use Rattle.std.specs.Cmp.Lexicographic.{slice_cmp}
use Rattle.std.proofs.lemmas.Bool.{or_parts}
use Rattle.serde_json.specs.View.{view, items_view}
use Rattle.serde_json.specs.declared.value.Value.{Value}
use Rattle.serde_json.specs.Written.{has_float, items_have_float, members_have_float}

choice_has_none : (o : Ordering) (a b c : Members) → members_have_float a ≡ false → members_have_float b ≡ false → members_have_float c ≡ false
    → members_have_float (match_ordering o a b c) ≡ false
choice_has_none Less a b c p q r = p
choice_has_none Equal a b c p q r = q
choice_has_none Greater a b c p q r = r

member_has_none : (name : List ℕ) (d : Data) (ms : Members) → has_float d ≡ false → members_have_float ms ≡ false → members_have_float (member name d ms) ≡ false
member_has_none name d ms first rest = rw (first, rest) refl

pub put_has_none : (name : List ℕ) (d : Data) (ms : Members) → has_float d ≡ false → members_have_float ms ≡ false → members_have_float (put name d ms) ≡ false
put_has_none name d no_members h none = member_has_none name d no_members h refl
put_has_none name d (member other e ms) h none =
    let parts : (has_float e ≡ false) × (members_have_float ms ≡ false) = or_parts (has_float e) (members_have_float ms) none in
    choice_has_none (slice_cmp nat_cmp name other) _ _ _
    (member_has_none name d (member other e ms) h none)
    (member_has_none other d ms h parts.1)
    (member_has_none other e (put name d ms) parts.0 (put_has_none name d ms h parts.1))

pub push_has_none : (vs : List Value) (v : Value) → items_have_float (items_view vs) ≡ false → has_float (view v) ≡ false → items_have_float (items_view (vs ++ v ∷ [])) ≡ false
push_has_none [] v h one = rw one refl
push_has_none (w ∷ vs) v h one =
    let parts : (has_float (view w) ≡ false) × (items_have_float (items_view vs) ≡ false) = or_parts (has_float (view w)) (items_have_float (items_view vs)) h in
    rw (parts.0, push_has_none vs v parts.1 one) refl
