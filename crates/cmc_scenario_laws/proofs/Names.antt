-- What stands at a name among places.
use Rattle.std.proofs.Common.{◌≡◌, ℕ, List, [], ◌∷◌, Bool, true, ◌&&◌, Option, Some, None, refl, sym}
use Rattle.std.specs.declared.cmp.Ordering.{Ordering}
use Rattle.std.specs.declared.cmp.Ordering.TheVariants.{Less, Equal, Greater}
use Rattle.std.specs.Ordering.{nat_cmp, match_ordering}
use Rattle.std.specs.Cmp.Lexicographic.{slice_cmp}
use Rattle.std.proofs.lemmas.Bool.{and_parts}
use Rattle.serde_json.specs.Data.{Data, string, object}
use Rattle.serde_json.specs.Find.{get_member}
use Rattle.cmc_cursor.specs.Readers.{text_member}
use Rattle.cmc_codec.proofs.Slots.{slot, slots, is_less, is_greater, is_before}

abbrev Places : Type 0
Places = List (List ℕ × Option Data)

less : (o : Ordering) → is_less o ≡ true → o ≡ Less
less Less h = refl
less Equal h = cc
less Greater h = cc

behind : (n m : List ℕ) (back : Places) → (is_less (slice_cmp nat_cmp n m) && (is_greater (slice_cmp nat_cmp m n) && is_before n back)) ≡ true → is_before n back ≡ true
behind n m back h = (and_parts (is_greater (slice_cmp nat_cmp m n)) (is_before n back) (and_parts (is_less (slice_cmp nat_cmp n m)) (is_greater (slice_cmp nat_cmp m n) && is_before n back) h).1).1

below_it : (n m : List ℕ) (back : Places) → (is_less (slice_cmp nat_cmp n m) && (is_greater (slice_cmp nat_cmp m n) && is_before n back)) ≡ true → is_less (slice_cmp nat_cmp n m) ≡ true
below_it n m back h = (and_parts (is_less (slice_cmp nat_cmp n m)) (is_greater (slice_cmp nat_cmp m n) && is_before n back) h).0

abbrev pub at_name : List ℕ → Places → Option Data
at_name n [] = None
at_name n (s ∷ ss) = match_ordering (slice_cmp nat_cmp n s.0) (at_name n ss) s.1 (at_name n ss)

-- no place behind that of the name has the name too
abbrev pub is_once : List ℕ → Places → Bool
is_once n [] = true
is_once n (s ∷ ss) = match_ordering (slice_cmp nat_cmp n s.0) (is_once n ss) (is_before n ss) (is_once n ss)

none_there : (n : List ℕ) (back : Places) → is_before n back ≡ true → get_member n (slots back) ≡ None
none_there n [] h = refl
none_there n ((m, None) ∷ back) h = none_there n back (behind n m back h)
none_there n ((m, Some d) ∷ back) h = rw (less (slice_cmp nat_cmp n m) (below_it n m back h)) (none_there n back (behind n m back h))

get_place : (o : Ordering) (n m : List ℕ) (v : Option Data) (ss : Places) → o ≡ slice_cmp nat_cmp n m
    → match_ordering o (is_once n ss) (is_before n ss) (is_once n ss) ≡ true
    → (is_once n ss ≡ true → get_member n (slots ss) ≡ at_name n ss)
    → get_member n (slot m v (slots ss)) ≡ match_ordering o (at_name n ss) v (at_name n ss)
get_place Less n m None ss e h rest = rest h
get_place Less n m (Some d) ss e h rest = rw (sym e) (rest h)
get_place Equal n m None ss e h rest = none_there n ss h
get_place Equal n m (Some d) ss e h rest = rw (sym e) refl
get_place Greater n m None ss e h rest = rest h
get_place Greater n m (Some d) ss e h rest = rw (sym e) (rest h)

pub get_is : (n : List ℕ) (ss : Places) → is_once n ss ≡ true → get_member n (slots ss) ≡ at_name n ss
get_is n [] h = refl
get_is n (s ∷ ss) h = get_place (slice_cmp nat_cmp n s.0) n s.0 s.1 ss refl h (get_is n ss)

-- the text that stands at a name
pub word_is : (n word : List ℕ) (ss : Places) → is_once n ss ≡ true → at_name n ss ≡ Some (string word) → text_member n (object (slots ss)) ≡ Some word
word_is n word ss h e = rw (get_is n ss h, e) refl
