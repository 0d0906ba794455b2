-- What stands at the places of an object's members: all are empty where there is no member, and no number is a float.
use Rattle.std.proofs.Common.{◌≡◌, ℕ, List, [], ◌∷◌, Bool, true, false, Option, Some, None, Ok, refl}
use Rattle.std.specs.Prelude.{if◌then◌else◌}
use Rattle.serde_json.specs.Data.{Data, no_members}
use Rattle.cmc_cursor.specs.Members.{Read, fields_of}
use Rattle.cmc_cursor.specs.Readers.{floats_at, floats_in}
use Rattle.cmc_codec.specs.Given.{next_member_or}
use Rattle.cmc_codec.proofs.Slots.{slots, below, is_next, member_or_is, some_option, some_list}

abbrev pub Places : Type 0
Places = List (List ℕ × Option Data)

-- the first, where the test passes
pub passed : {A : Type 0} (b : Bool) (x y : A) → b ≡ true → (if b then x else y) ≡ x
passed true x y e = refl
passed false x y e = cc

-- ---- empty places

abbrev pub AreEmpty : Places → Type 0
AreEmpty [] = Unit {0}
AreEmpty (s ∷ ss) = (s.1 ≡ None) × AreEmpty ss

pub all_empty : (ss : Places) → no_members ≡ slots ss → AreEmpty ss
all_empty [] e = tt
all_empty ((n, None) ∷ ss) e = (refl, all_empty ss e)
all_empty ((n, Some d) ∷ ss) e = absurd (cc)

pub no_option : {A : Type 0} (tree : A → Data) (o : Option A) → some_option tree o ≡ None → o ≡ None
no_option tree None e = refl
no_option tree (Some x) e = absurd (cc)

pub no_list : {A : Type 0} (tree : List A → Data) (xs : List A) → some_list tree xs ≡ None → xs ≡ []
no_list tree [] e = refl
no_list tree (x ∷ xs) e = absurd (cc)

-- ---- lists that are read where they are not empty

pub some_list_next : {A : Type 0} (read : Data → Read (List A)) (tree : List A → Data) (n : List ℕ) (xs : List A) (back : Places)
    → is_next n back ≡ true → ((y : A) (ys : List A) → xs ≡ y ∷ ys → read (tree (y ∷ ys)) ≡ Ok (y ∷ ys)) → next_member_or [] read n (fields_of (slots ((n, some_list tree xs) ∷ back))) ≡ Ok (xs, fields_of (slots back))
some_list_next read tree n [] back h again = member_or_is [] read n None back [] h refl
some_list_next read tree n (x ∷ xs) back h again = member_or_is [] read n (Some (tree (x ∷ xs))) back (x ∷ xs) h (below n (read (tree (x ∷ xs))) (x ∷ xs) (again x xs refl))

-- ---- floats

-- no number at the places is a float
abbrev pub IsClear : Option Data → Type 0
IsClear None = Unit {0}
IsClear (Some d) = floats_at d ≡ Ok tt

abbrev pub AreClear : Places → Type 0
AreClear [] = Unit {0}
AreClear (s ∷ ss) = IsClear s.1 × AreClear ss

pub clear_slots : (ss : Places) → AreClear ss → floats_in (slots ss) ≡ Ok tt
clear_slots [] are = refl
clear_slots ((n, None) ∷ ss) are = clear_slots ss are.1
clear_slots ((n, Some d) ∷ ss) are = rw (are.0, clear_slots ss are.1) refl

pub clear_option : {A : Type 0} (tree : A → Data) (o : Option A) → ((x : A) → floats_at (tree x) ≡ Ok tt) → IsClear (some_option tree o)
clear_option tree None each = tt
clear_option tree (Some x) each = each x

pub clear_list : {A : Type 0} (tree : List A → Data) (xs : List A) → ((ys : List A) → floats_at (tree ys) ≡ Ok tt) → IsClear (some_list tree xs)
clear_list tree [] each = tt
clear_list tree (x ∷ xs) each = each (x ∷ xs)
