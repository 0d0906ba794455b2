-- Lists of values that are written are lists of values that are read.
use Rattle.std.proofs.Common.{◌≡◌, ◌≢◌, ℕ, ◌%◌, List, [], ◌∷◌, ◌++◌, Option, Some, None, refl, append_assoc, flat_map}
use Rattle.cmc_der.specs.Builders.{value}
use Rattle.cmc_der.proofs.SmallValues.{IsSmall, front_small, back_small, value_last}
use Rattle.cmc_x509.specs.Options.{Value, BeginsOtherwise}
use Rattle.cmc_x509.specs.Lists.{IsValues, IsValueList, IsListOf, or_first}

-- a value of another tag
pub begins_otherwise : (tag other : ℕ) (body rest : List ℕ) → other ≢ tag → BeginsOtherwise tag (value other body ++ rest)
unfolding value
begins_otherwise tag other body rest differ = differ

pub is_otherwise : (tag other : ℕ) (body : List ℕ) → other ≢ tag → BeginsOtherwise tag (value other body)
unfolding value
is_otherwise tag other body differ = differ

found_alone : (found : Option (List ℕ)) → found ≡ or_first found None
found_alone None = refl
found_alone (Some x) = refl

-- one value is a list of one
pub list_of_one : (R : Value → Option (List ℕ) → Type 0) (tag : ℕ) (body : List ℕ) (found : Option (List ℕ)) → tag % 32 ≢ 31 → IsSmall (value tag body) → R (tag, body) found → IsListOf R (value tag body) found
list_of_one R tag body found low small h =
    ((tag, body) ∷ [], ([], value_last tag body low small, refl), (found, None, h, refl, found_alone found))

-- values one behind the other
pub values_joined : (a b : List ℕ) (vs ws : List Value) → IsValues a vs → IsValues b ws → IsValues (a ++ b) (vs ++ ws)
values_joined a b [] ws h k = rw h k
values_joined a b (v ∷ vs) ws h k =
    let rest = h.0 in
    let whole = h.1.0 in
    let there : a ++ b ≡ whole ++ (rest ++ b) = rw (h.1.2) (append_assoc whole rest b) in
    (rest ++ b, (whole, h.1.1, there), values_joined rest b vs ws h.2 k)

pub lists_joined : (a b : List ℕ) → IsValueList a → IsValueList b → IsValueList (a ++ b)
lists_joined a b h k = (h.0 ++ k.0, values_joined a b h.0 k.0 h.1 k.1)

pub no_values : IsValueList []
no_values = ([], refl)

pub one_value : (tag : ℕ) (body : List ℕ) → tag % 32 ≢ 31 → IsSmall (value tag body) → IsValueList (value tag body)
one_value tag body low small = ((tag, body) ∷ [], ([], value_last tag body low small, refl))

-- a list of values for each of several things
pub flat_values : (f : List ℕ → List ℕ) → ((x : List ℕ) → IsSmall (f x) → IsValueList (f x)) → (xs : List (List ℕ)) → IsSmall (flat_map f xs) → IsValueList (flat_map f xs)
flat_values f each [] small = no_values
flat_values f each (x ∷ xs) small =
    lists_joined (f x) (flat_map f xs) (each x (front_small (f x) (flat_map f xs) small)) (flat_values f each xs (back_small (f x) (flat_map f xs) small))
