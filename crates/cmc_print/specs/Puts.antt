-- Members that may be left out.
use Rattle.std.specs.Prelude.{ℕ, List, [], ◌∷◌, map, Bool, true, false, Some, None}
use Rattle.std.specs.declared.option.Option.{Option}
use Rattle.base64.specs.Engines.{standard}
use Rattle.base64.specs.GeneralPurpose.{encode_of}
use Rattle.serde_json.specs.Data.{Data, boolean, string, array, object, Members, no_members, member, put}
use Rattle.serde_json.specs.View.{items_of}

-- A member that is left out where there is no value.
abbrev pub put_option : {A : Type 0} → (A → Data) → List ℕ → Option A → Members → Members
put_option tree name None ms = ms
put_option tree name (Some x) ms = put name (tree x) ms

-- A member that is left out where the text, list or map is empty.
abbrev pub put_list : {A : Type 0} → (List A → Data) → List ℕ → List A → Members → Members
put_list tree name [] ms = ms
put_list tree name (x ∷ xs) ms = put name (tree (x ∷ xs)) ms

-- A member that stands only where it is true.
abbrev pub put_true : List ℕ → Bool → Members → Members
put_true name false ms = ms
put_true name true ms = put name (boolean true) ms

-- An object that is left out where it has no members.
abbrev pub put_object : List ℕ → Members → Members → Members
put_object name no_members ms = ms
put_object name (member first d rest) ms = put name (object (member first d rest)) ms

abbrev pub strings : List (List ℕ) → Data
strings texts = array (items_of (map string texts))

-- Bytes are written as standard base64 with padding (RFC 4648).
abbrev pub base64_text : List ℕ → Data
base64_text bytes = string (encode_of standard bytes)

-- The members with each pair of the list put, one after another.
abbrev pub put_all : (List ℕ → Data) → List (List ℕ × List ℕ) → Members → Members
put_all tree [] ms = ms
put_all tree (p ∷ ps) ms = put_all tree ps (put p.0 (tree p.1) ms)

abbrev pub map_tree : (List ℕ → Data) → List (List ℕ × List ℕ) → Data
map_tree tree pairs = object (put_all tree pairs no_members)
