-- What reading a JSON value gives: the thing that it stands for, or the first failing path.
use Rattle.std.specs.Prelude.{◌≡◌, ℕ, List, [], ◌∷◌, ◌++◌, codes, Ok, Err, Some, None}
use Rattle.std.specs.declared.option.Option.{Option}
use Rattle.std.specs.declared.result.Result.{Result}
use Rattle.std.specs.Ordering.{nat_cmp, match_ordering}
use Rattle.std.specs.Cmp.Lexicographic.{slice_cmp}
use Rattle.serde_json.specs.Data.{Data, null, boolean, number, string, array, object, Members, no_members, member}
use Rattle.cmc_cursor.specs.declared.error.BadField.{BadField}
use Rattle.cmc_cursor.specs.declared.error.BadField.TheVariants as bad

-- A path: the names of members and the places in lists that lead from a value down to what fails.
-- The path of no names is the value itself.
abbrev pub Path : Type 0
Path = List (List ℕ)

abbrev pub dotted : Path → List ℕ
dotted [] = []
dotted (name ∷ names) = codes "." ++ name ++ dotted names

-- Its text: the names joined by dots, an empty name like any other.
abbrev pub text_of : Path → List ℕ
text_of [] = []
text_of (name ∷ names) = name ++ dotted names

-- What reading gives.
abbrev pub Read : Type 0 → Type 0
Read A = Result A Path

-- What reading gives, with the path as its text.
abbrev pub in_words : {A : Type 0} → Read A → Result A (List ℕ)
in_words (Ok x) = Ok x
in_words (Err path) = Err (text_of path)

-- A reading that only looks whether a value may stand.
abbrev pub Check : Type 0
Check = Read (Unit {0})

-- The first reading, and then the second with what the first gave.
infixl 10 ◌>>=◌
abbrev pub ◌>>=◌ : {A B : Type 0} → Read A → (A → Read B) → Read B
(Ok x) >>= f = f x
(Err path) >>= f = Err path

-- A reading of what exists under a name: it fails below that name.
abbrev pub under : {A : Type 0} → List ℕ → Read A → Read A
under name (Ok x) = Ok x
under name (Err path) = Err (name ∷ path)

-- A member: its name and its value.
abbrev pub Field : Type 0
Field = List ℕ × Data

abbrev pub fields_of : Members → List Field
fields_of no_members = []
fields_of (member name value rest) = (name, value) ∷ fields_of rest

-- The members of an object, in byte order of their names.
abbrev pub fields_at : Data → Read (List Field)
fields_at (object members) = Ok (fields_of members)
fields_at null = Err []
fields_at (boolean b) = Err []
fields_at (number n) = Err []
fields_at (string s) = Err []
fields_at (array ds) = Err []

-- The member of that name, where it comes next, and the members that are left. A member that comes
-- before its place is not known, and fails.
abbrev pub optional_at : List ℕ → List Field → Read (Option Data × List Field)
optional_at name [] = Ok (None, [])
optional_at name (f ∷ fs) = match_ordering (slice_cmp nat_cmp f.0 name) (Err (f.0 ∷ [])) (Ok (Some f.1, fs)) (Ok (None, f ∷ fs))

abbrev pub must_exist : List ℕ → Option Data × List Field → Read (Data × List Field)
must_exist name (None, fs) = Err (name ∷ [])
must_exist name (Some d, fs) = Ok (d, fs)

-- The same, where the member has to be there: it fails at its name.
unfoldable pub required_at : List ℕ → List Field → Read (Data × List Field)
required_at name fs = optional_at name fs >>= must_exist name

-- No member is left: one that is left is not known, and fails.
abbrev pub at_end : List Field → Check
at_end [] = Ok tt
at_end (f ∷ fs) = Err (f.0 ∷ [])

-- What a function answered, with its value seen by `view`, is what reading gives; or memory ran out.
abbrev pub Gives : {X Y : Type 0} → (X → Y) → Result X BadField → Read Y → Type 0
Gives view (Ok x) read = read ≡ Ok (view x)
Gives view (Err (bad.Path path)) read = read ≡ Err path
Gives view (Err bad.NoMemory) read = Unit {0}
