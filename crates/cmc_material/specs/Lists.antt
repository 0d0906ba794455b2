-- Lists, and members that may be left out.
use Rattle.std.specs.Prelude.{ℕ, List, [], ◌∷◌, ◌+◌, decimal, nat_lt, nat_le, ◌&&◌, if◌then◌else◌, Ok, Err, Some, None}
use Rattle.std.specs.declared.option.Option.{Option}
use Rattle.serde_json.specs.Data.{Data, null, boolean, number, string, array, object, Items, no_items, item}
use Rattle.cmc_cursor.specs.Members.{Read, ◌>>=◌, under}
use Rattle.cmc_cursor.specs.Readers.{count_at}

-- The item at place n of a list.
unfoldable pub numbered_at : {A : Type 0} → (Data → Read A) → ℕ → Data → Read A
numbered_at read n d = under (decimal n) (read d)

-- The same in a list of at most so many items: the first one past that fails.
unfoldable pub numbered_below : {A : Type 0} → ℕ → (Data → Read A) → ℕ → Data → Read A
numbered_below most read n d = if nat_lt n most then under (decimal n) (read d) else Err (decimal n ∷ [])

-- The items of a list whose places count from n.
abbrev pub items_from : {A : Type 0} → (ℕ → Data → Read A) → ℕ → Items → Read (List A)
items_from read n no_items = Ok []
items_from read n (item d ds) = read n d >>= (λ x. items_from read (n + 1) ds >>= (λ xs. Ok (x ∷ xs)))

abbrev pub list_at : {A : Type 0} → (ℕ → Data → Read A) → Data → Read (List A)
list_at read (array ds) = items_from read 0 ds
list_at read null = Err []
list_at read (boolean b) = Err []
list_at read (number n) = Err []
list_at read (string s) = Err []
list_at read (object ms) = Err []

-- The member of that name; where it is left out, this.
abbrev pub member_or : {A : Type 0} → A → List ℕ → (Data → Read A) → Option Data → Read A
member_or default name read None = Ok default
member_or default name read (Some d) = under name (read d)

-- The member of that name, if it is there.
abbrev pub member_option : {A : Type 0} → List ℕ → (Data → Read A) → Option Data → Read (Option A)
member_option name read None = Ok None
member_option name read (Some d) = under name (read d) >>= (λ x. Ok (Some x))

-- A whole number in these bounds, both included.
abbrev pub bounded_at : ℕ → ℕ → Data → Read ℕ
bounded_at least most d = count_at d >>= (λ n. if nat_le least n && nat_le n most then Ok n else Err [])
