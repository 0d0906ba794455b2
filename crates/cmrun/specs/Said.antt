-- What was said by the words read so far.
use Rattle.std.specs.Prelude.{◌≡◌, ℕ, suc, Bool, true, false, List, [], ◌∷◌, ◌++◌, map, String, string_bytes, Option, Some, None}
use Rattle.std.specs.declared.alloc.Global.{Global}
use Rattle.std.specs.Borrow.{Bor}
use Rattle.cmrun.specs.Words.{Given, command_said, given_by}
use Rattle.cmrun.specs.declared.words.Said.{Said}

abbrev pub listed : Option (Bor (List ℕ)) → List (List ℕ)
listed None = []
listed (Some text) = text.now ∷ []

abbrev pub one_more : Bool → ℕ → ℕ
one_more true count = suc count
one_more false count = count

-- what was said, and after it what further words give
abbrev pub with_given : Said → Given → Given
with_given said given = record {
  workers = listed said.workers ++ given.workers;
  summaries = one_more said.summary given.summaries;
  others = listed said.other ++ given.others;
}

-- what was said with one thing more; None where no command says so, whatever follows
abbrev pub Takes : Said → (Given → Given) → Option Said → Type 0
Takes said adds (Some more) = (given : Given) → with_given more given ≡ with_given said (adds given)
Takes said adds None = (first : List ℕ) (given : Given) → command_said first (with_given said (adds given)) ≡ None

-- the same of the word that stands next, and of what is left behind it and its value
abbrev pub TakesNext : Said → List ℕ → List (String Global) → Option (Said × Bor (List (String Global))) → Type 0
TakesNext said word words (Some next) = with_given next.0 (given_by (map string_bytes next.1.now)) ≡ with_given said (given_by (word ∷ map string_bytes words))
TakesNext said word words None = (first : List ℕ) → command_said first (with_given said (given_by (word ∷ map string_bytes words))) ≡ None

-- what all words say
abbrev pub IsSaidBy : List (String Global) → Option Said → Type 0
IsSaidBy words (Some said) = with_given said (given_by []) ≡ given_by (map string_bytes words)
IsSaidBy words None = (first : List ℕ) → command_said first (given_by (map string_bytes words)) ≡ None
