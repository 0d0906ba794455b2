-- What reads and writes do at the ends of the program, and why they may fail.
use Rattle.std.specs.Prelude.{ℕ, ◌≡◌, ◌+◌, ◌-◌, ◌^◌, ◌≤◌, min, List, length, take, MatchResult}
use Rattle.std.specs.declared.result.Result.{Result}
use Rattle.std.specs.declared.option.Option.{Option}
use Rattle.std.specs.Io.KnownBytes.{Appends, Consumes}

-- The next value of a count, which stays at the last value of its type.
abbrev pub risen : ℕ → ℕ
risen count = min (count + 1) (2 ^ 64 - 1)

-- A call that fails raises the count of faults by one, and one that succeeds leaves it.
abbrev pub CountsFaults : {T E : Type 0} → ℕ → ℕ → Result T E → Type 0
CountsFaults before now result = MatchResult result (λ _. now ≡ before) (λ _. now ≡ risen before)

-- Some first part of the bytes was added.
abbrev pub AppendsPrefix : Option (List ℕ) → Option (List ℕ) → List ℕ → Type 0
AppendsPrefix old new bytes = (n : ℕ) × Appends old new (take n bytes)

-- So many bytes were taken away at the front.
abbrev pub ConsumesExactly : Option (List ℕ) → Option (List ℕ) → ℕ → Type 0
ConsumesExactly old new n = (bytes : List ℕ) × Consumes old new bytes × (length bytes ≡ n)

-- No more than so many bytes were taken away at the front.
abbrev pub ConsumesAtMost : Option (List ℕ) → Option (List ℕ) → ℕ → Type 0
ConsumesAtMost old new n = (bytes : List ℕ) × Consumes old new bytes × (length bytes ≤ n)
