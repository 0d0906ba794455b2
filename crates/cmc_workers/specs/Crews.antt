-- Where workers are.
use Rattle.std.specs.Prelude.{ℕ, ◌+◌, ◌-◌, ◌^◌, min}
use Rattle.cmc_workers.specs.declared.crew.Crew.{Crew}

-- one more, up to the greatest u32, and one less, down to 0
abbrev pub more : ℕ → ℕ
more n = min (n + 1) (2 ^ 32 - 1)

abbrev pub less : ℕ → ℕ
less n = n - 1

-- how many neither sleep nor are away, or are called
abbrev pub at_home : Crew → ℕ
at_home crew = min ((crew.workers - crew.away) - crew.asleep + crew.called) (2 ^ 32 - 1)

abbrev pub with_one_away : Crew → Crew
with_one_away crew = record crew { away = more crew.away }

abbrev pub with_one_called : Crew → Crew
with_one_called crew = record crew { called = more crew.called }
