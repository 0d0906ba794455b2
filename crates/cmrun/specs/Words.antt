-- What the words of the command line ask for.
use Rattle.std.specs.Prelude.{ℕ, ◌≤◌, zero, suc, Bool, true, false, ◌&&◌, nat_eq, nat_lt, nat_le, List, [], ◌∷◌, length, drop, map, codes, String, string_bytes, if◌then◌else◌, Option, Some, None, option_and_then}
use Rattle.std.specs.declared.alloc.Global.{Global}
use Rattle.std.specs.Char.{is_digit}
use Rattle.std.specs.List.{list_all, starts_with}
use Rattle.std.specs.Str.{bytes_eq}
use Rattle.std.specs.Str.Parse.{digits_value, without_leading_plus}
use Rattle.cmrun.specs.declared.words.Command.{Command}
use Rattle.cmrun.specs.declared.words.Command.TheVariants.{Run, Load, Audit, Collect}

infixl 20 ◌>>=◌
abbrev ◌>>=◌ : {T U : Type 0} → Option T → (T → Option U) → Option U
o >>= f = option_and_then f o

-- one decimal digit or more, and nothing else
abbrev pub is_numeral : List ℕ → Bool
is_numeral text = nat_lt 0 (length text) && list_all (λ c. is_digit c 10) text

-- the number that the text writes, where it lies between these bounds; one plus may stand in front of its digits
abbrev pub bounded_number_in : ℕ → ℕ → List ℕ → Option ℕ
bounded_number_in least most text =
    let digits = without_leading_plus text in
    if is_numeral digits && (nat_le least (digits_value 10 digits) && nat_le (digits_value 10 digits) most) then Some (digits_value 10 digits) else None

-- what the words after the first give: the values of `--workers`, how often `--summary` stands, and all other words
pub record Given : Type 0 where
  pub workers : List (List ℕ)
  pub summaries : ℕ
  pub others : List (List ℕ)

abbrev pub with_worker_value : List ℕ → Given → Given
with_worker_value value given = record given { workers = value ∷ given.workers }

abbrev pub with_summary : Given → Given
with_summary given = record given { summaries = suc given.summaries }

abbrev pub with_other : List ℕ → Given → Given
with_other word given = record given { others = word ∷ given.others }

-- A word may hold the option and its value.
abbrev pub with_word : List ℕ → Given → Given
with_word word given =
    if starts_with nat_eq word (codes "--workers=") then with_worker_value (drop 10 word) given
    else if bytes_eq word (codes "--summary") then with_summary given
    else with_other word given

-- The value of `--workers` is the word after it, whatever that is.
abbrev pub given_by : List (List ℕ) → Given
given_by [] = record { workers = []; summaries = 0; others = [] }
given_by (word ∷ []) = with_word word (given_by [])
given_by (word ∷ next ∷ words) =
    if bytes_eq word (codes "--workers") then with_worker_value next (given_by words) else with_word word (given_by (next ∷ words))

-- 0 to 64 workers, given at most once; 4 where they are not given
abbrev pub workers_in : List (List ℕ) → Option ℕ
workers_in [] = Some 4
workers_in (value ∷ []) = bounded_number_in 0 64 value
workers_in (value ∷ again ∷ values) = None

-- whether the summary alone is asked for, at most once
abbrev pub is_summary_asked : ℕ → Option Bool
is_summary_asked zero = Some false
is_summary_asked (suc zero) = Some true
is_summary_asked (suc (suc more)) = None

-- exactly one other word, a count of 1 to 200; so no option of another name
abbrev pub count_in : List (List ℕ) → Option ℕ
count_in (word ∷ []) = bounded_number_in 1 200 word
count_in others = None

abbrev pub run_in : ℕ → Bool → List (List ℕ) → Option Command
run_in workers summary [] = Some (Run workers summary)
run_in workers summary others = None

-- what is asked for by this first word and what those after it give
abbrev pub command_said : List ℕ → Given → Option Command
command_said first given =
    if bytes_eq first (codes "run") then (do
      workers ← workers_in given.workers
      summary ← is_summary_asked given.summaries
      run_in workers summary given.others)
    else if bytes_eq first (codes "load") then (do
      workers ← workers_in given.workers
      summary ← is_summary_asked given.summaries
      count ← count_in given.others
      Some (Load count workers summary))
    else None

-- a command after whose word no other exists
abbrev pub alone_in : Command → List (List ℕ) → Option Command
alone_in command [] = Some command
alone_in command (word ∷ words) = None

-- what the words of the command line ask for, where they ask for anything
abbrev pub command_of : List (String Global) → Option Command
command_of [] = None
command_of (first ∷ words) =
    if bytes_eq (string_bytes first) (codes "audit") then alone_in Audit (map string_bytes words)
    else if bytes_eq (string_bytes first) (codes "collect") then alone_in Collect (map string_bytes words)
    else command_said (string_bytes first) (given_by (map string_bytes words))

-- at most 64 workers, and 1 to 200 Certificates
abbrev pub IsBounded : Command → Type 0
IsBounded (Run workers summary) = workers ≤ 64
IsBounded (Load count workers summary) = (workers ≤ 64) × (1 ≤ count) × (count ≤ 200)
IsBounded Audit = Unit {0}
IsBounded Collect = Unit {0}
