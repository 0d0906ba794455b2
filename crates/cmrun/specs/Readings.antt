-- How many reads failed where an input was read.
use Rattle.std.specs.Prelude.{ℕ, Ok, Err}
use Rattle.std.specs.declared.result.Result.{Result}
use Rattle.cmrun.specs.Ends.{risen}
use Rattle.cmrun.specs.declared.source.ReadError.{ReadError}
use Rattle.cmrun.specs.declared.source.ReadError.TheVariants.{Fault, TooLong, NoMemory}

-- one more at Fault, and none else
abbrev pub faults_after : {T : Type 0} → Result T ReadError → ℕ → ℕ
faults_after (Ok read) before = before
faults_after (Err Fault) before = risen before
faults_after (Err TooLong) before = before
faults_after (Err NoMemory) before = before
