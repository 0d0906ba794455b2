-- Members behind references.
use Rattle.std.specs.Prelude.{ℕ, List, Some, None}
use Rattle.std.specs.Borrow.{Bor}
use Rattle.std.specs.declared.option.Option.{Option}
use Rattle.serde_json.specs.Data.{Data}
use Rattle.serde_json.specs.View.{view}
use Rattle.serde_json.specs.declared.value.Value.{Value}
use Rattle.cmc_cursor.specs.Members.{Field}

-- The member that two references stand for.
abbrev pub shown : Bor (List ℕ) × Bor Value → Field
shown p = (p.0.now, view p.1.now)

-- The value that a reference stands for, where there is one.
abbrev pub shown_option : Option (Bor Value) → Option Data
shown_option None = None
shown_option (Some v) = Some (view v.now)
