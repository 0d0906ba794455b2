-- What the begin of a pass leaves that goes on at once.
use Rattle.std.specs.Prelude.{◌≡◌, ℕ, Bool, true, List, ◌∷◌, Option, Some, None}
use Rattle.cmc_meta.specs.declared.key.Key.{Key}
use Rattle.cmc_objects.specs.declared.role.Role.{Role}
use Rattle.cmc_objects.specs.declared.entry.Entry.{Entry}
use Rattle.cmc_pass.specs.declared.pass.Act.{Act}
use Rattle.cmc_model.specs.Histories.{Setting}
use Rattle.cmc_rules.specs.Origins.{begun}
use Rattle.cmc_moves.specs.Answers.{Leaves, beginning}
use Rattle.cmc_moves.specs.declared.moves.Move.TheVariants.{Begin, Next}
use Rattle.cmc_moves.specs.declared.moves.Stepped.{Stepped}
use Rattle.cmc_moves.specs.declared.moves.Stepped.TheVariants.{Done}
use Rattle.cmc_world.specs.declared.openings.Opened.{Opened}
use Rattle.cmc_world.specs.declared.openings.Opening.{Opening}

-- a move of the newest pass is made exactly where it was begun and its act is known
abbrev pub LeavesNext : Setting → List Entry → Bool → Option Act → Option Stepped → List Entry → Type 0
LeavesNext s h done does None k = (k ≡ h) × (done ≡ true → does ≡ None)
LeavesNext s h done does (Some first) k = (done ≡ true) × ((named : ℕ) → Leaves s h (Next (begun s h) named) first k)

-- a begin, and the first move of the pass after it
abbrev pub LeavesBoth : Setting → List Entry → Role → Key → Option Act → Stepped → Option Stepped → List Entry → Type 0
LeavesBoth s h role key does begin None k = Leaves s h (Begin role key) begin k × (begin ≡ Done → does ≡ None)
LeavesBoth s h role key does begin (Some first) k = (begin ≡ Done) × ((named : ℕ) → Leaves s (beginning s h role key ∷ h) (Next (begun s (beginning s h role key ∷ h)) named) first k)

-- both are made but where room is wanting, and the pass's first move is left to others where its act is not known
abbrev pub LeavesOpened : Setting → List Entry → Opening → Opened → List Entry → Type 0
LeavesOpened s h opening o k = LeavesBoth s h opening.role opening.key opening.does o.begin o.first k
