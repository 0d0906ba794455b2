-- The move that a run by one hand makes next, as its search tells it.
use Rattle.std.specs.Prelude.{List, Option, option_map}
use Rattle.cmc_objects.specs.declared.entry.Entry.{Entry}
use Rattle.cmc_model.specs.Histories.{Setting}
use Rattle.cmc_moves.specs.declared.moves.Move.{Move}
use Rattle.cmc_moves.specs.declared.moves.Move.TheVariants as moves
use Rattle.cmc_world.specs.declared.plain_move.PlainMove.{PlainMove}
use Rattle.cmc_world.specs.declared.plain_move.PlainMove.TheVariants.{Script, Deliver, Begin, Next}
use Rattle.cmc_kernel.specs.Plain.{IsPlainMove}

-- the same among all moves
abbrev pub move_of : PlainMove → Move
move_of Script = moves.Script
move_of (Deliver role kind to) = moves.Deliver role kind to
move_of (Begin begin) = moves.Begin begin.role begin.key
move_of (Next going) = moves.Next going.pass going.incarnation

-- none exactly where the run is finished
abbrev pub IsNextPlain : Setting → List Entry → Option PlainMove → Type 0
IsNextPlain s h next = IsPlainMove s h (option_map move_of next)
