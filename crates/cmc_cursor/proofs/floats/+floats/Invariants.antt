use Rattle.std.proofs.Common.{◌≡◌, drop}
use Rattle.serde_json.specs.View.{members_view, items_view}
use Rattle.cmc_cursor.specs.Readers.{floats_from, floats_in}
use Rattle.cmc_cursor.proofs.floats.+floats.Given as goal

abbrev pub invariant-check_items-loop-place : goal.invariant-check_items-loop-place
invariant-check_items-loop-place l = floats_from l.place (items_view (drop l.place l.item-items)) ≡ floats_from 0 (items_view l.item-items)

abbrev pub invariant-check_members-loop-name : goal.invariant-check_members-loop-name
invariant-check_members-loop-name l = floats_in (members_view l.name-iterator) ≡ floats_in (members_view l.fn.members.entries)
