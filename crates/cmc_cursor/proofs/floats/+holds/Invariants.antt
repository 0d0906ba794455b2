use Rattle.std.proofs.Common.{◌≡◌, drop}
use Rattle.serde_json.specs.View.{members_view, items_view}
use Rattle.serde_json.specs.Written.{items_have_float, members_have_float}
use Rattle.cmc_cursor.proofs.floats.+holds.Given as goal

abbrev pub invariant-hold_float-loop-item : goal.invariant-hold_float-loop-item
invariant-hold_float-loop-item l = items_have_float (items_view (drop l.item-index l.item-items)) ≡ items_have_float (items_view l.item-items)

abbrev pub invariant-members_hold_float-loop-member : goal.invariant-members_hold_float-loop-member
invariant-members_hold_float-loop-member l = members_have_float (members_view l.member-iterator) ≡ members_have_float (members_view l.fn.members.entries)
