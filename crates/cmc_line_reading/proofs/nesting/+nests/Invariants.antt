use Rattle.std.proofs.Common.{◌≡◌, drop}
use Rattle.serde_json.specs.View.{members_view, items_view}
use Rattle.cmc_line_reading.specs.Depths.{items_within, members_within}
use Rattle.cmc_line_reading.proofs.nesting.+nests.Given as goal

abbrev pub invariant-items_nest-loop-item : goal.invariant-items_nest-loop-item
invariant-items_nest-loop-item l = items_within l.most (items_view (drop l.item-index l.item-items)) ≡ items_within l.most (items_view l.item-items)

abbrev pub invariant-members_nest-loop-member : goal.invariant-members_nest-loop-member
invariant-members_nest-loop-member l = members_within l.most (members_view l.member-iterator) ≡ members_within l.most (members_view l.fn.members.entries)
