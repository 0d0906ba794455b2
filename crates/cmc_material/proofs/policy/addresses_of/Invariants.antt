use Rattle.std.proofs.Common.{◌≡◌, drop}
use Rattle.serde_json.specs.View.{items_view}
use Rattle.cmc_cursor.specs.Readers.{with_front}
use Rattle.cmc_material.specs.Lists.{items_from, numbered_below}
use Rattle.cmc_material.specs.Approvers.{address_pattern_at}
use Rattle.cmc_material.proofs.policy.addresses_of.Given as goal

abbrev pub invariant-loop-place : goal.invariant-loop-place
invariant-loop-place l = with_front l.patterns (items_from (numbered_below 100 address_pattern_at) l.place (items_view (drop l.place l.items))) ≡ items_from (numbered_below 100 address_pattern_at) 0 (items_view l.items)
