use Rattle.std.proofs.Common.{◌≡◌, drop}
use Rattle.serde_json.specs.View.{items_view}
use Rattle.cmc_cursor.specs.Readers.{with_front}
use Rattle.cmc_codec.specs.Given.{list_from}
use Rattle.cmc_codec.proofs.given.list_of.Given as goal

abbrev pub invariant-loop-place : goal.invariant-loop-place
invariant-loop-place l = with_front l.texts (list_from l.wording l.place (items_view (drop l.place l.items))) ≡ list_from l.wording 0 (items_view l.items)
