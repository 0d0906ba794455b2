use Rattle.std.proofs.Common.{◌≡◌, drop}
use Rattle.serde_json.specs.View.{items_view}
use Rattle.cmc_cursor.specs.Readers.{with_front}
use Rattle.cmc_codec.specs.MetadataForm.{owners_from}
use Rattle.cmc_codec.proofs.owners_in.owners_of.Given as goal

abbrev pub invariant-loop-place : goal.invariant-loop-place
invariant-loop-place l = with_front l.owners (owners_from l.place (items_view (drop l.place l.items))) ≡ owners_from 0 (items_view l.items)
