use Rattle.std.proofs.Common.{◌≡◌, drop}
use Rattle.serde_json.specs.View.{items_view}
use Rattle.cmc_cursor.specs.Readers.{with_front, texts_from}
use Rattle.cmc_cursor.proofs.values.texts_of.Given as goal

abbrev pub invariant-loop-place : goal.invariant-loop-place
invariant-loop-place l = with_front l.texts (texts_from l.place (items_view (drop l.place l.items))) ≡ texts_from 0 (items_view l.items)
