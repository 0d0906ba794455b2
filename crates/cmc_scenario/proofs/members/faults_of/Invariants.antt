use Rattle.std.proofs.Common.{◌≡◌, drop}
use Rattle.serde_json.specs.View.{items_view}
use Rattle.cmc_cursor.specs.Readers.{with_front}
use Rattle.cmc_scenario.specs.Scenarios.{rising_from}
use Rattle.cmc_scenario.proofs.members.faults_of.Given as goal

abbrev pub invariant-loop-place : goal.invariant-loop-place
invariant-loop-place l = with_front l.numbers (rising_from l.place l.last (items_view (drop l.place l.items))) ≡ rising_from 0 0 (items_view l.items)
