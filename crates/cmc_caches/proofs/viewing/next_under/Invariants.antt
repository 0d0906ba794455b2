use Rattle.std.proofs.Common.{◌≡◌, take}
use Rattle.std.specs.Prelude.{filter_map, option_and_then}
use Rattle.cmc_model.specs.Objects.{object_at}
use Rattle.cmc_rules.specs.Views.{next_in}
use Rattle.cmc_caches.specs.Board.{shown_by}
use Rattle.cmc_caches.proofs.viewing.next_under.Given as goal

abbrev pub invariant-loop-key : goal.invariant-loop-key
invariant-loop-key l = l.next ≡ filter_map (λ k. option_and_then (next_in l.certificate) (object_at (shown_by l.objects) k)) (take l.key-index l.keys)
