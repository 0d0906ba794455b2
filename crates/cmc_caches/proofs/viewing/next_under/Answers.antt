use Rattle.std.specs.Prelude.{option_and_then}
use Rattle.cmc_model.specs.Objects.{object_at}
use Rattle.cmc_rules.specs.Views.{next_in}
use Rattle.cmc_caches.proofs.Listing.{picked_next}
use Rattle.cmc_caches.specs.Board.{shown_by}
use Rattle.cmc_caches.proofs.viewing.next_under.Goals as goal

pub loop-key-preserved : goal.loop-key-preserved
loop-key-preserved c =
    picked_next (λ k. option_and_then (next_in c.args.certificate.now) (object_at (shown_by c.args.objects.now) k)) c.args.keys.now c.loop-key.key-index c.key-item.result c.in_ok-next_at.field-0 c.loop-key.next c.push_secret.new.secrets
    c.loop-key-test.true c.key-item.is c.in_ok-next_at.ensures c.loop-key.invariant c.in_ok-push_secret.ensures.ok
