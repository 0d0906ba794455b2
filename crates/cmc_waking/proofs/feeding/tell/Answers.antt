use Rattle.std.proofs.Common.{ap, ◌∙◌}
use Rattle.cmc_caches.specs.Affected.{is_among}
use Rattle.cmc_waking.specs.Feeds.{added_if}
use Rattle.cmc_waking.proofs.feeding.tell.Goals as goal

pub add_each-requires : goal.add_each-requires
add_each-requires c = λ k among. c.moved.ensures.room k (c.requires k among)

pub returns : goal.returns
returns c = λ k. c.add_each.ensures.rows k ∙ ap (added_if (is_among c.args.keys.now k)) (c.moved.ensures.rows k)
