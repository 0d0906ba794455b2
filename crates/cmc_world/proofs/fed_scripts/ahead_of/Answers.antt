use Rattle.std.proofs.Common.{◌≡◌, ◌∙◌, ap, Some, List, subst}
use Rattle.cmc_meta.specs.declared.key.Key.{Key}
use Rattle.cmc_caches.specs.Affected.{is_among}
use Rattle.cmc_queue.specs.Queues.{row_of}
use Rattle.cmc_waking.specs.Feeds.{started}
use Rattle.cmc_kernel.specs.Kept.{setting_of}
use Rattle.cmc_world.proofs.KnownKeys.{ahead_start, ahead_stop, ahead_tick}
use Rattle.cmc_world.proofs.fed_scripts.ahead_of.Goals as goal

pub returns-in-Tick : goal.returns-in-Tick
returns-in-Tick c = ahead_tick (setting_of c.args.kernel.now.scenario) c.args.kernel.now.history _ (c.requires ∙ ap Some c.in-Tick.is)

pub returns-in-Stop : goal.returns-in-Stop
returns-in-Stop c = ahead_stop (setting_of c.args.kernel.now.scenario) c.args.kernel.now.history _ (c.requires ∙ ap Some c.in-Stop.is)

pub returns-in_ok-starting_queue-in-Start : goal.returns-in_ok-starting_queue-in-Start
returns-in_ok-starting_queue-in-Start c =
    ahead_start (setting_of c.args.kernel.now.scenario) c.args.kernel.now.history _ _ c.in_ok-starting_queue-in-Start.field-0 (c.requires ∙ ap Some c.in-Start.is)
    (c.in_ok-keys-in-Start.keys.items, c.in_ok-keys-in-Start.ensures, subst (λ (ks : List Key). (key : Key) → row_of c.in_ok-starting_queue-in-Start.field-0 key ≡ started (is_among ks key)) c.deref.ensures.value c.in_ok-starting_queue-in-Start.ensures)
