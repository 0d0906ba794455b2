use Rattle.std.proofs.Common.{◌≡◌, ◌++◌}
use Rattle.cmc_kernel.specs.Kept.{setting_of}
use Rattle.cmc_waits.specs.Waits.{waits_among}
use Rattle.cmc_waits.proofs.summaries.waiting_by.Given as goal

abbrev pub invariant-loop-key : goal.invariant-loop-key
invariant-loop-key l =
    l.waiting ++ waits_among (setting_of l.kernel.scenario) l.kernel.history l.key-iterator ≡ waits_among (setting_of l.kernel.scenario) l.kernel.history l.fn.objects.entries
