use Rattle.std.proofs.Common.{◌∙◌, sym}
use Rattle.cmc_kernel.specs.Kept.{setting_of}
use Rattle.cmc_waits.proofs.AllReady.{none_waiting}
use Rattle.cmc_waits.proofs.summaries.waiting.Goals as goal

pub returns-then-not-has_waiting : goal.returns-then-not-has_waiting
returns-then-not-has_waiting c =
    none_waiting (setting_of c.args.kernel.now.scenario) c.args.kernel.now.history c.args.objects.now.entries c.new.result c.new.ensures (sym c.has_waiting.ensures ∙ c.if-not-has_waiting.true)
