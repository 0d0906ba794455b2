use Rattle.std.proofs.Common.{subst}
use Rattle.cmc_held.specs.Remembered.{past_or_new}
use Rattle.cmc_pass.specs.declared.pass.Views.{Views}
use Rattle.cmc_waking.specs.Parked.{IsParkedUntil}
use Rattle.std.specs.Option.{option_copied}
use Rattle.cmc_kernel.specs.Kept.{setting_of}
use Rattle.cmc_world.proofs.Undue.{undue_by}
use Rattle.cmc_world.proofs.looks.undue.Goals as goal

pub unreachable-requires : goal.unreachable-requires
unreachable-requires c =
    undue_by (setting_of c.args.kernel.now.scenario) c.args.kernel.now.history c.args.role c.args.key.now (past_or_new (option_copied c.past.result)) c.args.seen.now c.told.result c.parked_until.result c.in_ok-is_quiet.field-0
    c.is_run.ensures.run.legal c.is_run.ensures.run.caused c.past.ensures c.requires.sees c.told.ensures c.in_default.is c.requires.told (subst (λ (v : Views). IsParkedUntil (past_or_new (option_copied c.past.result)) v c.told.result c.parked_until.result) c.deref.ensures c.parked_until.ensures.until) c.requires.undue c.in_ok-is_quiet.ensures c.if-not-branch.true
