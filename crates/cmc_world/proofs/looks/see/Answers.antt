use Rattle.std.specs.Option.{option_copied}
use Rattle.cmc_held.specs.Remembered.{past_or_new}
use Rattle.cmc_kernel.specs.Kept.{setting_of}
use Rattle.cmc_world.proofs.Undue.{told_by}
use Rattle.cmc_world.proofs.looks.see.Goals as goal

pub undue-requires-clause-told : goal.undue-requires-clause-told
undue-requires-clause-told c =
    told_by (setting_of c.args.kernel.now.scenario) c.args.kernel.now.history c.args.role c.args.key.now (past_or_new (option_copied c.past.result)) c.own_of-own.result c.told.result c.parked_after.result c.past.ensures c.own_of-own.ensures c.told.ensures
    c.parked_after.ensures c.in_default.is
