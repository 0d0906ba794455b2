use Rattle.cmc_kernel.specs.Kept.{setting_of}
use Rattle.cmc_world.proofs.Feeding.{closing_row}
use Rattle.cmc_world.proofs.fed_passes.ready_to_end.Goals as goal

pub room_to_end-requires : goal.room_to_end-requires
room_to_end-requires c = closing_row (setting_of c.args.kernel.now.scenario) c.args.kernel.now.history c.args.pass c.in_ok-closing.closing c.args.queues.now c.is_run.ensures.run.legal c.requires c.in_ok-closing.ensures
