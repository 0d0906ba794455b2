use Rattle.cmc_world.proofs.KeptOver.{kept_taken}
use Rattle.cmc_world.proofs.work.next_work.Goals as goal

pub returns-in_err-opening_on-in-None-take_pass-clause-kept : goal.returns-in_err-opening_on-in-None-take_pass-clause-kept
returns-in_err-opening_on-in-None-take_pass-clause-kept c = kept_taken c.args.kernel.now c.next_pending.new.kept c.take_pass.new.self c.take_pass.ensures.told c.take_pass.ensures.act c.take_pass.ensures.looked c.next_pending.ensures.kept

pub returns-in-Key-clause-kept : goal.returns-in-Key-clause-kept
returns-in-Key-clause-kept c = kept_taken c.args.kernel.now c.next_pending.new.kept c.take_pass.new.self c.take_pass.ensures.told c.take_pass.ensures.act c.take_pass.ensures.looked c.next_pending.ensures.kept
