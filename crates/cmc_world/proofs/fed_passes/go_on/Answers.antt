use Rattle.cmc_world.proofs.BeginsFed.{roomed}
use Rattle.cmc_world.proofs.Feeding.{fed_same, to_close}
use Rattle.cmc_world.proofs.fed_passes.go_on.Goals as goal

pub returns-in-Err-clause-fed : goal.returns-in-Err-clause-fed
returns-in-Err-clause-fed c = roomed c.args.kernel.now c.args.queues.now c.ready_to_end.new.queues c.ready_to_end.ensures.rows c.requires.fed

pub returns-in_err-answer-clause-fed : goal.returns-in_err-answer-clause-fed
returns-in_err-answer-clause-fed c = fed_same c.args.kernel.now c.make_going.new.kernel c.ready_to_end.new.queues c.in_err-answer.ensures.err (roomed c.args.kernel.now c.args.queues.now c.ready_to_end.new.queues c.ready_to_end.ensures.rows c.requires.fed)

pub close-requires-clause-left : goal.close-requires-clause-left
close-requires-clause-left c =
    to_close c.args.kernel.now c.make_going.new.kernel c.args.pass c.args.step c.in_ok-answer.answer c.in-Ok.closing c.ready_to_end.new.queues c.is_run.ensures.run c.make_going.ensures.run c.make_going.ensures.scenario c.requires.going c.in_ok-answer.ensures.leaves c.in-Ok.ensures.closing
    (roomed c.args.kernel.now c.args.queues.now c.ready_to_end.new.queues c.ready_to_end.ensures.rows c.requires.fed)

pub make_going-requires : goal.make_going-requires
make_going-requires c = (c.args.pass, c.requires.going)
