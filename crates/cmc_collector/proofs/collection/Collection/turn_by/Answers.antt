use Rattle.cmc_collector.specs.Replays.{setting}
use Rattle.cmc_collector.proofs.Turned.{not_done, unmade}
use Rattle.cmc_collector.proofs.Turning.{turn_full}
use Rattle.cmc_collector.proofs.collection.Collection.turn_by.Goals as goal

pub returns-clause-ok : goal.returns-clause-ok
returns-clause-ok c =
    let off = not_done c.is_done.result c.in_ok-answer.answer c.is_done.ensures c.if-is_done.false in (
      unmade _ c.args.step c.args.self.now c.step.new.self c.in_ok-answer.answer off c.in_ok-answer.ensures.leaves,
      turn_full c.args.step (setting c.args.self.now) c.args.self.now.moments c.in_ok-answer.answer c.requires c.in_ok-answer.ensures.answer off,
    )
