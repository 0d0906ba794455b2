use Rattle.std.proofs.Common.{length, ap, ◌∙◌}
use Rattle.cmc_moves.specs.Answers.{entries_of}
use Rattle.cmc_kernel.specs.Kept.{setting_of, Seen}
use Rattle.cmc_kernel.proofs.StepAnswers.{step_judged}
use Rattle.cmc_kernel.proofs.kernel.Kernel.judge_left.Goals as goal

pub returns : goal.returns
returns c =
    step_judged (setting_of c.args.self.now.scenario) c.args.self.now.history c.answer_script.result c.args.ready c.has_room-room.result c.len-entries.result c.entries_for.result c.events.result
    c.requires.left c.requires.ready (c.len-entries.ensures ∙ ap (λ (v : Seen). length v.history) c.self.view_is) (c.entries_for.ensures ∙ ap entries_of c.requires.effect)
    (c.events.ensures.value ∙ ap (λ (v : Seen). v.scenario.events) c.self.view_is) c.has_room-room.ensures c.answer_script.ensures
