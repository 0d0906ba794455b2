use Rattle.std.proofs.Common.{ap, ◌∙◌, length}
use Rattle.cmc_kernel.specs.Kept.{Seen, setting_of}
use Rattle.cmc_kernel.proofs.Prospects.{first_answers, first_going}
use Rattle.cmc_kernel.proofs.kernel.Kernel.act_first.Goals as goal

pub make_next-requires-clause-goes : goal.make_next-requires-clause-goes
make_next-requires-clause-goes c =
    let s = setting_of c.args.self.now.scenario in
    let h = c.args.self.now.history in
    (first_going s h c.args.pass c.args.does c.requires.0 c.in_ok-doing.doing c.len-entries.result c.events.result c.has_room.result c.requires.1 c.in_ok-doing.ensures
    (c.len-entries.ensures ∙ ap (λ (v : Seen). length v.history) c.self.view_is) (c.events.ensures.value ∙ ap (λ (v : Seen). v.scenario.events) c.self.view_is) c.has_room.ensures c.if-not-has_room.false).1

pub returns-clause-answer : goal.returns-clause-answer
returns-clause-answer c =
    let s = setting_of c.args.self.now.scenario in
    let h = c.args.self.now.history in
    first_answers s h c.args.pass c.args.does c.requires.0 c.in_ok-doing.doing c.in_ok-answer.answer c.len-entries.result c.events.result c.has_room.result c.requires.1 c.in_ok-doing.ensures
    (c.len-entries.ensures ∙ ap (λ (v : Seen). length v.history) c.self.view_is) (c.events.ensures.value ∙ ap (λ (v : Seen). v.scenario.events) c.self.view_is) c.has_room.ensures c.if-not-has_room.false
    c.in_ok-answer.ensures.answer
