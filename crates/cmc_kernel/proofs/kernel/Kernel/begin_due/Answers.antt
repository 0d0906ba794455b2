use Rattle.std.proofs.Common.{ap, sym, subst, ◌∙◌, length}
use Rattle.cmc_meta.specs.declared.key.Key.{Key}
use Rattle.cmc_moves.specs.Answers.{AnswersBegin}
use Rattle.cmc_moves.specs.declared.moves.Stepped.TheVariants.{Done, Spent}
use Rattle.cmc_kernel.specs.Kept.{Seen, setting_of}
use Rattle.cmc_kernel.proofs.Prospects.{begins_where, fits_done, fits_spent}
use Rattle.cmc_kernel.proofs.kernel.Kernel.begin_due.Goals as goal

pub returns-then-not-has_room-clause-answer : goal.returns-then-not-has_room-clause-answer
returns-then-not-has_room-clause-answer c =
    let s = setting_of c.args.self.now.scenario in
    let h = c.args.self.now.history in
    begins_where s h c.args.role c.args.key c.args.seen (Spent c.len-entries.result) c.requires.running c.requires.free c.requires.due c.requires.queued c.requires.sees
    (fits_spent s h c.len-entries.result c.events.result c.has_room.result (c.len-entries.ensures ∙ ap (λ (v : Seen). length v.history) c.self.view_is) (c.events.ensures.value ∙ ap (λ (v : Seen). v.scenario.events) c.self.view_is) c.has_room.ensures c.if-not-has_room.true)

pub open-requires-clause-may : goal.open-requires-clause-may
open-requires-clause-may c =
    let s = setting_of c.args.self.now.scenario in
    let h = c.args.self.now.history in
    subst (λ (k : Key). AnswersBegin s h c.args.role k Done) (sym c.in_ok-prepared.ensures.key)
    (begins_where s h c.args.role c.args.key c.args.seen Done c.requires.running c.requires.free c.requires.due c.requires.queued c.requires.sees
    (fits_done s h c.len-entries.result c.events.result c.has_room.result (c.len-entries.ensures ∙ ap (λ (v : Seen). length v.history) c.self.view_is) (c.events.ensures.value ∙ ap (λ (v : Seen). v.scenario.events) c.self.view_is) c.has_room.ensures c.if-not-has_room.false))

pub returns-clause-answer : goal.returns-clause-answer
returns-clause-answer c =
    let s = setting_of c.args.self.now.scenario in
    let h = c.args.self.now.history in
    begins_where s h c.args.role c.args.key c.args.seen Done c.requires.running c.requires.free c.requires.due c.requires.queued c.requires.sees
    (fits_done s h c.len-entries.result c.events.result c.has_room.result (c.len-entries.ensures ∙ ap (λ (v : Seen). length v.history) c.self.view_is) (c.events.ensures.value ∙ ap (λ (v : Seen). v.scenario.events) c.self.view_is) c.has_room.ensures c.if-not-has_room.false)
