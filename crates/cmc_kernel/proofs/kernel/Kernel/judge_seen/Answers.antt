use Rattle.std.proofs.Common.{◌≡◌, ◌∙◌, ap, Bool, sym, subst, rules, w64, to_z, of_z}
use Rattle.std.proofs.lemmas.Int.{to_z-of_z}
use Rattle.std.specs.Option.{option_copied}
use Rattle.std.specs.Prelude.{◌↔◌, IsTrue}
use Rattle.cmc_rules.specs.Views.{views}
use Rattle.cmc_held.specs.Remembered.{past_or_new}
use Rattle.cmc_kernel.specs.Kept.{Seen, on}
use Rattle.cmc_moves.specs.Answers.{AnswersBegin}
use Rattle.cmc_moves.specs.Quiet.{IsQuiet}
use Rattle.cmc_moves.specs.Tables.{begin_answer}
use Rattle.cmc_kernel.proofs.Judging.{judged_begin}
use Rattle.cmc_kernel.proofs.kernel.Kernel.judge_seen.Goals as goal

pub returns : goal.returns
returns c =
    subst (λ (v : Seen). on AnswersBegin v c.args.role c.args.key.now c.answer_begin.result) c.self.view_is
    (judged_begin _ _ _ c.args.role c.args.key.now c.get-standing.result c.shown_positions-at.result c.args.seen.now (past_or_new (option_copied c.get-past.result)) (to_z w64 (of_z w64 c.self.inside.moment)) c.own_write-own.result c.len-entries.result c.events.result c.is_on-working.result c.is_again-same.result c.is_of_work-of_work.result c.in_ok-quiet.quiet c.has_room-room.result c.answer_begin.result
    c.self.invariant c.get-standing.ensures c.shown_positions-at.ensures
    (subst (λ (v : Seen). c.args.seen.now ≡ on views v c.args.role c.args.key.now) (sym c.self.view_is) c.requires)
    c.get-past.ensures (to_z-of_z w64 c.self.inside.moment (search rules)) c.is_on-working.ensures.some c.own_write-own.ensures c.is_again-same.ensures c.is_of_work-of_work.ensures
    (subst (λ (v : Seen). IsTrue c.in_ok-quiet.quiet ↔ on IsQuiet v c.args.role c.args.key.now) (sym c.self.view_is) c.in_ok-quiet.ensures)
    c.len-entries.ensures c.events.ensures.value c.has_room-room.ensures (c.answer_begin.ensures ∙ ap (λ (b : Bool). begin_answer c.get-standing.result.running c.is_on-working.result c.own_write-own.result c.is_again-same.result b c.len-entries.result c.has_room-room.result) c.is_queued-queued.ensures))
