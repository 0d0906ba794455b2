use Rattle.std.proofs.lemmas.Int.{to_z-of_z}
use Rattle.std.specs.Int.{w64}
use Rattle.std.proofs.Common.{rules, sym, ap, ◌∙◌, ◌≡◌, ◌+◌, ◌==◌, false, arith}
use Rattle.std.specs.List.{list_any}
use Rattle.cmc_model.specs.Replies.{State}
use Rattle.cmc_store.proofs.Permanent.{final_of}
use Rattle.cmc_store.proofs.Right.{served_reply}
use Rattle.cmc_store.proofs.store.Store.call.Goals as goal
use Rattle.cmc_store.proofs.store.Store.call.Goals.{then-is_accepted, else-is_accepted}

pub returns-clause-reply : goal.returns-clause-reply
returns-clause-reply c =
    let none : list_any (λ n. n == c.self.inside.calls + 1) c.self.inside.faults ≡ false =
    ap (list_any (λ n. n == c.self.inside.calls + 1)) (sym c.as_slice.ensures) ∙ sym c.stands_in.ensures ∙ c.if-stands_in.false in
    let s : State = record { objects = c.self.inside.catalogue; accepted = c.self.inside.accepted; calls = c.self.inside.calls } in
    rw (← c.self.view_is) (served_reply c.self.inside.faults s c.args.call.now c.in_ok-replied.replied.reply none c.in_ok-replied.ensures.reply)

pub returns-clause-object : goal.returns-clause-object
returns-clause-object c = rw (← c.self.view_is) (rw (to_z-of_z w64 c.args.now (search rules)) at c.in_ok-replied.ensures.answer.object_told)

-- what the call left keeps the verdicts, and has one of each
pub invariant_of-self-then-is_accepted : goal.invariant_of-self-then-is_accepted
invariant_of-self-then-is_accepted c =
    let none : list_any (λ n. n == c.self.inside.calls + 1) c.self.inside.faults ≡ false =
    ap (list_any (λ n. n == c.self.inside.calls + 1)) (sym c.as_slice.ensures) ∙ sym c.stands_in.ensures ∙ c.if-stands_in.false in
    let s : State = record { objects = c.self.inside.catalogue; accepted = c.self.inside.accepted; calls = c.self.inside.calls } in
    let right = served_reply c.self.inside.faults s c.args.call.now c.in_ok-replied.replied.reply none c.in_ok-replied.ensures.reply in
    let final = final_of c.self.inside.faults _ s c.args.call.now c.in_ok-replied.replied.reply c.serve.new.catalogue right c.self.invariant.one c.in_ok-replied.ensures.answer.after in
    record { few = omega (arith, c.self.invariant.few); one = final.one }

pub returns-clause-verdicts : goal.returns-clause-verdicts
returns-clause-verdicts c =
    let none : list_any (λ n. n == c.self.inside.calls + 1) c.self.inside.faults ≡ false =
    ap (list_any (λ n. n == c.self.inside.calls + 1)) (sym c.as_slice.ensures) ∙ sym c.stands_in.ensures ∙ c.if-stands_in.false in
    let s : State = record { objects = c.self.inside.catalogue; accepted = c.self.inside.accepted; calls = c.self.inside.calls } in
    let right = served_reply c.self.inside.faults s c.args.call.now c.in_ok-replied.replied.reply none c.in_ok-replied.ensures.reply in
    let final = final_of c.self.inside.faults _ s c.args.call.now c.in_ok-replied.replied.reply c.serve.new.catalogue right c.self.invariant.one c.in_ok-replied.ensures.answer.after in
    elim c.if-is_accepted.branch [ then-is_accepted w ↦ rw (← c.self.view_is, w.self-is) final | else-is_accepted w ↦ rw (← c.self.view_is, w.self-is) final ]
