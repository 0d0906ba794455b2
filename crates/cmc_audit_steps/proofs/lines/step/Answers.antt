use Rattle.std.proofs.Common.{◌≡◌, ℤ, Bool, false, rules, sym, subst, w64, None}
use Rattle.std.proofs.lemmas.Int.{to_z-of_z}
use Rattle.cmc_lines.specs.declared.line.PrintedLine.{PrintedLine}
use Rattle.cmc_lines.specs.declared.line.PrintedLine.TheVariants as lines
use Rattle.cmc_audit_steps.specs.Steps.{Steps}
use Rattle.cmc_audit_steps.proofs.lines.step.Goals as goal

pub returns-in-Deliver : goal.returns-in-Deliver
returns-in-Deliver c = subst (λ (l : PrintedLine). Steps c.args.ledger.now l c.delivered.new.ledger c.delivered.result) (sym c.in-Deliver.is) (c.delivered.ensures)

pub returns-in-List : goal.returns-in-List
returns-in-List c = subst (λ (l : PrintedLine). Steps c.args.ledger.now l c.listed.new.ledger c.listed.result) (sym c.in-List.is) (c.listed.ensures)

pub returns-in-Made : goal.returns-in-Made
returns-in-Made c = subst (λ (l : PrintedLine). Steps c.args.ledger.now l c.given.new.ledger c.given.result) (sym c.in-Made.is) (c.given.ensures.made c.in-Made.key)

pub returns-in-Signed : goal.returns-in-Signed
returns-in-Signed c = subst (λ (l : PrintedLine). Steps c.args.ledger.now l c.given-in-Signed.new.ledger c.given-in-Signed.result) (sym c.in-Signed.is) (c.given-in-Signed.ensures.signed c.in-Signed.signature)

pub returns-in-Answered : goal.returns-in-Answered
returns-in-Answered c = subst (λ (l : PrintedLine). Steps c.args.ledger.now l c.given-in-Answered.new.ledger c.given-in-Answered.result) (sym c.in-Answered.is) (c.given-in-Answered.ensures.answered c.in-Answered.answer)

pub returns-in-End : goal.returns-in-End
returns-in-End c = subst (λ (l : PrintedLine). Steps c.args.ledger.now l c.ended.new.ledger c.ended.result) (sym c.in-End.is) (c.ended.ensures c.in-End.cause)

pub returns-in-Tick : goal.returns-in-Tick
returns-in-Tick c =
    subst (λ (l : PrintedLine). Steps c.args.ledger.now l c.ticked.new.ledger c.ticked.result) (sym c.in-Tick.is)
    (subst (λ (x : ℤ). Steps c.args.ledger.now (lines.Tick x) c.ticked.new.ledger c.ticked.result) (to_z-of_z w64 c.in-Tick.now (search rules)) c.ticked.ensures)

pub returns-in-Script : goal.returns-in-Script
returns-in-Script c = subst (λ (l : PrintedLine). Steps c.args.ledger.now l c.scripted.new.ledger None) (sym c.in-Script.is) (c.scripted.ensures c.in-Script.step)

pub returns-in-Stop : goal.returns-in-Stop
returns-in-Stop c = subst (λ (l : PrintedLine). Steps c.args.ledger.now l c.stopped.new.ledger None) (sym c.in-Stop.is) (c.stopped.ensures)

pub returns-in-Start : goal.returns-in-Start
returns-in-Start c = subst (λ (l : PrintedLine). Steps c.args.ledger.now l c.started.new.ledger None) (sym c.in-Start.is) (c.started.ensures)

pub returns-in-Judged-default-false : goal.returns-in-Judged-default-false
returns-in-Judged-default-false c =
    let off : c.in-Judged-default-false.yes ≡ false = cc (c.in-Judged-default-false.yes-is, c.in-Judged-default-false.yes-test) in
    subst (λ (l : PrintedLine). Steps c.args.ledger.now l c.given-in-Judged-default-false.new.ledger c.given-in-Judged-default-false.result) (sym c.in-Judged-default-false.is)
    (subst (λ (told : Bool). Steps c.args.ledger.now (lines.Judged c.in-Judged-default-false.pass told) c.given-in-Judged-default-false.new.ledger c.given-in-Judged-default-false.result) (sym off) c.given-in-Judged-default-false.ensures.judged)
