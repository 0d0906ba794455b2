use Rattle.std.proofs.Common.{◌≡◌, ◌+◌, ◌<◌, List, Option, refl, sym, ap, subst, length, get_or, reverse, take}
use Rattle.cmc_lines.specs.declared.line.PrintedLine.{PrintedLine}
use Rattle.cmc_audit_ledger.specs.Ledgers.{setting_of}
use Rattle.cmc_audit_clauses.specs.declared.clause.Clause.{Clause}
use Rattle.cmc_audit_steps.specs.Steps.{AreKept, Went}
use Rattle.cmc_audit.proofs.Coming.{fails_at, kept_first, taken_more}
use Rattle.cmc_audit.proofs.auditing.take_in.Goals as goal

pub loop-line-init : goal.loop-line-init
loop-line-init c = (refl, kept_first (setting_of c.args.printed.now.scenario) c.args.ledger.now c.requires)

pub returns-in-Some : goal.returns-in-Some
returns-in-Some c =
    let s = setting_of c.args.printed.now.scenario in
    let xs : List PrintedLine = c.args.printed.now.entries in
    let low = subst (λ (l : List PrintedLine). c.loop-line.line-index < length l) c.as_slice-line-items.ensures c.loop-line-test.true in
    let at = subst (λ (l : List PrintedLine). c.line-item.result ≡ get_or l c.loop-line.line-index c.line-item.result) c.as_slice-line-items.ensures c.line-item.is in
    let before : List PrintedLine = reverse (take c.loop-line.line-index xs) in
    let went = c.in_ok-clause.ensures s before c.loop-line.invariant.1 in
    fails_at s xs c.loop-line.line-index c.loop-line.entry c.line-item.result c.loop-line.ledger c.in-Some.clause low at c.loop-line.invariant.0 c.loop-line.invariant.1
    (subst (λ (failed : Option Clause). Went s before c.line-item.result c.step.new.ledger failed) c.in-Some.is went)

pub loop-line-preserved : goal.loop-line-preserved
loop-line-preserved c =
    let s = setting_of c.args.printed.now.scenario in
    let xs : List PrintedLine = c.args.printed.now.entries in
    let low = subst (λ (l : List PrintedLine). c.loop-line.line-index < length l) c.as_slice-line-items.ensures c.loop-line-test.true in
    let at = subst (λ (l : List PrintedLine). c.line-item.result ≡ get_or l c.loop-line.line-index c.line-item.result) c.as_slice-line-items.ensures c.line-item.is in
    let before : List PrintedLine = reverse (take c.loop-line.line-index xs) in
    let went = c.in_ok-clause.ensures s before c.loop-line.invariant.1 in
    let on = subst (λ (failed : Option Clause). Went s before c.line-item.result c.step.new.ledger failed) c.in_default.is went in (
      ap (λ n. n + 1) c.loop-line.invariant.0,
      subst (λ (l : List PrintedLine). AreKept s l c.step.new.ledger) (sym (taken_more xs c.loop-line.line-index c.line-item.result low at)) on,
    )
