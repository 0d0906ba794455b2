use Rattle.std.proofs.Common.{◌+◌, length, refl, ap, subst, arith}
use Rattle.cmc_line_reading.specs.Bodies.{IsSaid}
use Rattle.cmc_line_reading.specs.declared.said.Said.{Said}
use Rattle.cmc_line_reading.proofs.Bodies.{closed_there, ends_early, goes_past, goes_wrong, none_behind, one_more, some_behind}
use Rattle.cmc_line_reading.proofs.history.read_body.Goals as goal

pub returns-in-Nothing : goal.returns-in-Nothing
returns-in-Nothing c =
    let is = subst (λ (s : Said). IsSaid (length c.as_slice.result.now + 1) c.in-Some.line.now s) c.in-Nothing.is c.in_ok-entry.ensures in
    goes_wrong _ _ _ _ _ _ _ (ap (λ es. length es + 1) c.as_slice.ensures) refl c.in-Some.ensures is.0 is.1 c.loop-line.invariant

pub loop-line-preserved : goal.loop-line-preserved
loop-line-preserved c =
    rw (c.in_ok-push-in-Entry.ensures.ok)
    (one_more _ _ _ _ _ _ _ (ap (λ es. length es + 1) c.as_slice.ensures) c.in-Some.ensures
    (subst (λ (s : Said). IsSaid (length c.as_slice.result.now + 1) c.in-Some.line.now s) c.in-Entry.is c.in_ok-entry.ensures) c.loop-line.invariant)

pub returns-in-Summary : goal.returns-in-Summary
returns-in-Summary c =
    closed_there _ _ _ _ _ _ (none_behind _ c.if-is_empty.ensures) c.in-Some.ensures
    (subst (λ (s : Said). IsSaid (length c.as_slice.result.now + 1) c.in-Some.line.now s) c.in-Summary.is c.in_ok-entry.ensures) c.loop-line.invariant

pub returns-in-Summary-2 : goal.returns-in-Summary-2
returns-in-Summary-2 c =
    goes_past _ _ _ _ _ _ _ _ (ap (λ es. length es + 1) c.as_slice.ensures) refl (some_behind _ c.if-is_empty.ensures) c.in-Some.ensures
    (subst (λ (s : Said). IsSaid (length c.as_slice.result.now + 1) c.in-Some.line.now s) c.in-Summary.is c.in_ok-entry.ensures) c.loop-line.invariant

pub returns : goal.returns
returns c = ends_early _ _ _ _ _ (ap (λ es. length es + 1) c.as_slice-2.ensures) (omega arith) c.in_default.ensures c.loop-line.invariant
