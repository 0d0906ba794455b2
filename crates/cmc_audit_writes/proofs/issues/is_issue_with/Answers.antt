use Rattle.std.proofs.Common.{ℤ, rules, subst, w64}
use Rattle.std.proofs.lemmas.Int.{to_z-of_z}
use Rattle.std.proofs.lemmas.Result.{IfOk-weaker}
use Rattle.std.specs.Prelude.{◌↔◌, IsTrue}
use Rattle.cmc_audit_writes.specs.IssueClauses.{IsSignedWrite}
use Rattle.cmc_audit_writes.proofs.issues.is_issue_with.Goals as goal

pub returns : goal.returns
returns c =
    IfOk-weaker c.is_signed.result _ _
    (λ is test.
    let signed = subst (λ (at : ℤ). IsTrue is ↔ IsSignedWrite c.args.journal.now c.args.certificate.now c.args.request.now c.args.file.now at c.args.written.now) (to_z-of_z w64 c.args.since (search rules)) test in
    (λ on. record { keyed = c.is_keyed.ensures.0 c.if-not-is_keyed.false; signed = signed.0 on }, λ issue. signed.1 issue.signed))
    c.is_signed.ensures
