use Rattle.std.proofs.Common.{subst, Option}
use Rattle.std.proofs.lemmas.Result.{IfOk-weaker}
use Rattle.cmc_objects.specs.declared.call.Call.{Call}
use Rattle.cmc_audit_clauses.specs.declared.clause.Clause.TheVariants as clauses
use Rattle.cmc_audit_calls.specs.CallsOfLines.{IsRead}
use Rattle.cmc_audit_steps.proofs.CallLines.{none_read, steps_so}
use Rattle.cmc_audit_steps.proofs.calling.called.Goals as goal

pub returns-in-Some : goal.returns-in-Some
returns-in-Some c =
    IfOk-weaker c.make.result _ _
    (λ failed calls. steps_so (record { name = c.args.name; key = c.args.key.now; object = c.args.object.now; version = c.args.version }) c.args.printed.now c.args.who c.in-Some.call c.args.ledger.now c.make.new.ledger failed
    (subst (λ (read : Option Call). IsRead c.args.name c.args.key.now c.args.object.now c.args.version read) c.in-Some.is c.in_ok-call.ensures) calls)
    c.make.ensures

pub returns-in-None : goal.returns-in-None
returns-in-None c =
    none_read (record { name = c.args.name; key = c.args.key.now; object = c.args.object.now; version = c.args.version }) c.args.printed.now c.args.who clauses.Place c.args.ledger.now
    (subst (λ (read : Option Call). IsRead c.args.name c.args.key.now c.args.object.now c.args.version read) c.in-None.is c.in_ok-call.ensures)
