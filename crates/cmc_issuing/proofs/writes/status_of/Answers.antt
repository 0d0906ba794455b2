use Rattle.std.proofs.Common.{rules, w64}
use Rattle.std.proofs.lemmas.Int.{to_z-of_z}
use Rattle.cmc_issuing.proofs.Planned.{no_status, status_given}
use Rattle.cmc_issuing.proofs.writes.status_of.Goals as goal

pub unreachable-requires : goal.unreachable-requires
unreachable-requires c = no_status c.args.views.now c.args.now c.in-None.is c.requires.plan

pub returns : goal.returns
returns c =
    status_given c.args.views.now _ c.args.now c.in-Some.certificate c.deref.result.now c.issued_call.result (to_z-of_z w64 c.args.now (search rules)) c.deref.ensures c.in-Some.is c.requires.plan c.issued_call.ensures
