use Rattle.cmc_audit_laws.proofs.TextPasses.{of_world}
use Rattle.cmc_audit_laws.proofs.printing.what_is_printed_of_a_world_is_audited_yes.Goals as goal

pub returns : goal.returns
returns c = λ value value_is summary_is lines_are.
    of_world c.args.kernel.now.scenario c.scenario.result.now c.args.kernel.now.history c.history.result.now.entries c.args.summary.now c.args.lines.now value c.scenario.ensures c.history.ensures
    c.what_is_printed_is_audited_yes.ensures value_is c.is_run.ensures.run summary_is lines_are
