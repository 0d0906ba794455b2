use Rattle.std.proofs.Common.{subst}
use Rattle.std.proofs.lemmas.List.{take_all}
use Rattle.std.proofs.lemmas.List.Elements.{All-more}
use Rattle.std.specs.List.{All}
use Rattle.cmc_summary.specs.declared.summary.Waiting.{Waiting}
use Rattle.cmc_summary_form.specs.SummaryForm.{HasNames}
use Rattle.cmc_audit_laws.proofs.summing.waits_have_names.Goals as goal

abbrev IsNamed : Waiting → Type 0
IsNamed w = HasNames w.certificate

pub loop-waiting-preserved : goal.loop-waiting-preserved
loop-waiting-preserved c =
    All-more IsNamed c.args.waits.now c.loop-waiting.waiting-index c.waiting-item.result c.loop-waiting-test.true c.loop-waiting.invariant (subst IsNamed c.waiting-item.is c.wait_has_names.ensures)

pub returns : goal.returns
returns c = subst (All IsNamed) (take_all c.loop-waiting.waiting-index c.args.waits.now c.loop-waiting-test.false) c.loop-waiting.invariant
