use Rattle.std.proofs.Common.{take}
use Rattle.std.specs.List.{All}
use Rattle.cmc_summary_form.specs.SummaryForm.{HasNames}
use Rattle.cmc_audit_laws.proofs.summing.waits_have_names.Given as goal

abbrev pub invariant-loop-waiting : goal.invariant-loop-waiting
invariant-loop-waiting l = All (λ w. HasNames w.certificate) (take l.waiting-index l.waits)
