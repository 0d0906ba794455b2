use Rattle.std.proofs.Common.{subst}
use Rattle.std.proofs.lemmas.List.Elements.{recursion_from_All}
use Rattle.std.specs.List.{All}
use Rattle.cmc_summary.specs.declared.summary.Waiting.{Waiting}
use Rattle.cmc_summary_form.specs.SummaryForm.{HasNames}
use Rattle.cmc_audit_laws.proofs.summing.summary_is_typed.Goals as goal

abbrev IsNamed : Waiting → Type 0
IsNamed w = HasNames w.certificate

pub returns : goal.returns
returns c = record {
  names = recursion_from_All IsNamed c.args.summary.now.waiting (subst (All IsNamed) c.as_slice.ensures c.waits_have_names.ensures);
  certificates = c.is_count.ensures;
  ready = c.is_count-2.ensures;
  secrets = c.is_count-3.ensures;
}
