use Rattle.cmc_summary_form.proofs.SummarySo.{has_form}
use Rattle.cmc_summary_form.proofs.laws.read_has_form.Goals as goal

pub returns : goal.returns
returns c d read = has_form d _ read
