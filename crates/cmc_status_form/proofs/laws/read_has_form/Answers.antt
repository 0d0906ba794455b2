use Rattle.cmc_status_form.proofs.WholeForms.{has_form}
use Rattle.cmc_status_form.proofs.laws.read_has_form.Goals as goal

pub returns : goal.returns
returns c d read = has_form d _ read c.has_bytes.ensures c.has_status_widths.ensures
