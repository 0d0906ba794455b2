use Rattle.cmc_audit_laws.proofs.LoadsRead.{load_value}
use Rattle.cmc_audit_laws.proofs.printing.each_load_is_read_again.Goals as goal

pub returns : goal.returns
returns c n some few = load_value n some few
