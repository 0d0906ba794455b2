use Rattle.cmc_load_ends.proofs.LoadsEnd.{role_writes_few}
use Rattle.cmc_load_ends.proofs.loads.role_writes_are_few.Goals as goal

pub returns : goal.returns
returns c = role_writes_few c.generated_names_are_free.ensures c.each_load_write_lowers_the_measure.ensures
