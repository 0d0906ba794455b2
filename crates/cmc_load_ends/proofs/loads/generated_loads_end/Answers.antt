use Rattle.cmc_load_ends.proofs.LoadsEnd.{loads_end}
use Rattle.cmc_load_ends.proofs.loads.generated_loads_end.Goals as goal

pub returns : goal.returns
returns c = loads_end c.generated_names_are_free.ensures c.each_load_write_lowers_the_measure.ensures
