use Rattle.cmc_moves.proofs.Sounds.{each_sound}
use Rattle.cmc_load_laws.proofs.CurrentHistories.{runs_lower}
use Rattle.cmc_load_laws.proofs.RolesLower.{role_lowers}
use Rattle.cmc_load_laws.proofs.lowering.current_writes_lower_the_measure.Goals as goal

pub returns : goal.returns
returns c = runs_lower each_sound (role_lowers each_sound c.made_key_fits.ensures c.own_request_is_wanted.ensures)
