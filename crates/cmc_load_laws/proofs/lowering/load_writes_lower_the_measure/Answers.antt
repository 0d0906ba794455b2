use Rattle.cmc_moves.proofs.Sounds.{each_sound}
use Rattle.cmc_load_laws.proofs.LoadLowers.{load_lowers}
use Rattle.cmc_load_laws.proofs.RolesLower.{role_lowers}
use Rattle.cmc_load_laws.proofs.lowering.load_writes_lower_the_measure.Goals as goal

pub returns : goal.returns
returns c =
    load_lowers each_sound c.made_key_fits.ensures c.plain_passes_run_alone.ensures.alone c.plain_passes_run_alone.ensures.sees (role_lowers each_sound c.made_key_fits.ensures c.own_request_is_wanted.ensures)
