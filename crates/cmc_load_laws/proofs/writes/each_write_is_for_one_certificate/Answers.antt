use Rattle.cmc_moves.proofs.Sounds.{each_sound}
use Rattle.cmc_load_laws.proofs.LoadHistories as histories
use Rattle.cmc_load_laws.proofs.writes.each_write_is_for_one_certificate.Goals as goal

pub returns-clause-one : goal.returns-clause-one
returns-clause-one c = histories.runs_write_for_one each_sound

pub returns-clause-kept : goal.returns-clause-kept
returns-clause-kept c = histories.runs_keep_certificates each_sound

pub returns-clause-parted : goal.returns-clause-parted
returns-clause-parted c = histories.runs_are_parted each_sound
