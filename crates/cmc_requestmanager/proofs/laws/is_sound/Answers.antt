use Rattle.cmc_requestmanager.proofs.Sound.{request_manager_sound}
use Rattle.cmc_requestmanager.proofs.laws.is_sound.Goals as goal

pub returns : goal.returns
returns c = request_manager_sound
