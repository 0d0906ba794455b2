use Rattle.cmc_status.proofs.Readiness.{readiness_sound}
use Rattle.cmc_status.proofs.laws.is_readiness_sound.Goals as goal

pub returns : goal.returns
returns c = readiness_sound
