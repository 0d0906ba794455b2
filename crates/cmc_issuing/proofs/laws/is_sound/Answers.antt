use Rattle.cmc_issuing.proofs.Sound.{issuing_sound}
use Rattle.cmc_issuing.proofs.laws.is_sound.Goals as goal

pub returns : goal.returns
returns c = issuing_sound
