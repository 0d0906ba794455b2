use Rattle.cmc_issuer.proofs.Sound.{issuer_sound}
use Rattle.cmc_issuer.proofs.laws.is_sound.Goals as goal

pub returns : goal.returns
returns c = issuer_sound
