use Rattle.cmc_trigger.proofs.Sound.{trigger_sound}
use Rattle.cmc_trigger.proofs.laws.is_sound.Goals as goal

pub returns : goal.returns
returns c = trigger_sound
