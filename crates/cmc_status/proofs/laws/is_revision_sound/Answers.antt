use Rattle.cmc_status.proofs.History.{revision_sound}
use Rattle.cmc_status.proofs.laws.is_revision_sound.Goals as goal

pub returns : goal.returns
returns c = revision_sound
