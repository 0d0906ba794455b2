use Rattle.cmc_line_reading.proofs.ScenarioLine.{no_name}
use Rattle.cmc_line_reading.proofs.scenarios.inside.Goals as goal

pub returns-in-None : goal.returns-in-None
returns-in-None c = no_name _ c.in-None.ensures
