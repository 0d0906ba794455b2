use Rattle.std.proofs.Common.{Option, subst}
use Rattle.std.specs.Prelude.{MatchOption}
use Rattle.cmc_setup.specs.declared.scenario.Scenario.{Scenario}
use Rattle.cmc_line_reading.specs.Histories.{IsScenario, IsScenarioOf}
use Rattle.cmc_line_reading.proofs.Texts.{first_fails}
use Rattle.cmc_line_reading.proofs.history.read_history.Goals as goal

pub returns-in-None : goal.returns-in-None
returns-in-None c =
    first_fails _ _ _ c.in-Some.ensures
    (subst (λ (o : Option Scenario). MatchOption o (IsScenario c.in-Some.line.now → ⊥) (IsScenarioOf c.in-Some.line.now)) c.in-None.is c.in_ok-scenario.ensures)
