-- The histories that a run of a scenario can have.
use Rattle.std.specs.Prelude.{◌≡◌, ◌≤◌, List, length, None}
use Rattle.cmc_objects.specs.declared.entry.Entry.{Entry}
use Rattle.cmc_model.specs.Histories.{Setting}
use Rattle.cmc_rules.specs.Legality.{IsLegal}
use Rattle.cmc_rules.specs.Causes.{IsCaused}
use Rattle.cmc_rules.specs.Scripts.{scripted}
use Rattle.cmc_rules.specs.Rest.{IsAtRest}
use Rattle.cmc_rules.specs.UserSteps.{owed, Follows}

-- Each reply is the store's and each entry stands where it may; passes do what their acts say; the script is followed; and it fits.
-- Such a history may end between a step of the script and what the step brings about.
pub record IsPartOfRun (s : Setting) (h : List Entry) : Type 0 where
  pub legal : IsLegal s h
  pub caused : IsCaused s h
  pub follows : Follows s h
  pub short : length h ≤ s.events

-- the same, and directly after each step stands what it brings about: nothing is owed to the script
pub record IsRun (s : Setting) (h : List Entry) : Type 0 where
  pub legal : IsLegal s h
  pub caused : IsCaused s h
  pub follows : Follows s h
  pub short : length h ≤ s.events
  pub settled : owed s h ≡ None

-- all steps are made, with all that they have happen, and nothing is left to do
pub record IsFinished (s : Setting) (h : List Entry) : Type 0 where
  pub all_steps : scripted h ≡ length s.script
  pub all_effects : owed s h ≡ None
  pub rest : IsAtRest s h
