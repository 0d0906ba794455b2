-- What is known of a role's act before a pass begins.
use Rattle.std.specs.Prelude.{◌≡◌, ℕ, true, List, Some}
use Rattle.cmc_objects.specs.declared.role.Role.{Role}
use Rattle.cmc_objects.specs.declared.entry.Entry.{Entry}
use Rattle.cmc_pass.specs.declared.pass.Act.{Act}
use Rattle.cmc_pass.specs.declared.pass.Act.TheVariants as acts
use Rattle.cmc_model.specs.Histories.{Setting}
use Rattle.cmc_rules.specs.Causes.{act_of}
use Rattle.cmc_rules.specs.Passes.{open_pass}
use Rattle.cmc_rules.specs.declared.progress.OpenPass.{OpenPass}
use Rattle.cmc_rules.specs.declared.progress.Stage.TheVariants.{Fresh}
use Rattle.cmc_moves.specs.Decisions.{decides_alone}
use Rattle.cmc_moves.specs.declared.acts.Prospect.{Prospect}
use Rattle.cmc_moves.specs.declared.acts.Prospect.TheVariants.{Nothing, Does, Something}

-- It is none, it is this one, or it is not none: of a role that decides by its views alone the act itself can wait.
abbrev pub IsProspect : Role → Act → Prospect → Type 0
IsProspect role does Nothing = does ≡ acts.Nothing
IsProspect role does (Does act) = (act ≡ does) × (does ≡ acts.Nothing → ⊥)
IsProspect role does Something = (decides_alone role ≡ true) × (does ≡ acts.Nothing → ⊥)

-- the pass of this number is open and has done nothing yet, and this is its act
pub record IsFirstActOf (s : Setting) (h : List Entry) (pass : ℕ) (does : Act) (p : OpenPass) : Type 0 where
  pub opened : open_pass s h pass ≡ Some p
  pub fresh : p.stage ≡ Fresh
  pub acts : does ≡ act_of s h p

abbrev pub IsFirstAct : Setting → List Entry → ℕ → Act → Type 0
IsFirstAct s h pass does = (p : OpenPass) × IsFirstActOf s h pass does p
