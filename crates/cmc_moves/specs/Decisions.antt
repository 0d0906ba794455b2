-- Decisions: acts that hang on what a pass saw alone, so that they can be computed anywhere and handed in.
use Rattle.std.specs.Prelude.{◌≡◌, ℤ, Bool, true, false, ◌&&◌, [], Option, Some, None}
use Rattle.cmc_objects.specs.declared.role.Role.{Role}
use Rattle.cmc_objects.specs.declared.role.Role.TheVariants.{RequestManager, Issuing}
use Rattle.cmc_pass.specs.declared.pass.Act.{Act}
use Rattle.cmc_pass.specs.declared.pass.Desk.{Desk}
use Rattle.cmc_pass.specs.declared.pass.Views.{Views}
use Rattle.cmc_rules.specs.declared.progress.OpenPass.{OpenPass}
use Rattle.cmc_rules.specs.declared.progress.Stage.{Stage}
use Rattle.cmc_rules.specs.declared.progress.Stage.TheVariants.{Fresh}
use Rattle.cmc_rules.specs.Acts.{act}

-- what a pass saw as it began, and when that was
pub record BegunPass : Type 0 where
  pub role : Role
  pub views : Views
  pub since : ℤ

-- the act of a role on these views at this moment
pub record Decision : Type 0 where
  pub role : Role
  pub views : Views
  pub since : ℤ
  pub act : Act

abbrev pub begun_of : OpenPass → BegunPass
begun_of p = record { role = p.role; views = p.seen; since = p.since }

-- a desk with nothing on it
abbrev pub bare_desk : Desk
bare_desk = record { material = []; asked = 0; rules = record { issuers = []; refuse = []; policies = [] } }

-- the roles whose acts hang on no desk
abbrev pub decides_alone : Role → Bool
decides_alone RequestManager = true
decides_alone Issuing = true
decides_alone other = false

-- the act is the role's, whatever the desk
pub record IsDecided (d : Decision) : Type 0 where
  pub alone : decides_alone d.role ≡ true
  pub acts : (desk : Desk) → d.act ≡ act d.role d.views d.since desk

-- the decision is on what the pass saw
pub record IsDecidedOn (b : BegunPass) (d : Decision) : Type 0 where
  pub role : d.role ≡ b.role
  pub views : d.views ≡ b.views
  pub since : d.since ≡ b.since
  pub decided : IsDecided d

-- there is a decision exactly for a role that decides alone
abbrev pub IsDecision : BegunPass → Option Decision → Type 0
IsDecision b None = decides_alone b.role ≡ false
IsDecision b (Some d) = IsDecidedOn b d

-- ---- the pass that takes a decision

abbrev pub is_fresh_stage : Stage → Bool
is_fresh_stage Fresh = true
is_fresh_stage other = false

-- its role decides alone, and nothing of its act was done
abbrev pub is_undecided : OpenPass → Bool
is_undecided p = decides_alone p.role && is_fresh_stage p.stage

abbrev pub IsUndecided : Option OpenPass → Type 0
IsUndecided None = ⊥
IsUndecided (Some p) = is_undecided p ≡ true

-- the pass saw what was decided on
abbrev pub SawSame : Decision → Option OpenPass → Type 0
SawSame d None = ⊥
SawSame d (Some p) = (d.role ≡ p.role) × (d.since ≡ p.since) × (d.views ≡ p.seen)
