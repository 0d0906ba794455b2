-- What controllers take for granted where they act, and what no call of a pass comes to.
use Rattle.std.specs.Prelude.{◌≡◌, ◌<◌, ◌^◌, ℤ, true, List, [], ◌∷◌}
use Rattle.cmc_objects.specs.declared.call.Reply.{Reply}
use Rattle.cmc_objects.specs.declared.call.Reply.TheVariants.{Invalid}
use Rattle.cmc_objects.specs.declared.entry.Who.{Who}
use Rattle.cmc_objects.specs.declared.entry.Who.TheVariants.{Pass}
use Rattle.cmc_objects.specs.declared.entry.Entry.{Entry}
use Rattle.cmc_objects.specs.declared.entry.Entry.TheVariants.{Call as Called}
use Rattle.cmc_objects.specs.Requests.{is_run_time}
use Rattle.cmc_pass.specs.declared.pass.Views.{Views}
use Rattle.cmc_pass.specs.declared.pass.Desk.{Desk}
use Rattle.cmc_rules.specs.declared.progress.OpenPass.{OpenPass}
use Rattle.cmc_rules.specs.declared.progress.Stage.{Stage}
use Rattle.cmc_rules.specs.declared.progress.Stage.TheVariants.{Barred}
use Rattle.cmc_rules.specs.Dates.{HasDatedFailure}
use Rattle.cmc_rules.specs.Issuer.{HasRequestForm, HasReplyRowForm}
use Rattle.cmc_rules.specs.NextRequests.{HasNextRevision}

-- all that the controllers ask of what a role sees, of the moment and of the desk
pub record MayAct (seen : Views) (now : ℤ) (desk : Desk) : Type 0 where
  -- a last failure lies in the years that can be written
  pub dated : HasDatedFailure seen
  -- after the revision of the Certificate there is a next one
  pub revision : HasNextRevision seen.certificate
  -- the moment is one of a run
  pub time : is_run_time now ≡ true
  -- one question more can be counted
  pub asked : desk.asked < 2 ^ 63
  -- an issuer can be asked about the request
  pub form : HasRequestForm seen.request
  -- and the answer that is set out for it can be given
  pub reply : HasReplyRowForm seen.request desk

-- ---- no rule refuses a call of a pass

abbrev pub IsUnbarred : Stage → Type 0
IsUnbarred Barred = ⊥
IsUnbarred other = Unit {0}

abbrev pub IsNotBarred : OpenPass → Type 0
IsNotBarred p = IsUnbarred p.stage

-- the reply to a pass names no rule
abbrev pub IsNotInvalid : Who → Reply → Type 0
IsNotInvalid (Pass pass) (Invalid rule) = ⊥
IsNotInvalid who reply = Unit {0}

abbrev pub IsValidEntry : Entry → Type 0
IsValidEntry (Called who call reply) = IsNotInvalid who reply
IsValidEntry other = Unit {0}

-- no call of a pass is answered that a rule refuses it
abbrev pub IsNeverInvalid : List Entry → Type 0
IsNeverInvalid [] = Unit {0}
IsNeverInvalid (e ∷ h) = IsValidEntry e × IsNeverInvalid h
