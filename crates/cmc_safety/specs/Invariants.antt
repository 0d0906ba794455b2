-- What was stored is in order in every run, beside the rules that admit it.
use Rattle.std.specs.Prelude.{◌≡◌, ◌≤◌, ℕ, true, List, Some, unwrap_or}
use Rattle.cmc_meta.specs.declared.key.Key.{Key}
use Rattle.cmc_objects.specs.declared.certificate.Certificate.{Certificate}
use Rattle.cmc_objects.specs.declared.object.Object.{Object}
use Rattle.cmc_objects.specs.Objects.{meta_of}
use Rattle.cmc_objects.specs.declared.entry.Entry.{Entry}
use Rattle.cmc_objects.specs.Requests.{is_run_time}
use Rattle.cmc_setup.specs.ObjectForms.{is_object_form}
use Rattle.cmc_model.specs.Histories.{Setting, moment, accepted}
use Rattle.cmc_model.specs.Versions.{HasVersion}
use Rattle.cmc_model.specs.Writes.{writes}
use Rattle.cmc_policies.specs.Renewal.{IsCertificateTime}
use Rattle.cmc_rules.specs.declared.progress.OpenPass.{OpenPass}
use Rattle.cmc_rules.specs.declared.progress.Stage.{Stage}
use Rattle.cmc_rules.specs.declared.progress.Stage.TheVariants.{Read, Saved}
use Rattle.cmc_rules.specs.Dates.{IsDated}
use Rattle.cmc_rules.specs.Passes.{open_pass}
use Rattle.cmc_rules.specs.Revisions.{revision, revision_of_uid, stated_revision}

-- the pass comes after its live read, and its status is not yet written
abbrev pub IsWriting : Stage → Type 0
IsWriting Read = Unit {0}
IsWriting Saved = Unit {0}
IsWriting other = ⊥

-- each moment that the object says lies in the years 1950 to 9999: when it was made, and those of its status
pub record HasMomentsInYears (o : Object) : Type 0 where
  pub created : IsCertificateTime (meta_of o).created
  pub status : IsDated (Some o)

pub record KeepsInvariants (s : Setting) (h : List Entry) : Type 0 where
  -- each version of an object has the form that reading gives: its issuer's texts and its durations are within
  -- their bounds, and the texts of a Certificate's subject are of their kinds
  pub forms : (key : Key) (o : Object) → HasVersion s h key o → is_object_form o ≡ true
  -- no revision is above the number of accepted writes
  pub revisions : (key : Key) (o : Object) → HasVersion s h key o → unwrap_or (stated_revision o) 0 ≤ accepted s h
  -- each moment that a version of an object says lies in the years 1950 to 9999
  pub moments : (key : Key) (o : Object) → HasVersion s h key o → HasMomentsInYears o
  -- the time of the moment can be written
  pub time : is_run_time (moment s h) ≡ true
  -- from its live read to its status the revision of an issuance is the one that its pass saw
  pub in_progress : (n : ℕ) (p : OpenPass) (c : Certificate) → open_pass s h n ≡ Some p → IsWriting p.stage → p.seen.certificate ≡ Some c → revision_of_uid c.meta.uid (writes s h) ≡ revision c
