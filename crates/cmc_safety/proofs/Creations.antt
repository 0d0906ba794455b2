-- In a run the moment at which an object was made lies in the years 1950 to 9999.
use Rattle.std.proofs.Common.{ℤ, List}
use Rattle.cmc_objects.specs.declared.object.Object.{Object}
use Rattle.cmc_objects.specs.declared.entry.Entry.{Entry}
use Rattle.cmc_objects.specs.Objects.{meta_of, numbered}
use Rattle.cmc_policies.specs.Renewal.{IsCertificateTime}
use Rattle.cmc_model.specs.Stored.{created, updated, with_status}
use Rattle.cmc_model.specs.Histories.{Setting, moment}
use Rattle.cmc_model.specs.Writes.{writes}
use Rattle.cmc_safety.specs.Formed.{IsFormed}
use Rattle.cmc_safety.proofs.Course.{AreSound}
use Rattle.cmc_safety.proofs.InProgress.{IsPlayed}
use Rattle.cmc_safety.proofs.Moments.{moment_in_years}
use Rattle.cmc_safety.proofs.Carried.{EachVersion, no_version, carried}
use Rattle.cmc_safety.proofs.Kept.{IsKept, Any, brings_any, kept_more}

abbrev pub IsMadeInYears : Object → Type 0
IsMadeInYears o = IsCertificateTime (meta_of o).created

-- a create sets the moment, and all else keeps it
made_kept : (now : ℤ) → IsCertificateTime now → IsKept now IsMadeInYears Any Any
unfolding created numbered updated with_status
made_kept now timed = record {
  certificates = record { makes = λ version a new. timed; numbers = λ version generation a is. is; updates = λ old new is given. is; sets = λ old new is given. is; names = λ name a new. tt };
  requests = record { makes = λ version a new. timed; numbers = λ version generation a is. is; updates = λ old new is given. is; sets = λ old new is given. is; names = λ name a new. tt };
  secrets = record { makes = λ version a new. timed; numbers = λ version generation a is. is; updates = λ old new is given. is; sets = λ old new is given. is; names = λ name a new. tt };
}

-- each version that an accepted write stored says such a moment
pub made_versions : AreSound → (s : Setting) (h : List Entry) → IsFormed s → IsPlayed s h → EachVersion IsMadeInYears (writes s h)
made_versions sound s h formed o =
    carried sound (EachVersion IsMadeInYears) s formed
    (record {
      none = no_version IsMadeInYears;
      user = λ h call reply o right owes ok. kept_more s h call reply (made_kept (moment s h) (moment_in_years s h formed o.follows)) (brings_any call);
      pass = λ h call reply o p. kept_more s h call reply (made_kept (moment s h) (moment_in_years s h formed o.follows)) (brings_any call);
    })
    h o
