-- When a certificate must be issued, and why.
use Rattle.std.specs.Prelude.{◌≡◌, ℕ, ℤ, codes, Bool, not, false, if◌then◌else◌, List, [], ◌∷◌, Option, Some, None, int_lt, map}
use Rattle.cmc_policies.specs.declared.facts.Facts.{Facts}
use Rattle.cmc_policies.specs.declared.facts.Frame.{Frame}
use Rattle.cmc_policies.specs.declared.facts.Reason.{Reason}
use Rattle.cmc_policies.specs.declared.facts.Reason.TheVariants.{DoesNotExist, MissingData, InvalidKeyPair, IncorrectIssuer, IncorrectCertificate, SecretMismatch, RequestChanged, Renewing, Expired}
use Rattle.cmc_policies.specs.Renewal.{renewal}

-- the name of the reason, as conditions have it
abbrev pub reason_name : Reason → List ℕ
reason_name DoesNotExist = codes "DoesNotExist"
reason_name MissingData = codes "MissingData"
reason_name InvalidKeyPair = codes "InvalidKeyPair"
reason_name IncorrectIssuer = codes "IncorrectIssuer"
reason_name IncorrectCertificate = codes "IncorrectCertificate"
reason_name SecretMismatch = codes "SecretMismatch"
reason_name RequestChanged = codes "RequestChanged"
reason_name Renewing = codes "Renewing"
reason_name Expired = codes "Expired"

-- what the checks look at: the flags and the times of Facts
pub record Known : Type 0 where
  pub secret : Bool
  pub filled : Bool
  pub pair : Bool
  pub issuer : Bool
  pub owner : Bool
  pub kind : Bool
  pub request : Bool
  pub not_before : ℤ
  pub not_after : ℤ

abbrev pub known : Facts → Known
known facts = record {
  secret = facts.secret;
  filled = facts.filled;
  pair = facts.pair;
  issuer = facts.issuer;
  owner = facts.owner;
  kind = facts.kind;
  request = facts.request;
  not_before = facts.not_before;
  not_after = facts.not_after;
}

-- the reason holds of these facts, at the moment and under the renewal of the frame
abbrev pub holds : Reason → Frame → Known → Bool
holds DoesNotExist frame facts = not facts.secret
holds MissingData frame facts = not facts.filled
holds InvalidKeyPair frame facts = not facts.pair
holds IncorrectIssuer frame facts = not facts.issuer
holds IncorrectCertificate frame facts = not facts.owner
holds SecretMismatch frame facts = not facts.kind
holds RequestChanged frame facts = not facts.request
holds Renewing frame facts = not (int_lt frame.now (renewal facts.not_before facts.not_after frame.renew))
holds Expired frame facts = not (int_lt frame.now facts.not_after)

-- the reason of the first check that holds, each by its own frame
abbrev pub first_holding : List (Reason × Frame) → Known → Option Reason
first_holding [] facts = None
first_holding (check ∷ checks) facts =
    if holds check.0 check.1 facts then Some check.0 else first_holding checks facts

-- the same where all checks share one frame
abbrev pub first_of : List Reason → Frame → Known → Option Reason
first_of reasons frame facts = first_holding (map (λ reason. (reason, frame)) reasons) facts

-- no check of the list holds
abbrev pub NoneHolds : List (Reason × Frame) → Known → Type 0
NoneHolds [] facts = Unit {0}
NoneHolds (check ∷ checks) facts = (holds check.0 check.1 facts ≡ false) × NoneHolds checks facts
