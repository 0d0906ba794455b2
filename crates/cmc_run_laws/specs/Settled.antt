-- How a Certificate is once nothing is left to do.
use Rattle.std.specs.Prelude.{◌≡◌, ◌⊎◌, ◌&&◌, ℕ, ℤ, Bool, true, false, not, List, Option, Some, None, IsSome, IfSome, is_some}
use Rattle.cmc_meta.specs.declared.conditions.ConditionKind.TheVariants.{Ready}
use Rattle.cmc_x509.specs.ReadKeys.{key_file_at}
use Rattle.cmc_objects.specs.declared.certificate.Certificate.{Certificate}
use Rattle.cmc_objects.specs.declared.entry.Entry.{Entry}
use Rattle.cmc_objects.specs.declared.key_spec.Rotation.{Rotation}
use Rattle.cmc_objects.specs.declared.key_spec.Rotation.TheVariants.{Always, Never}
use Rattle.cmc_objects.specs.Defaults.{key_rotation}
use Rattle.cmc_objects.specs.Requests.{is_stated}
use Rattle.cmc_pass.specs.declared.pass.Views.{Views}
use Rattle.cmc_match.specs.Facts.{fits}
use Rattle.cmc_match.specs.Revisions.{next_request}
use Rattle.cmc_model.specs.Histories.{Setting, moment}
use Rattle.cmc_rules.specs.Approver.{is_covered}
use Rattle.cmc_rules.specs.Issuer.{is_request_waiting}
use Rattle.cmc_rules.specs.Issuance.{is_kept_for_keys}
use Rattle.cmc_rules.specs.KeyManager.{target_key}
use Rattle.cmc_rules.specs.Trigger.{is_issuing, is_backing_off}
use Rattle.cmc_waits.specs.Waits.{wait_of}

-- it is not being issued, and its back-off has not ended
pub record IsBackingOff (now : ℤ) (c : Certificate) : Type 0 where
  pub idle : is_issuing c ≡ false
  pub waits : is_backing_off c.status now ≡ true

-- it is being issued, and what it waits for has a name
pub record IsUnderWay (now : ℤ) (seen : Views) (c : Certificate) : Type 0 where
  pub issuing : is_issuing c ≡ true
  pub waits : IsSome (wait_of now seen c)

-- it is Ready, or in back-off, or under way
abbrev pub IsReadyOrUnderWay : ℤ → Views → Certificate → Type 0
IsReadyOrUnderWay now seen c = (is_stated Ready c.status.conditions ≡ true) ⊎ (IsBackingOff now c ⊎ IsUnderWay now seen c)

-- ---- what can be issued

-- a key that the policy Never keeps, though it does not fit
abbrev pub keeps_unfit : Certificate → Rotation → Option (List ℕ) → Bool
keeps_unfit c Always file = false
keeps_unfit c Never None = false
keeps_unfit c Never (Some file) = is_some (key_file_at file) && not (fits c.spec.key file)

-- Nothing stands in the way of its issuance.
pub record CanBeIssued (s : Setting) (h : List Entry) (seen : Views) (c : Certificate) : Type 0 where
  pub tried : is_backing_off c.status (moment s h) ≡ false
  pub makable : keeps_unfit c (key_rotation c.spec.key) (target_key seen.secret) ≡ false
  pub free : is_kept_for_keys seen.secret ≡ false
  pub covered : is_covered s.rules c.spec.issuer ≡ true
  pub answered : IfSome (next_request c.status.revision seen.requests) (λ r. is_request_waiting (moment s h) r ≡ false)
