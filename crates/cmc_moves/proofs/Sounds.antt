-- The records of laws of all roles, and what they give a world.
use Rattle.std.proofs.Common.{◌≡◌, ℤ, true, false, Bool, int_le, arith}
use Rattle.std.proofs.lemmas.Int.{ints}
use Rattle.cmc_objects.specs.declared.role.Role.{Role}
use Rattle.cmc_objects.specs.declared.role.Role.TheVariants.{Trigger, KeyManager, RequestManager, Approver, Issuer, Issuing, Readiness, Revision}
use Rattle.cmc_pass.specs.declared.pass.Views.{Views}
use Rattle.cmc_pass.specs.declared.pass.Desk.{Desk}
use Rattle.cmc_pass.specs.declared.pass.Act.TheVariants.{Nothing}
use Rattle.cmc_rules.specs.Acts.{act, call_after}
use Rattle.cmc_rules.specs.Sound.{IsSound}
use Rattle.cmc_trigger.proofs.Sound.{trigger_sound}
use Rattle.cmc_keymanager.proofs.Sound.{key_manager_sound}
use Rattle.cmc_requestmanager.proofs.Sound.{request_manager_sound}
use Rattle.cmc_approver.proofs.Sound.{approver_sound}
use Rattle.cmc_issuer.proofs.Sound.{issuer_sound}
use Rattle.cmc_issuing.proofs.Sound.{issuing_sound}
use Rattle.cmc_status.proofs.Readiness.{readiness_sound}
use Rattle.cmc_status.proofs.History.{revision_sound}

-- the records, one a role
pub each_sound : (role : Role) → IsSound role
unfolding act call_after
each_sound Trigger = trigger_sound
each_sound KeyManager = key_manager_sound
each_sound RequestManager = request_manager_sound
each_sound Approver = approver_sound
each_sound Issuer = issuer_sound
each_sound Issuing = issuing_sound
each_sound Readiness = readiness_sound
each_sound Revision = revision_sound

-- ---- what they give

never : (b : Bool) → b ≡ false → b ≡ true → ⊥
never b off on = absurd (cc (off, on))

-- whether a role does nothing depends on the rules of a desk alone
pub any_desk : (role : Role) (seen : Views) (now : ℤ) (d e : Desk) → d.rules ≡ e.rules → act role seen now d ≡ Nothing → act role seen now e ≡ Nothing
any_desk role seen now d e rules is =
    (each_sound role).idle seen now now d e rules (λ at due later low. never (int_le at now) later low) (grind (arith, ints)) is
