-- Which call brings a pass of issuing to its status, and what its plan is.
use Rattle.std.proofs.Common.{◌≡◌, ◌⊎◌, ℕ, ℤ, List, Bool, true, false, Option, Some, None, refl, inl, inr}
use Rattle.std.specs.Prelude.{option_map, if◌then◌else◌}
use Rattle.cmc_meta.specs.declared.key.Kind.{Kind}
use Rattle.cmc_objects.specs.declared.certificate.Certificate.{Certificate}
use Rattle.cmc_objects.specs.declared.call.Call.{Call}
use Rattle.cmc_objects.specs.declared.call.Reply.{Reply}
use Rattle.cmc_objects.specs.declared.call.Reply.TheVariants.{Ok, Unchanged, Found, Conflict, NotFound, AlreadyExists, Invalid, Unavailable}
use Rattle.cmc_objects.specs.declared.role.Role.{Role}
use Rattle.cmc_objects.specs.declared.role.Role.TheVariants.{Issuing}
use Rattle.cmc_objects.specs.Objects.{version_of}
use Rattle.cmc_pass.specs.declared.pass.Act.{Act}
use Rattle.cmc_pass.specs.declared.pass.Act.TheVariants.{Nothing, Call as Calls, Ask as Asks, Issue, Temporary}
use Rattle.cmc_pass.specs.declared.pass.IssuePlan.{IssuePlan}
use Rattle.cmc_pass.specs.declared.pass.Views.{Views}
use Rattle.cmc_rules.specs.declared.progress.OpenPass.{OpenPass}
use Rattle.cmc_rules.specs.declared.progress.Stage.{Stage}
use Rattle.cmc_rules.specs.declared.progress.Stage.TheVariants.{Fresh, Asked, Given, Read, Saved, Wrote, Refused, Barred}
use Rattle.cmc_rules.specs.Causes.{IsSecretCall}
use Rattle.cmc_rules.specs.Passes.{is_as_seen, is_temporary_act, stage_by, stage_read, stage_written, with_stage}
use Rattle.cmc_safety.proofs.NextCalls.{IsCallAt}

pub went_by : (b : Bool) (stage : OpenPass → Stage) (x : Option OpenPass) (p : OpenPass) → b ≡ true → (if b then option_map (λ (q : OpenPass). with_stage (stage q) q) x else x) ≡ Some p
    → (q : OpenPass) × (x ≡ Some q) × (with_stage (stage q) q ≡ p)
went_by true stage None p on is = absurd (cc is)
went_by true stage (Some q) p on is = (q, refl, cc is)
went_by false stage x p on is = absurd (cc on)

abbrev pub IsServedAs : Reply → Type 0
IsServedAs reply = ((version : ℕ) × (name : List ℕ) × (reply ≡ Ok version name)) ⊎ ((version : ℕ) × (reply ≡ Unchanged version))

-- the pass had read the Certificate, its plan was one to issue, and the call was served
pub record IsSaving (stand_in : Bool) (stage : Stage) (reply : Reply) : Type 0 where
  pub read : stage ≡ Read
  pub lasting : stand_in ≡ false
  pub served : IsServedAs reply

written_saving : (stand_in : Bool) (stage : Stage) → stage_written stand_in stage ≡ Saved → (stage ≡ Read) × (stand_in ≡ false)
written_saving true Read is = absurd (cc is)
written_saving false Read is = (refl, refl)
written_saving stand_in Fresh is = absurd (cc is)
written_saving stand_in (Asked order) is = absurd (cc is)
written_saving stand_in (Given order value) is = absurd (cc is)
written_saving stand_in Saved is = absurd (cc is)
written_saving stand_in Wrote is = absurd (cc is)
written_saving stand_in (Refused entry obstacle) is = absurd (cc is)
written_saving stand_in Barred is = absurd (cc is)

no_reading : (b : Bool) (entry : ℕ) (kind : Kind) (version : ℕ) → stage_read b entry kind version ≡ Saved → ⊥
no_reading true entry kind version is = absurd (cc is)
no_reading false entry kind version is = absurd (cc is)

pub saving : (c : Option Certificate) (stand_in : Bool) (stage : Stage) (entry : ℕ) (kind : Kind) (last : ℕ) (reply : Reply) → stage_by c stand_in stage entry kind last reply ≡ Saved → IsSaving stand_in stage reply
saving c stand_in stage entry kind last (Ok version name) is = let w = written_saving stand_in stage is in record { read = w.0; lasting = w.1; served = inl (version, name, refl) }
saving c stand_in stage entry kind last (Unchanged version) is = let w = written_saving stand_in stage is in record { read = w.0; lasting = w.1; served = inr (version, refl) }
saving c stand_in stage entry kind last (Found object) is = absurd (no_reading (is_as_seen c object) entry kind (version_of object) is)
saving c stand_in stage entry kind last (Conflict named have) is = absurd (cc is)
saving c stand_in stage entry kind last (NotFound at) is = absurd (cc is)
saving c stand_in stage entry kind last (AlreadyExists have) is = absurd (cc is)
saving c stand_in stage entry kind last (Invalid rule) is = absurd (cc is)
saving c stand_in stage entry kind last (Unavailable number) is = absurd (cc is)

-- ---- its plan

pub record HasSecretCall (does : Act) (call : Call) : Type 0 where
  pub plan : IssuePlan
  pub is : does ≡ Issue plan
  pub calls : call ≡ plan.secret

pub secret_planned : (does : Act) (call : Call) → IsSecretCall does call → is_temporary_act does ≡ false → HasSecretCall does call
secret_planned Nothing call next lasting = absurd next
secret_planned (Calls first) call next lasting = absurd next
secret_planned (Asks order) call next lasting = absurd next
secret_planned (Issue plan) call next lasting = record { plan = plan; is = refl; calls = next }
secret_planned (Temporary plan) call next lasting = absurd (cc lasting)

pub issuing_role : (role : Role) (seen : Views) (since : ℤ) (call : Call) → IsCallAt Read role seen since call → role ≡ Issuing
issuing_role role seen since call (inl at) = at.issues.issuing
issuing_role role seen since call (inr at) = at.stands_in.issuing
