-- The parts of the measure: their bounds, and what leaves them as they are.
use Rattle.std.proofs.Common.{◌≡◌, ◌+◌, ◌≤◌, ℕ, ℤ, List, [], ◌∷◌, Bool, true, false, not, Option, Some, None, refl, sym, ap, ◌∙◌, arith}
use Rattle.std.specs.Prelude.{if◌then◌else◌, ◌&&◌, is_some}
use Rattle.cmc_meta.specs.declared.conditions.Condition.{Condition}
use Rattle.cmc_meta.specs.declared.conditions.ConditionKind.TheVariants.{Ready}
use Rattle.cmc_meta.specs.ConditionLists.{condition_at}
use Rattle.cmc_der.specs.Keys.{CertificateFields}
use Rattle.cmc_objects.specs.declared.certificate.Certificate.{Certificate}
use Rattle.cmc_objects.specs.declared.certificate.CertStatus.{CertStatus}
use Rattle.cmc_objects.specs.declared.request.CertificateRequest.{CertificateRequest}
use Rattle.cmc_objects.specs.declared.secret.Secret.{Secret}
use Rattle.cmc_policies.specs.declared.facts.Reason.{Reason}
use Rattle.cmc_policies.specs.declared.renewal.Renew.{Renew}
use Rattle.cmc_match.specs.Facts.{pair_at}
use Rattle.cmc_pass.specs.declared.pass.Views.{Views}
use Rattle.cmc_pass.specs.declared.pass.Act.{Act}
use Rattle.cmc_pass.specs.declared.pass.Act.TheVariants.{Nothing}
use Rattle.cmc_rules.specs.NextKeys.{is_named, has_fitting_key}
use Rattle.cmc_rules.specs.Chains.{readiness_reason, trigger_reason}
use Rattle.cmc_rules.specs.Trigger.{trigger, for_certificate as trigger_for, for_reason, frame_of, is_issuing, is_in_back_off, issue_call}
use Rattle.cmc_rules.specs.Readiness.{readiness, ready_condition, ready_by, ready_call, is_settled}
use Rattle.cmc_run_laws.specs.Issuances.{certificate_restated, with_certificate}
use Rattle.cmc_load_laws.specs.Measure.{weight, acts, key_part, under_way, idle, certificate_part, with_next}

-- ---- bounds

pub weight_within : (n : ℕ) (b : Bool) → weight n b ≤ n
weight_within n true = grind (arith)
weight_within n false = grind (arith)

pub weight_on : (n : ℕ) (b : Bool) → b ≡ true → weight n b ≡ n
weight_on n b is = ap (weight n) is

pub weight_off : (n : ℕ) (b : Bool) → b ≡ false → weight n b ≡ 0
weight_off n b is = ap (weight n) is

key_by : (b named : Bool) → (if b then weight 1 (not named) else 3) ≤ 3
key_by true true = grind (arith)
key_by true false = grind (arith)
key_by false named = grind (arith)

pub key_within : (c : Certificate) (next : List Secret) → key_part c next ≤ 3
key_within c [] = grind (arith)
key_within c (k ∷ ks) = key_by (has_fitting_key c.spec.key k) (is_named c.status.next_key k)

-- ---- the two states

pub while_issued : (now : ℤ) (seen : Views) (c : Certificate) → is_issuing c ≡ true → certificate_part now seen (Some c) ≡ weight 1 (acts (readiness seen now)) + under_way now seen c
while_issued now seen c is = ap (λ (b : Bool). weight 1 (acts (readiness seen now)) + (if b then under_way now seen c else idle now seen c)) is

pub while_not : (now : ℤ) (seen : Views) (c : Certificate) → is_issuing c ≡ false → certificate_part now seen (Some c) ≡ weight 1 (acts (readiness seen now)) + idle now seen c
while_not now seen c is = ap (λ (b : Bool). weight 1 (acts (readiness seen now)) + (if b then under_way now seen c else idle now seen c)) is

-- ---- readiness

acts_by : (b : Bool) (a : Act) → acts a ≡ true → acts (if b then Nothing else a) ≡ not b
acts_by true a is = refl
acts_by false a is = is

pub ready_acts : (new : Condition) (renew : Renew) (pair : Option CertificateFields) (c : Certificate) → acts (ready_by new renew pair c) ≡ not (is_settled new renew pair c.status)
unfolding ready_call
ready_acts new renew pair c = acts_by (is_settled new renew pair c.status) _ refl

settled_same : (new : Condition) (renew : Renew) (pair : Option CertificateFields) (status later : CertStatus) → later.not_before ≡ status.not_before → later.not_after ≡ status.not_after → later.renewal ≡ status.renewal
    → condition_at later.conditions Ready ≡ condition_at status.conditions Ready → is_settled new renew pair later ≡ is_settled new renew pair status
unfolding is_settled
settled_same new renew pair status later b e r same = rw (b, e, r, same) refl

-- a status that says the same of what readiness looks at
pub record SaysSame (status later : CertStatus) : Type 0 where
  pub ready : condition_at later.conditions Ready ≡ condition_at status.conditions Ready
  pub revision : later.revision ≡ status.revision
  pub begins : later.not_before ≡ status.not_before
  pub ends : later.not_after ≡ status.not_after
  pub renews : later.renewal ≡ status.renewal

pub ready_kept : (now : ℤ) (seen : Views) (version : ℕ) (c : Certificate) (later : CertStatus) → SaysSame c.status later
    → acts (readiness (with_certificate (certificate_restated version later c) seen) now) ≡ acts (readiness (with_certificate c seen) now)
unfolding readiness
ready_kept now seen version c later same =
    let new : Option Reason = readiness_reason (frame_of now c) c seen.secret seen.requests in
    let other : Certificate = certificate_restated version later c in
    let reason : readiness_reason (frame_of now other) other seen.secret seen.requests ≡ new = rw same.revision refl in
    ap (λ (o : Option Reason). acts (ready_by (ready_condition now o) (frame_of now c).renew (pair_at seen.secret) other)) reason
    ∙ ready_acts (ready_condition now new) (frame_of now c).renew (pair_at seen.secret) other
    ∙ ap not (settled_same (ready_condition now new) (frame_of now c).renew (pair_at seen.secret) c.status later same.begins same.ends same.renews same.ready)
    ∙ sym (ready_acts (ready_condition now new) (frame_of now c).renew (pair_at seen.secret) c)

-- ---- the trigger

reason_acts : (now : ℤ) (requests : List CertificateRequest) (c : Certificate) (reason : Option Reason) → acts (for_reason now requests c reason) ≡ (is_some reason && not (is_in_back_off now requests c))
unfolding issue_call
reason_acts now requests c None = refl
reason_acts now requests c (Some reason) = acts_by (is_in_back_off now requests c) _ refl

not_by : (b : Bool) (a : Act) → acts (if b then Nothing else a) ≡ (not b && acts a)
not_by true a = refl
not_by false a = refl

pub trigger_acts : (now : ℤ) (seen : Views) (c : Certificate)
    → acts (trigger (with_certificate c seen) now) ≡ (not (is_issuing c) && (is_some (trigger_reason (frame_of now c) c seen.secret seen.requests) && not (is_in_back_off now seen.requests c)))
unfolding trigger trigger_for
trigger_acts now seen c =
    not_by (is_issuing c) _ ∙ ap (λ (b : Bool). not (is_issuing c) && b) (reason_acts now seen.requests c (trigger_reason (frame_of now c) c seen.secret seen.requests))

pub trigger_beside : (now : ℤ) (seen : Views) (next : List Secret) → trigger (with_next next seen) now ≡ trigger seen now
unfolding trigger
trigger_beside now seen next = refl
