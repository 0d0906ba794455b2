-- How far the revisions of a Certificate's requests may go: an accepted write of its status lets them go as far as before.
use Rattle.std.proofs.Common.{◌≡◌, ◌⊎◌, ◌+◌, ◌==◌, ◌≤◌, ◌&&◌, ◌||◌, ℕ, ℤ, List, [], ◌∷◌, Bool, true, false, not, Option, Some, refl, sym, ap, ◌∙◌, inl, inr, arith}
use Rattle.std.proofs.lemmas.Bool.{eqb-true}
use Rattle.std.specs.Prelude.{unwrap_or, if◌then◌else◌}
use Rattle.cmc_meta.specs.declared.conditions.Condition.{Condition}
use Rattle.cmc_meta.specs.declared.conditions.ConditionKind.{ConditionKind}
use Rattle.cmc_meta.specs.declared.conditions.ConditionKind.TheVariants as kinds
use Rattle.cmc_meta.specs.declared.conditions.Tri.TheVariants.{True}
use Rattle.cmc_meta.specs.ConditionLists.{condition_rank, tri_eq}
use Rattle.cmc_objects.specs.declared.certificate.Certificate.{Certificate}
use Rattle.cmc_objects.specs.declared.certificate.CertStatus.{CertStatus}
use Rattle.cmc_objects.specs.declared.object.Object.TheVariants.{Cert}
use Rattle.cmc_objects.specs.declared.role.Role.{Role}
use Rattle.cmc_objects.specs.declared.role.Role.TheVariants.{Trigger, KeyManager, RequestManager, Approver, Issuer, Issuing, Readiness, Revision}
use Rattle.cmc_objects.specs.Requests.{is_stated}
use Rattle.cmc_policies.specs.declared.facts.Reason.{Reason}
use Rattle.cmc_rules.specs.Revisions.{RaisesRevision}
use Rattle.cmc_rules.specs.Rights.{MayChange, other_conditions}
use Rattle.cmc_rules.specs.Trigger.{is_issuing, issuing_condition, issuing_status}
use Rattle.cmc_run_laws.specs.Issuances.{certificate_restated}
use Rattle.cmc_load_laws.specs.Measure.{weight}
use Rattle.cmc_load_laws.proofs.Keeping.{now_stated}
use Rattle.cmc_load_laws.proofs.Parts.{weight_on, weight_within}

-- while it is being issued the next revision, and else the one that it has
abbrev pub top : Certificate → ℕ
top c = unwrap_or c.status.revision 0 + weight 1 (is_issuing c)

pub top_alike : (c d : Certificate) → c.status.revision ≡ d.status.revision → is_issuing c ≡ is_issuing d → top d ≤ top c
top_alike c d revision issuing = omega (arith, ap (λ (o : Option ℕ). unwrap_or o 0) revision, ap (weight 1) issuing)

-- ---- conditions of another kind say what is stated of this one

apart_by : (k j : ConditionKind) (c : Condition) → (condition_rank c.kind == condition_rank k) ≡ true → (condition_rank k == condition_rank j) ≡ false → (condition_rank c.kind == condition_rank j) ≡ false
apart_by k j c is off = ap (λ (n : ℕ). n == condition_rank j) (eqb-true (condition_rank c.kind) (condition_rank k) is) ∙ off

stated_by : (b : Bool) (k j : ConditionKind) (c : Condition) (cs rest : List Condition) → (condition_rank c.kind == condition_rank k) ≡ b → (condition_rank k == condition_rank j) ≡ false → is_stated j rest ≡ is_stated j cs
    → is_stated j (if not b then c ∷ rest else rest) ≡ is_stated j (c ∷ cs)
stated_by true k j c cs rest is off below = below ∙ sym (ap (λ (x : Bool). (x && tri_eq c.status True) || is_stated j cs) (apart_by k j c is off))
stated_by false k j c cs rest is off below = ap (λ (x : Bool). ((condition_rank c.kind == condition_rank j) && tri_eq c.status True) || x) below

pub stated_apart : (k j : ConditionKind) (cs : List Condition) → (condition_rank k == condition_rank j) ≡ false → is_stated j (other_conditions k cs) ≡ is_stated j cs
stated_apart k j [] off = refl
stated_apart k j (c ∷ cs) off = stated_by (condition_rank c.kind == condition_rank k) k j c cs (other_conditions k cs) refl off (stated_apart k j cs off)

-- ---- which role may end an issuance

ready_kept : (c d : Certificate) → other_conditions kinds.Ready c.status.conditions ≡ other_conditions kinds.Ready d.status.conditions → is_issuing c ≡ is_issuing d
ready_kept c d same = sym (stated_apart kinds.Ready kinds.Issuing c.status.conditions refl) ∙ ap (is_stated kinds.Issuing) same ∙ stated_apart kinds.Ready kinds.Issuing d.status.conditions refl

-- only the trigger and issuing change whether a Certificate is being issued
pub who_ends : (role : Role) (d c : Certificate) → MayChange role (Some (Cert d)) (Some (Cert c)) → (role ≡ Trigger) ⊎ ((role ≡ Issuing) ⊎ (is_issuing c ≡ is_issuing d))
who_ends Trigger d c is = inl refl
who_ends KeyManager d c (inl is) = absurd is
who_ends KeyManager d c (inr (inl is)) = absurd is
who_ends KeyManager d c (inr (inr is)) = inr (inr (ap (λ (s : CertStatus). is_stated kinds.Issuing s.conditions) is.2.rest))
who_ends RequestManager d c (inl is) = absurd is
who_ends RequestManager d c (inr is) = absurd is
who_ends Approver d c is = absurd is
who_ends Issuer d c is = absurd is
who_ends Issuing d c is = inr (inl refl)
who_ends Readiness d c is = inr (inr (ready_kept c d is.2.others))
who_ends Revision d c is = absurd is

-- ---- over the writes

pub raised_top : (c d : Certificate) → RaisesRevision (Some (Cert d)) (Some (Cert c)) → top d ≤ top c
raised_top c d raises = omega (arith, ap (λ (o : Option ℕ). unwrap_or o 0) raises, weight_within 1 (is_issuing d))

pub triggered_top : (version : ℕ) (now : ℤ) (reason : Reason) (c : Certificate) → top c ≤ top (certificate_restated version (issuing_status now reason c.status) c)
unfolding issuing_status issuing_condition
triggered_top version now reason c =
    let later : Certificate = certificate_restated version (issuing_status now reason c.status) c in
    omega (arith, weight_within 1 (is_issuing c), weight_on 1 (is_issuing later) (now_stated c.status.conditions (issuing_condition now reason) refl))
