-- The measure falls where issuing writes the status of an issuance whose certificate is not due.
use Rattle.std.proofs.Common.{◌≡◌, ◌<◌, ℕ, ℤ, List, [], ◌∷◌, true, false, Option, Some, refl, sym, ap, arith}
use Rattle.std.specs.Prelude.{codes, is_some, ◌&&◌}
use Rattle.std.proofs.lemmas.Bool.{and_parts}
use Rattle.std.proofs.lemmas.Slice.Eq.{bytes_eq-Decides}
use Rattle.std.specs.Str.{bytes_eq}
use Rattle.cmc_meta.specs.ConditionLists.{IsInOrder}
use Rattle.cmc_objects.specs.declared.certificate.Certificate.{Certificate}
use Rattle.cmc_objects.specs.declared.secret.Secret.{Secret as SecretObject}
use Rattle.cmc_objects.specs.declared.object.Object.TheVariants.{Secret}
use Rattle.cmc_objects.specs.declared.call.Call.{Call as StoreCall}
use Rattle.cmc_objects.specs.declared.call.Call.TheVariants.{Update}
use Rattle.cmc_pass.specs.declared.pass.Views.{Views}
use Rattle.cmc_pass.specs.declared.pass.Desk.{Desk}
use Rattle.cmc_pass.specs.declared.pass.Act.{Act}
use Rattle.cmc_pass.specs.declared.pass.Act.TheVariants.{Nothing, Call, Ask, Issue, Temporary}
use Rattle.cmc_pass.specs.declared.pass.IssuePlan.{IssuePlan}
use Rattle.cmc_rules.specs.Trigger.{trigger, is_issuing}
use Rattle.cmc_rules.specs.Readiness.{readiness}
use Rattle.cmc_rules.specs.Issuance.{issuing, issued_status, ended_condition}
use Rattle.cmc_run_laws.specs.Issuances.{IsAsWritten, IsNotDue, certificate_restated, with_certificate, with_secret}
use Rattle.cmc_run_laws.proofs.Going.{going}
use Rattle.cmc_run_laws.proofs.Issued.{nothing_after_issuance}
use Rattle.cmc_load_laws.specs.Measure.{weight, acts, same_pairs, is_left, is_target_written, measure}
use Rattle.cmc_load_laws.proofs.Keeping.{not_stated}
use Rattle.cmc_load_laws.proofs.Parts.{weight_within, while_issued, while_not}

-- ---- a Secret that stands as the plan leaves it

equal_texts : (a b : List ℕ) → bytes_eq a b ≡ true → a ≡ b
equal_texts a b is = (bytes_eq-Decides a b).0 is

equal_pairs : (ps qs : List (List ℕ × List ℕ)) → same_pairs ps qs ≡ true → ps ≡ qs
equal_pairs [] [] is = refl
equal_pairs [] (q ∷ qs) is = absurd (cc is)
equal_pairs (p ∷ ps) [] is = absurd (cc is)
equal_pairs (p ∷ ps) (q ∷ qs) is =
    let one = and_parts (bytes_eq p.0 q.0) (bytes_eq p.1 q.1 && same_pairs ps qs) is in
    let two = and_parts (bytes_eq p.1 q.1) (same_pairs ps qs) one.1 in
    let name = equal_texts p.0 q.0 one.0 in
    let text = equal_texts p.1 q.1 two.0 in
    let rest = equal_pairs ps qs two.1 in
    λ i. (name i, text i) ∷ rest i

as_written : (k : SecretObject) (call : StoreCall) → is_left (Some k) call ≡ true → IsAsWritten call k
as_written k (Update (Secret new) version) is =
    let both = and_parts (same_pairs new.meta.annotations k.meta.annotations) (same_pairs new.parts k.parts) is in
    record { new = new; writes = refl; annotations = sym (equal_pairs new.meta.annotations k.meta.annotations both.0); parts = sym (equal_pairs new.parts k.parts both.1) }
as_written k other is = absurd (cc is)

pub written_acts : (old : Option SecretObject) (a : Act) → is_target_written old a ≡ true → acts a ≡ true
written_acts old Nothing is = absurd (cc is)
written_acts old (Call call) is = refl
written_acts old (Ask order) is = refl
written_acts old (Issue plan) is = refl
written_acts old (Temporary plan) is = refl

the_plan : (old : Option SecretObject) (a : Act) → is_target_written old a ≡ true → (plan : IssuePlan) × (a ≡ Issue plan) × (is_left old plan.secret ≡ true)
the_plan old (Issue plan) is = (plan, refl, is)
the_plan old other is = absurd (cc is)

-- ---- the status of the next revision

ended : (now : ℤ) (version : ℕ) (c : Certificate) → IsInOrder c.status.conditions → is_issuing (certificate_restated version (issued_status now c.status) c) ≡ false
unfolding issued_status ended_condition
ended now version c ordered = not_stated c.status.conditions (ended_condition now (codes "Issued") (codes "The certificate has been successfully issued")) ordered refl

pub issued_falls : (desk : Desk) (due : ℕ) (now : ℤ) (views : Views) (c : Certificate) (k : SecretObject) (version : ℕ) → IsInOrder c.status.conditions
    → is_target_written (Some k) (issuing (with_certificate c (with_secret k views)) now) ≡ true → IsNotDue now c k
    → measure desk due now (with_certificate (certificate_restated version (issued_status now c.status) c) (with_secret k views)) < measure desk due now (with_certificate c (with_secret k views))
issued_falls desk due now views c k version ordered written not_due =
    let seen : Views = with_secret k views in
    let later : Certificate = certificate_restated version (issued_status now c.status) c in
    let act : Act = issuing (with_certificate c seen) now in
    let on = going now seen c (written_acts (Some k) act written) in
    let plan = the_plan (Some k) act written in
    let quiet : trigger (with_certificate later seen) now ≡ Nothing = nothing_after_issuance now seen c plan.0 k version plan.1 (as_written k plan.0.secret plan.2) not_due in
    omega (
      arith,
      while_issued now (with_certificate c seen) c on.0,
      while_not now (with_certificate later seen) later (ended now version c ordered),
      ap (λ (a : Act). weight 13 (acts a)) quiet,
      weight_within 1 (is_some later.status.next_key),
      weight_within 1 (acts (readiness (with_certificate later seen) now)),
    )
