-- Tests of conditions and of pairs.
use Rattle.std.proofs.Common.{◌≡◌, Bool, true, false, Option, Some, None, refl, sym, ap, ◌∙◌}
use Rattle.std.specs.Prelude.{◌↔◌, IsTrue, is_some, option_map, codes}
use Rattle.cmc_meta.specs.declared.conditions.Condition.{Condition}
use Rattle.cmc_meta.specs.declared.conditions.ConditionKind.TheVariants as conditions
use Rattle.cmc_meta.specs.declared.conditions.Tri.TheVariants as tri
use Rattle.cmc_meta.specs.ConditionLists.{condition_at}
use Rattle.cmc_objects.specs.declared.request.CertificateRequest.{CertificateRequest}
use Rattle.cmc_rules.specs.Safety.{IsIssued}
use Rattle.cmc_audit_clauses.specs.Written.{SaysIssued}

-- ---- Ready, Issued

issued_of : (r : CertificateRequest) (c : Condition) → condition_at r.status.conditions conditions.Ready ≡ Some c → SaysIssued c → IsIssued r
issued_of r c at says = record {
  since = c.since;
  message = c.message;
  ready = at ∙ ap Some (λ i. record { kind = says.kind i; status = says.status i; reason = says.reason i; message = c.message; since = c.since });
}

says_by : (r : CertificateRequest) (c : Condition) → condition_at r.status.conditions conditions.Ready ≡ Some c → IsIssued r → SaysIssued c
says_by r c at is =
    let same : c ≡ record { kind = conditions.Ready; status = tri.True; reason = codes "Issued"; message = is.message; since = is.since } = let e = sym at ∙ is.ready in cc e in
    record { kind = ap (λ (x : Condition). x.kind) same; status = ap (λ (x : Condition). x.status) same; reason = ap (λ (x : Condition). x.reason) same }

pub issued_some : (r : CertificateRequest) (c : Condition) (b : Bool) → condition_at r.status.conditions conditions.Ready ≡ Some c → IsTrue b ↔ SaysIssued c → IsTrue b ↔ IsIssued r
issued_some r c b at test = (λ on. issued_of r c at (test.0 on), λ is. test.1 (says_by r c at is))

pub issued_none : (r : CertificateRequest) → condition_at r.status.conditions conditions.Ready ≡ None → IsTrue false ↔ IsIssued r
issued_none r none = (λ on. absurd (cc on), λ is. absurd (let e = is.ready in cc (e, none)))

-- ---- something was read

some_read : {X Y : Type 0} (f : X → Y) (r : Option X) (P : Y → Type 0) → ((y : Y) → (option_map f r ≡ Some y) ↔ P y) → (is_some r ≡ true → (y : Y) × P y) × ((y : Y) × P y → is_some r ≡ true)
some_read f None P means = (λ on. absurd (cc on), λ p. absurd (let e = (means p.0).1 p.1 in cc e))
some_read f (Some x) P means = (λ on. (f x, (means (f x)).0 refl), λ p. refl)

pub read_some : {X Y : Type 0} (f : X → Y) (r : Option X) (P : Y → Type 0) (b : Bool) → b ≡ is_some r → ((y : Y) → (option_map f r ≡ Some y) ↔ P y) → IsTrue b ↔ ((y : Y) × P y)
read_some f r P b same means = let both = some_read f r P means in (λ on. both.0 (sym same ∙ on), λ p. same ∙ both.1 p)
