-- The sum over requests, one by one.
use Rattle.std.proofs.Common.{◌≡◌, ◌+◌, ◌*◌, ◌≤◌, ◌<◌, inl, inr, ℕ, ℤ, zero, suc, List, [], ◌∷◌, ◌++◌, length, get_or, take, Option, Some, None, Bool, true, false, not, arith, refl}
use Rattle.std.proofs.lemmas.List.{length-take}
use Rattle.std.specs.Prelude.{is_some}
use Rattle.std.specs.Prelude.{if◌then◌else◌}
use Rattle.cmc_objects.specs.declared.certificate.Certificate.{Certificate}
use Rattle.cmc_objects.specs.declared.secret.Secret.{Secret}
use Rattle.cmc_objects.specs.declared.request.CertificateRequest.{CertificateRequest}
use Rattle.cmc_pass.specs.declared.pass.Desk.{Desk}
use Rattle.cmc_rules.specs.Approver.{judge_one}
use Rattle.cmc_rules.specs.Issuer.{grant_one}
use Rattle.cmc_pass.specs.declared.pass.Views.{Views}
use Rattle.cmc_rules.specs.Issuance.{issuing}
use Rattle.cmc_rules.specs.NextKeys.{has_fitting_key, is_named, named_key}
use Rattle.cmc_rules.specs.Readiness.{readiness}
use Rattle.cmc_rules.specs.SeenObjects.{IsAmong}
use Rattle.cmc_rules.specs.Trigger.{is_issuing, trigger}
use Rattle.cmc_load_laws.specs.Measure.{acts, certificate_part, has_fresh_for, idle, is_target_written, key_part, requests_part, under_way, waits, weight}

pub sum_more : (desk : Desk) (now : ℤ) (rs : List CertificateRequest) (r : CertificateRequest) → requests_part desk now (rs ++ r ∷ []) ≡ requests_part desk now rs + waits desk now r
sum_more desk now [] r = omega arith
sum_more desk now (x ∷ rs) r = omega (arith, sum_more desk now rs r)

low_by : (a b : Bool) → (if a then 2 else weight 1 b) ≤ 2
low_by true b = omega arith
low_by false true = omega arith
low_by false false = omega arith

pub waits_low : (desk : Desk) (now : ℤ) (r : CertificateRequest) → waits desk now r ≤ 2
waits_low desk now r = low_by (acts (judge_one desk.rules r)) (acts (grant_one now desk r))

pub sum_low : (desk : Desk) (now : ℤ) (rs : List CertificateRequest) → requests_part desk now rs ≤ 2 * length rs
sum_low desk now [] = omega arith
sum_low desk now (r ∷ rs) = omega (arith, waits_low desk now r, sum_low desk now rs)

pub sum_of_first : (desk : Desk) (now : ℤ) (rs : List CertificateRequest) (i : ℕ) → requests_part desk now (take i rs) ≤ 2 * i
sum_of_first desk now rs i = omega (arith, sum_low desk now (take i rs), short i rs) where
  short : (i : ℕ) (rs : List CertificateRequest) → length (take i rs) ≤ i
  short i rs = omega (arith, length-take i rs)

-- an item at a place is among the list
pub among_at : (rs : List CertificateRequest) (i : ℕ) (d : CertificateRequest) → i < length rs → IsAmong (get_or rs i d) rs
among_at [] i d low = absurd (omega (arith, low))
among_at (r ∷ rs) zero d low = inl refl
among_at (r ∷ rs) (suc i) d low = inr (among_at rs i d (omega (arith, low)))

-- ---- the Certificate's own part

weight_low : (n : ℕ) (b : Bool) → weight n b ≤ n
weight_low n true = omega arith
weight_low n false = omega arith

key_low_by : (a : Bool) (n : ℕ) → n ≤ 1 → (if a then n else 3) ≤ 3
key_low_by true n low = omega (arith, low)
key_low_by false n low = omega arith

key_low : (c : Certificate) (ks : List Secret) → key_part c ks ≤ 3
key_low c [] = omega arith
key_low c (k ∷ ks) = key_low_by (has_fitting_key c.spec.key k) (weight 1 (not (is_named c.status.next_key k))) (weight_low 1 (not (is_named c.status.next_key k)))

under_way_low : (now : ℤ) (seen : Views) (c : Certificate) → under_way now seen c ≤ 12
under_way_low now seen c =
    omega (arith, key_low c seen.next, weight_low 4 (not (has_fresh_for c seen.requests (named_key c.status.next_key seen.next))), weight_low 2 (not (is_target_written seen.secret (issuing seen now))))

idle_low : (now : ℤ) (seen : Views) (c : Certificate) → idle now seen c ≤ 14
idle_low now seen c = omega (arith, weight_low 1 (is_some c.status.next_key), weight_low 13 (acts (trigger seen now)))

either_low : (b : Bool) (m n : ℕ) → m ≤ 12 → n ≤ 14 → (if b then m else n) ≤ 14
either_low true m n one two = omega (arith, one)
either_low false m n one two = two

pub certificate_low : (now : ℤ) (seen : Views) (x : Option Certificate) → certificate_part now seen x ≤ 15
certificate_low now seen None = omega arith
certificate_low now seen (Some c) =
    omega (arith, weight_low 1 (acts (readiness seen now)), either_low (is_issuing c) (under_way now seen c) (idle now seen c) (under_way_low now seen c) (idle_low now seen c))
