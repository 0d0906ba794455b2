-- By how much the measure of a Certificate may rise where its status stays.
use Rattle.std.proofs.Common.{◌≡◌, ℕ, ℤ, ◌+◌, ◌*◌, ◌≤◌, List, [], ◌∷◌, length, Option, Some, None, Bool, true, false, not, refl, sym, ap, subst, arith}
use Rattle.std.specs.Prelude.{is_some, if◌then◌else◌}
use Rattle.cmc_objects.specs.declared.certificate.Certificate.{Certificate}
use Rattle.cmc_objects.specs.declared.certificate.CertStatus.{CertStatus}
use Rattle.cmc_objects.specs.declared.request.CertificateRequest.{CertificateRequest}
use Rattle.cmc_objects.specs.declared.secret.Secret.{Secret as SecretObject}
use Rattle.cmc_objects.specs.Objects.{no_cert_status}
use Rattle.cmc_pass.specs.declared.pass.Desk.{Desk}
use Rattle.cmc_pass.specs.declared.pass.Views.{Views}
use Rattle.cmc_rules.specs.Approver.{judge_one}
use Rattle.cmc_rules.specs.Issuance.{issuing}
use Rattle.cmc_rules.specs.Issuer.{grant_one}
use Rattle.cmc_rules.specs.NextKeys.{has_fitting_key, is_named, named_key}
use Rattle.cmc_rules.specs.Readiness.{readiness}
use Rattle.cmc_rules.specs.Trigger.{is_issuing, trigger}
use Rattle.cmc_load_laws.specs.Measure.{acts, certificate_part, has_fresh_for, is_target_written, key_part, measure, requests_part, under_way, waits, weight}

-- ---- what counts for a Certificate

low_weight : (n : ℕ) (b : Bool) → weight n b ≤ n
low_weight n true = omega arith
low_weight n false = omega arith

low_key : (c : Certificate) (next : List SecretObject) → key_part c next ≤ 3
low_key c [] = omega arith
low_key c (k ∷ ks) = by (has_fitting_key c.spec.key k) (low_weight 1 (not (is_named c.status.next_key k))) where
  by : (b : Bool) → weight 1 (not (is_named c.status.next_key k)) ≤ 1 → (if b then weight 1 (not (is_named c.status.next_key k)) else 3) ≤ 3
  by true low = omega (arith, low)
  by false low = omega arith

low_way : (k b c : ℕ) → k ≤ 3 → b ≤ 4 → c ≤ 2 → 3 + (k + (b + c)) ≤ 12
low_way k b c one two three = omega (arith, one, two, three)

under_way_low : (now : ℤ) (seen : Views) (c : Certificate) → under_way now seen c ≤ 12
under_way_low now seen c =
    low_way (key_part c seen.next) (weight 4 (not (has_fresh_for c seen.requests (named_key c.status.next_key seen.next)))) (weight 2 (not (is_target_written seen.secret (issuing seen now))))
    (low_key c seen.next) (low_weight 4 _) (low_weight 2 _)

part_by : (b b_before : Bool) (ready before way way_before name name_before start start_before : ℕ) → b ≡ b_before → name ≡ name_before → ready ≤ 1 → way ≤ 12 → start ≤ 13
    → ready + (if b then way else name + start) ≤ before + (if b_before then way_before else name_before + start_before) + 14
part_by true true ready before way way_before name name_before start start_before same alike one two three = omega (arith, one, two)
part_by false false ready before way way_before name name_before start start_before same alike one two three = omega (arith, alike, one, three)
part_by true false ready before way way_before name name_before start start_before same alike one two three = absurd (cc same)
part_by false true ready before way way_before name name_before start start_before same alike one two three = absurd (cc same)

same_issuing : (c d : Certificate) → d.status ≡ c.status → is_issuing d ≡ is_issuing c
same_issuing c d same = ap (λ (status : CertStatus). is_issuing (record c { status = status })) same

same_name : (c d : Certificate) → d.status ≡ c.status → weight 1 (is_some d.status.next_key) ≡ weight 1 (is_some c.status.next_key)
same_name c d same = ap (λ (status : CertStatus). weight 1 (is_some status.next_key)) same

pub part_rises : (now later : ℤ) (seen after : Views) (c d : Certificate) → d.status ≡ c.status → certificate_part later after (Some d) ≤ certificate_part now seen (Some c) + 14
part_rises now later seen after c d same =
    part_by (is_issuing d) (is_issuing c) (weight 1 (acts (readiness after later))) (weight 1 (acts (readiness seen now))) (under_way later after d) (under_way now seen c)
    (weight 1 (is_some d.status.next_key)) (weight 1 (is_some c.status.next_key)) (weight 13 (acts (trigger after later))) (weight 13 (acts (trigger seen now)))
    (same_issuing c d same) (same_name c d same) (low_weight 1 (acts (readiness after later))) (under_way_low later after d) (low_weight 13 (acts (trigger after later)))

first_by : (b : Bool) (ready way name start : ℕ) → b ≡ false → name ≡ 0 → ready ≤ 1 → start ≤ 13 → ready + (if b then way else name + start) ≤ 14
first_by true ready way name start off none one three = absurd (cc off)
first_by false ready way name start off none one three = omega (arith, none, one, three)

pub part_first : (now : ℤ) (seen : Views) (d : Certificate) → d.status ≡ no_cert_status → certificate_part now seen (Some d) ≤ 14
part_first now seen d same =
    first_by (is_issuing d) (weight 1 (acts (readiness seen now))) (under_way now seen d) (weight 1 (is_some d.status.next_key)) (weight 13 (acts (trigger seen now)))
    (ap (λ (status : CertStatus). is_issuing (record d { status = status })) same) (ap (λ (status : CertStatus). weight 1 (is_some status.next_key)) same)
    (low_weight 1 (acts (readiness seen now))) (low_weight 13 (acts (trigger seen now)))

-- ---- the measure

waits_later : (desk : Desk) (now later : ℤ) (r : CertificateRequest) → waits desk later r ≤ waits desk now r + 1
waits_later desk now later r = by (acts (judge_one desk.rules r)) (low_weight 1 (acts (grant_one later desk r))) where
  by : (b : Bool) → weight 1 (acts (grant_one later desk r)) ≤ 1 → (if b then 2 else weight 1 (acts (grant_one later desk r))) ≤ (if b then 2 else weight 1 (acts (grant_one now desk r))) + 1
  by true low = omega arith
  by false low = omega (arith, low)

requests_later : (desk : Desk) (now later : ℤ) (rs : List CertificateRequest) → requests_part desk later rs ≤ requests_part desk now rs + length rs
requests_later desk now later [] = omega arith
requests_later desk now later (r ∷ rs) = let one = waits_later desk now later r in let rest = requests_later desk now later rs in omega (arith, one, rest)

part_later : (now later : ℤ) (seen : Views) (c : Option Certificate) → certificate_part later seen c ≤ certificate_part now seen c + 14
part_later now later seen None = omega arith
part_later now later seen (Some c) = part_rises now later seen seen c c refl

-- as time goes on: what counts for the Certificate, and one for each of its requests
pub measure_later : (desk : Desk) (due : ℕ) (now later : ℤ) (seen : Views) → measure desk due later seen ≤ measure desk due now seen + (14 + length seen.requests)
measure_later desk due now later seen =
    let requests = requests_later desk now later seen.requests in
    let part = part_later now later seen seen.certificate in
    omega (arith, requests, part)

measure_by : (desk : Desk) (due : ℕ) (now : ℤ) (next next_before : List SecretObject) (requests requests_before : List CertificateRequest) (part part_before : ℕ) → next ≡ next_before → requests ≡ requests_before → part ≤ part_before + 14
    → length next + (length requests + (requests_part desk now requests + (16 * due + part))) ≤ length next_before + (length requests_before + (requests_part desk now requests_before + (16 * due + part_before))) + 14
measure_by desk due now next next_before requests requests_before part part_before one other low =
    let keys = ap length one in
    let owned = ap length other in
    let parts = ap (requests_part desk now) other in
    omega (arith, keys, owned, parts, low)

-- as the Certificate is applied again
pub measure_applied : (desk : Desk) (due : ℕ) (now : ℤ) (seen after : Views) (c d : Certificate) → seen.certificate ≡ Some c → after.certificate ≡ Some d → d.status ≡ c.status → after.next ≡ seen.next → after.requests ≡ seen.requests
    → measure desk due now after ≤ measure desk due now seen + 14
measure_applied desk due now seen after c d was is same next requests =
    measure_by desk due now after.next seen.next after.requests seen.requests (certificate_part now after after.certificate) (certificate_part now seen seen.certificate) next requests
    (subst (λ (x : Option Certificate). certificate_part now after x ≤ certificate_part now seen seen.certificate + 14) (sym is)
    (subst (λ (x : Option Certificate). certificate_part now after (Some d) ≤ certificate_part now seen x + 14) (sym was) (part_rises now now seen after c d same)))

-- and as it is applied first, where it owns nothing
pub measure_first : (desk : Desk) (now : ℤ) (after : Views) (d : Certificate) → after.certificate ≡ Some d → d.status ≡ no_cert_status → after.next ≡ [] → after.requests ≡ [] → measure desk 0 now after ≤ 14
measure_first desk now after d is same next requests =
    let keys = ap length next in
    let owned = ap length requests in
    let parts = ap (requests_part desk now) requests in
    let low : certificate_part now after after.certificate ≤ 14 = subst (λ (x : Option Certificate). certificate_part now after x ≤ 14) (sym is) (part_first now after d same) in
    omega (arith, keys, owned, parts, low)
