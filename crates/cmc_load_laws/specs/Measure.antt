-- How much the roles still have to write for one Certificate: a number that falls at each of their writes. It is for
-- Certificates that stand alone, with a new key for each issuance and no stand-in: each has one next key at most.
use Rattle.std.specs.Prelude.{ℕ, ℤ, ◌+◌, ◌*◌, Bool, true, false, not, ◌&&◌, List, [], ◌∷◌, length, Option, Some, None, is_some, if◌then◌else◌}
use Rattle.std.specs.List.{list_any}
use Rattle.std.specs.Str.{bytes_eq}
use Rattle.cmc_objects.specs.declared.certificate.Certificate.{Certificate}
use Rattle.cmc_objects.specs.declared.request.CertificateRequest.{CertificateRequest}
use Rattle.cmc_objects.specs.declared.request.RequestStatus.{RequestStatus}
use Rattle.cmc_objects.specs.declared.secret.Secret.{Secret as SecretObject}
use Rattle.cmc_objects.specs.declared.object.Object.TheVariants.{Secret}
use Rattle.cmc_objects.specs.declared.call.Call.{Call as StoreCall}
use Rattle.cmc_objects.specs.declared.call.Call.TheVariants.{Update}
use Rattle.cmc_match.specs.Facts.{key_in, fits}
use Rattle.cmc_pass.specs.declared.pass.Views.{Views}
use Rattle.cmc_pass.specs.declared.pass.Desk.{Desk}
use Rattle.cmc_pass.specs.declared.pass.Act.{Act}
use Rattle.cmc_pass.specs.declared.pass.Act.TheVariants.{Nothing, Call, Ask, Issue, Temporary}
use Rattle.cmc_rules.specs.Trigger.{is_issuing, trigger}
use Rattle.cmc_rules.specs.NextKeys.{is_named, named_key, has_fitting_key}
use Rattle.cmc_rules.specs.NextRequests.{is_next}
use Rattle.cmc_rules.specs.RequestManager.{is_stale}
use Rattle.cmc_rules.specs.Approver.{judge_one}
use Rattle.cmc_rules.specs.Issuer.{grant_one}
use Rattle.cmc_rules.specs.Issuance.{issuing}
use Rattle.cmc_rules.specs.Readiness.{readiness}

-- a weight where it counts
abbrev pub weight : ℕ → Bool → ℕ
weight n true = n
weight n false = 0

-- there is something to do
abbrev pub acts : Act → Bool
acts Nothing = false
acts (Call call) = true
acts (Ask order) = true
acts (Issue plan) = true
acts (Temporary plan) = true

-- ---- while the Certificate is being issued

-- no next key that fits, or one that the status does not name
abbrev pub key_part : Certificate → List SecretObject → ℕ
key_part c [] = 3
key_part c (k ∷ ks) = if has_fitting_key c.spec.key k then weight 1 (not (is_named c.status.next_key k)) else 3

-- a request of the next revision stands that may stay, for the named key, which fits
abbrev pub is_fresh_request : Certificate → List ℕ → CertificateRequest → Bool
is_fresh_request c file r = is_next c r && not (is_stale c file r)

abbrev pub has_fresh : Certificate → List CertificateRequest → Option (List ℕ) → Bool
has_fresh c requests None = false
has_fresh c requests (Some file) = fits c.spec.key file && list_any (is_fresh_request c file) requests

abbrev pub has_fresh_for : Certificate → List CertificateRequest → Option SecretObject → Bool
has_fresh_for c requests None = false
has_fresh_for c requests (Some k) = has_fresh c requests (key_in k)

-- the target stands as the issuance will leave it
abbrev pub same_pairs : List (List ℕ × List ℕ) → List (List ℕ × List ℕ) → Bool
same_pairs [] [] = true
same_pairs [] (q ∷ qs) = false
same_pairs (p ∷ ps) [] = false
same_pairs (p ∷ ps) (q ∷ qs) = bytes_eq p.0 q.0 && (bytes_eq p.1 q.1 && same_pairs ps qs)

abbrev pub is_left : Option SecretObject → StoreCall → Bool
is_left (Some k) (Update (Secret new) version) = same_pairs new.meta.annotations k.meta.annotations && same_pairs new.parts k.parts
is_left old other = false

abbrev pub is_target_written : Option SecretObject → Act → Bool
is_target_written old (Issue plan) = is_left old plan.secret
is_target_written old other = false

abbrev pub under_way : ℤ → Views → Certificate → ℕ
under_way now seen c =
    3 + (key_part c seen.next
    + (weight 4 (not (has_fresh_for c seen.requests (named_key c.status.next_key seen.next))) + weight 2 (not (is_target_written seen.secret (issuing seen now)))))

-- ---- while it is not

abbrev pub idle : ℤ → Views → Certificate → ℕ
idle now seen c = weight 1 (is_some c.status.next_key) + weight 13 (acts (trigger seen now))

-- ---- the measure

abbrev pub certificate_part : ℤ → Views → Option Certificate → ℕ
certificate_part now seen None = 0
certificate_part now seen (Some c) = weight 1 (acts (readiness seen now)) + (if is_issuing c then under_way now seen c else idle now seen c)

-- a request that the approver or the issuer has something to do on; its answer counts before its verdict
abbrev pub waits : Desk → ℤ → CertificateRequest → ℕ
waits desk now r = if acts (judge_one desk.rules r) then 2 else weight 1 (acts (grant_one now desk r))

abbrev pub requests_part : Desk → ℤ → List CertificateRequest → ℕ
requests_part desk now [] = 0
requests_part desk now (r ∷ rs) = waits desk now r + requests_part desk now rs

-- what is owned, what is open, the rows left whose certificate would be due at once, and what the Certificate's own roles have to do
abbrev pub measure : Desk → ℕ → ℤ → Views → ℕ
measure desk due now seen = length seen.next + (length seen.requests + (requests_part desk now seen.requests + (16 * due + certificate_part now seen seen.certificate)))

-- ---- what a write leaves

abbrev pub with_next : List SecretObject → Views → Views
with_next next seen = record seen { next = next }

abbrev pub with_requests : List CertificateRequest → Views → Views
with_requests requests seen = record seen { requests = requests }

-- the request with this status, at its new version
abbrev pub restated_request : ℕ → RequestStatus → CertificateRequest → CertificateRequest
restated_request version status r = record r { meta = record r.meta { version = version }; status = status }
