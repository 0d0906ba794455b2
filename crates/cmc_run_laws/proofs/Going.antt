-- What it means that issuing has something to do.
use Rattle.std.proofs.Common.{◌≡◌, ℕ, ℤ, List, Bool, true, false, Option, Some, None, refl}
use Rattle.std.specs.Prelude.{if◌then◌else◌}
use Rattle.cmc_objects.specs.declared.certificate.Certificate.{Certificate}
use Rattle.cmc_objects.specs.declared.request.CertificateRequest.{CertificateRequest}
use Rattle.cmc_objects.specs.declared.secret.Secret.{Secret}
use Rattle.cmc_match.specs.Facts.{key_in, fits}
use Rattle.cmc_match.specs.Revisions.{next_request}
use Rattle.cmc_pass.specs.declared.pass.Views.{Views}
use Rattle.cmc_pass.specs.declared.pass.Act.{Act}
use Rattle.cmc_pass.specs.declared.pass.Act.TheVariants.{Nothing, Call, Ask, Issue, Temporary}
use Rattle.cmc_rules.specs.NextKeys.{named_key}
use Rattle.cmc_rules.specs.NextRequests.{is_wanted}
use Rattle.cmc_rules.specs.Trigger.{is_issuing}
use Rattle.cmc_rules.specs.Issuance.{issuing, with_key_of, with_file, with_request, with_wanted}
use Rattle.cmc_run_laws.specs.Issuances.{with_certificate}

-- there is something to do
abbrev pub acts : Act → Bool
acts Nothing = false
acts (Call call) = true
acts (Ask order) = true
acts (Issue plan) = true
acts (Temporary plan) = true

-- the named key fits, and the one next request is the wanted one for it
pub record IsGoing (c : Certificate) (next : List Secret) (requests : List CertificateRequest) : Type 0 where
  pub key : Secret
  pub file : List ℕ
  pub request : CertificateRequest
  pub named : named_key c.status.next_key next ≡ Some key
  pub holds : key_in key ≡ Some file
  pub fit : fits c.spec.key file ≡ true
  pub stands : next_request c.status.revision requests ≡ Some request
  pub wanted : is_wanted c file request ≡ true

taken : (b : Bool) (a : Act) → acts (if b then a else Nothing) ≡ true → (b ≡ true) × (acts a ≡ true)
taken true a is = (refl, is)
taken false a is = absurd (cc is)

with_next : (now : ℤ) (c : Certificate) (file : List ℕ) (target : Option Secret) (next : Option CertificateRequest) → acts (with_request now c file target next) ≡ true
    → (r : CertificateRequest) × (next ≡ Some r) × (is_wanted c file r ≡ true)
with_next now c file target None is = absurd (cc is)
with_next now c file target (Some r) is = (r, refl, (taken (is_wanted c file r) _ is).0)

going_file : (now : ℤ) (c : Certificate) (target : Option Secret) (next : List Secret) (requests : List CertificateRequest) (k : Secret) (file : Option (List ℕ)) → named_key c.status.next_key next ≡ Some k → key_in k ≡ file
    → acts (with_file now c target requests file) ≡ true → IsGoing c next requests
going_file now c target next requests k None named holds is = absurd (cc is)
going_file now c target next requests k (Some file) named holds is =
    let fit = taken (fits c.spec.key file) _ is in
    let one = with_next now c file target (next_request c.status.revision requests) fit.1 in
    record { key = k; file = file; request = one.0; named = named; holds = holds; fit = fit.0; stands = one.1; wanted = one.2 }

going_key : (now : ℤ) (c : Certificate) (target : Option Secret) (next : List Secret) (requests : List CertificateRequest) (k : Option Secret) → named_key c.status.next_key next ≡ k → acts (with_key_of now c target requests k) ≡ true → IsGoing c next requests
going_key now c target next requests None named is = absurd (cc is)
going_key now c target next requests (Some k) named is = going_file now c target next requests k (key_in k) named refl is

pub going : (now : ℤ) (seen : Views) (c : Certificate) → acts (issuing (with_certificate c seen) now) ≡ true → (is_issuing c ≡ true) × IsGoing c seen.next seen.requests
unfolding issuing
going now seen c is =
    let on = taken (is_issuing c) _ is in
    (on.0, going_key now c seen.secret seen.next seen.requests (named_key c.status.next_key seen.next) refl on.1)

-- and then its act is the one for that request
pub going_is : (now : ℤ) (seen : Views) (c : Certificate) (g : IsGoing c seen.next seen.requests) → is_issuing c ≡ true → issuing (with_certificate c seen) now ≡ with_wanted now c g.file seen.secret g.request
unfolding issuing
going_is now seen c g on = rw (on, g.named, g.holds, g.fit, g.stands, g.wanted) refl
