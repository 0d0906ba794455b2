-- The times of a pair, by what is known of it.
use Rattle.std.proofs.Common.{◌≡◌, ℤ, Bool, Option, Some, None, refl}
use Rattle.std.specs.Prelude.{if◌then◌else◌}
use Rattle.cmc_der.specs.Keys.{CertificateFields}
use Rattle.cmc_policies.specs.declared.renewal.Renew.{Renew}
use Rattle.cmc_policies.specs.Renewal.{renewal}
use Rattle.cmc_objects.specs.KeyPairs.{is_paired, begins, ends}
use Rattle.cmc_rules.specs.Readiness.{begins_at, ends_at, renews_at}

pub begins_known : (pair : Option CertificateFields) (stands : Bool) (first : ℤ) → stands ≡ is_paired pair → first ≡ begins pair → (if stands then Some first else None) ≡ begins_at pair
begins_known None stands first s f = rw (s) refl
begins_known (Some fields) stands first s f = rw (s, f) refl

pub ends_known : (pair : Option CertificateFields) (stands : Bool) (last : ℤ) → stands ≡ is_paired pair → last ≡ ends pair → (if stands then Some last else None) ≡ ends_at pair
ends_known None stands last s e = rw (s) refl
ends_known (Some fields) stands last s e = rw (s, e) refl

pub renewal_known : (pair : Option CertificateFields) (renew : Renew) (stands : Bool) (first last : ℤ) → stands ≡ is_paired pair → first ≡ begins pair → last ≡ ends pair
    → (if stands then Some (renewal first last renew) else None) ≡ renews_at renew pair
renewal_known None renew stands first last s f e = rw (s) refl
renewal_known (Some fields) renew stands first last s f e = rw (s, f, e) refl
