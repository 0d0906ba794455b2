-- The moments of a certificate by what is known of the pair.
use Rattle.std.proofs.Common.{◌≡◌, ℤ, true, false, Option, Some, None, ap, subst, ◌∙◌}
use Rattle.cmc_der.specs.Keys.{CertificateFields}
use Rattle.cmc_objects.specs.KeyPairs.{begins, ends, is_paired}
use Rattle.cmc_policies.specs.Renewal.{renewal}
use Rattle.cmc_policies.specs.declared.renewal.Renew.{Renew}
use Rattle.cmc_rules.specs.Sound.{IsExpiry, IsRenewal}
use Rattle.cmc_world.specs.DueMoments.{IsFirstAfter}

pub renewal_none : (now : ℤ) (renew : Renew) (pair : Option CertificateFields) → is_paired pair ≡ false → IsFirstAfter now (IsRenewal renew pair) None
renewal_none now renew None off at is = absurd is
renewal_none now renew (Some fields) off at is = absurd (cc off)

pub renewal_some : (now : ℤ) (renew : Renew) (pair : Option CertificateFields) (first last at : ℤ) (r : Option ℤ) → is_paired pair ≡ true → first ≡ begins pair → last ≡ ends pair → at ≡ renewal first last renew
    → IsFirstAfter now (λ (moment : ℤ). moment ≡ at) r → IsFirstAfter now (IsRenewal renew pair) r
renewal_some now renew None first last at r on from to is found = absurd (cc on)
renewal_some now renew (Some fields) first last at r on from to is found =
    subst (λ (t : ℤ). IsFirstAfter now (λ (moment : ℤ). moment ≡ t) r) (is ∙ ap (λ (x : ℤ). renewal x last renew) from ∙ ap (λ (x : ℤ). renewal fields.not_before x renew) to) found

pub expiry_none : (now : ℤ) (pair : Option CertificateFields) → is_paired pair ≡ false → IsFirstAfter now (IsExpiry pair) None
expiry_none now None off at is = absurd is
expiry_none now (Some fields) off at is = absurd (cc off)

pub expiry_some : (now : ℤ) (pair : Option CertificateFields) (last : ℤ) (r : Option ℤ) → is_paired pair ≡ true → last ≡ ends pair → IsFirstAfter now (λ (moment : ℤ). moment ≡ last) r → IsFirstAfter now (IsExpiry pair) r
expiry_some now None last r on to found = absurd (cc on)
expiry_some now (Some fields) last r on to found = subst (λ (t : ℤ). IsFirstAfter now (λ (moment : ℤ). moment ≡ t) r) to found
