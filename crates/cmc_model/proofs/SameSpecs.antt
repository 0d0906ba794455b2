-- The tests on specs decide whether the specs are equal.
use Rattle.std.proofs.Common.{◌≡◌, ℕ, List, Bool, true, false, Option, Some, None, refl, ap, rules}
use Rattle.std.proofs.lemmas.Bool.Decides.{nat_tests}
use Rattle.std.proofs.lemmas.Slice.Eq.{bytes_eq-Decides, slice_eq-Decides}
use Rattle.std.specs.Bool.{Decides}
use Rattle.std.specs.Prelude.{◌&&◌, unwrap_or}
use Rattle.cmc_objects.specs.declared.issuer.IssuerRef.{IssuerRef}
use Rattle.cmc_objects.specs.declared.key_spec.Algorithm.{Algorithm}
use Rattle.cmc_objects.specs.declared.key_spec.Algorithm.TheVariants.{Rsa, Ecdsa}
use Rattle.cmc_objects.specs.declared.key_spec.Encoding.{Encoding}
use Rattle.cmc_objects.specs.declared.key_spec.Encoding.TheVariants.{Pkcs1, Pkcs8}
use Rattle.cmc_objects.specs.declared.key_spec.Rotation.{Rotation}
use Rattle.cmc_objects.specs.declared.key_spec.Rotation.TheVariants.{Always, Never}
use Rattle.cmc_objects.specs.declared.key_spec.KeySpec.{KeySpec}
use Rattle.cmc_objects.specs.declared.certificate.CertSpec.{CertSpec}
use Rattle.cmc_objects.specs.declared.request.RequestSpec.{RequestSpec}
use Rattle.cmc_model.specs.Specs.{option_eq, number_eq, flag_eq, texts_eq, algorithm_eq, encoding_eq, rotation_eq, issuer_eq, key_spec_eq, cert_spec_eq, request_spec_eq}

pub and-Decides : {P Q : Type 0} (a b : Bool) → Decides a P → Decides b Q → Decides (a && b) (P × Q)
and-Decides true true p q = (λ h. (p.0 refl, q.0 refl), λ h. refl)
and-Decides true false p q = (λ h. absurd (cc), λ h. q.1 h.1)
and-Decides false b p q = (λ h. absurd (cc), λ h. p.1 h.0)

option_eq-Decides : {A : Type 0} {eq : A → A → Bool} → ((x y : A) → Decides (eq x y) (x ≡ y)) → (a b : Option A) → Decides (option_eq eq a b) (a ≡ b)
option_eq-Decides same None None = (λ h. refl, λ h. refl)
option_eq-Decides same None (Some y) = (λ h. absurd (cc), λ h. absurd (cc))
option_eq-Decides same (Some x) None = (λ h. absurd (cc), λ h. absurd (cc))
option_eq-Decides same (Some x) (Some y) = (λ h. ap Some ((same x y).0 h), λ h. (same x y).1 (ap (λ o. unwrap_or o x) h))

number_eq-Decides : (x y : ℕ) → Decides (number_eq x y) (x ≡ y)
number_eq-Decides x y = search (rules, nat_tests)

flag_eq-Decides : (x y : Bool) → Decides (flag_eq x y) (x ≡ y)
flag_eq-Decides true true = (λ h. refl, λ h. refl)
flag_eq-Decides true false = (λ h. absurd (cc), λ h. absurd (cc))
flag_eq-Decides false true = (λ h. absurd (cc), λ h. absurd (cc))
flag_eq-Decides false false = (λ h. refl, λ h. refl)

texts_eq-Decides : (x y : List (List ℕ)) → Decides (texts_eq x y) (x ≡ y)
texts_eq-Decides x y = slice_eq-Decides bytes_eq-Decides x y _ refl

algorithm_eq-Decides : (x y : Algorithm) → Decides (algorithm_eq x y) (x ≡ y)
algorithm_eq-Decides Rsa Rsa = (λ h. refl, λ h. refl)
algorithm_eq-Decides Rsa Ecdsa = (λ h. absurd (cc), λ h. absurd (cc))
algorithm_eq-Decides Ecdsa Rsa = (λ h. absurd (cc), λ h. absurd (cc))
algorithm_eq-Decides Ecdsa Ecdsa = (λ h. refl, λ h. refl)

encoding_eq-Decides : (x y : Encoding) → Decides (encoding_eq x y) (x ≡ y)
encoding_eq-Decides Pkcs1 Pkcs1 = (λ h. refl, λ h. refl)
encoding_eq-Decides Pkcs1 Pkcs8 = (λ h. absurd (cc), λ h. absurd (cc))
encoding_eq-Decides Pkcs8 Pkcs1 = (λ h. absurd (cc), λ h. absurd (cc))
encoding_eq-Decides Pkcs8 Pkcs8 = (λ h. refl, λ h. refl)

rotation_eq-Decides : (x y : Rotation) → Decides (rotation_eq x y) (x ≡ y)
rotation_eq-Decides Always Always = (λ h. refl, λ h. refl)
rotation_eq-Decides Always Never = (λ h. absurd (cc), λ h. absurd (cc))
rotation_eq-Decides Never Always = (λ h. absurd (cc), λ h. absurd (cc))
rotation_eq-Decides Never Never = (λ h. refl, λ h. refl)

numbers : (x y : Option ℕ) → Decides (option_eq number_eq x y) (x ≡ y)
numbers x y = option_eq-Decides number_eq-Decides x y

pub issuer_eq-Decides : (a b : IssuerRef) → Decides (issuer_eq a b) (a ≡ b)
unfolding issuer_eq
issuer_eq-Decides a b =
    let parts = and-Decides _ _ (bytes_eq-Decides a.name b.name) (and-Decides _ _ (option_eq-Decides bytes_eq-Decides a.kind b.kind) (option_eq-Decides bytes_eq-Decides a.group b.group)) in (
      λ h. let p = parts.0 h in λ i. record { name = p.0 i; kind = p.1.0 i; group = p.1.1 i },
      λ h. parts.1 (ap (λ (r : IssuerRef). r.name) h, (ap (λ (r : IssuerRef). r.kind) h, ap (λ (r : IssuerRef). r.group) h)),
    )

pub key_spec_eq-Decides : (a b : KeySpec) → Decides (key_spec_eq a b) (a ≡ b)
unfolding key_spec_eq
key_spec_eq-Decides a b =
    let parts = and-Decides _ _ (option_eq-Decides algorithm_eq-Decides a.algorithm b.algorithm) (and-Decides _ _ (numbers a.size b.size)
    (and-Decides _ _ (option_eq-Decides encoding_eq-Decides a.encoding b.encoding) (option_eq-Decides rotation_eq-Decides a.rotation b.rotation))) in (
      λ h. let p = parts.0 h in λ i. record { algorithm = p.0 i; size = p.1.0 i; encoding = p.1.1.0 i; rotation = p.1.1.1 i },
      λ h. parts.1 (ap (λ (r : KeySpec). r.algorithm) h, (ap (λ (r : KeySpec). r.size) h, (ap (λ (r : KeySpec). r.encoding) h, ap (λ (r : KeySpec). r.rotation) h))),
    )

pub request_spec_eq-Decides : (a b : RequestSpec) → Decides (request_spec_eq a b) (a ≡ b)
unfolding request_spec_eq
request_spec_eq-Decides a b =
    let parts = and-Decides _ _ (issuer_eq-Decides a.issuer b.issuer) (and-Decides _ _ (numbers a.duration b.duration) (and-Decides _ _ (flag_eq-Decides a.is_ca b.is_ca)
    (and-Decides _ _ (texts_eq-Decides a.usages b.usages) (bytes_eq-Decides a.request b.request)))) in (
      λ h. let p = parts.0 h in λ i. record { issuer = p.0 i; duration = p.1.0 i; is_ca = p.1.1.0 i; usages = p.1.1.1.0 i; request = p.1.1.1.1 i },
      λ h. parts.1 (ap (λ (r : RequestSpec). r.issuer) h, (ap (λ (r : RequestSpec). r.duration) h, (ap (λ (r : RequestSpec). r.is_ca) h, (ap (λ (r : RequestSpec). r.usages) h, ap (λ (r : RequestSpec). r.request) h)))),
    )

pub cert_spec_eq-Decides : (a b : CertSpec) → Decides (cert_spec_eq a b) (a ≡ b)
unfolding cert_spec_eq
cert_spec_eq-Decides a b =
    let last = and-Decides _ _ (numbers a.renew_percent b.renew_percent) (and-Decides _ _ (key_spec_eq-Decides a.key b.key) (numbers a.history_limit b.history_limit)) in
    let times = and-Decides _ _ (numbers a.duration b.duration) (and-Decides _ _ (numbers a.renew_before b.renew_before) last) in
    let uses = and-Decides _ _ (flag_eq-Decides a.is_ca b.is_ca) (and-Decides _ _ (texts_eq-Decides a.usages b.usages) times) in
    let others = and-Decides _ _ (texts_eq-Decides a.uris b.uris) (and-Decides _ _ (texts_eq-Decides a.emails b.emails) uses) in
    let names = and-Decides _ _ (texts_eq-Decides a.dns_names b.dns_names) (and-Decides _ _ (texts_eq-Decides a.ip_addresses b.ip_addresses) others) in
    let parts = and-Decides _ _ (bytes_eq-Decides a.secret_name b.secret_name) (and-Decides _ _ (issuer_eq-Decides a.issuer b.issuer) (and-Decides _ _ (bytes_eq-Decides a.common_name b.common_name) names)) in (
      λ h. let p = parts.0 h in let n = p.1.1.1 in let o = n.1.1 in let u = o.1.1 in let t = u.1.1 in λ i. record {
        secret_name = p.0 i;
        issuer = p.1.0 i;
        common_name = p.1.1.0 i;
        dns_names = n.0 i;
        ip_addresses = n.1.0 i;
        uris = o.0 i;
        emails = o.1.0 i;
        is_ca = u.0 i;
        usages = u.1.0 i;
        duration = t.0 i;
        renew_before = t.1.0 i;
        renew_percent = t.1.1.0 i;
        key = t.1.1.1.0 i;
        history_limit = t.1.1.1.1 i;
      },
      λ h.
          parts.1 (
            ap (λ (r : CertSpec). r.secret_name) h,
            (
              ap (λ (r : CertSpec). r.issuer) h,
              (
                ap (λ (r : CertSpec). r.common_name) h,
                (
                  ap (λ (r : CertSpec). r.dns_names) h,
                  (
                    ap (λ (r : CertSpec). r.ip_addresses) h,
                    (
                      ap (λ (r : CertSpec). r.uris) h,
                      (
                        ap (λ (r : CertSpec). r.emails) h,
                        (
                          ap (λ (r : CertSpec). r.is_ca) h,
                          (
                            ap (λ (r : CertSpec). r.usages) h,
                            (
                              ap (λ (r : CertSpec). r.duration) h,
                              (
                                ap (λ (r : CertSpec). r.renew_before) h,
                                (
                                  ap (λ (r : CertSpec). r.renew_percent) h,
                                  (ap (λ (r : CertSpec). r.key) h, ap (λ (r : CertSpec). r.history_limit) h),
                                ),
                              ),
                            ),
                          ),
                        ),
                      ),
                    ),
                  ),
                ),
              ),
            ),
          ),
    )
