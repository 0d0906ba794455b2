-- What the objects that stand keep of the rules by which they were admitted.
use Rattle.std.specs.Prelude.{◌≡◌, false, Some, None}
use Rattle.cmc_meta.specs.declared.key.Key.{Key}
use Rattle.cmc_objects.specs.declared.certificate.Certificate.{Certificate}
use Rattle.cmc_objects.specs.declared.object.Object.{Object}
use Rattle.cmc_objects.specs.declared.object.Object.TheVariants.{Cert, Request, Secret}
use Rattle.cmc_model.specs.Admission.{certificate_rules, least_failing, is_verdict_unsettled, has_both_verdicts, is_tls_incomplete}
use Rattle.cmc_model.specs.Objects.{Objects, object_at}

-- No rule that looks at this object alone refuses it: of a Certificate all but the one on the Secrets of others, and of a request
-- those on its verdicts, which are True and never both.
abbrev pub MeetsRules : Object → Type 0
MeetsRules (Cert c) = least_failing (certificate_rules c false) ≡ None
MeetsRules (Request r) = (is_verdict_unsettled r.status.conditions ≡ false) × (has_both_verdicts r.status.conditions ≡ false)
MeetsRules (Secret s) = is_tls_incomplete s ≡ false

-- no two Certificates of a namespace that exist name one Secret
abbrev pub HaveOwnSecrets : Objects → Type 0
HaveOwnSecrets objects =
    (j k : Key) (c d : Certificate) → object_at objects j ≡ Some (Cert c) → object_at objects k ≡ Some (Cert d)
    → c.meta.namespace ≡ d.meta.namespace → c.spec.secret_name ≡ d.spec.secret_name → j ≡ k
