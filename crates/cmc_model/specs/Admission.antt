-- Admission: the rules that refuse a create, an update or a status update, each a test that is true where the rule fails.
use Rattle.std.specs.Prelude.{ℕ, Bool, true, false, ◌&&◌, ◌||◌, ◌==◌, ◌+◌, ◌*◌, not, nat_le, nat_lt, List, [], ◌∷◌, length, codes, Option, Some, None, if◌then◌else◌}
use Rattle.std.specs.List.{list_any, sum_by}
use Rattle.std.specs.Option.{is_some}
use Rattle.std.specs.Ordering.{int_eq}
use Rattle.std.specs.Str.{bytes_eq}
use Rattle.std.specs.FinMap as finite
use Rattle.cmc_meta.specs.PairLists.{text_by_key}
use Rattle.cmc_meta.specs.declared.conditions.Condition.{Condition}
use Rattle.cmc_meta.specs.declared.conditions.ConditionKind.{ConditionKind}
use Rattle.cmc_meta.specs.declared.conditions.ConditionKind.TheVariants.{Approved, Denied}
use Rattle.cmc_meta.specs.declared.conditions.Tri.TheVariants.{True}
use Rattle.cmc_meta.specs.ConditionLists.{condition_rank, condition_at, tri_eq}
use Rattle.cmc_objects.specs.declared.key_spec.Algorithm.{Algorithm}
use Rattle.cmc_objects.specs.declared.key_spec.Algorithm.TheVariants.{Rsa, Ecdsa}
use Rattle.cmc_objects.specs.declared.certificate.CertSpec.{CertSpec}
use Rattle.cmc_objects.specs.declared.certificate.Certificate.{Certificate}
use Rattle.cmc_objects.specs.declared.secret.Secret.{Secret as SecretObject}
use Rattle.cmc_objects.specs.declared.object.Object.{Object}
use Rattle.cmc_objects.specs.declared.object.Object.TheVariants.{Cert, Request, Secret}
use Rattle.cmc_objects.specs.Defaults.{certificate_duration, key_algorithm, key_size}
use Rattle.cmc_model.specs.Objects.{Objects}
use Rattle.cmc_model.specs.Specs.{keeps_spec}

-- ---- whether another Certificate has the Secret

-- a Certificate of the same namespace and another name that names the same Secret
abbrev pub shares_secret : Certificate → Object → Bool
shares_secret c (Cert other) =
    bytes_eq other.meta.namespace c.meta.namespace && bytes_eq other.spec.secret_name c.spec.secret_name && not (bytes_eq other.meta.name c.meta.name)
shares_secret c other = false

-- another Certificate has the Secret that the new object names
abbrev pub is_taken : Objects → Object → Bool
is_taken objects (Cert c) = list_any (λ e. shares_secret c e.1) (finite.entries objects)
is_taken objects other = false

-- ---- a Certificate's spec (cert-manager.io/v1 API reference); lengths in bytes, durations in seconds

abbrev pub is_empty : {A : Type 0} → List A → Bool
is_empty list = length list == 0

-- it is given and is so
abbrev pub is_given : {A : Type 0} → (A → Bool) → Option A → Bool
is_given test None = false
is_given test (Some x) = test x

-- it names nothing: no common name, DNS name, IP address, URI or email address
abbrev pub has_no_name : CertSpec → Bool
has_no_name spec = is_empty spec.common_name && (is_empty spec.dns_names && (is_empty spec.ip_addresses && (is_empty spec.uris && is_empty spec.emails)))

abbrev pub is_common_name_long : CertSpec → Bool
is_common_name_long spec = nat_lt 64 (length spec.common_name)

-- below 1 hour or above 876,000 hours
abbrev pub is_duration_outside : CertSpec → Bool
is_duration_outside spec = nat_lt (certificate_duration spec.duration) 3600 || nat_lt 3153600000 (certificate_duration spec.duration)

-- below 5 minutes
abbrev pub is_renewal_short : CertSpec → Bool
is_renewal_short spec = is_given (λ before. nat_lt before 300) spec.renew_before

-- not below the duration
abbrev pub is_renewal_long : CertSpec → Bool
is_renewal_long spec = is_given (λ before. nat_le (certificate_duration spec.duration) before) spec.renew_before

-- the sizes that a key may have, in bits
abbrev pub is_size_of : Algorithm → ℕ → Bool
is_size_of Rsa size = (size == 2048) || ((size == 3072) || ((size == 4096) || (size == 8192)))
is_size_of Ecdsa size = (size == 256) || ((size == 384) || (size == 521))

abbrev pub is_key_size_wrong : CertSpec → Bool
is_key_size_wrong spec = not (is_size_of (key_algorithm spec.key) (key_size spec.key))

abbrev pub keeps_no_request : CertSpec → Bool
keeps_no_request spec = is_given (λ limit. limit == 0) spec.history_limit

abbrev pub is_name_long : Certificate → Bool
is_name_long c = nat_lt 240 (length c.meta.name)

abbrev pub are_many : List (List ℕ) → Bool
are_many names = nat_lt 100 (length names)

abbrev pub bytes_of : List (List ℕ) → ℕ
bytes_of names = sum_by length names

-- the bytes of the common name and of all other names together
abbrev pub bytes_of_names : CertSpec → ℕ
bytes_of_names spec = length spec.common_name + (bytes_of spec.dns_names + (bytes_of spec.ip_addresses + (bytes_of spec.uris + bytes_of spec.emails)))

abbrev pub has_many_names : CertSpec → Bool
has_many_names spec =
    are_many spec.dns_names || (are_many spec.ip_addresses || (are_many spec.uris || (are_many spec.emails || nat_lt 16384 (bytes_of_names spec))))

-- a usage is a text of 1 to 64 bytes
abbrev pub is_usage_wrong : List ℕ → Bool
is_usage_wrong usage = is_empty usage || nat_lt 64 (length usage)

abbrev pub are_usages_wrong : CertSpec → Bool
are_usages_wrong spec = nat_lt 40 (length spec.usages) || list_any is_usage_wrong spec.usages

abbrev pub is_outside_limits : Certificate → Bool
is_outside_limits c = is_name_long c || (has_many_names c.spec || are_usages_wrong c.spec)

-- renewal is given both by seconds and by percent
abbrev pub has_both_renewals : CertSpec → Bool
has_both_renewals spec = is_some spec.renew_before && is_some spec.renew_percent

-- not 1 to 99, or that part of the duration is below 5 minutes
abbrev pub is_part_wrong : ℕ → ℕ → Bool
is_part_wrong percent duration = (percent == 0) || (nat_lt 99 percent || nat_lt (duration * percent) 30000)

abbrev pub is_percent_wrong : CertSpec → Bool
is_percent_wrong spec = is_given (λ percent. is_part_wrong percent (certificate_duration spec.duration)) spec.renew_percent

-- ---- the spec and the conditions of a CertificateRequest

abbrev pub changes_spec : Option Object → Object → Bool
changes_spec None new = false
changes_spec (Some old) new = not (keeps_spec old new)

abbrev pub is_of_condition : ConditionKind → Condition → Bool
is_of_condition kind c = condition_rank c.kind == condition_rank kind

-- a condition of this kind stands
abbrev pub has_condition : ConditionKind → List Condition → Bool
has_condition kind conditions = list_any (λ c. is_of_condition kind c) conditions

-- and one stands that is not True
abbrev pub is_unsettled : ConditionKind → List Condition → Bool
is_unsettled kind conditions = list_any (λ c. is_of_condition kind c && not (tri_eq c.status True)) conditions

abbrev pub condition_eq : Condition → Condition → Bool
condition_eq a b =
    (condition_rank a.kind == condition_rank b.kind)
    && (tri_eq a.status b.status && (bytes_eq a.reason b.reason && (bytes_eq a.message b.message && int_eq a.since b.since)))

abbrev pub is_lost : Option Condition → Option Condition → Bool
is_lost None new = false
is_lost (Some old) None = true
is_lost (Some old) (Some new) = not (condition_eq old new)

-- the condition of this kind that stood is absent or changed
abbrev pub loses : ConditionKind → List Condition → List Condition → Bool
loses kind old new = is_lost (condition_at old kind) (condition_at new kind)

abbrev pub conditions_of : Option Object → List Condition
conditions_of (Some (Request old)) = old.status.conditions
conditions_of other = []

abbrev pub is_verdict_unsettled : List Condition → Bool
is_verdict_unsettled new = is_unsettled Approved new || is_unsettled Denied new

abbrev pub has_both_verdicts : List Condition → Bool
has_both_verdicts new = has_condition Approved new && has_condition Denied new

abbrev pub loses_verdict : List Condition → List Condition → Bool
loses_verdict old new = loses Approved old new || loses Denied old new

-- ---- a Secret

abbrev pub changes_type : Option Object → SecretObject → Bool
changes_type (Some (Secret old)) new = not (bytes_eq old.kind_text new.kind_text)
changes_type other new = false

abbrev pub lacks : List ℕ → SecretObject → Bool
lacks name s = not (is_some (text_by_key s.parts name))

-- of the type for TLS, without a key or a certificate; either may be empty
abbrev pub is_tls_incomplete : SecretObject → Bool
is_tls_incomplete s = bytes_eq s.kind_text (codes "kubernetes.io/tls") && (lacks (codes "tls.key") s || lacks (codes "tls.crt") s)

-- a Secret has no status to update
abbrev pub is_secret_refused : Option Object → SecretObject → Bool → Bool
is_secret_refused old s status = status || (changes_type old s || is_tls_incomplete s)

-- ---- the rules of a call, each with its number, and the least that fails

abbrev pub certificate_rules : Certificate → Bool → List (ℕ × Bool)
certificate_rules c taken =
    (1, has_no_name c.spec)
    ∷ (2, is_common_name_long c.spec)
    ∷ (3, is_duration_outside c.spec)
    ∷ (4, is_renewal_short c.spec)
    ∷ (5, is_renewal_long c.spec)
    ∷ (6, is_key_size_wrong c.spec)
    ∷ (7, taken)
    ∷ (12, keeps_no_request c.spec)
    ∷ (13, is_outside_limits c)
    ∷ (15, has_both_renewals c.spec)
    ∷ (16, is_percent_wrong c.spec)
    ∷ []

abbrev pub verdict_rules : List Condition → List Condition → List (ℕ × Bool)
verdict_rules old new = (9, is_verdict_unsettled new) ∷ (10, has_both_verdicts new) ∷ (11, loses_verdict old new) ∷ []

-- The rules that a call has to meet: a create where no old object is given, else an update, or a status update where it
-- writes a status. A status update of a Certificate has none.
abbrev pub rules_of : Option Object → Object → Bool → Bool → List (ℕ × Bool)
rules_of old (Cert c) true taken = []
rules_of old (Cert c) false taken = certificate_rules c taken
rules_of old (Request r) true taken = verdict_rules (conditions_of old) r.status.conditions
rules_of old (Request r) false taken = (8, changes_spec old (Request r)) ∷ []
rules_of old (Secret s) status taken = (14, is_secret_refused old s status) ∷ []

abbrev pub least_failing : List (ℕ × Bool) → Option ℕ
least_failing [] = None
least_failing (rule ∷ rules) = if rule.1 then Some rule.0 else least_failing rules

-- The least rule that refuses the call's object where the old one exists, if any does; it is told whether the call
-- writes a status, and whether another Certificate has the Secret that it names.
unfoldable pub refusing_rule : Option Object → Object → Bool → Bool → Option ℕ
refusing_rule old object status taken = least_failing (rules_of old object status taken)
