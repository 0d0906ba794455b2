-- Whether a Certificate is ready, and how long its certificate is valid (cert-manager.io/v1 `CertificateStatus`).
use Rattle.std.specs.Prelude.{ℤ, ◌++◌, ◌&&◌, Bool, true, false, codes, Option, Some, None, List, option_map, if◌then◌else◌}
use Rattle.std.specs.Ordering.{int_eq}
use Rattle.std.specs.Str.{bytes_eq}
use Rattle.cmc_meta.specs.declared.conditions.Condition.{Condition}
use Rattle.cmc_meta.specs.declared.conditions.ConditionKind.TheVariants.{Ready}
use Rattle.cmc_meta.specs.declared.conditions.Tri.TheVariants.{True, False}
use Rattle.cmc_meta.specs.ConditionLists.{condition_at, tri_eq, transitioned}
use Rattle.cmc_der.specs.Keys.{CertificateFields}
use Rattle.cmc_objects.specs.declared.certificate.Certificate.{Certificate}
use Rattle.cmc_objects.specs.declared.certificate.CertStatus.{CertStatus}
use Rattle.cmc_objects.specs.declared.request.CertificateRequest.{CertificateRequest}
use Rattle.cmc_objects.specs.declared.secret.Secret.{Secret}
use Rattle.cmc_objects.specs.declared.object.Object.TheVariants.{Cert}
use Rattle.cmc_objects.specs.declared.call.Call.TheVariants.{UpdateStatus}
use Rattle.cmc_policies.specs.declared.facts.Reason.{Reason}
use Rattle.cmc_policies.specs.declared.renewal.Renew.{Renew}
use Rattle.cmc_policies.specs.Reasons.{reason_name}
use Rattle.cmc_policies.specs.Renewal.{renewal}
use Rattle.cmc_match.specs.Facts.{pair_at}
use Rattle.cmc_pass.specs.declared.pass.Views.{Views}
use Rattle.cmc_pass.specs.declared.pass.Act.{Act}
use Rattle.cmc_pass.specs.declared.pass.Act.TheVariants.{Nothing, Call as Calls}
use Rattle.cmc_rules.specs.Chains.{readiness_reason}
use Rattle.cmc_rules.specs.Trigger.{frame_of}

-- ready, or not for this reason
unfoldable pub ready_condition : ℤ → Option Reason → Condition
ready_condition moment None = record { kind = Ready; status = True; reason = codes "Ready"; message = codes "Certificate is up to date and has not expired"; since = moment }
ready_condition moment (Some reason) =
    record { kind = Ready; status = False; reason = reason_name reason; message = codes "Certificate is not ready: " ++ reason_name reason; since = moment }

-- when the certificate that the Secret's key and certificate are a pair with begins and ends, and when it is to be renewed
abbrev pub begins_at : Option CertificateFields → Option ℤ
begins_at pair = option_map (λ fields. fields.not_before) pair

abbrev pub ends_at : Option CertificateFields → Option ℤ
ends_at pair = option_map (λ fields. fields.not_after) pair

abbrev pub renews_at : Renew → Option CertificateFields → Option ℤ
renews_at renew pair = option_map (λ fields. renewal fields.not_before fields.not_after renew) pair

-- the status with the condition and the times
unfoldable pub ready_status : Condition → Renew → Option CertificateFields → CertStatus → CertStatus
ready_status condition renew pair status = record status {
  conditions = transitioned status.conditions condition;
  not_before = begins_at pair;
  not_after = ends_at pair;
  renewal = renews_at renew pair;
}

-- ---- whether the status is so already

abbrev pub is_same_moment : Option ℤ → Option ℤ → Bool
is_same_moment None None = true
is_same_moment None (Some b) = false
is_same_moment (Some a) None = false
is_same_moment (Some a) (Some b) = int_eq a b

-- a condition stands that says the same; since when does not count
abbrev pub says : Option Condition → Condition → Bool
says None new = false
says (Some old) new = tri_eq old.status new.status && (bytes_eq old.reason new.reason && bytes_eq old.message new.message)

unfoldable pub is_settled : Condition → Renew → Option CertificateFields → CertStatus → Bool
is_settled condition renew pair status =
    says (condition_at status.conditions Ready) condition
    && (is_same_moment status.not_before (begins_at pair) && (is_same_moment status.not_after (ends_at pair) && is_same_moment status.renewal (renews_at renew pair)))

-- ---- the table

unfoldable pub ready_call : Condition → Renew → Option CertificateFields → Certificate → Act
ready_call condition renew pair c = Calls (UpdateStatus (Cert (record c { status = ready_status condition renew pair c.status })) c.meta.version)

-- the status is written where it is not so already
abbrev pub ready_by : Condition → Renew → Option CertificateFields → Certificate → Act
ready_by condition renew pair c = if is_settled condition renew pair c.status then Nothing else ready_call condition renew pair c

abbrev pub ready_of : ℤ → Option Secret → List CertificateRequest → Option Certificate → Act
ready_of moment secret requests None = Nothing
ready_of moment secret requests (Some c) =
    ready_by (ready_condition moment (readiness_reason (frame_of moment c) c secret requests)) (frame_of moment c).renew (pair_at secret) c

unfoldable pub readiness : Views → ℤ → Act
readiness views moment = ready_of moment views.secret views.requests views.certificate
