-- What each Certificate that is not Ready waits for, and the summary of what exists.
use Rattle.std.specs.Prelude.{◌≡◌, ℤ, Bool, true, not, ◌&&◌, ◌||◌, ◌==◌, List, [], ◌∷◌, length, count_by, codes, Option, Some, None, if◌then◌else◌}
use Rattle.std.specs.List.{list_any}
use Rattle.std.specs.Str.{bytes_eq}
use Rattle.std.specs.FinMap as finite
use Rattle.cmc_meta.specs.declared.key.Key.{Key}
use Rattle.cmc_meta.specs.declared.key.Kind.{Kind}
use Rattle.cmc_meta.specs.declared.key.Kind.TheVariants as kinds
use Rattle.cmc_meta.specs.declared.conditions.Condition.{Condition}
use Rattle.cmc_meta.specs.declared.conditions.ConditionKind.TheVariants.{Ready}
use Rattle.cmc_meta.specs.ConditionLists.{condition_at}
use Rattle.cmc_objects.specs.declared.certificate.Certificate.{Certificate}
use Rattle.cmc_objects.specs.declared.request.CertificateRequest.{CertificateRequest}
use Rattle.cmc_objects.specs.declared.secret.Secret.{Secret}
use Rattle.cmc_objects.specs.declared.object.Object.{Object}
use Rattle.cmc_objects.specs.declared.role.Role.{Role}
use Rattle.cmc_objects.specs.declared.role.Role.TheVariants.{Trigger, KeyManager, RequestManager, Approver, Issuer, Issuing, Readiness, Revision}
use Rattle.cmc_objects.specs.declared.entry.Entry.{Entry}
use Rattle.cmc_objects.specs.Requests.{is_approved, is_denied}
use Rattle.cmc_summary.specs.declared.summary.Summary.{Summary}
use Rattle.cmc_summary.specs.declared.summary.Waiting.{Waiting}
use Rattle.cmc_summary.specs.declared.summary.WaitName.{WaitName}
use Rattle.cmc_summary.specs.declared.summary.WaitName.TheVariants as names
use Rattle.cmc_pass.specs.declared.pass.Views.{Views}
use Rattle.cmc_match.specs.Revisions.{next_request}
use Rattle.cmc_model.specs.Histories.{Setting, moment, objects, runs}
use Rattle.cmc_model.specs.Writes.{writes}
use Rattle.cmc_model.specs.Summaries.{is_certificate, is_secret, is_ready, is_waiting}
use Rattle.cmc_objects.specs.Informers.{has_informer}
use Rattle.cmc_rules.specs.Scripts.{held}
use Rattle.cmc_rules.specs.Trigger.{is_issuing, is_backing_off}
use Rattle.cmc_rules.specs.Issuance.{says_issued, is_kept_for_keys}
use Rattle.cmc_rules.specs.Views.{Caches, present_views}
use Rattle.cmc_caches.specs.Told.{caches_at}
use Rattle.cmc_moves.specs.declared.moves.Lack.TheVariants.{Stopped}

-- ---- the roles

-- the role does not run, or its informer of the kind is held
abbrev pub is_kept_from : Setting → List Entry → Role → Kind → Bool
is_kept_from s h role kind = not (runs s h role) || (has_informer role kind && held s h role kind)

abbrev pub is_hindered : Setting → List Entry → Role → Bool
is_hindered s h role = is_kept_from s h role kinds.Certificate || (is_kept_from s h role kinds.CertificateRequest || is_kept_from s h role kinds.Secret)

abbrev pub all_roles : List Role
all_roles = Trigger ∷ KeyManager ∷ RequestManager ∷ Approver ∷ Issuer ∷ Issuing ∷ Readiness ∷ Revision ∷ []

-- some role does not run, or some informer is held
abbrev pub is_stopped : Setting → List Entry → Bool
is_stopped s h = list_any (λ role. is_hindered s h role) all_roles

-- ---- one Certificate, by what there is to see of it

-- the issuer has not answered, or is not ready
abbrev pub is_unanswered : Option Condition → Bool
is_unanswered None = true
is_unanswered (Some ready) = bytes_eq ready.reason (codes "Pending")

-- for a verdict on its next request, for the Secret's name, or for the issuer
abbrev pub wait_of_request : Option Secret → CertificateRequest → Option WaitName
wait_of_request target r =
    if not (is_approved r) && not (is_denied r) then Some names.Unapproved
    else (if says_issued (condition_at r.status.conditions Ready) && is_kept_for_keys target then Some names.Name
    else (if is_approved r && is_unanswered (condition_at r.status.conditions Ready) then Some names.Pending else None))

abbrev pub wait_of_next : Option Secret → Option CertificateRequest → Option WaitName
wait_of_next target None = None
wait_of_next target (Some r) = wait_of_request target r

-- before that for the end of its back-off, or for a next key
abbrev pub wait_of : ℤ → Views → Certificate → Option WaitName
wait_of moment seen c =
    if not (is_issuing c) && is_backing_off c.status moment then Some names.Backoff
    else (if is_issuing c && (length seen.next == 0) then Some names.Key
    else wait_of_next seen.secret (next_request c.status.revision seen.requests))

abbrev pub wait_of_seen : ℤ → Views → Option Certificate → Option WaitName
wait_of_seen moment seen None = None
wait_of_seen moment seen (Some c) = wait_of moment seen c

abbrev pub wait_in : ℤ → Views → Option WaitName
wait_in moment seen = wait_of_seen moment seen seen.certificate

-- what a role sees that was told of all writes
abbrev pub IsAllThatExists : Setting → List Entry → Caches → Type 0
IsAllThatExists s h all = all ≡ caches_at (writes s h) (record { certificates = length (writes s h); requests = length (writes s h); secrets = length (writes s h) })

-- ---- all Certificates

-- where a role does not do its work that is what each Certificate waits for
abbrev pub wait_at : Setting → List Entry → Key → Option WaitName
wait_at s h key = if is_stopped s h then Some names.Stopped else wait_in (moment s h) (present_views s h Issuing key)

abbrev pub with_wait : Key → Option WaitName → List Waiting → List Waiting
with_wait key None rest = rest
with_wait key (Some name) rest = record { certificate = key; wait = name } ∷ rest

-- those that are not Ready and wait for one of these, in order of key
abbrev pub waits_among : Setting → List Entry → List (Key × Object) → List Waiting
waits_among s h [] = []
waits_among s h (e ∷ es) = if is_waiting e.1 then with_wait e.0 (wait_at s h e.0) (waits_among s h es) else waits_among s h es

-- ---- the summary

abbrev pub summary_among : Setting → List Entry → List (Key × Object) → Summary
summary_among s h entries = record {
  certificates = count_by (λ e. is_certificate e.1) entries;
  ready = count_by (λ e. is_ready e.1) entries;
  secrets = count_by (λ e. is_secret e.1) entries;
  waiting = waits_among s h entries;
}

-- the summary of what stands after the history
abbrev pub summary_at : Setting → List Entry → Summary
summary_at s h = summary_among s h (finite.entries (objects s h))
