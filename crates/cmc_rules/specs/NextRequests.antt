-- The requests of a Certificate's issuance in progress.
use Rattle.std.specs.Prelude.{ℕ, ℤ, ◌<◌, ◌^◌, ◌+◌, Bool, false, ◌&&◌, ◌||◌, int_lt, List, codes, Option, Some, None, filter, unwrap_or}
use Rattle.std.specs.Str.{bytes_eq}
use Rattle.cmc_meta.specs.declared.conditions.Condition.{Condition}
use Rattle.cmc_meta.specs.declared.conditions.ConditionKind.TheVariants as kinds
use Rattle.cmc_meta.specs.declared.conditions.Tri.TheVariants.{False}
use Rattle.cmc_meta.specs.ConditionLists.{condition_at, tri_eq}
use Rattle.cmc_objects.specs.declared.certificate.Certificate.{Certificate}
use Rattle.cmc_objects.specs.declared.request.CertificateRequest.{CertificateRequest}
use Rattle.cmc_match.specs.Matches.{matches, has_key}
use Rattle.cmc_match.specs.Revisions.{is_of_revision}

-- the revision that is issued: the one after the revision that stands
abbrev pub next_revision : Certificate → ℕ
next_revision c = unwrap_or c.status.revision 0 + 1

-- revisions below 2 ^ 63 have a next one that can be written
abbrev pub HasNextRevision : Option Certificate → Type 0
HasNextRevision None = Unit {0}
HasNextRevision (Some c) = unwrap_or c.status.revision 0 < 2 ^ 63

-- the request is for the next revision; those that are, in the order in which they stand
abbrev pub is_next : Certificate → CertificateRequest → Bool
is_next c r = is_of_revision (next_revision c) r

abbrev pub next_requests : Certificate → List CertificateRequest → List CertificateRequest
next_requests c requests = filter (is_next c) requests

-- the request asks for what the specification asks for, with the key of this file
abbrev pub is_wanted : Certificate → List ℕ → CertificateRequest → Bool
is_wanted c file r = matches c.spec r && has_key r file

-- ---- refused requests (cert-manager.io/v1 `CertificateRequestStatus`)

abbrev pub says_refused : Option Condition → Bool
says_refused None = false
says_refused (Some ready) = tri_eq ready.status False && (bytes_eq ready.reason (codes "Failed") || bytes_eq ready.reason (codes "Denied"))

-- Ready is False, since the issuer failed or the request was denied
abbrev pub is_refused : CertificateRequest → Bool
is_refused r = says_refused (condition_at r.status.conditions kinds.Ready)

abbrev pub is_before : Option ℤ → Option Condition → Bool
is_before None issuing = false
is_before (Some failure) None = false
is_before (Some failure) (Some issuing) = int_lt failure issuing.since

-- it failed before the condition Issuing had its last transition
abbrev pub failed_before : Certificate → CertificateRequest → Bool
failed_before c r = is_before r.status.failure (condition_at c.status.conditions kinds.Issuing)
