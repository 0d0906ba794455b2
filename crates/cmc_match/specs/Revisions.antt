-- The revision of a Certificate that a CertificateRequest is for.
use Rattle.std.specs.Prelude.{ℕ, ◌+◌, Bool, false, ◌==◌, length, List, filter, find, Option, Some, None, unwrap_or, codes, if◌then◌else◌}
use Rattle.std.specs.Str.{bytes_eq}
use Rattle.cmc_meta.specs.Decimals.{number_in}
use Rattle.cmc_meta.specs.PairLists.{text_by_key}
use Rattle.cmc_objects.specs.declared.request.CertificateRequest.{CertificateRequest}

abbrev pub number_of : Option (List ℕ) → Option ℕ
number_of None = None
number_of (Some text) = number_in text

-- the annotation that names the revision
abbrev pub revision_text : CertificateRequest → Option (List ℕ)
revision_text request = text_by_key request.meta.annotations (codes "cert-manager.io/certificate-revision")

-- the revision that the request is for, if its annotation names one
unfoldable pub revision_of : CertificateRequest → Option ℕ
revision_of request = number_of (revision_text request)

abbrev pub is_number : ℕ → Option ℕ → Bool
is_number revision None = false
is_number revision (Some number) = number == revision

-- the annotation has this text
abbrev pub is_text_of : List ℕ → Option (List ℕ) → Bool
is_text_of digits None = false
is_text_of digits (Some text) = bytes_eq text digits

abbrev pub is_of_revision : ℕ → CertificateRequest → Bool
is_of_revision revision request = is_number revision (revision_of request)

-- the only request of the revision: none unless there is exactly one
unfoldable pub only_of : ℕ → List CertificateRequest → Option CertificateRequest
only_of revision requests = if length (filter (λ request. is_of_revision revision request) requests) == 1 then find (λ request. is_of_revision revision request) requests else None

-- the current request is of the revision that stands, 0 where none is set, and the next one of the revision after it
abbrev pub current_request : Option ℕ → List CertificateRequest → Option CertificateRequest
current_request revision requests = only_of (unwrap_or revision 0) requests

abbrev pub next_request : Option ℕ → List CertificateRequest → Option CertificateRequest
next_request revision requests = only_of (unwrap_or revision 0 + 1) requests
