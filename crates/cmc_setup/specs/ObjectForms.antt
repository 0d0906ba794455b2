-- The forms of objects, as reading gives them: what of them the types of their fields do not say.
use Rattle.std.specs.Prelude.{ℕ, List, Bool, true, ◌&&◌, is_some}
use Rattle.std.specs.List.{list_all}
use Rattle.cmc_meta.specs.Wordings.{is_clean, is_printable_name}
use Rattle.cmc_x509_build.specs.Addresses.{address_at}
use Rattle.cmc_objects.specs.declared.certificate.Certificate.{Certificate}
use Rattle.cmc_objects.specs.declared.certificate.CertSpec.{CertSpec}
use Rattle.cmc_objects.specs.declared.object.Object.{Object}
use Rattle.cmc_objects.specs.declared.object.Object.TheVariants.{Cert, Request, Secret}
use Rattle.cmc_objects.specs.Requests.{is_issuer_form, is_duration_form, is_request_form}

-- a text that writes an IP address
abbrev pub is_address_text : List ℕ → Bool
is_address_text text = is_some (address_at text)

-- the names of the subject: a common name without control characters, printable DNS names, URIs and emails, and IP addresses
abbrev pub are_subject_names : CertSpec → Bool
are_subject_names spec =
    is_clean spec.common_name
    && (list_all is_printable_name spec.dns_names
    && (list_all is_address_text spec.ip_addresses
    && (list_all is_printable_name spec.uris
    && list_all is_printable_name spec.emails)))

-- an issuer's texts and both durations are within their bounds
abbrev pub are_certificate_terms : CertSpec → Bool
are_certificate_terms spec = is_issuer_form spec.issuer && (is_duration_form spec.duration && is_duration_form spec.renew_before)

abbrev pub is_certificate_form : Certificate → Bool
is_certificate_form certificate = are_certificate_terms certificate.spec && are_subject_names certificate.spec

abbrev pub is_object_form : Object → Bool
is_object_form (Cert certificate) = is_certificate_form certificate
is_object_form (Request request) = is_request_form request
is_object_form (Secret secret) = true
