-- What is read of a printed spec is that spec, if anything is read.
use Rattle.std.proofs.Common.{◌≡◌, ℕ, [], Option, Some, None, Ok, refl, sym, ◌∙◌, drop}
use Rattle.std.specs.Prelude.{codes, IfSome}
use Rattle.serde_json.specs.Data.{string, object, Members, no_members, member}
use Rattle.cmc_objects.specs.declared.issuer.IssuerRef.{IssuerRef}
use Rattle.cmc_objects.specs.declared.key_spec.Algorithm.TheVariants.{Rsa, Ecdsa}
use Rattle.cmc_objects.specs.declared.key_spec.Encoding.TheVariants.{Pkcs1, Pkcs8}
use Rattle.cmc_objects.specs.declared.key_spec.Rotation.TheVariants as rotations
use Rattle.cmc_objects.specs.declared.key_spec.KeySpec.{KeySpec}
use Rattle.cmc_objects.specs.declared.certificate.CertSpec.{CertSpec}
use Rattle.cmc_objects.specs.declared.request.RequestSpec.{RequestSpec}
use Rattle.cmc_cursor.specs.Members.{fields_of}
use Rattle.cmc_cursor.specs.Readers.{name_at, short_text_at, small_count_at, bytes_at}
use Rattle.cmc_print.specs.Trees.{natural}
use Rattle.cmc_print.specs.Words.{algorithm_name, encoding_name, rotation_name}
use Rattle.cmc_print.specs.Puts.{strings, base64_text}
use Rattle.cmc_print.specs.Printed.{duration_tree, issuer_tree, key_members, spec_tree, request_tree}
use Rattle.cmc_codec.specs.Given.{text_list_at, clean_text_at, duration_at, choice_at, given_or}
use Rattle.cmc_codec.specs.declared.given.Wording.TheVariants.{Any, Printable, Address}
use Rattle.cmc_codec.specs.CertificateForm.{issuer_at, no_key, key_spec_at, subject_in, signing_in, terms_in, target_in, spec_at, request_spec_at}
use Rattle.cmc_codec.specs.declared.certificate_in.Api.TheVariants.{V1}
use Rattle.cmc_codec.specs.Laws.{FitsSeconds}
use Rattle.cmc_codec.proofs.Slots.{slots, some_option, some_object}
use Rattle.cmc_codec.proofs.PrintedSpecs.{issuer_places, issuer_printed, algorithm_again, encoding_again, rotation_again, always_some, places_of_key, key_printed, empty_key, spec_places, places_of, subject_of, signing_of, terms_of, target_of, behind, spec_printed, places_of_request, request_printed}
use Rattle.cmc_cursor.proofs.Always.{so}
use Rattle.cmc_codec.proofs.Only.{Only, given, only_below, only_then, short_text_only, name_only, clean_text_only, list_only, small_count_only, duration_only, option_is, member_or_is, list_is, true_is, needed_is}

lasting : (o : Option ℕ) → FitsSeconds o → IfSome o (λ n. Only n (duration_at (duration_tree n)))
lasting None h = tt
lasting (Some n) h = duration_only n h

issuer_only : (i : IssuerRef) → Only i (issuer_at (issuer_tree i))
unfolding issuer_at
issuer_only i =
    let ps = issuer_places (some_option string i.group) (some_option string i.kind) (Some (string i.name)) in
    rw (issuer_printed i)
    (only_then _ _ _ _ (option_is (short_text_at 253) string (codes "group") i.group (drop 1 ps) refl (always_some _ i.group (short_text_only 253)))
    (only_then _ _ _ _ (option_is (short_text_at 253) string (codes "kind") i.kind (drop 2 ps) refl (always_some _ i.kind (short_text_only 253)))
    (only_then _ _ _ _ (needed_is (short_text_at 253) (codes "name") (string i.name) [] i.name refl (short_text_only 253 i.name)) (so refl))))

key_only : (k : KeySpec) → Only k (key_spec_at (object (key_members k)))
unfolding key_spec_at
key_only k =
    let ps = places_of_key k in
    rw (key_printed k)
    (only_then _ _ _ _ (option_is (choice_at (codes "RSA") Rsa (codes "ECDSA") Ecdsa) (λ a. string (algorithm_name a)) (codes "algorithm") k.algorithm (drop 1 ps) refl (always_some _ k.algorithm (λ a. given (algorithm_again a))))
    (only_then _ _ _ _ (option_is (choice_at (codes "PKCS1") Pkcs1 (codes "PKCS8") Pkcs8) (λ e. string (encoding_name e)) (codes "encoding") k.encoding (drop 2 ps) refl (always_some _ k.encoding (λ e. given (encoding_again e))))
    (only_then _ _ _ _ (option_is (choice_at (codes "Always") rotations.Always (codes "Never") rotations.Never) (λ r. string (rotation_name r)) (codes "rotationPolicy") k.rotation (drop 3 ps) refl (always_some _ k.rotation (λ r. given (rotation_again r))))
    (only_then _ _ _ _ (option_is small_count_at natural (codes "size") k.size [] refl (always_some _ k.size small_count_only)) (so refl)))))

bare_key : (ms : Members) (k : KeySpec) → Only k (key_spec_at (object ms)) → (ms ≡ no_members → k ≡ no_key) → Only k (given_or no_key key_spec_at (codes "privateKey") (some_object ms))
bare_key no_members k only none = so (sym (none refl))
bare_key (member n d ms) k only none = only_below (codes "privateKey") k (key_spec_at (object (member n d ms))) only

key_given : (k : KeySpec) → Only k (given_or no_key key_spec_at (codes "privateKey") (some_object (key_members k)))
key_given k = bare_key (key_members k) k (key_only k) (λ h. empty_key k.algorithm k.size k.encoding k.rotation (sym (key_printed k) ∙ h))

-- ---- the spec of a Certificate

-- its durations are below 2 ^ 64
pub record IsLastingSpec (s : CertSpec) : Type 0 where
  pub duration : FitsSeconds s.duration
  pub before : FitsSeconds s.renew_before

subject_only : (s : CertSpec) → IsLastingSpec s → Only (subject_of s, behind 5 s) (subject_in (codes "emailAddresses") (behind 0 s))
unfolding subject_in
subject_only s is =
    let ps = spec_places (places_of s) in
    (only_then _ _ _ _ (list_is clean_text_at string (codes "commonName") s.common_name (drop 1 ps) refl (clean_text_only s.common_name))
    (only_then _ _ _ _ (list_is (text_list_at Printable) strings (codes "dnsNames") s.dns_names (drop 2 ps) refl (list_only Printable s.dns_names))
    (only_then _ _ _ _ (option_is duration_at duration_tree (codes "duration") s.duration (drop 3 ps) refl (lasting s.duration is.duration))
    (only_then _ _ _ _ (list_is (text_list_at Printable) strings (codes "emailAddresses") s.emails (drop 4 ps) refl (list_only Printable s.emails))
    (only_then _ _ _ _ (list_is (text_list_at Address) strings (codes "ipAddresses") s.ip_addresses (drop 5 ps) refl (list_only Address s.ip_addresses)) (so refl))))))

signing_only : (s : CertSpec) → Only (signing_of s, behind 7 s) (signing_in (behind 5 s))
unfolding signing_in
signing_only s =
    let ps = spec_places (places_of s) in
    (only_then _ _ _ _ (true_is (codes "isCA") s.is_ca (drop 6 ps) refl)
    (only_then _ _ _ _ (needed_is issuer_at (codes "issuerRef") (issuer_tree s.issuer) (drop 7 ps) s.issuer refl (issuer_only s.issuer)) (so refl)))

terms_only : (s : CertSpec) → IsLastingSpec s → Only (terms_of s, behind 11 s) (terms_in (behind 7 s))
unfolding terms_in
terms_only s is =
    let ps = spec_places (places_of s) in
    (only_then _ _ _ _ (member_or_is no_key key_spec_at (codes "privateKey") (some_object (key_members s.key)) (drop 8 ps) s.key refl (key_given s.key))
    (only_then _ _ _ _ (option_is duration_at duration_tree (codes "renewBefore") s.renew_before (drop 9 ps) refl (lasting s.renew_before is.before))
    (only_then _ _ _ _ (option_is small_count_at natural (codes "renewBeforePercentage") s.renew_percent (drop 10 ps) refl (always_some _ s.renew_percent small_count_only))
    (only_then _ _ _ _ (option_is small_count_at natural (codes "revisionHistoryLimit") s.history_limit (drop 11 ps) refl (always_some _ s.history_limit small_count_only)) (so refl)))))

target_only : (s : CertSpec) → Only (target_of s, []) (target_in (codes "uris") (behind 11 s))
unfolding target_in
target_only s =
    let ps = spec_places (places_of s) in
    (only_then _ _ _ _ (needed_is name_at (codes "secretName") (string s.secret_name) (drop 12 ps) s.secret_name refl (name_only s.secret_name))
    (only_then _ _ _ _ (list_is (text_list_at Printable) strings (codes "uris") s.uris (drop 13 ps) refl (list_only Printable s.uris))
    (only_then _ _ _ _ (list_is (text_list_at Any) strings (codes "usages") s.usages [] refl (list_only Any s.usages)) (so refl))))

pub spec_only : (s : CertSpec) → IsLastingSpec s → Only s (spec_at V1 (spec_tree s))
unfolding spec_at
spec_only s is =
    rw (spec_printed s)
    (only_then _ _ _ _ (subject_only s is)
    (only_then _ _ _ _ (signing_only s)
    (only_then _ _ _ _ (terms_only s is)
    (only_then _ _ _ _ (target_only s) (so refl)))))

-- ---- the spec of a CertificateRequest

request_signing : (s : RequestSpec) → Only (record { is_ca = s.is_ca; issuer = s.issuer }, fields_of (slots (drop 3 (places_of_request s)))) (signing_in (fields_of (slots (drop 1 (places_of_request s)))))
unfolding signing_in
request_signing s =
    let ps = places_of_request s in
    (only_then _ _ _ _ (true_is (codes "isCA") s.is_ca (drop 2 ps) refl)
    (only_then _ _ _ _ (needed_is issuer_at (codes "issuerRef") (issuer_tree s.issuer) (drop 3 ps) s.issuer refl (issuer_only s.issuer)) (so refl)))

pub request_only : (s : RequestSpec) → FitsSeconds s.duration → bytes_at (base64_text s.request) ≡ Ok s.request → Only s (request_spec_at (request_tree s))
unfolding request_spec_at
request_only s last bytes =
    let ps = places_of_request s in
    rw (request_printed s)
    (only_then _ _ _ _ (option_is duration_at duration_tree (codes "duration") s.duration (drop 1 ps) refl (lasting s.duration last))
    (only_then _ _ _ _ (request_signing s)
    (only_then _ _ _ _ (needed_is bytes_at (codes "request") (base64_text s.request) (drop 4 ps) s.request refl (given bytes))
    (only_then _ _ _ _ (list_is (text_list_at Any) strings (codes "usages") s.usages [] refl (list_only Any s.usages)) (so refl)))))
