-- An object of the form that is read, of which its types are kept, is read of its print, without its status and without what the
-- store owns.
use Rattle.std.proofs.Common.{◌≡◌, ◌&&◌, ℕ, ◌+◌, ◌<◌, ◌≤◌, ◌^◌, List, [], ◌∷◌, length, Option, Some, None, Ok, Bool, true, false, refl, map, drop, arith}
use Rattle.std.proofs.lemmas.Bool.{and_parts}
use Rattle.std.proofs.lemmas.Bool.Decides.{nat_tests}
use Rattle.std.specs.Prelude.{codes, decimal, IfSome, nat_le, nat_lt, is_some}
use Rattle.std.specs.List.{AllByRecursion, list_all}
use Rattle.std.specs.Str.{bytes_eq}
use Rattle.base64.specs.GeneralPurpose.{IsBytes}
use Rattle.serde_json.specs.Data.{Data, string, object}
use Rattle.serde_json.specs.View.{items_of}
use Rattle.cmc_meta.specs.Names.{is_subdomain}
use Rattle.cmc_meta.specs.Wordings.{is_clean, is_printable_name}
use Rattle.cmc_meta.specs.declared.object_meta.ObjectMeta.{ObjectMeta}
use Rattle.cmc_meta.specs.declared.owners.OwnerRef.{OwnerRef}
use Rattle.cmc_time.specs.Durations.{longest, go_duration}
use Rattle.cmc_time.specs.DurationTexts.{duration_seconds}
use Rattle.cmc_time.proofs.DurationLaws.{duration_again, go_duration_is}
use Rattle.cmc_x509_build.specs.Addresses.{address_at}
use Rattle.cmc_objects.specs.declared.issuer.IssuerRef.{IssuerRef}
use Rattle.cmc_objects.specs.declared.certificate.CertSpec.{CertSpec}
use Rattle.cmc_objects.specs.declared.request.RequestSpec.{RequestSpec}
use Rattle.cmc_objects.specs.declared.object.Object.{Object}
use Rattle.cmc_objects.specs.declared.object.Object.TheVariants.{Cert, Request, Secret}
use Rattle.cmc_objects.specs.Objects.{no_cert_status, no_request_status}
use Rattle.cmc_objects.specs.Requests.{is_short_text, is_short_option, is_issuer_form, is_duration_form}
use Rattle.cmc_setup.specs.ObjectForms.{are_certificate_terms, are_subject_names, is_address_text, is_object_form}
use Rattle.cmc_cursor.specs.Members.{◌>>=◌, under, fields_of, optional_at, required_at}
use Rattle.cmc_cursor.specs.Readers.{text_at, word_at, name_at, short_text_at, printable_at, small_count_at, bytes_at, parts_at}
use Rattle.cmc_print.specs.Trees.{natural}
use Rattle.cmc_print.specs.Puts.{strings, base64_text, map_tree}
use Rattle.cmc_print.specs.Printed.{duration_tree, meta_tree, spec_tree, request_tree, owner_tree, owners_tree, status_members, put_moments, request_status_members, head_members, object_tree}
use Rattle.cmc_codec.specs.Given.{address_text_at, worded_at, list_from, text_list_at, clean_text_at, duration_at}
use Rattle.cmc_codec.specs.declared.given.Wording.{Wording}
use Rattle.cmc_codec.specs.declared.given.Wording.TheVariants.{Any, Printable, Address}
use Rattle.cmc_codec.specs.MetadataForm.{unstored_meta, owners_from, head_at}
use Rattle.cmc_codec.specs.CertificateForm.{api_at, spec_at, api_request_spec_at}
use Rattle.cmc_codec.specs.ObjectForm.{applied_certificate_in, applied_request_in, applied_secret_in, applied_at, object_read_at}
use Rattle.cmc_codec.specs.Laws.{EachValue, IsOrdered, bare_meta, bare}
use Rattle.cmc_codec.specs.declared.certificate_in.Api.TheVariants.{V1}
use Rattle.cmc_codec.specs.declared.metadata_in.Head.{Head}
use Rattle.cmc_codec.specs.declared.object_in.Applied.{Applied}
use Rattle.cmc_codec.proofs.DecimalsAgain.{uid_written}
use Rattle.cmc_codec.proofs.MetadataAgain.{AreListed, IsMeta, owner_printed, head_again, parts_again}
use Rattle.cmc_codec.proofs.ObjectsAgain.{bytes_again, parts_are, secret_places, places_of, secret_printed, is_secret}
use Rattle.cmc_codec.proofs.PrintedSpecs.{IsIssuer, IsSize, IsDurationText, IsSpec, IsRequestSpec, spec_again, request_again}
use Rattle.cmc_codec.proofs.Slots.{slots, bind, required_is, needed_is, member_or_is, some_list, list_given}
use Rattle.cmc_audit_laws.specs.Typed.{IsTypedOwner, IsTypedMeta, IsSmall, IsTypedSpec, IsTypedObject}

-- ---- values

name_read : (t : List ℕ) → is_subdomain t ≡ true → name_at (string t) ≡ Ok t
name_read t is = rw is refl

short_read : (t : List ℕ) → is_short_text t ≡ true → short_text_at 253 (string t) ≡ Ok t
short_read t is = rw is refl

short_given : (o : Option (List ℕ)) → is_short_option o ≡ true → IfSome o (λ t. short_text_at 253 (string t) ≡ Ok t)
short_given None is = tt
short_given (Some t) is = short_read t is

small_given : (o : Option ℕ) → IsSmall o → IsSize o
small_given None is = tt
small_given (Some n) is = let low : nat_lt n (2 ^ 32) ≡ true = grind (arith, nat_tests, is) in rw low refl

duration_read : (n : ℕ) → nat_le n 3599999996400 ≡ true → duration_at (duration_tree n) ≡ Ok n
duration_read n is =
    let within : n ≤ longest = grind (arith, nat_tests, is) in
    let again : duration_seconds (go_duration n) ≡ Some n = duration_again (go_duration n) n (go_duration_is n within) in
    rw again refl

duration_given : (o : Option ℕ) → is_duration_form o ≡ true → IsDurationText o
duration_given None is = tt
duration_given (Some n) is = duration_read n is

-- ---- lists of texts

all_any : (ts : List (List ℕ)) (n : ℕ) → list_from Any n (items_of (map string ts)) ≡ Ok ts
all_any [] n = refl
all_any (t ∷ ts) n = rw (all_any ts (n + 1)) refl

all_worded : (wording : Wording) (test : List ℕ → Bool) → ((t : List ℕ) → test t ≡ true → worded_at wording (string t) ≡ Ok t) → (ts : List (List ℕ)) (n : ℕ) → list_all test ts ≡ true
    → list_from wording n (items_of (map string ts)) ≡ Ok ts
all_worded wording test each [] n all = refl
all_worded wording test each (t ∷ ts) n all =
    let parts = and_parts (test t) (list_all test ts) all in
    rw (each t parts.0, all_worded wording test each ts (n + 1) parts.1) refl

printable_read : (t : List ℕ) → is_printable_name t ≡ true → worded_at Printable (string t) ≡ Ok t
printable_read t is = rw is refl

address_read : (t : List ℕ) → is_address_text t ≡ true → worded_at Address (string t) ≡ Ok t
address_read t is = rw is refl

-- ---- specs

issuer_given : (i : IssuerRef) → is_issuer_form i ≡ true → IsIssuer i
issuer_given i is =
    let name = and_parts (is_short_text i.name) (is_short_option i.kind && is_short_option i.group) is in
    let rest = and_parts (is_short_option i.kind) (is_short_option i.group) name.1 in
    record { name = short_read i.name name.0; kind = short_given i.kind rest.0; group = short_given i.group rest.1 }

clean_read : (t : List ℕ) → is_clean t ≡ true → clean_text_at (string t) ≡ Ok t
clean_read t is = rw is refl

pub spec_given : (s : CertSpec) → IsTypedSpec s → (are_certificate_terms s && are_subject_names s) ≡ true → IsSpec s
spec_given s typed form =
    let both = and_parts (are_certificate_terms s) (are_subject_names s) form in
    let issuer = and_parts (is_issuer_form s.issuer) (is_duration_form s.duration && is_duration_form s.renew_before) both.0 in
    let durations = and_parts (is_duration_form s.duration) (is_duration_form s.renew_before) issuer.1 in
    let common = and_parts (is_clean s.common_name) _ both.1 in
    let dns = and_parts (list_all is_printable_name s.dns_names) _ common.1 in
    let ips = and_parts (list_all is_address_text s.ip_addresses) _ dns.1 in
    let rest = and_parts (list_all is_printable_name s.uris) (list_all is_printable_name s.emails) ips.1 in
    record {
      common = clean_read s.common_name common.0;
      dns = all_worded Printable is_printable_name printable_read s.dns_names 0 dns.0;
      duration = duration_given s.duration durations.0;
      emails = all_worded Printable is_printable_name printable_read s.emails 0 rest.1;
      addresses = all_worded Address is_address_text address_read s.ip_addresses 0 ips.0;
      issuer = issuer_given s.issuer issuer.0;
      size = small_given s.key.size typed.size;
      before = duration_given s.renew_before durations.1;
      percent = small_given s.renew_percent typed.percent;
      limit = small_given s.history_limit typed.limit;
      secret = name_read s.secret_name typed.secret;
      uris = all_worded Printable is_printable_name printable_read s.uris 0 rest.0;
      usages = all_any s.usages 0;
    }

request_given : (s : RequestSpec) → IsBytes s.request → (is_issuer_form s.issuer && is_duration_form s.duration) ≡ true → IsRequestSpec s
request_given s bytes form =
    let both = and_parts (is_issuer_form s.issuer) (is_duration_form s.duration) form in
    record { duration = duration_given s.duration both.1; issuer = issuer_given s.issuer both.0; request = bytes_again s.request bytes; usages = all_any s.usages 0 }

-- ---- metadata

owners_read : (os : List OwnerRef) (n : ℕ) → AllByRecursion IsTypedOwner os → owners_from n (items_of (map owner_tree os)) ≡ Ok os
owners_read [] n all = refl
owners_read (o ∷ os) n all = rw (owner_printed o.kind o.name o.uid o.controller (name_read o.name all.0.1) (uid_written o.uid all.0.0), owners_read os (n + 1) all.1) refl

pub meta_given : (m : ObjectMeta) → IsTypedMeta m → IsMeta (bare_meta m)
meta_given m typed = record {
  name = name_read m.name typed.name;
  namespace = name_read m.namespace typed.namespace;
  labels = typed.labels;
  annotations = typed.annotations;
  owners = owners_read m.owners 0 typed.owners;
  new = refl;
}

-- ---- objects

abbrev Places : Type 0
Places = List (List ℕ × Option Data)

abbrev alone : Object → Applied
alone o = record { object = o; version = None }

abbrev head_is : ObjectMeta → Head
head_is m = record { meta = m; version = None }

abbrev certificate_places : ObjectMeta → CertSpec → Places
certificate_places m s = (codes "apiVersion", Some (string (codes "cert-manager.io/v1"))) ∷ (codes "kind", Some (string (codes "Certificate"))) ∷ (codes "metadata", Some (meta_tree m)) ∷ (codes "spec", Some (spec_tree s)) ∷ []

abbrev new_certificate : ObjectMeta → CertSpec → Object
new_certificate m s = Cert (record { meta = m; spec = s; status = no_cert_status })

certificate_printed : (m : ObjectMeta) (s : CertSpec) → object_tree (new_certificate m s) ≡ object (slots (certificate_places m s))
unfolding object_tree head_members status_members put_moments
certificate_printed m s = refl

certificate_again : (m : ObjectMeta) (s : CertSpec) → IsMeta m → IsSpec s → applied_certificate_in (fields_of (slots (certificate_places m s))) ≡ Ok (alone (new_certificate m s))
unfolding applied_certificate_in
certificate_again m s is_meta is_spec =
    let ps = certificate_places m s in
    (bind _ _ _ _ (needed_is api_at (codes "apiVersion") (string (codes "cert-manager.io/v1")) (drop 1 ps) V1 refl refl)
    (bind _ _ _ _ (required_is (codes "kind") (string (codes "Certificate")) (drop 2 ps) refl)
    (bind _ _ _ _ (needed_is head_at (codes "metadata") (meta_tree m) (drop 3 ps) (head_is m) refl (head_again m is_meta))
    (bind _ _ _ _ (needed_is (spec_at V1) (codes "spec") (spec_tree s) [] s refl (spec_again s is_spec)) refl))))

certificate_read : (m : ObjectMeta) (s : CertSpec) → IsMeta m → IsSpec s → object_read_at (object_tree (new_certificate m s)) ≡ Ok (new_certificate m s)
unfolding applied_at
certificate_read m s is_meta is_spec = rw (certificate_printed m s, certificate_again m s is_meta is_spec) refl

abbrev request_places : ObjectMeta → RequestSpec → Places
request_places m s = (codes "apiVersion", Some (string (codes "cert-manager.io/v1"))) ∷ (codes "kind", Some (string (codes "CertificateRequest"))) ∷ (codes "metadata", Some (meta_tree m)) ∷ (codes "spec", Some (request_tree s)) ∷ []

abbrev new_request : ObjectMeta → RequestSpec → Object
new_request m s = Request (record { meta = m; spec = s; status = no_request_status })

request_printed : (m : ObjectMeta) (s : RequestSpec) → object_tree (new_request m s) ≡ object (slots (request_places m s))
unfolding object_tree head_members request_status_members
request_printed m s = refl

request_in_again : (m : ObjectMeta) (s : RequestSpec) → IsMeta m → IsRequestSpec s → applied_request_in (fields_of (slots (request_places m s))) ≡ Ok (alone (new_request m s))
unfolding applied_request_in
request_in_again m s is_meta is_spec =
    let ps = request_places m s in
    (bind _ _ _ _ (needed_is api_at (codes "apiVersion") (string (codes "cert-manager.io/v1")) (drop 1 ps) V1 refl refl)
    (bind _ _ _ _ (required_is (codes "kind") (string (codes "CertificateRequest")) (drop 2 ps) refl)
    (bind _ _ _ _ (needed_is head_at (codes "metadata") (meta_tree m) (drop 3 ps) (head_is m) refl (head_again m is_meta))
    (bind _ _ _ _ (needed_is (api_request_spec_at V1) (codes "spec") (request_tree s) [] s refl (request_again s is_spec)) refl))))

request_read : (m : ObjectMeta) (s : RequestSpec) → IsMeta m → IsRequestSpec s → object_read_at (object_tree (new_request m s)) ≡ Ok (new_request m s)
unfolding applied_at
request_read m s is_meta is_spec = rw (request_printed m s, request_in_again m s is_meta is_spec) refl

abbrev Entries : Type 0
Entries = List (List ℕ × List ℕ)

abbrev new_secret : ObjectMeta → List ℕ → Entries → Object
new_secret m t parts = Secret (record { meta = m; kind_text = t; parts = parts })

secret_again : (m : ObjectMeta) (t : List ℕ) (parts : Entries) → IsMeta m → parts_at (map_tree base64_text parts) ≡ Ok parts → applied_secret_in (fields_of (slots (places_of m t parts))) ≡ Ok (alone (new_secret m t parts))
unfolding applied_secret_in
secret_again m t parts is_meta are_parts =
    let ps = places_of m t parts in
    (bind _ _ _ _ (needed_is (word_at (codes "v1")) (codes "apiVersion") (string (codes "v1")) (drop 1 ps) tt refl refl)
    (bind _ _ _ _ (member_or_is [] parts_at (codes "data") (some_list (map_tree base64_text) parts) (drop 2 ps) parts refl (list_given parts_at (map_tree base64_text) (codes "data") parts are_parts))
    (bind _ _ _ _ (required_is (codes "kind") (string (codes "Secret")) (drop 3 ps) refl)
    (bind _ _ _ _ (needed_is head_at (codes "metadata") (meta_tree m) (drop 4 ps) (head_is m) refl (head_again m is_meta)) refl))))

secret_read : (m : ObjectMeta) (t : List ℕ) (parts : Entries) → IsMeta m → parts_at (map_tree base64_text parts) ≡ Ok parts → object_read_at (object_tree (new_secret m t parts)) ≡ Ok (new_secret m t parts)
unfolding applied_at
secret_read m t parts is_meta are_parts = rw (secret_printed m t parts, is_secret m t (some_list (map_tree base64_text) parts), secret_again m t parts is_meta are_parts) refl

pub bare_read : (o : Object) → IsTypedObject o → is_object_form o ≡ true → object_read_at (object_tree (bare o)) ≡ Ok (bare o)
bare_read (Cert c) typed form = certificate_read (bare_meta c.meta) c.spec (meta_given c.meta typed.meta) (spec_given c.spec typed.spec form)
bare_read (Request r) typed form = request_read (bare_meta r.meta) r.spec (meta_given r.meta typed.meta) (request_given r.spec typed.request form)
bare_read (Secret k) typed form = secret_read (bare_meta k.meta) k.kind_text k.parts (meta_given k.meta typed.meta) (parts_again k.parts typed.order (parts_are k.parts typed.parts))
