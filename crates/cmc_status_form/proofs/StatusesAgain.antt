-- Statuses of the form are read as they are printed, and only such ones are read.
use Rattle.std.proofs.Common.{◌≡◌, ℕ, ◌<◌, ◌^◌, List, [], ◌∷◌, true, ℤ, Option, Some, None, Ok, Err, refl, ap, sym, ◌∙◌, drop, subst}
use Rattle.std.specs.Prelude.{codes, IfSome, nat_lt}
use Rattle.std.proofs.lemmas.Bool.{ltb-true, lt-ltb}
use Rattle.base64.specs.GeneralPurpose.{IsBytes}
use Rattle.serde_json.specs.Data.{Data, string, Members, no_members, member}
use Rattle.cmc_meta.specs.Names.{is_subdomain}
use Rattle.cmc_meta.specs.declared.conditions.Condition.{Condition}
use Rattle.cmc_objects.specs.Objects.{no_cert_status, no_request_status}
use Rattle.cmc_objects.specs.declared.certificate.CertStatus.{CertStatus}
use Rattle.cmc_objects.specs.declared.request.RequestStatus.{RequestStatus}
use Rattle.cmc_time.specs.Moment.{IsPrintable}
use Rattle.cmc_cursor.specs.Members.{Read, Field, fields_of, at_end}
use Rattle.cmc_cursor.specs.Readers.{text_at, name_in, name_at, count_at, small_count_at, floats_in}
use Rattle.cmc_cursor.proofs.Always.{Always, so, next, after, where_true}
use Rattle.cmc_print.specs.Trees.{natural}
use Rattle.cmc_print.specs.Puts.{base64_text}
use Rattle.cmc_print.specs.Printed.{moment_tree, conditions_tree, put_moments, status_members, request_status_members}
use Rattle.cmc_codec.specs.Given.{given_or, member_at, next_member_or}
use Rattle.cmc_codec.proofs.Slots.{slots, start, bind, below, some_option, some_list, some_object, put_option_is, put_list_is, option_next}
use Rattle.cmc_codec.proofs.ObjectsAgain.{bytes_again}
use Rattle.cmc_codec.proofs.ValuesAgain.{member_or_so, member_so}
use Rattle.cmc_status_form.specs.ConditionForm.{moment_at, conditions_at}
use Rattle.cmc_status_form.specs.StatusForm.{some_fields_at, some_bytes_at, issuance_in, standing_in, cert_status_in, cert_status_at, request_status_in, request_status_at}
use Rattle.cmc_status_form.specs.Laws.{HasMoments, AreConditions, IsCertStatus, IsRequestStatus}
use Rattle.cmc_status_form.specs.declared.status.Issuance.{Issuance}
use Rattle.cmc_status_form.specs.declared.status.Standing.{Standing}
use Rattle.cmc_status_form.proofs.Places.{Places, passed, AreEmpty, all_empty, no_option, no_list, some_list_next, AreClear, clear_slots, clear_option, clear_list}
use Rattle.cmc_status_form.proofs.Moments.{moment_again, moment_so}
use Rattle.cmc_status_form.proofs.ConditionsAgain.{conditions_again, conditions_so, conditions_clear, are_none}

-- ---- values

each_option : {A : Type 0} (P Q : A → Type 0) (o : Option A) → ((x : A) → P x → Q x) → IfSome o P → IfSome o Q
each_option P Q None f is = tt
each_option P Q (Some x) f is = f x is

moments_again : (given : Option ℤ) → HasMoments given → IfSome given (λ at. moment_at (moment_tree at) ≡ Ok at)
moments_again given is = each_option IsPrintable _ given moment_again is

name_is_read : (t : List ℕ) → is_subdomain t ≡ true → name_at (string t) ≡ Ok t
name_is_read t is = passed (is_subdomain t) (Ok t) (Err []) is

small_is_read : (n : ℕ) → n < 2 ^ 32 → small_count_at (natural n) ≡ Ok n
small_is_read n low = passed (nat_lt n (2 ^ 32)) (Ok n) (Err []) (lt-ltb n (2 ^ 32) low)

count_is_read : (n : ℕ) → n < 2 ^ 64 → count_at (natural n) ≡ Ok n
count_is_read n low = refl

conditions_given : (cs : List Condition) → AreConditions cs → (y : Condition) (ys : List Condition) → cs ≡ y ∷ ys → conditions_at (conditions_tree (y ∷ ys)) ≡ Ok (y ∷ ys)
conditions_given cs are y ys e = conditions_again y ys (subst AreConditions e are)

bytes_given : (bytes : List ℕ) → IsBytes bytes → (y : ℕ) (ys : List ℕ) → bytes ≡ y ∷ ys → some_bytes_at (base64_text (y ∷ ys)) ≡ Ok (y ∷ ys)
bytes_given bytes are y ys e = rw (bytes_again (y ∷ ys) (subst IsBytes e are)) refl

-- ---- the status of a Certificate

abbrev status_places : Option Data → Option Data → Option Data → Option Data → Option Data → Option Data → Option Data → Option Data → Places
status_places conditions attempts last_failure next_key not_after not_before renewal revision =
    (codes "conditions", conditions)
    ∷ (codes "failedIssuanceAttempts", attempts)
    ∷ (codes "lastFailureTime", last_failure)
    ∷ (codes "nextPrivateKeySecretName", next_key)
    ∷ (codes "notAfter", not_after)
    ∷ (codes "notBefore", not_before)
    ∷ (codes "renewalTime", renewal)
    ∷ (codes "revision", revision)
    ∷ []

abbrev places_of : CertStatus → Places
places_of s =
    status_places
    (some_list conditions_tree s.conditions)
    (some_option natural s.attempts)
    (some_option moment_tree s.last_failure)
    (some_option string s.next_key)
    (some_option moment_tree s.not_after)
    (some_option moment_tree s.not_before)
    (some_option moment_tree s.renewal)
    (some_option natural s.revision)

status_printed : (s : CertStatus) → status_members s ≡ slots (places_of s)
unfolding status_members put_moments
status_printed s =
    let conditions = put_list_is conditions_tree (codes "conditions") s.conditions (start {ss = status_places None None None None None None None None} refl) refl in
    let last_failure = put_option_is moment_tree (codes "lastFailureTime") s.last_failure conditions refl in
    let not_before = put_option_is moment_tree (codes "notBefore") s.not_before last_failure refl in
    let not_after = put_option_is moment_tree (codes "notAfter") s.not_after not_before refl in
    let renewal = put_option_is moment_tree (codes "renewalTime") s.renewal not_after refl in
    let attempts = put_option_is natural (codes "failedIssuanceAttempts") s.attempts renewal refl in
    let revision = put_option_is natural (codes "revision") s.revision attempts refl in
    let next_key = put_option_is string (codes "nextPrivateKeySecretName") s.next_key revision refl in
    next_key.same

abbrev issuance_of : CertStatus → Issuance
issuance_of s = record { conditions = s.conditions; attempts = s.attempts; last_failure = s.last_failure; next_key = s.next_key }

abbrev standing_of : CertStatus → Standing
standing_of s = record { not_after = s.not_after; not_before = s.not_before; renewal = s.renewal; revision = s.revision }

issuance_again : (s : CertStatus) → IsCertStatus s → issuance_in (fields_of (slots (places_of s))) ≡ Ok (issuance_of s, fields_of (slots (drop 4 (places_of s))))
unfolding issuance_in
issuance_again s is =
    let ps = places_of s in
    (bind _ _ _ _ (some_list_next conditions_at conditions_tree (codes "conditions") s.conditions (drop 1 ps) refl (conditions_given s.conditions is.conditions))
    (bind _ _ _ _ (option_next small_count_at natural (codes "failedIssuanceAttempts") s.attempts (drop 2 ps) refl (each_option _ _ s.attempts small_is_read is.attempts))
    (bind _ _ _ _ (option_next moment_at moment_tree (codes "lastFailureTime") s.last_failure (drop 3 ps) refl (moments_again s.last_failure is.last_failure))
    (bind _ _ _ _ (option_next name_at string (codes "nextPrivateKeySecretName") s.next_key (drop 4 ps) refl (each_option _ _ s.next_key name_is_read is.next_key)) refl))))

standing_again : (s : CertStatus) → IsCertStatus s → standing_in (fields_of (slots (drop 4 (places_of s)))) ≡ Ok (standing_of s, [])
unfolding standing_in
standing_again s is =
    let ps = places_of s in
    (bind _ _ _ _ (option_next moment_at moment_tree (codes "notAfter") s.not_after (drop 5 ps) refl (moments_again s.not_after is.not_after))
    (bind _ _ _ _ (option_next moment_at moment_tree (codes "notBefore") s.not_before (drop 6 ps) refl (moments_again s.not_before is.not_before))
    (bind _ _ _ _ (option_next moment_at moment_tree (codes "renewalTime") s.renewal (drop 7 ps) refl (moments_again s.renewal is.renewal))
    (bind _ _ _ _ (option_next count_at natural (codes "revision") s.revision [] refl (each_option _ _ s.revision count_is_read is.revision)) refl))))

status_again : (s : CertStatus) → IsCertStatus s → cert_status_in (fields_of (slots (places_of s))) ≡ Ok s
unfolding cert_status_in
status_again s is =
    (bind _ _ _ _ (issuance_again s is)
    (bind _ _ _ _ (standing_again s is) refl))

-- a status without members is the empty one
empty_status : (s : CertStatus) → AreEmpty (places_of s) → no_cert_status ≡ s
empty_status s (conditions, (attempts, (last_failure, (next_key, (not_after, (not_before, (renewal, (revision, none)))))))) =
    let conditions_is = sym (no_list conditions_tree s.conditions conditions) in
    let attempts_is = sym (no_option natural s.attempts attempts) in
    let last_failure_is = sym (no_option moment_tree s.last_failure last_failure) in
    let next_key_is = sym (no_option string s.next_key next_key) in
    let not_after_is = sym (no_option moment_tree s.not_after not_after) in
    let not_before_is = sym (no_option moment_tree s.not_before not_before) in
    let renewal_is = sym (no_option moment_tree s.renewal renewal) in
    let revision_is = sym (no_option natural s.revision revision) in
    λ i. record {
      conditions = conditions_is i;
      last_failure = last_failure_is i;
      attempts = attempts_is i;
      not_before = not_before_is i;
      not_after = not_after_is i;
      renewal = renewal_is i;
      revision = revision_is i;
      next_key = next_key_is i;
    }

given_status : (ms : Members) (s : CertStatus) → ms ≡ slots (places_of s) → IsCertStatus s → given_or no_cert_status cert_status_at (codes "status") (some_object ms) ≡ Ok s
unfolding cert_status_at
given_status no_members s e is = ap (λ (t : CertStatus). as_ok t) (empty_status s (all_empty (places_of s) e))
  where
    as_ok : CertStatus → Read CertStatus
    as_ok t = Ok t
given_status (member n d rest) s e is = below (codes "status") (cert_status_in (fields_of (member n d rest))) s (ap (λ (ms : Members). cert_status_in (fields_of ms)) e ∙ status_again s is)

pub cert_status_again : (s : CertStatus) → IsCertStatus s → given_or no_cert_status cert_status_at (codes "status") (some_object (status_members s)) ≡ Ok s
cert_status_again s is = given_status (status_members s) s (status_printed s) is

status_clear : (s : CertStatus) → AreClear (places_of s)
status_clear s = (
  clear_list conditions_tree s.conditions conditions_clear,
  (
    clear_option natural s.attempts (λ n. refl),
    (
      clear_option moment_tree s.last_failure (λ at. refl),
      (
        clear_option string s.next_key (λ t. refl),
        (clear_option moment_tree s.not_after (λ at. refl), (clear_option moment_tree s.not_before (λ at. refl), (clear_option moment_tree s.renewal (λ at. refl), (clear_option natural s.revision (λ n. refl), tt)))),
      ),
    ),
  ),
)

pub cert_status_clear : (s : CertStatus) → floats_in (status_members s) ≡ Ok tt
cert_status_clear s = ap (λ (ms : Members). floats_in ms) (status_printed s) ∙ clear_slots (places_of s) (status_clear s)

-- ---- what is read

record IsIssuance (p : Issuance × List Field) : Type 0 where
  conditions : AreConditions p.0.conditions
  attempts : IfSome p.0.attempts (λ n. n < 2 ^ 32)
  last_failure : HasMoments p.0.last_failure
  next_key : IfSome p.0.next_key (λ name. is_subdomain name ≡ true)

small_so : (d : Data) → Always (λ n. n < 2 ^ 32) (small_count_at d)
small_so d = next _ (count_at d) _ (λ n. where_true _ (nat_lt n (2 ^ 32)) (Ok n) [] (λ e. so (ltb-true n (2 ^ 32) e)))

name_so : (d : Data) → Always (λ name. is_subdomain name ≡ true) (name_at d)
name_so d = next _ (text_at d) name_in (λ t. where_true _ (is_subdomain t) (Ok t) [] (λ e. so e))

issuance_so : (fs : List Field) → Always IsIssuance (issuance_in fs)
unfolding issuance_in
issuance_so fs =
    after _ IsIssuance (next_member_or [] conditions_at (codes "conditions") fs) _ (member_or_so AreConditions [] conditions_at (codes "conditions") fs are_none conditions_so)
    (λ conditions are. after _ IsIssuance (member_at small_count_at (codes "failedIssuanceAttempts") conditions.1) _ (member_so (λ n. n < 2 ^ 32) small_count_at (codes "failedIssuanceAttempts") conditions.1 small_so)
    (λ attempts fits. after _ IsIssuance (member_at moment_at (codes "lastFailureTime") attempts.1) _ (member_so IsPrintable moment_at (codes "lastFailureTime") attempts.1 moment_so)
    (λ failure dated. after _ IsIssuance (member_at name_at (codes "nextPrivateKeySecretName") failure.1) _ (member_so (λ name. is_subdomain name ≡ true) name_at (codes "nextPrivateKeySecretName") failure.1 name_so)
    (λ next_key named. so (record { conditions = are; attempts = fits; last_failure = dated; next_key = named })))))

record IsStanding (p : Standing × List Field) : Type 0 where
  not_after : HasMoments p.0.not_after
  not_before : HasMoments p.0.not_before
  renewal : HasMoments p.0.renewal

standing_so : (fs : List Field) → Always IsStanding (standing_in fs)
unfolding standing_in
standing_so fs =
    after _ IsStanding (member_at moment_at (codes "notAfter") fs) _ (member_so IsPrintable moment_at (codes "notAfter") fs moment_so)
    (λ not_after after_is. after _ IsStanding (member_at moment_at (codes "notBefore") not_after.1) _ (member_so IsPrintable moment_at (codes "notBefore") not_after.1 moment_so)
    (λ not_before before_is. after _ IsStanding (member_at moment_at (codes "renewalTime") not_before.1) _ (member_so IsPrintable moment_at (codes "renewalTime") not_before.1 moment_so)
    (λ renewal renewal_is. next IsStanding (member_at count_at (codes "revision") renewal.1) _
    (λ revision. so (record { not_after = after_is; not_before = before_is; renewal = renewal_is })))))

-- it is a status where its revision has 64 bits
abbrev pub IsReadStatus : CertStatus → Type 0
IsReadStatus s = IfSome s.revision (λ n. n < 2 ^ 64) → IsCertStatus s

status_in_so : (fs : List Field) → Always IsReadStatus (cert_status_in fs)
unfolding cert_status_in
status_in_so fs =
    after _ IsReadStatus (issuance_in fs) _ (issuance_so fs)
    (λ issuance i. after _ IsReadStatus (standing_in issuance.1) _ (standing_so issuance.1)
    (λ standing t. next IsReadStatus (at_end standing.1) _
    (λ end. so (λ fits. record {
      conditions = i.conditions;
      attempts = i.attempts;
      last_failure = i.last_failure;
      next_key = i.next_key;
      not_after = t.not_after;
      not_before = t.not_before;
      renewal = t.renewal;
      revision = fits;
    }))))

pub cert_status_so : (d : Data) → Always IsReadStatus (cert_status_at d)
unfolding cert_status_at
cert_status_so d = next IsReadStatus (some_fields_at d) cert_status_in status_in_so

pub no_status : IsReadStatus no_cert_status
no_status fits = record { conditions = are_none; attempts = tt; last_failure = tt; next_key = tt; not_after = tt; not_before = tt; renewal = tt; revision = tt }

-- ---- the status of a CertificateRequest

abbrev request_places : Option Data → Option Data → Option Data → Option Data → Places
request_places ca certificate conditions failure = (codes "ca", ca) ∷ (codes "certificate", certificate) ∷ (codes "conditions", conditions) ∷ (codes "failureTime", failure) ∷ []

abbrev places_of_request : RequestStatus → Places
places_of_request s = request_places (some_list base64_text s.ca) (some_list base64_text s.certificate) (some_list conditions_tree s.conditions) (some_option moment_tree s.failure)

request_printed : (s : RequestStatus) → request_status_members s ≡ slots (places_of_request s)
unfolding request_status_members
request_printed s =
    let conditions = put_list_is conditions_tree (codes "conditions") s.conditions (start {ss = request_places None None None None} refl) refl in
    let certificate = put_list_is base64_text (codes "certificate") s.certificate conditions refl in
    let ca = put_list_is base64_text (codes "ca") s.ca certificate refl in
    let failure = put_option_is moment_tree (codes "failureTime") s.failure ca refl in
    failure.same

request_again : (s : RequestStatus) → IsRequestStatus s → request_status_in (fields_of (slots (places_of_request s))) ≡ Ok s
unfolding request_status_in
request_again s is =
    let ps = places_of_request s in
    (bind _ _ _ _ (some_list_next some_bytes_at base64_text (codes "ca") s.ca (drop 1 ps) refl (bytes_given s.ca is.ca))
    (bind _ _ _ _ (some_list_next some_bytes_at base64_text (codes "certificate") s.certificate (drop 2 ps) refl (bytes_given s.certificate is.certificate))
    (bind _ _ _ _ (some_list_next conditions_at conditions_tree (codes "conditions") s.conditions (drop 3 ps) refl (conditions_given s.conditions is.conditions))
    (bind _ _ _ _ (option_next moment_at moment_tree (codes "failureTime") s.failure [] refl (moments_again s.failure is.failure)) refl))))

empty_request_status : (s : RequestStatus) → AreEmpty (places_of_request s) → no_request_status ≡ s
empty_request_status s (ca, (certificate, (conditions, (failure, none)))) =
    let ca_is = sym (no_list base64_text s.ca ca) in
    let certificate_is = sym (no_list base64_text s.certificate certificate) in
    let conditions_is = sym (no_list conditions_tree s.conditions conditions) in
    let failure_is = sym (no_option moment_tree s.failure failure) in
    λ i. record { conditions = conditions_is i; certificate = certificate_is i; ca = ca_is i; failure = failure_is i }

given_request_status : (ms : Members) (s : RequestStatus) → ms ≡ slots (places_of_request s) → IsRequestStatus s → given_or no_request_status request_status_at (codes "status") (some_object ms) ≡ Ok s
unfolding request_status_at
given_request_status no_members s e is = ap (λ (t : RequestStatus). as_ok t) (empty_request_status s (all_empty (places_of_request s) e))
  where
    as_ok : RequestStatus → Read RequestStatus
    as_ok t = Ok t
given_request_status (member n d rest) s e is = below (codes "status") (request_status_in (fields_of (member n d rest))) s (ap (λ (ms : Members). request_status_in (fields_of ms)) e ∙ request_again s is)

pub request_status_again : (s : RequestStatus) → IsRequestStatus s → given_or no_request_status request_status_at (codes "status") (some_object (request_status_members s)) ≡ Ok s
request_status_again s is = given_request_status (request_status_members s) s (request_printed s) is

pub request_status_clear : (s : RequestStatus) → floats_in (request_status_members s) ≡ Ok tt
request_status_clear s =
    ap (λ (ms : Members). floats_in ms) (request_printed s)
    ∙ clear_slots (places_of_request s) (
      clear_list base64_text s.ca (λ b. refl),
      (clear_list base64_text s.certificate (λ b. refl), (clear_list conditions_tree s.conditions conditions_clear, (clear_option moment_tree s.failure (λ at. refl), tt))),
    )

-- it is a status where its octets are bytes
abbrev pub IsReadRequest : RequestStatus → Type 0
IsReadRequest s = IsBytes s.ca × IsBytes s.certificate → IsRequestStatus s

request_in_so : (fs : List Field) → Always IsReadRequest (request_status_in fs)
unfolding request_status_in
request_in_so fs =
    next IsReadRequest (next_member_or [] some_bytes_at (codes "ca") fs) _ (λ ca. next IsReadRequest (next_member_or [] some_bytes_at (codes "certificate") ca.1) _
    (λ certificate. after _ IsReadRequest (next_member_or [] conditions_at (codes "conditions") certificate.1) _ (member_or_so AreConditions [] conditions_at (codes "conditions") certificate.1 are_none conditions_so)
    (λ conditions are. after _ IsReadRequest (member_at moment_at (codes "failureTime") conditions.1) _ (member_so IsPrintable moment_at (codes "failureTime") conditions.1 moment_so)
    (λ failure dated. next IsReadRequest (at_end failure.1) _ (λ end. so (λ bytes. record { ca = bytes.0; certificate = bytes.1; conditions = are; failure = dated }))))))

pub request_status_so : (d : Data) → Always IsReadRequest (request_status_at d)
unfolding request_status_at
request_status_so d = next IsReadRequest (some_fields_at d) request_status_in request_in_so

pub no_request : IsReadRequest no_request_status
no_request bytes = record { ca = bytes.0; certificate = bytes.1; conditions = are_none; failure = tt }
