-- A certification request that is built of the names of a specification is read with these names.
use Rattle.std.proofs.Common.{◌≡◌, ◌≢◌, ◌==◌, ◌&&◌, ◌||◌, ◌⊎◌, ℕ, zero, suc, ◌+◌, ◌-◌, ◌*◌, ◌%◌, List, [], ◌∷◌, ◌++◌, length, Option, Some, None, Bool, true, false, refl, sym, ap, subst, ◌∙◌, inl, inr, arith, append-nil, length-append, flat_map}
use Rattle.std.proofs.lemmas.Bool.{and_parts}
use Rattle.std.proofs.lemmas.Slice.Eq.{bytes_eq-Decides}
use Rattle.std.specs.Prelude.{if◌then◌else◌, filter, replicate}
use Rattle.std.specs.List.{cons_option}
use Rattle.std.specs.Str.{bytes_eq}
use Rattle.std.specs.Net.Addr.{octets_of}
use Rattle.std.specs.Net.Grammar.{IsColonHex, IsElided}
use Rattle.cmc_der.specs.Builders.{value}
use Rattle.cmc_der.proofs.SmallValues.{IsSmall, front_small, back_small, value_last}
use Rattle.cmc_x509.specs.Options.{Value}
use Rattle.cmc_x509.specs.Lists.{IsValues}
use Rattle.cmc_x509_build.specs.Addresses.{IsAddress, address_at}
use Rattle.cmc_x509_build.specs.Octets.{address_octets, address_value}
use Rattle.cmc_x509_build.specs.Requests.{alternative_of, common_if_any, names_of}
use Rattle.cmc_x509_build.specs.declared.requests.NameSet.{NameSet}
use Rattle.cmc_x509_build.proofs.AddressLaws.{address_found}
use Rattle.cmc_x509_build.proofs.ValueLaws.{values_joined}
use Rattle.cmc_objects.specs.declared.certificate.CertSpec.{CertSpec}
use Rattle.cmc_match.specs.Sets.{is_among, is_within, is_same_set}
use Rattle.cmc_match.specs.SubjectNames.{common_text, names_tagged, is_address, addresses, values_of, addresses_written, has_names}
use Rattle.cmc_match.proofs.NameLaws.{values_are}
use Rattle.cmc_rules.specs.RequestManager.{name_set}

-- ---- a list has the same texts as itself

pub itself : (text : List ℕ) → bytes_eq text text ≡ true
itself text = (bytes_eq-Decides text text).1 refl

pub and_two : (a b : Bool) → a ≡ true → b ≡ true → (a && b) ≡ true
and_two a b x y = rw (x, y) refl

or_second : (x y : Bool) → y ≡ true → (x || y) ≡ true
or_second true y is = refl
or_second false y is = is

within_more : (y : List ℕ) (ys xs : List (List ℕ)) → is_within xs ys ≡ true → is_within xs (y ∷ ys) ≡ true
within_more y ys [] is = refl
within_more y ys (x ∷ xs) is =
    let both = and_parts (is_among ys x) _ is in
    and_two (is_among (y ∷ ys) x) (is_within xs (y ∷ ys)) (or_second (bytes_eq y x) (is_among ys x) both.0) (within_more y ys xs both.1)

pub within_itself : (xs : List (List ℕ)) → is_within xs xs ≡ true
within_itself [] = refl
within_itself (x ∷ xs) = and_two (is_among (x ∷ xs) x) (is_within xs (x ∷ xs)) (ap (λ (b : Bool). b || is_among xs x) (itself x)) (within_more x xs xs (within_itself xs))

pub same_itself : (xs : List (List ℕ)) → is_same_set xs xs ≡ true
same_itself xs = and_two (is_within xs xs) (is_within xs xs) (within_itself xs) (within_itself xs)

same_as : (xs ys : List (List ℕ)) → ys ≡ xs → is_same_set xs ys ≡ true
same_as xs ys is = subst (λ (l : List (List ℕ)). is_same_set xs l ≡ true) (sym is) (same_itself xs)

-- ---- the values that are written

abbrev tagged : ℕ → List (List ℕ) → List Value
tagged tag [] = []
tagged tag (text ∷ texts) = (tag, text) ∷ tagged tag texts

abbrev address_list : Option (List ℕ) → List Value
address_list None = []
address_list (Some octets) = (135, octets) ∷ []

abbrev of_addresses : List (List ℕ) → List Value
of_addresses [] = []
of_addresses (text ∷ texts) = address_list (address_at text) ++ of_addresses texts

values_tagged : (tag : ℕ) (texts : List (List ℕ)) → tag % 32 ≢ 31 → IsSmall (flat_map (value tag) texts) → IsValues (flat_map (value tag) texts) (tagged tag texts)
values_tagged tag [] low small = refl
values_tagged tag (text ∷ texts) low small =
    values_joined (value tag text) (flat_map (value tag) texts) ((tag, text) ∷ []) (tagged tag texts)
    ([], value_last tag text low (front_small (value tag text) (flat_map (value tag) texts) small), refl)
    (values_tagged tag texts low (back_small (value tag text) (flat_map (value tag) texts) small))

value_address : (octets : Option (List ℕ)) → IsSmall (address_value octets) → IsValues (address_value octets) (address_list octets)
value_address None small = refl
value_address (Some octets) small = ([], value_last 135 octets (λ e. omega arith) small, refl)

values_addresses : (texts : List (List ℕ)) → IsSmall (flat_map address_octets texts) → IsValues (flat_map address_octets texts) (of_addresses texts)
values_addresses [] small = refl
values_addresses (text ∷ texts) small =
    values_joined (address_octets text) (flat_map address_octets texts) (address_list (address_at text)) (of_addresses texts)
    (value_address (address_at text) (front_small (address_octets text) (flat_map address_octets texts) small))
    (values_addresses texts (back_small (address_octets text) (flat_map address_octets texts) small))

abbrev all_values : NameSet → List Value
all_values names = tagged 130 names.dns ++ (of_addresses names.ips ++ (tagged 134 names.uris ++ tagged 129 names.emails))

values_all : (names : NameSet) → IsSmall (alternative_of names) → IsValues (alternative_of names) (all_values names)
unfolding alternative_of
values_all names small =
    let dns = flat_map (value 130) names.dns in
    let ips = flat_map address_octets names.ips in
    let uris = flat_map (value 134) names.uris in
    let emails = flat_map (value 129) names.emails in
    let after_dns = back_small dns (ips ++ (uris ++ emails)) small in
    let after_ips = back_small ips (uris ++ emails) after_dns in
    values_joined dns (ips ++ (uris ++ emails)) (tagged 130 names.dns) _ (values_tagged 130 names.dns (λ e. omega arith) (front_small dns (ips ++ (uris ++ emails)) small))
    (values_joined ips (uris ++ emails) (of_addresses names.ips) _ (values_addresses names.ips (front_small ips (uris ++ emails) after_dns))
    (values_joined uris emails (tagged 134 names.uris) (tagged 129 names.emails) (values_tagged 134 names.uris (λ e. omega arith) (front_small uris emails after_ips))
    (values_tagged 129 names.emails (λ e. omega arith) (back_small uris emails after_ips))))

-- ---- the names of each kind among them

named_more : (tag : ℕ) (vs ws : List Value) → names_tagged tag (vs ++ ws) ≡ names_tagged tag vs ++ names_tagged tag ws
named_more tag [] ws = refl
named_more tag (v ∷ vs) ws = by (v.0 == tag) (named_more tag vs ws) where
  by : (b : Bool) → names_tagged tag (vs ++ ws) ≡ names_tagged tag vs ++ names_tagged tag ws → (if b then v.1 ∷ names_tagged tag (vs ++ ws) else names_tagged tag (vs ++ ws)) ≡ (if b then v.1 ∷ names_tagged tag vs else names_tagged tag vs) ++ names_tagged tag ws
  by true rest = ap (λ (l : List (List ℕ)). v.1 ∷ l) rest
  by false rest = rest

named_four : (tag : ℕ) (a b c d : List Value) → names_tagged tag (a ++ (b ++ (c ++ d))) ≡ names_tagged tag a ++ (names_tagged tag b ++ (names_tagged tag c ++ names_tagged tag d))
named_four tag a b c d =
    named_more tag a (b ++ (c ++ d)) ∙ ap (λ (l : List (List ℕ)). names_tagged tag a ++ l) (named_more tag b (c ++ d) ∙ ap (λ (l : List (List ℕ)). names_tagged tag b ++ l) (named_more tag c d))

named_own : (tag other : ℕ) (texts : List (List ℕ)) → (other == tag) ≡ true → names_tagged tag (tagged other texts) ≡ texts
named_own tag other [] e = refl
named_own tag other (text ∷ texts) e =
    ap (λ (b : Bool). if b then text ∷ names_tagged tag (tagged other texts) else names_tagged tag (tagged other texts)) e ∙ ap (λ (l : List (List ℕ)). text ∷ l) (named_own tag other texts e)

named_none : (tag other : ℕ) (texts : List (List ℕ)) → (other == tag) ≡ false → names_tagged tag (tagged other texts) ≡ []
named_none tag other [] e = refl
named_none tag other (text ∷ texts) e =
    ap (λ (b : Bool). if b then text ∷ names_tagged tag (tagged other texts) else names_tagged tag (tagged other texts)) e ∙ named_none tag other texts e

address_named : (tag : ℕ) (octets : Option (List ℕ)) (ws : List Value) → (135 == tag) ≡ false → names_tagged tag (address_list octets ++ ws) ≡ names_tagged tag ws
address_named tag None ws e = refl
address_named tag (Some octets) ws e = ap (λ (b : Bool). if b then octets ∷ names_tagged tag ws else names_tagged tag ws) e

no_address_named : (tag : ℕ) (texts : List (List ℕ)) → (135 == tag) ≡ false → names_tagged tag (of_addresses texts) ≡ []
no_address_named tag [] e = refl
no_address_named tag (text ∷ texts) e = address_named tag (address_at text) (of_addresses texts) e ∙ no_address_named tag texts e

addresses_named : (texts : List (List ℕ)) → names_tagged 135 (of_addresses texts) ≡ addresses_written texts
addresses_named [] = refl
addresses_named (text ∷ texts) = by (address_at text) (addresses_named texts) where
  by : (octets : Option (List ℕ)) → names_tagged 135 (of_addresses texts) ≡ addresses_written texts → names_tagged 135 (address_list octets ++ of_addresses texts) ≡ cons_option octets (addresses_written texts)
  by None rest = rest
  by (Some octets) rest = ap (λ (l : List (List ℕ)). octets ∷ l) rest

-- ---- an address has four or sixteen octets

octets_length : (segments : List ℕ) → length (octets_of segments) ≡ 2 * length segments
octets_length [] = refl
octets_length (s ∷ segments) = omega (arith, octets_length segments)

abbrev zeros : ℕ → List ℕ
zeros n = replicate n 0

zeros_length : (n : ℕ) → length (zeros n) ≡ n
zeros_length zero = refl
zeros_length (suc n) = ap suc (zeros_length n)

elided_length : (text segments : List ℕ) → IsElided text segments → length segments ≡ 8
elided_length text segments is =
    let middle : List ℕ = zeros (8 - length is.head - length is.tail) in
    let parts : length segments ≡ length is.head + length middle + length is.tail =
    ap (λ (l : List ℕ). length l) is.value ∙ length-append (is.head ++ middle) is.tail ∙ ap (λ (n : ℕ). n + length is.tail) (length-append is.head middle) in
    omega (arith, parts, zeros_length (8 - length is.head - length is.tail), is.room)

segments_eight : (text segments : List ℕ) → IsColonHex text segments → length segments ≡ 8
segments_eight text segments (inl is) = is.1
segments_eight text segments (inr is) = elided_length text segments is

either_length : (octets : List ℕ) → (length octets ≡ 4) ⊎ (length octets ≡ 16) → is_address octets ≡ true
either_length octets (inl is) = ap (λ (n : ℕ). (n == 4) || (n == 16)) is
either_length octets (inr is) = ap (λ (n : ℕ). (n == 4) || (n == 16)) is

address_length : (text octets : List ℕ) → IsAddress text octets → is_address octets ≡ true
address_length text octets (inl is) = either_length octets (inl (ap (λ (l : List ℕ). length l) is.value))
address_length text octets (inr is) = either_length octets (inr (omega (arith, ap (λ (l : List ℕ). length l) is.3, octets_length is.0, segments_eight text is.0 is.1)))

kept : (x : List ℕ) (xs : List (List ℕ)) → is_address x ≡ true → filter is_address xs ≡ xs → filter is_address (x ∷ xs) ≡ x ∷ xs
kept x xs on rest = ap (λ (b : Bool). if b then x ∷ filter is_address xs else filter is_address xs) on ∙ ap (λ (l : List (List ℕ)). x ∷ l) rest

all_kept : (texts : List (List ℕ)) → filter is_address (addresses_written texts) ≡ addresses_written texts
all_kept [] = refl
all_kept (text ∷ texts) = by (address_at text) refl (all_kept texts) where
  by : (octets : Option (List ℕ)) → address_at text ≡ octets → filter is_address (addresses_written texts) ≡ addresses_written texts → filter is_address (cons_option octets (addresses_written texts)) ≡ cons_option octets (addresses_written texts)
  by None e rest = rest
  by (Some octets) e rest = kept octets (addresses_written texts) (address_length text octets (address_found text octets e)) rest

-- ---- the names

common_again : (common : List ℕ) → bytes_eq (common_text (common_if_any common)) common ≡ true
common_again [] = itself []
common_again (b ∷ bs) = itself (b ∷ bs)

dns_again : (names : NameSet) → names_tagged 130 (all_values names) ≡ names.dns
dns_again names =
    let own : names_tagged 130 (tagged 130 names.dns) ≡ names.dns = named_own 130 130 names.dns refl in
    let ips : names_tagged 130 (of_addresses names.ips) ≡ [] = no_address_named 130 names.ips refl in
    let uris : names_tagged 130 (tagged 134 names.uris) ≡ [] = named_none 130 134 names.uris refl in
    let emails : names_tagged 130 (tagged 129 names.emails) ≡ [] = named_none 130 129 names.emails refl in
    named_four 130 (tagged 130 names.dns) (of_addresses names.ips) (tagged 134 names.uris) (tagged 129 names.emails) ∙ (λ i. own i ++ (ips i ++ (uris i ++ emails i))) ∙ append-nil names.dns

addresses_again : (names : NameSet) → names_tagged 135 (all_values names) ≡ addresses_written names.ips
addresses_again names =
    let dns : names_tagged 135 (tagged 130 names.dns) ≡ [] = named_none 135 130 names.dns refl in
    let own : names_tagged 135 (of_addresses names.ips) ≡ addresses_written names.ips = addresses_named names.ips in
    let uris : names_tagged 135 (tagged 134 names.uris) ≡ [] = named_none 135 134 names.uris refl in
    let emails : names_tagged 135 (tagged 129 names.emails) ≡ [] = named_none 135 129 names.emails refl in
    named_four 135 (tagged 130 names.dns) (of_addresses names.ips) (tagged 134 names.uris) (tagged 129 names.emails) ∙ (λ i. dns i ++ (own i ++ (uris i ++ emails i))) ∙ append-nil (addresses_written names.ips)

uris_again : (names : NameSet) → names_tagged 134 (all_values names) ≡ names.uris
uris_again names =
    let dns : names_tagged 134 (tagged 130 names.dns) ≡ [] = named_none 134 130 names.dns refl in
    let ips : names_tagged 134 (of_addresses names.ips) ≡ [] = no_address_named 134 names.ips refl in
    let own : names_tagged 134 (tagged 134 names.uris) ≡ names.uris = named_own 134 134 names.uris refl in
    let emails : names_tagged 134 (tagged 129 names.emails) ≡ [] = named_none 134 129 names.emails refl in
    named_four 134 (tagged 130 names.dns) (of_addresses names.ips) (tagged 134 names.uris) (tagged 129 names.emails) ∙ (λ i. dns i ++ (ips i ++ (own i ++ emails i))) ∙ append-nil names.uris

emails_again : (names : NameSet) → names_tagged 129 (all_values names) ≡ names.emails
emails_again names =
    let dns : names_tagged 129 (tagged 130 names.dns) ≡ [] = named_none 129 130 names.dns refl in
    let ips : names_tagged 129 (of_addresses names.ips) ≡ [] = no_address_named 129 names.ips refl in
    let uris : names_tagged 129 (tagged 134 names.uris) ≡ [] = named_none 129 134 names.uris refl in
    let own : names_tagged 129 (tagged 129 names.emails) ≡ names.emails = named_own 129 129 names.emails refl in
    named_four 129 (tagged 130 names.dns) (of_addresses names.ips) (tagged 134 names.uris) (tagged 129 names.emails) ∙ (λ i. dns i ++ (ips i ++ (uris i ++ own i)))

pub names_again : (spec : CertSpec) → IsSmall (alternative_of (name_set spec)) → has_names spec (names_of (name_set spec)) ≡ true
unfolding has_names
names_again spec small =
    let names : NameSet = name_set spec in
    let values : values_of (alternative_of names) ≡ all_values names = values_are (alternative_of names) (all_values names) (values_all names small) in
    let read : (tag : ℕ) (texts : List (List ℕ)) → names_tagged tag (all_values names) ≡ texts → is_same_set texts (names_tagged tag (values_of (alternative_of names))) ≡ true = λ tag texts is. same_as texts _ (ap (names_tagged tag) values ∙ is) in
    let ips : is_same_set (addresses_written spec.ip_addresses) (addresses (values_of (alternative_of names))) ≡ true =
    same_as (addresses_written spec.ip_addresses) _ (ap addresses values ∙ ap (filter is_address) (addresses_again names) ∙ all_kept spec.ip_addresses) in
    and_two _ _ (common_again spec.common_name) (and_two _ _ (read 130 spec.dns_names (dns_again names)) (and_two _ _ ips (and_two _ _ (read 134 spec.uris (uris_again names)) (read 129 spec.emails (emails_again names)))))
