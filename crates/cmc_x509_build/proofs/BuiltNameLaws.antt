-- The names that are built are read again.
use Rattle.std.proofs.Common.{inr, ℕ, List, [], ◌∷◌, ◌++◌, Option, Some, None, refl, arith, flat_map}
use Rattle.cmc_der.specs.Builders.{value}
use Rattle.cmc_x509.specs.Lists.{IsValueList, IsListOf}
use Rattle.cmc_x509.specs.Names.{IsAttribute, IsRdn, BeginsWithName, IsExtension, IsExtensions, IsRequestAttribute}
use Rattle.cmc_x509_build.specs.declared.oids.TheConstants.{COMMON_NAME, SUBJECT_ALT_NAME, EXTENSION_REQUEST}
use Rattle.cmc_x509_build.specs.declared.requests.NameSet.{NameSet}
use Rattle.cmc_x509_build.specs.Octets.{name_octets, address_value, address_octets, alternative_extension}
use Rattle.cmc_x509_build.specs.Requests.{alternative_of, attributes_of}
use Rattle.cmc_x509_build.specs.Addresses.{address_at}
use Rattle.cmc_der.proofs.SmallValues.{IsSmall, contents_small, front_small, back_small, value_is, value_first}
use Rattle.cmc_x509_build.proofs.ValueLaws.{is_otherwise, list_of_one, lists_joined, no_values, one_value, flat_values}

abbrev attribute_parts : List ℕ → List ℕ
attribute_parts text = value 6 COMMON_NAME ++ value 12 text

attribute_is : (text : List ℕ) → IsSmall (attribute_parts text) → IsAttribute (48, attribute_parts text) (Some text)
attribute_is text small = record {
  oid = COMMON_NAME;
  rest = value 12 text;
  text = (12, text);
  sequence = refl;
  type_is = value_first 6 COMMON_NAME (value 12 text) (λ e. omega arith) small;
  value_is = value_is 12 text (λ e. omega arith) (back_small (value 6 COMMON_NAME) (value 12 text) small);
  gives = refl;
}

abbrev one_name : List ℕ → List ℕ
one_name text = value 49 (value 48 (attribute_parts text))

one_name_list : (text : List ℕ) → IsSmall (one_name text) → IsListOf IsRdn (one_name text) (Some text)
one_name_list text small =
    let attribute = value 48 (attribute_parts text) in
    let attribute_small = contents_small 49 attribute small in
    let is = attribute_is text (contents_small 48 (attribute_parts text) attribute_small) in
    list_of_one IsRdn 49 attribute (Some text) (λ e. omega arith) small
    (refl, list_of_one IsAttribute 48 (attribute_parts text) (Some text) (λ e. omega arith) attribute_small is)

one_name_first : (text rest : List ℕ) → IsSmall (value 48 (one_name text) ++ rest) → BeginsWithName (value 48 (one_name text) ++ rest) (Some text) rest
one_name_first text rest small =
    let inside = contents_small 48 (one_name text) (front_small (value 48 (one_name text)) rest small) in
    (one_name text, value_first 48 (one_name text) rest (λ e. omega arith) small, one_name_list text inside)

no_name_first : (rest : List ℕ) → IsSmall (value 48 [] ++ rest) → BeginsWithName (value 48 [] ++ rest) None rest
no_name_first rest small = ([], value_first 48 [] rest (λ e. omega arith) small, ([], refl, refl))

pub name_first : (common : Option (List ℕ)) (rest : List ℕ) → IsSmall (name_octets common ++ rest) → BeginsWithName (name_octets common ++ rest) common rest
unfolding name_octets
name_first None rest small = no_name_first rest small
name_first (Some text) rest small = one_name_first text rest small

address_values : (octets : Option (List ℕ)) → IsSmall (address_value octets) → IsValueList (address_value octets)
address_values None small = no_values
address_values (Some octets) small = one_value 135 octets (λ e. omega arith) small

-- the alternative names are GeneralNames, one behind the other
pub alternative_values : (names : NameSet) → IsSmall (alternative_of names) → IsValueList (alternative_of names)
unfolding alternative_of
alternative_values names small =
    let dns = flat_map (value 130) names.dns in
    let ips = flat_map address_octets names.ips in
    let uris = flat_map (value 134) names.uris in
    let emails = flat_map (value 129) names.emails in
    let after_dns = back_small dns (ips ++ (uris ++ emails)) small in
    let after_ips = back_small ips (uris ++ emails) after_dns in
    lists_joined dns (ips ++ (uris ++ emails)) (flat_values (value 130) (λ x s. one_value 130 x (λ e. omega arith) s) names.dns (front_small dns (ips ++ (uris ++ emails)) small))
    (lists_joined ips (uris ++ emails) (flat_values address_octets (λ x s. address_values (address_at x) s) names.ips (front_small ips (uris ++ emails) after_dns))
    (lists_joined uris emails (flat_values (value 134) (λ x s. one_value 134 x (λ e. omega arith) s) names.uris (front_small uris emails after_ips))
    (flat_values (value 129) (λ x s. one_value 129 x (λ e. omega arith) s) names.emails (back_small uris emails after_ips))))

abbrev extension_parts : List ℕ → List ℕ
extension_parts names = value 6 SUBJECT_ALT_NAME ++ value 4 (value 48 names)

extension_is : (names : List ℕ) → IsValueList names → IsSmall (extension_parts names) → IsExtension (48, extension_parts names) (Some names)
extension_is names are small =
    let contents = value 4 (value 48 names) in
    let contents_is_small = back_small (value 6 SUBJECT_ALT_NAME) contents small in
    record {
      oid = SUBJECT_ALT_NAME;
      critical = None;
      contents = value 48 names;
      r0 = contents;
      r1 = contents;
      sequence = refl;
      id_is = value_first 6 SUBJECT_ALT_NAME contents (λ e. omega arith) small;
      critical_stands = (refl, is_otherwise 1 4 (value 48 names) (λ e. omega arith));
      critical_is = tt;
      value_is = value_is 4 (value 48 names) (λ e. omega arith) contents_is_small;
      gives = (refl, value_is 48 names (λ e. omega arith) (contents_small 4 (value 48 names) contents_is_small), are);
    }

-- the extension is a list of one, which gives the names
pub extension_list : (names : List ℕ) → IsValueList names → IsSmall (alternative_extension names) → IsListOf IsExtension (alternative_extension names) (Some names)
extension_list names are small =
    list_of_one IsExtension 48 (extension_parts names) (Some names) (λ e. omega arith) small (extension_is names are (contents_small 48 (extension_parts names) small))

-- the names that the attributes give: none, where there are none
abbrev pub names_found : List ℕ → Option (List ℕ)
names_found [] = None
names_found (b ∷ bs) = Some (b ∷ bs)

abbrev request_attribute : List ℕ → List ℕ
request_attribute names = value 6 EXTENSION_REQUEST ++ value 49 (value 48 (alternative_extension names))

request_attribute_is : (names : List ℕ) → IsValueList names → IsSmall (request_attribute names) → IsRequestAttribute (48, request_attribute names) (Some names)
request_attribute_is names are small =
    let extension = alternative_extension names in
    let extensions = value 48 extension in
    let set = value 49 extensions in
    let set_small = back_small (value 6 EXTENSION_REQUEST) set small in
    let extensions_small = contents_small 49 extensions set_small in
    let extension_small = contents_small 48 extension extensions_small in
    record {
      oid = EXTENSION_REQUEST;
      rest = set;
      set = extensions;
      sequence = refl;
      type_is = value_first 6 EXTENSION_REQUEST set (λ e. omega arith) small;
      set_is = value_is 49 extensions (λ e. omega arith) set_small;
      gives = inr (refl, list_of_one IsExtensions 48 extension (Some names) (λ e. omega arith) extensions_small (refl, extension_list names are extension_small));
    }

one_attribute : (names : List ℕ) → IsValueList names → IsSmall (value 48 (request_attribute names)) → IsListOf IsRequestAttribute (value 48 (request_attribute names)) (Some names)
one_attribute names are small =
    list_of_one IsRequestAttribute 48 (request_attribute names) (Some names) (λ e. omega arith) small
    (request_attribute_is names are (contents_small 48 (request_attribute names) small))

pub attributes_list : (names : List ℕ) → IsValueList names → IsSmall (attributes_of names) → IsListOf IsRequestAttribute (attributes_of names) (names_found names)
attributes_list [] are small = ([], refl, refl)
attributes_list (b ∷ bs) are small = one_attribute (b ∷ bs) are small

-- the names stand within their extension
pub extension_names_small : (names : List ℕ) → IsSmall (alternative_extension names) → IsSmall names
extension_names_small names small =
    let contents = value 4 (value 48 names) in
    contents_small 48 names (contents_small 4 (value 48 names) (back_small (value 6 SUBJECT_ALT_NAME) contents (contents_small 48 (extension_parts names) small)))

attribute_names_small : (names : List ℕ) → IsSmall (value 48 (request_attribute names)) → IsSmall names
attribute_names_small names small =
    let extension = alternative_extension names in
    let set_small = back_small (value 6 EXTENSION_REQUEST) (value 49 (value 48 extension)) (contents_small 48 (request_attribute names) small) in
    extension_names_small names (contents_small 48 extension (contents_small 49 (value 48 extension) set_small))

-- and within the attributes
pub names_small : (names : List ℕ) → IsSmall (attributes_of names) → IsSmall names
names_small [] small = small
names_small (b ∷ bs) small = attribute_names_small (b ∷ bs) small
