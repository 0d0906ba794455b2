-- Names: the common name in a Name (RFC 5280, 4.1.2.4), and the alternative names in extensions (4.2.1.6)
-- and in the attributes of requests (RFC 2986, 4.1). Each form says what it gives of what is looked for.
use Rattle.std.specs.Prelude.{◌≡◌, ◌≢◌, ℕ, ◌==◌, ◌||◌, ◌&&◌, ◌⊎◌, Bool, cond, List, [], ◌∷◌, Option, Some, None}
use Rattle.std.specs.Str.{bytes_eq}
use Rattle.cmc_der.specs.Values.{IsDerValue, BeginsWith}
use Rattle.cmc_x509.specs.declared.oids.TheConstants.{COMMON_NAME, SUBJECT_ALT_NAME, EXTENSION_REQUEST}
use Rattle.cmc_x509.specs.Options.{Value, BeginsWithOptional}
use Rattle.cmc_x509.specs.Lists.{IsValueList, IsListOf}

-- UTF8String, PrintableString, TeletexString or IA5String
abbrev pub is_text_tag : ℕ → Bool
is_text_tag tag = (tag == 12) || ((tag == 19) || ((tag == 20) || (tag == 22)))

-- the text, where the attribute is a commonName of one of the four string types
abbrev pub common_of : List ℕ → Value → Option (List ℕ)
common_of oid v = cond (bytes_eq oid COMMON_NAME && is_text_tag v.0) (Some v.1) None

-- AttributeTypeAndValue: a SEQUENCE of an OID and one value, which gives a common name
pub record IsAttribute (v : Value) (common : Option (List ℕ)) : Type 0 where
  pub oid : List ℕ
  pub rest : List ℕ
  pub text : Value
  pub sequence : v.0 ≡ 48
  pub type_is : BeginsWith v.1 6 oid rest
  pub value_is : IsDerValue rest text.0 text.1
  pub gives : common ≡ common_of oid text

-- RelativeDistinguishedName: a SET of these
abbrev pub IsRdn : Value → Option (List ℕ) → Type 0
IsRdn v common = (v.0 ≡ 49) × IsListOf IsAttribute v.1 common

-- the octets begin with a Name: a SEQUENCE of these, whose first common name this is
abbrev pub BeginsWithName : List ℕ → Option (List ℕ) → List ℕ → Type 0
BeginsWithName octets common rest = (body : List ℕ) × BeginsWith octets 48 body rest × IsListOf IsRdn body common

-- a BOOLEAN whose default is FALSE: not there, or TRUE, which is FF (X.690, 11.1 and 11.5)
abbrev pub IsTrueOrAbsent : Option (List ℕ) → Type 0
IsTrueOrAbsent None = Unit {0}
IsTrueOrAbsent (Some body) = body ≡ 255 ∷ []

-- the contents of an extension: for subjectAltName exactly one SEQUENCE of values, the GeneralNames,
-- whose contents octets it gives, and for another one anything
abbrev pub IsExtensionValue : List ℕ → List ℕ → Option (List ℕ) → Type 0
IsExtensionValue oid contents None = oid ≢ SUBJECT_ALT_NAME
IsExtensionValue oid contents (Some names) = (oid ≡ SUBJECT_ALT_NAME) × IsDerValue contents 48 names × IsValueList names

-- Extension: a SEQUENCE of an OID, critical and an OCTET STRING
pub record IsExtension (v : Value) (names : Option (List ℕ)) : Type 0 where
  pub oid : List ℕ
  pub critical : Option (List ℕ)
  pub contents : List ℕ
  pub r0 : List ℕ
  pub r1 : List ℕ
  pub sequence : v.0 ≡ 48
  pub id_is : BeginsWith v.1 6 oid r0
  pub critical_stands : BeginsWithOptional r0 1 critical r1
  pub critical_is : IsTrueOrAbsent critical
  pub value_is : IsDerValue r1 4 contents
  pub gives : IsExtensionValue oid contents names

-- a SEQUENCE of extensions
abbrev pub IsExtensions : Value → Option (List ℕ) → Type 0
IsExtensions v names = (v.0 ≡ 48) × IsListOf IsExtension v.1 names

-- the SET of an attribute: for extensionRequest it holds SEQUENCEs of extensions alone (RFC 2985, 5.4.2), and
-- for another one anything
abbrev pub IsAttributeValue : List ℕ → List ℕ → Option (List ℕ) → Type 0
IsAttributeValue oid set names = ((oid ≢ EXTENSION_REQUEST) × (names ≡ None)) ⊎ ((oid ≡ EXTENSION_REQUEST) × IsListOf IsExtensions set names)

-- Attribute of a request: a SEQUENCE of an OID and a SET
pub record IsRequestAttribute (v : Value) (names : Option (List ℕ)) : Type 0 where
  pub oid : List ℕ
  pub rest : List ℕ
  pub set : List ℕ
  pub sequence : v.0 ≡ 48
  pub type_is : BeginsWith v.1 6 oid rest
  pub set_is : IsDerValue rest 49 set
  pub gives : IsAttributeValue oid set names
