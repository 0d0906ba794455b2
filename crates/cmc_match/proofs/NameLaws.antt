-- The tests on names say what they are to say.
use Rattle.std.proofs.Common.{◌≡◌, ℕ, Bool, true, false, ◌&&◌, ◌||◌, eqb, cond, List, [], ◌∷◌, filter, length, map, Option, Some, None, refl, sym, ap, subst, ◌∙◌, inl, inr, arith}
use Rattle.std.specs.Str.{bytes_eq}
use Rattle.std.specs.List.{list_any, list_all, cons_option}
use Rattle.std.specs.Option.{option_map_or}
use Rattle.std.specs.Prelude.{◌==◌, if◌then◌else◌}
use Rattle.cmc_x509_build.specs.Addresses.{address_at}
use Rattle.std.proofs.lemmas.Bool.{cases_Bool, and_parts}
use Rattle.std.proofs.lemmas.Bool.Decides.{Decides-eqb}
use Rattle.std.proofs.lemmas.Slice.Eq.{bytes_eq-Decides}
use Rattle.cmc_der.specs.Values.{BeginsWith}
use Rattle.cmc_x509.specs.Options.{Value}
use Rattle.cmc_x509.specs.Lists.{IsValues, IsValueList}
use Rattle.cmc_x509.proofs.ListLaws.{values_again}
use Rattle.cmc_match.specs.Sets.{IsSameSet, is_among, is_within, is_same_set}
use Rattle.cmc_match.proofs.SetLaws.{sets}
use Rattle.cmc_objects.specs.declared.certificate.CertSpec.{CertSpec}
use Rattle.cmc_match.specs.SubjectNames.{names_tagged, is_address, addresses, value_list, values_of, is_octets, is_written_by, addresses_written, has_same_names, has_same_addresses, has_alternative}

-- the values that the octets are
pub values_are : (octets : List ℕ) (values : List Value) → IsValues octets values → values_of octets ≡ values
unfolding values_of
values_are octets values h = ap value_list (values_again octets values h)

pub values_next : (octets : List ℕ) (tag : ℕ) (body rest : List ℕ) → BeginsWith octets tag body rest → IsValueList rest → values_of octets ≡ (tag, body) ∷ values_of rest
values_next octets tag body rest h list =
    let others = values_are rest list.0 list.1 in
    values_are octets ((tag, body) ∷ list.0) (rest, h, list.1) ∙ ap (λ (vs : List Value). (tag, body) ∷ vs) (sym others)

pub values_end : (octets : List ℕ) → octets ≡ [] → values_of octets ≡ []
values_end octets e = values_are octets [] e

-- ---- loops over the values

or_cases : (test name : Bool) (here there later : Bool) → cond {A = Bool} test (here || later) later ≡ ((test && here) || later)
or_cases true name here there later = refl
or_cases false name here there later = refl

among_named : (tag kind : ℕ) (body name : List ℕ) (values : List Value) → is_among (names_tagged tag ((kind, body) ∷ values)) name ≡ ((eqb kind tag && bytes_eq body name) || is_among (names_tagged tag values) name)
among_named tag kind body name values =
    elim (cases_Bool (eqb kind tag)) [
      | inl same ↦ rw same refl
      | inr differs ↦ rw differs refl
    ]

within_named : (tag kind : ℕ) (body : List ℕ) (texts : List (List ℕ)) (values : List Value) → is_within (names_tagged tag ((kind, body) ∷ values)) texts ≡ (cond (eqb kind tag) (is_among texts body) true && is_within (names_tagged tag values) texts)
within_named tag kind body texts values =
    elim (cases_Bool (eqb kind tag)) [
      | inl same ↦ rw same refl
      | inr differs ↦ rw differs refl
    ]

-- what a test of the names of a tag is at the values that are left
pub name_here : (octets : List ℕ) (kind : ℕ) (body rest : List ℕ) (tag : ℕ) (name : List ℕ) (whole : Bool) → BeginsWith octets kind body rest → IsValueList rest → (eqb kind tag && bytes_eq body name) ≡ true → is_among (names_tagged tag (values_of octets)) name ≡ whole → true ≡ whole
name_here octets kind body rest tag name whole h list test kept =
    let step : is_among (names_tagged tag (values_of octets)) name ≡ true = rw (values_next octets kind body rest h list) (among_named tag kind body name (values_of rest) ∙ ap (λ (b : Bool). b || is_among (names_tagged tag (values_of rest)) name) test) in
    sym step ∙ kept

pub name_later : (octets : List ℕ) (kind : ℕ) (body rest : List ℕ) (tag : ℕ) (name : List ℕ) (whole : Bool) → BeginsWith octets kind body rest → IsValueList rest → (eqb kind tag && bytes_eq body name) ≡ false → is_among (names_tagged tag (values_of octets)) name ≡ whole → is_among (names_tagged tag (values_of rest)) name ≡ whole
name_later octets kind body rest tag name whole h list test kept =
    let step : is_among (names_tagged tag (values_of octets)) name ≡ is_among (names_tagged tag (values_of rest)) name = rw (values_next octets kind body rest h list) (among_named tag kind body name (values_of rest) ∙ ap (λ (b : Bool). b || is_among (names_tagged tag (values_of rest)) name) test) in
    sym step ∙ kept

-- what the order of names says at the values that are left
pub order_later : (octets : List ℕ) (kind : ℕ) (body rest : List ℕ) (tag : ℕ) (left others : List (List ℕ)) (Whole : Type 0) → BeginsWith octets kind body rest → IsValueList rest
    → left ≡ (if kind == tag then body ∷ others else others) → (names_tagged tag (values_of octets) ≡ left → Whole) → names_tagged tag (values_of rest) ≡ others → Whole
order_later octets kind body rest tag left others Whole h list is kept same =
    kept (ap (names_tagged tag) (values_next octets kind body rest h list) ∙ ap (λ (l : List (List ℕ)). if kind == tag then body ∷ l else l) same ∙ sym is)

no_texts : (texts : List (List ℕ)) → (length texts == 0) ≡ true → [] ≡ texts
no_texts [] is = refl
no_texts (text ∷ texts) is = absurd (omega (arith, (Decides-eqb (length (text ∷ texts)) 0).0 is))

-- where no value is left no name is
pub no_name_left : (octets : List ℕ) (tag : ℕ) (left : List (List ℕ)) → octets ≡ [] → (length left == 0) ≡ true → names_tagged tag (values_of octets) ≡ left
no_name_left octets tag left end none = ap (names_tagged tag) (values_end octets end) ∙ no_texts left none

-- names in the order of the texts are the same set
pub same_in_order : (alternative : List ℕ) (tag : ℕ) (texts : List (List ℕ)) → names_tagged tag (values_of alternative) ≡ texts → is_same_set texts (names_tagged tag (values_of alternative)) ≡ true
same_in_order alternative tag texts is =
    (sets texts (names_tagged tag (values_of alternative))).1 (subst (IsSameSet texts) (sym is) (λ text. (λ there. there, λ there. there)))

-- ---- names that are all of one tag

-- what the texts that are left say of all names
pub just_later : (octets : List ℕ) (kind : ℕ) (body rest : List ℕ) (tag : ℕ) (left others : List (List ℕ)) (Whole : Type 0) → BeginsWith octets kind body rest → IsValueList rest
    → kind ≡ tag → left ≡ body ∷ others → (values_of octets ≡ map (λ text. (tag, text)) left → Whole) → values_of rest ≡ map (λ text. (tag, text)) others → Whole
just_later octets kind body rest tag left others Whole h list same is kept equal =
    kept (values_next octets kind body rest h list
    ∙ ap (λ (vs : List Value). (kind, body) ∷ vs) equal
    ∙ ap (λ (k : ℕ). (k, body) ∷ map (λ text. (tag, text)) others) same
    ∙ sym (ap (map (λ text. (tag, text))) is))

pub nothing_left : (octets : List ℕ) (tag : ℕ) (left : List (List ℕ)) → octets ≡ [] → (length left == 0) ≡ true → values_of octets ≡ map (λ text. (tag, text)) left
nothing_left octets tag left end none = values_end octets end ∙ ap (map (λ text. (tag, text))) (no_texts left none)

tagged_same : (tag : ℕ) (texts : List (List ℕ)) → names_tagged tag (map (λ text. (tag, text)) texts) ≡ texts
tagged_same tag [] = refl
tagged_same tag (text ∷ texts) = rw ((Decides-eqb tag tag).1 refl) (ap (λ (l : List (List ℕ)). text ∷ l) (tagged_same tag texts))

tagged_other : (kind tag : ℕ) (texts : List (List ℕ)) → (kind == tag) ≡ false → names_tagged tag (map (λ text. (kind, text)) texts) ≡ []
tagged_other kind tag [] other = refl
tagged_other kind tag (text ∷ texts) other = rw other (tagged_other kind tag texts other)

all_four : (a b c d : Bool) → a ≡ true → b ≡ true → c ≡ true → d ≡ true → (a && (b && (c && d))) ≡ true
all_four a b c d first second third fourth = rw (first, second, third, fourth) refl

same_none : (tag : ℕ) (texts : List (List ℕ)) (alternative : List ℕ) → (length texts == 0) ≡ true → names_tagged tag (values_of alternative) ≡ [] → has_same_names tag texts alternative ≡ true
same_none tag texts alternative empty none =
    ap (λ (l : List (List ℕ)). is_same_set l (names_tagged tag (values_of alternative))) (sym (no_texts texts empty)) ∙ ap (is_same_set []) none

-- DNS names alone are all that is asked for
pub dns_alone : (spec : CertSpec) (alternative : List ℕ) → ((length spec.ip_addresses == 0) && ((length spec.uris == 0) && (length spec.emails == 0))) ≡ true
    → values_of alternative ≡ map (λ text. (130, text)) spec.dns_names → has_alternative spec alternative ≡ true
dns_alone spec alternative alone is =
    let parts = and_parts (length spec.ip_addresses == 0) ((length spec.uris == 0) && (length spec.emails == 0)) alone in
    let others = and_parts (length spec.uris == 0) (length spec.emails == 0) parts.1 in
    let ips = parts.0 in
    let uris = others.0 in
    let emails = others.1 in
    let dns : has_same_names 130 spec.dns_names alternative ≡ true = same_in_order alternative 130 spec.dns_names (ap (names_tagged 130) is ∙ tagged_same 130 spec.dns_names) in
    let none : (tag : ℕ) → (130 == tag) ≡ false → names_tagged tag (values_of alternative) ≡ [] = λ tag other. ap (names_tagged tag) is ∙ tagged_other 130 tag spec.dns_names other in
    let written : has_same_addresses spec.ip_addresses alternative ≡ true =
    ap (λ (l : List (List ℕ)). is_same_set (addresses_written l) (addresses (values_of alternative))) (sym (no_texts spec.ip_addresses ips)) ∙ ap (λ (l : List (List ℕ)). is_same_set [] (filter is_address l)) (none 135 refl) in
    all_four (has_same_names 130 spec.dns_names alternative) (has_same_addresses spec.ip_addresses alternative) (has_same_names 134 spec.uris alternative) (has_same_names 129 spec.emails alternative)
    dns written (same_none 134 spec.uris alternative uris (none 134 refl)) (same_none 129 spec.emails alternative emails (none 129 refl))

pub name_nowhere : (octets : List ℕ) (tag : ℕ) (name : List ℕ) (whole : Bool) → octets ≡ [] → is_among (names_tagged tag (values_of octets)) name ≡ whole → false ≡ whole
name_nowhere octets tag name whole e kept =
    let step : is_among (names_tagged tag (values_of octets)) name ≡ false = rw (values_end octets e) refl in
    sym step ∙ kept

pub other_here : (octets : List ℕ) (kind : ℕ) (body rest : List ℕ) (tag : ℕ) (texts : List (List ℕ)) (whole : Bool) → BeginsWith octets kind body rest → IsValueList rest → cond (eqb kind tag) (is_among texts body) true ≡ false → is_within (names_tagged tag (values_of octets)) texts ≡ whole → false ≡ whole
other_here octets kind body rest tag texts whole h list test kept =
    let step : is_within (names_tagged tag (values_of octets)) texts ≡ false = rw (values_next octets kind body rest h list) (within_named tag kind body texts (values_of rest) ∙ ap (λ (b : Bool). b && is_within (names_tagged tag (values_of rest)) texts) test) in
    sym step ∙ kept

pub other_later : (octets : List ℕ) (kind : ℕ) (body rest : List ℕ) (tag : ℕ) (texts : List (List ℕ)) (whole : Bool) → BeginsWith octets kind body rest → IsValueList rest → cond (eqb kind tag) (is_among texts body) true ≡ true → is_within (names_tagged tag (values_of octets)) texts ≡ whole → is_within (names_tagged tag (values_of rest)) texts ≡ whole
other_later octets kind body rest tag texts whole h list test kept =
    let step : is_within (names_tagged tag (values_of octets)) texts ≡ is_within (names_tagged tag (values_of rest)) texts = rw (values_next octets kind body rest h list) (within_named tag kind body texts (values_of rest) ∙ ap (λ (b : Bool). b && is_within (names_tagged tag (values_of rest)) texts) test) in
    sym step ∙ kept

pub other_nowhere : (octets : List ℕ) (tag : ℕ) (texts : List (List ℕ)) (whole : Bool) → octets ≡ [] → is_within (names_tagged tag (values_of octets)) texts ≡ whole → true ≡ whole
other_nowhere octets tag texts whole e kept =
    let step : is_within (names_tagged tag (values_of octets)) texts ≡ true = rw (values_end octets e) refl in
    sym step ∙ kept

-- ---- addresses

or_false : (b : Bool) → (b && false) ≡ false
or_false true = refl
or_false false = refl

among_here : (p : List ℕ → Bool) (x y : List ℕ) (ys : List (List ℕ)) → y ≡ x → bytes_eq y x ≡ true → is_among (filter p ys) x ≡ (p x && is_among ys x) → (b : Bool) → p x ≡ b → is_among (filter p (y ∷ ys)) x ≡ (p x && is_among (y ∷ ys) x)
among_here p x y ys e same others true passes = let q : p y ≡ true = ap p e ∙ passes in rw (q, same, passes) refl
among_here p x y ys e same others false fails =
    let q : p y ≡ false = ap p e ∙ fails in
    let none : is_among (filter p ys) x ≡ false = others ∙ ap (λ (b : Bool). b && is_among ys x) fails in
    rw (q, fails) none

among_filter : (p : List ℕ → Bool) (xs : List (List ℕ)) (x : List ℕ) → is_among (filter p xs) x ≡ (p x && is_among xs x)
among_filter p [] x = sym (or_false (p x))
among_filter p (y ∷ ys) x =
    let others = among_filter p ys x in
    elim (cases_Bool (bytes_eq y x)) [
      | inl same ↦ among_here p x y ys ((bytes_eq-Decides y x).0 same) same others (p x) refl
      | inr differs ↦ elim (cases_Bool (p y)) [
        | inl passes ↦ rw (passes, differs) others
        | inr fails ↦ rw (fails, differs) others
      ]
    ]

pub among_addresses : (values : List Value) (octets : List ℕ) → is_among (addresses values) octets ≡ (is_address octets && is_among (names_tagged 135 values) octets)
among_addresses values octets = among_filter is_address (names_tagged 135 values) octets

-- the addresses that texts write
among_option : (o : Option (List ℕ)) (others : List (List ℕ)) (octets : List ℕ) → is_among (cons_option o others) octets ≡ (is_octets o octets || is_among others octets)
among_option None others octets = refl
among_option (Some x) others octets = refl

pub among_written : (texts : List (List ℕ)) (octets : List ℕ) → list_any (λ text. is_written_by text octets) texts ≡ is_among (addresses_written texts) octets
among_written [] octets = refl
among_written (text ∷ texts) octets = rw (among_written texts octets) (sym (among_option (address_at text) (addresses_written texts) octets))

within_option : (o : Option (List ℕ)) (others given : List (List ℕ)) → is_within (cons_option o others) given ≡ (option_map_or (is_among given) o true && is_within others given)
within_option None others given = refl
within_option (Some x) others given = refl

pub written_within : (texts given : List (List ℕ)) → list_all (λ text. option_map_or (is_among given) (address_at text) true) texts ≡ is_within (addresses_written texts) given
written_within [] given = refl
written_within (text ∷ texts) given = rw (written_within texts given) (sym (within_option (address_at text) (addresses_written texts) given))

-- and the loop over those that stand there
within_addresses : (kind : ℕ) (body : List ℕ) (asked : List (List ℕ)) (values : List Value) → is_within (addresses ((kind, body) ∷ values)) asked ≡ (cond (eqb kind 135 && is_address body) (is_among asked body) true && is_within (addresses values) asked)
within_addresses kind body asked values =
    elim (cases_Bool (eqb kind 135)) [
      | inl same ↦ elim (cases_Bool (is_address body)) [
        | inl sized ↦ rw (same, sized) refl
        | inr wrong ↦ rw (same, wrong) refl
      ]
      | inr differs ↦ rw differs refl
    ]

pub address_here : (octets : List ℕ) (kind : ℕ) (body rest : List ℕ) (asked : List (List ℕ)) (whole : Bool) → BeginsWith octets kind body rest → IsValueList rest → cond (eqb kind 135 && is_address body) (is_among asked body) true ≡ false → is_within (addresses (values_of octets)) asked ≡ whole → false ≡ whole
address_here octets kind body rest asked whole h list test kept =
    let step : is_within (addresses (values_of octets)) asked ≡ false = rw (values_next octets kind body rest h list) (within_addresses kind body asked (values_of rest) ∙ ap (λ (b : Bool). b && is_within (addresses (values_of rest)) asked) test) in
    sym step ∙ kept

pub address_later : (octets : List ℕ) (kind : ℕ) (body rest : List ℕ) (asked : List (List ℕ)) (whole : Bool) → BeginsWith octets kind body rest → IsValueList rest → cond (eqb kind 135 && is_address body) (is_among asked body) true ≡ true → is_within (addresses (values_of octets)) asked ≡ whole → is_within (addresses (values_of rest)) asked ≡ whole
address_later octets kind body rest asked whole h list test kept =
    let step : is_within (addresses (values_of octets)) asked ≡ is_within (addresses (values_of rest)) asked = rw (values_next octets kind body rest h list) (within_addresses kind body asked (values_of rest) ∙ ap (λ (b : Bool). b && is_within (addresses (values_of rest)) asked) test) in
    sym step ∙ kept

pub address_nowhere : (octets : List ℕ) (asked : List (List ℕ)) (whole : Bool) → octets ≡ [] → is_within (addresses (values_of octets)) asked ≡ whole → true ≡ whole
address_nowhere octets asked whole e kept =
    let step : is_within (addresses (values_of octets)) asked ≡ true = rw (values_end octets e) refl in
    sym step ∙ kept
