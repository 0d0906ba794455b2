-- Keys that accepted writes name.
use Rattle.std.proofs.Common.{◌≡◌, inl, inr, ℕ, ◌-◌, ◌<◌, Bool, true, false, cond, List, [], ◌∷◌, ◌++◌, length, reverse, get_or, Option, Some, None, refl, sym, ap, ◌∙◌, subst, arith}
use Rattle.std.proofs.Math.Bool.{or-false, or-true}
use Rattle.std.proofs.lemmas.Bool.{or_cases}
use Rattle.std.proofs.lemmas.List.{get_or-reverse, length-reverse}
use Rattle.std.proofs.lemmas.List.Folds.{list_any-append, list_any_at}
use Rattle.std.specs.BTreeMap.{is_at}
use Rattle.std.specs.Cmp.{tied_itself}
use Rattle.std.specs.Ordering.{is_eq}
use Rattle.std.specs.Prelude.{◌||◌, if◌then◌else◌, is_some}
use Rattle.cmc_meta.specs.declared.key.Key.{Key}
use Rattle.cmc_meta.specs.declared.key.Kind.{Kind}
use Rattle.cmc_meta.specs.declared.key.Kind.TheVariants.{Certificate, CertificateRequest, Secret}
use Rattle.cmc_meta.specs.Keys.{key_cmp, key_eq}
use Rattle.cmc_objects.specs.declared.object.Object.{Object}
use Rattle.cmc_objects.specs.declared.role.Role.{Role}
use Rattle.cmc_objects.specs.declared.role.Role.TheVariants.{Approver, Issuer}
use Rattle.cmc_model.specs.declared.write.Write.{Write}
use Rattle.cmc_model.specs.Objects.{Objects, object_at}
use Rattle.cmc_model.specs.Versions.{IsVersion}
use Rattle.cmc_model.specs.Writes.{is_known, kind_eq, of_kind, oldest}
use Rattle.cmc_meta.proofs.KeyOrder.{key_cmp-total}
use Rattle.cmc_model.proofs.Versions.{standing}
use Rattle.cmc_objects.specs.Informers.{kind_of_work, looks_at_next, looks_at_requests, looks_at_secret, works_on_requests}
use Rattle.cmc_informer.specs.Caches.{has_uid, is_targeting}
use Rattle.cmc_informer.proofs.OneMark.{key_tie, same_key}
use Rattle.cmc_caches.specs.Affected.{AddsExisting, AreLeft, AreNamed, ExistUnderNamed, is_among}
use Rattle.cmc_model.proofs.Versions.{version_of_kind, version_of_oldest}

same_kind : (a b : Kind) → kind_eq a b ≡ true → a ≡ b
same_kind Certificate Certificate is = refl
same_kind Certificate other is = absurd (cc is)
same_kind CertificateRequest CertificateRequest is = refl
same_kind CertificateRequest other is = absurd (cc is)
same_kind Secret Secret is = refl
same_kind Secret other is = absurd (cc is)

equal_keys : (k : Key) → key_eq k k ≡ true
equal_keys k = sym (key_tie k k) ∙ ap is_eq (tied_itself key_cmp-total k)

-- ---- written keys

pub none_named : (kind : Kind) (ws : List Write) (keys : List Key) → keys ≡ [] → AreNamed kind ws keys
none_named kind ws keys none key among = absurd (let no : is_among keys key ≡ false = ap (λ (l : List Key). is_among l key) none in cc (no, among))

-- the write at a place names its key
pub known_at : (ws : List Write) (i : ℕ) (w : Write) → i < length ws → w ≡ get_or ws i w → is_known w.key (reverse ws) ≡ true
known_at ws i w low is =
    let n : length (reverse ws) ≡ length ws = length-reverse ws in
    let j : ℕ = length ws - 1 - i in
    let below : j < length ws = omega (arith, low) in
    let place : length ws - 1 - j ≡ i = omega (arith, low) in
    let at : get_or (reverse ws) j w ≡ w = get_or-reverse ws j w below ∙ ap (λ (p : ℕ). get_or ws p w) place ∙ sym is in
    list_any_at (λ v. key_eq v.key w.key) (reverse ws) j w (omega (arith, n, below)) (ap (λ (v : Write). key_eq v.key w.key) at ∙ equal_keys w.key)

-- one write more
pub named_more : (b : Bool) (kind : Kind) (ws : List Write) (keys more : List Key) (key : Key) → kind_eq key.kind kind ≡ b → more ≡ (if b then keys ++ key ∷ [] else keys) → is_known key ws ≡ true
    → AreNamed kind ws keys → AreNamed kind ws more
named_more true kind ws keys more key is are known named q among =
    elim (or_cases (is_among keys q) (is_eq (key_cmp q key) || false) (sym (list_any-append (is_at (key_cmp q)) keys (key ∷ [])) ∙ ap (λ (l : List Key). is_among l q) (sym are) ∙ among)) [
      | inl old ↦ named q old
      | inr here ↦ subst (λ (k : Key). (k.kind ≡ kind) × (is_known k ws ≡ true)) (sym (same_key q key (sym (or-false (is_eq (key_cmp q key))) ∙ here))) (same_kind key.kind kind is, known)
    ]
named_more false kind ws keys more key is are known named q among = named q (ap (λ (l : List Key). is_among l q) (sym are) ∙ among)

-- ---- keys under which something stands

in_kind : (b : Bool) (kind : Kind) (key : Key) (o : Object) (w : Write) (some : List Write) → kind_eq w.key.kind kind ≡ b → (IsVersion key o some → key.kind ≡ kind) → IsVersion key o (cond b (w ∷ some) some) → key.kind ≡ kind
in_kind true kind key o w some is below (inl here) = ap (λ (k : Key). k.kind) (sym here.0) ∙ same_kind w.key.kind kind is
in_kind true kind key o w some is below (inr there) = below there
in_kind false kind key o w some is below there = below there

versions_of_kind : (kind : Kind) (key : Key) (o : Object) (ws : List Write) → IsVersion key o (of_kind kind ws) → key.kind ≡ kind
versions_of_kind kind key o [] has = absurd has
versions_of_kind kind key o (w ∷ ws) has = in_kind (kind_eq w.key.kind kind) kind key o w (of_kind kind ws) refl (λ there. versions_of_kind kind key o ws there) has

versions_known : (key : Key) (o : Object) (ws : List Write) → IsVersion key o ws → is_known key ws ≡ true
versions_known key o [] has = absurd has
versions_known key o (w ∷ ws) (inl here) = ap (λ x. x || is_known key ws) (ap (λ (k : Key). key_eq k key) here.0 ∙ equal_keys key)
versions_known key o (w ∷ ws) (inr there) = ap (λ x. key_eq w.key key || x) (versions_known key o ws there) ∙ or-true (key_eq w.key key)

object_of : (o : Option Object) → is_some o ≡ true → (x : Object) × (o ≡ Some x)
object_of None is = absurd (cc is)
object_of (Some x) is = (x, refl)

-- what some first writes leave stands under keys that they name
pub stand_under_named : (kind : Kind) (ws : List Write) (m : Objects) → AreLeft kind ws m → ExistUnderNamed kind (reverse ws) m
stand_under_named kind ws m left key is =
    let some = object_of (object_at m key) is in
    let first : List Write = oldest left.0 (reverse ws) in
    let has : IsVersion key some.0 (of_kind kind first) = standing (of_kind kind first) key some.0 (ap (λ (x : Objects). object_at x key) (sym left.1) ∙ some.1) in
    (versions_of_kind kind key some.0 first has, versions_known key some.0 (reverse ws) (version_of_oldest left.0 key some.0 (reverse ws) (version_of_kind kind key some.0 first has)))

-- ---- keys that are added

pub adds_on : (m : Objects) (one two three : List Key) → AddsExisting m one two → AddsExisting m two three → AddsExisting m one three
adds_on m one two three first then_more k among = elim (then_more k among) [ inl old ↦ first k old | inr stands ↦ inr stands ]

pub adds_last : (m : Objects) (old new : List Key) (last : Key) → new ≡ old ++ last ∷ [] → is_some (object_at m last) ≡ true → AddsExisting m old new
adds_last m old new last is stands k among =
    elim (or_cases (is_among old k) (is_eq (key_cmp k last) || false) (sym (list_any-append (is_at (key_cmp k)) old (last ∷ [])) ∙ ap (λ (l : List Key). is_among l k) (sym is) ∙ among)) [
      | inl had ↦ inl had
      | inr here ↦ inr (ap (λ (q : Key). is_some (object_at m q)) (same_key k last (sym (or-false (is_eq (key_cmp k last))) ∙ here)) ∙ stands)
    ]

pub stands_with_uid : (uid : ℕ) (o : Option Object) → has_uid uid o ≡ true → is_some o ≡ true
stands_with_uid uid None is = is
stands_with_uid uid (Some x) is = refl

pub stands_targeting : (namespace name : List ℕ) (o : Option Object) → is_targeting namespace name o ≡ true → is_some o ≡ true
stands_targeting namespace name None is = absurd (cc is)
stands_targeting namespace name (Some x) is = refl

-- ---- the role's work

pub named_with : (kind : Kind) (ws : List Write) (m : Objects) (old new : List Key) → Certificate ≡ kind → ExistUnderNamed Certificate ws m → AddsExisting m old new → AreNamed kind ws old → AreNamed kind ws new
named_with kind ws m old new work stand adds named k among =
    elim (adds k among) [ inl had ↦ named k had | inr stands ↦ subst (λ (x : Kind). (k.kind ≡ x) × (is_known k ws ≡ true)) work (stand k stands) ]

pub named_as : (kind work : Kind) (ws : List Write) (keys : List Key) → kind ≡ work → AreNamed kind ws keys → AreNamed work ws keys
named_as kind work ws keys is named = subst (λ (x : Kind). AreNamed x ws keys) is named

pub work_on_certificates : (role : Role) → works_on_requests role ≡ false → Certificate ≡ kind_of_work role
work_on_certificates role off = ap (λ (b : Bool). if b then CertificateRequest else Certificate) (sym off)

pub work_on_requests : (role : Role) → works_on_requests role ≡ true → CertificateRequest ≡ kind_of_work role
work_on_requests role on = ap (λ (b : Bool). if b then CertificateRequest else Certificate) (sym on)

-- who looks at what belongs to a Certificate works on Certificates
pub work_by_next : (role : Role) → looks_at_next role ≡ true → Certificate ≡ kind_of_work role
work_by_next Approver looks = absurd (cc looks)
work_by_next Issuer looks = absurd (cc looks)
work_by_next other looks = refl

pub work_by_target : (role : Role) → looks_at_secret role ≡ true → Certificate ≡ kind_of_work role
work_by_target Approver looks = absurd (cc looks)
work_by_target Issuer looks = absurd (cc looks)
work_by_target other looks = refl

pub work_by_requests : (role : Role) → looks_at_requests role ≡ true → Certificate ≡ kind_of_work role
work_by_requests Approver looks = absurd (cc looks)
work_by_requests Issuer looks = absurd (cc looks)
work_by_requests other looks = refl
