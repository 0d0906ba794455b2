-- What is seen under a key stands there, where its role was told of the last write under it.
use Rattle.std.proofs.Common.{◌≡◌, ℕ, ◌≤◌, List, [], ◌∷◌, length, Option, Some, None, Bool, true, false, cond, refl, sym, ap, subst, ◌∙◌, arith}
use Rattle.std.proofs.lemmas.Bool.Decides.{nat_tests}
use Rattle.std.proofs.lemmas.Cmp.{eq_by_cmp_equiv}
use Rattle.std.specs.Prelude.{if◌then◌else◌, nat_le}
use Rattle.std.specs.Ordering.{eq_by_cmp}
use Rattle.std.specs.FinMap.{get-empty}
use Rattle.cmc_meta.specs.declared.key.Key.{Key}
use Rattle.cmc_meta.specs.declared.key.Kind.{Kind}
use Rattle.cmc_meta.specs.declared.key.Kind.TheVariants as kinds
use Rattle.cmc_meta.specs.Keys.{key_cmp, key_eq}
use Rattle.cmc_meta.proofs.KeyOrder.{key_cmp-total}
use Rattle.cmc_objects.specs.declared.object.Object.{Object}
use Rattle.cmc_objects.specs.declared.role.Role.{Role}
use Rattle.cmc_objects.specs.declared.entry.Entry.{Entry}
use Rattle.cmc_objects.specs.Objects.{key_of, version_of}
use Rattle.cmc_objects.specs.Informers.{has_informer}
use Rattle.cmc_model.specs.declared.write.Write.{Write}
use Rattle.cmc_model.specs.Objects.{Objects, no_objects, object_at}
use Rattle.cmc_model.specs.Histories.{Setting, objects}
use Rattle.cmc_model.specs.Writes.{writes, contents, oldest, kind_eq, last_under}
use Rattle.cmc_model.proofs.Versions.{IsLawful, lawful_object, object_at-put}
use Rattle.cmc_model.proofs.Writes.{writes_leave}
use Rattle.cmc_rules.specs.Legality.{IsLegal}
use Rattle.cmc_rules.specs.Positions.{position, positions, position_of, cache}
use Rattle.cmc_rules.specs.Views.{caches, views}
use Rattle.cmc_rules.proofs.Seen.{seen_is_version}
use Rattle.cmc_rules.proofs.Versions.{lawful, version_keyed}
use Rattle.cmc_kernel.proofs.SameKeys.{key_eq-refl, same_key, same_kind}
use Rattle.cmc_kernel.proofs.OneKind.{object_at-of_kind, same_at}
use Rattle.cmc_waits.proofs.Newer.{kind_eq-same}
use Rattle.cmc_run_laws.proofs.CalmReplies.{StandsUnder}
use Rattle.cmc_run_laws.proofs.CalmViews.{AreSo, seen_so}

-- ---- the last write under a key

untied : (b : Bool) (j k : Key) → eq_by_cmp key_cmp k j ≡ b → key_eq j k ≡ false → eq_by_cmp key_cmp k j ≡ false
untied true j k e other = absurd (let same : key_eq j k ≡ true = subst (λ (i : Key). key_eq j i ≡ true) (sym (same_at k j e)) (key_eq-refl j) in cc (same, other))
untied false j k e other = e

unequal : (b : Bool) (j k : Key) → key_eq j k ≡ b → eq_by_cmp key_cmp k j ≡ false → key_eq j k ≡ false
unequal true j k e other =
    absurd (let tie : eq_by_cmp key_cmp k j ≡ true = subst (λ (i : Key). eq_by_cmp key_cmp k i ≡ true) (sym (same_key j k e)) ((eq_by_cmp_equiv key_cmp-total).refl k) in cc (tie, other))
unequal false j k e other = e

under_by : (b c : Bool) (key : Key) (p : ℕ) (w : Write) (ws : List Write) → nat_le (length (w ∷ ws)) p ≡ b → key_eq w.key key ≡ c
    → (last_under key ws ≤ p → object_at (contents (oldest p ws)) key ≡ object_at (contents ws) key) → (if c then length (w ∷ ws) else last_under key ws) ≤ p
    → object_at (contents (if b then w ∷ ws else oldest p ws)) key ≡ object_at (contents (w ∷ ws)) key
unfolding contents
under_by true c key p w ws reached is below low = refl
under_by false true key p w ws reached is below low = absurd (grind (arith, nat_tests))
under_by false false key p w ws reached is below low =
    below low
    ∙ sym (object_at-put (contents ws) w.key w.object key ∙ ap (λ (x : Bool). cond x w.object (object_at (contents ws) key)) (untied (eq_by_cmp key_cmp key w.key) w.key key refl is))

-- the first writes leave under the key what all leave, from its last write on
oldest_under : (key : Key) (p : ℕ) (ws : List Write) → last_under key ws ≤ p → object_at (contents (oldest p ws)) key ≡ object_at (contents ws) key
unfolding oldest last_under
oldest_under key p [] low = refl
oldest_under key p (w ∷ ws) low = under_by (nat_le (length (w ∷ ws)) p) (key_eq w.key key) key p w ws refl refl (oldest_under key p ws) low

version_by : (b : Bool) (key : Key) (o : Object) (w : Write) (ws : List Write) → IsLawful (w ∷ ws) → eq_by_cmp key_cmp key w.key ≡ b → (object_at (contents ws) key ≡ Some o → version_of o ≡ last_under key ws)
    → cond b w.object (object_at (contents ws) key) ≡ Some o → version_of o ≡ (if key_eq w.key key then length (w ∷ ws) else last_under key ws)
version_by true key o w ws law e below is =
    let same : key_eq w.key key ≡ true = subst (λ (i : Key). key_eq w.key i ≡ true) (sym (same_at key w.key e)) (key_eq-refl w.key) in
    (lawful_object w ws o law is).0 ∙ sym (ap (λ (x : Bool). if x then length (w ∷ ws) else last_under key ws) same)
version_by false key o w ws law e below is =
    below is ∙ sym (ap (λ (x : Bool). if x then length (w ∷ ws) else last_under key ws) (unequal (key_eq w.key key) w.key key refl e))

version_under : (ws : List Write) (key : Key) (o : Object) → IsLawful ws → object_at (contents ws) key ≡ Some o → version_of o ≡ last_under key ws
unfolding contents last_under
version_under [] key o law is = absurd (let none : object_at no_objects key ≡ None = get-empty key_cmp key in cc (none, is))
version_under (w ∷ ws) key o law is =
    version_by (eq_by_cmp key_cmp key w.key) key o w ws law refl (λ there. version_under ws key o law.1 there) (sym (object_at-put (contents ws) w.key w.object key) ∙ is)

-- what stands has the version of the last write under its key
pub version_is_last : (s : Setting) (h : List Entry) (key : Key) (o : Object) → IsLegal s h → object_at (objects s h) key ≡ Some o → version_of o ≡ last_under key (writes s h)
version_is_last s h key o legal is = version_under (writes s h) key o (lawful s h legal) (ap (λ (m : Objects). object_at m key) (writes_leave s h) ∙ is)

-- ---- where a role was told of it

-- the role was told of the last write under the key
abbrev pub IsToldOf : Setting → List Entry → Role → Key → Type 0
IsToldOf s h role key = last_under key (writes s h) ≤ position_of key.kind (positions h role)

shown_low : (b : Bool) (p : ℕ) → (if b then p else 0) ≤ p
shown_low true p = omega arith
shown_low false p = omega arith

told_low : (h : List Entry) (role : Role) (kind : Kind) → position_of kind (positions h role) ≤ position h role kind
told_low h role kinds.Certificate = shown_low (has_informer role kinds.Certificate) (position h role kinds.Certificate)
told_low h role kinds.CertificateRequest = shown_low (has_informer role kinds.CertificateRequest) (position h role kinds.CertificateRequest)
told_low h role kinds.Secret = shown_low (has_informer role kinds.Secret) (position h role kinds.Secret)

pub unmoved : (s : Setting) (h : List Entry) (role : Role) (key : Key) → IsToldOf s h role key → object_at (objects s h) key ≡ object_at (cache s h role key.kind) key
unmoved s h role key told =
    let p : ℕ = position h role key.kind in
    let ws : List Write = oldest p (writes s h) in
    let low = told_low h role key.kind in
    ap (λ (m : Objects). object_at m key) (sym (writes_leave s h))
    ∙ sym (oldest_under key p (writes s h) (omega (arith, told, low)))
    ∙ sym (object_at-of_kind key.kind ws key ∙ ap (λ (b : Bool). cond b (object_at (contents ws) key) None) (kind_eq-same key.kind key.kind refl))

-- ---- what is seen is in the caches

abbrev IsCached : Setting → List Entry → Role → Object → Type 0
IsCached s h role o = object_at (cache s h role (key_of o).kind) (key_of o) ≡ Some o

of_its_kind : (b : Bool) (x : Option Object) (o : Object) → cond b x None ≡ Some o → b ≡ true
of_its_kind true x o is = refl
of_its_kind false x o is = absurd (cc is)

cached : (s : Setting) (h : List Entry) (role : Role) (kind : Kind) → IsLegal s h → AreSo (IsCached s h role) (cache s h role kind)
cached s h role kind legal key o is =
    let ws : List Write = oldest (position h role kind) (writes s h) in
    let own : key_of o ≡ key = version_keyed s h key o legal (seen_is_version s h role kind key o is) in
    let of_kind : key.kind ≡ kind = same_kind key.kind kind (of_its_kind (kind_eq key.kind kind) (object_at (contents ws) key) o (sym (object_at-of_kind kind ws key) ∙ is)) in
    subst (λ (k : Key). object_at (cache s h role k.kind) k ≡ Some o) (sym own) (subst (λ (k : Kind). object_at (cache s h role k) key ≡ Some o) (sym of_kind) is)

-- so it stands, where its role was told of the last write under its key
pub stands_where_told : (s : Setting) (h : List Entry) (role : Role) (key under : Key) → IsLegal s h → IsToldOf s h role under → StandsUnder s h (views s h role key) under
stands_where_told s h role key under legal told o is same =
    unmoved s h role (key_of o) (subst (λ (k : Key). IsToldOf s h role k) (sym same) told)
    ∙ seen_so (IsCached s h role) role (caches s h role) key o (cached s h role kinds.Certificate legal) (cached s h role kinds.CertificateRequest legal) (cached s h role kinds.Secret legal) is
