-- Where every cache is current and nothing is due, no object that stands has dead owners alone.
use Rattle.std.proofs.Common.{◌≡◌, ℕ, ◌≤◌, List, [], ◌∷◌, Bool, true, false, cond, Option, Some, None, refl, sym, ap, ◌∙◌, arith}
use Rattle.std.proofs.lemmas.Bool.{and_from}
use Rattle.std.proofs.lemmas.Bool.Decides.{nat_tests}
use Rattle.std.specs.Prelude.{if◌then◌else◌, ◌==◌, ◌≢◌, not, nat_le, nat_lt, is_some}
use Rattle.cmc_meta.specs.declared.key.Key.{Key}
use Rattle.cmc_meta.specs.declared.key.Kind.{Kind}
use Rattle.cmc_meta.specs.declared.key.Kind.TheVariants.{Certificate, CertificateRequest, Secret}
use Rattle.cmc_meta.specs.declared.owners.OwnerRef.{OwnerRef}
use Rattle.cmc_objects.specs.declared.object.Object.{Object}
use Rattle.cmc_model.specs.declared.write.Write.{Write}
use Rattle.cmc_model.specs.Objects.{Objects, object_at}
use Rattle.cmc_model.specs.Histories.{Setting, objects, accepted}
use Rattle.cmc_model.specs.Versions.{uid_of}
use Rattle.cmc_model.specs.Writes.{contents, writes}
use Rattle.cmc_model.proofs.Writes.{writes_leave}
use Rattle.cmc_informer.specs.Caches.{has_uid}
use Rattle.cmc_collector.specs.declared.entry.Moment.{Moment}
use Rattle.cmc_collector.specs.declared.examination.Examination.{Examination}
use Rattle.cmc_collector.specs.CachePositions.{are_gone, cached_object, has_owners, is_orphan, is_orphan_in, position}
use Rattle.cmc_collector.specs.Examinations.{current_of, examination, is_to_examine}
use Rattle.cmc_collector.specs.Moves.{newest}
use Rattle.cmc_collector.specs.Owners.{AreDead, IsGoodCollect, owners_of}
use Rattle.cmc_collector.specs.Replays.{owner_key, played}
use Rattle.cmc_collector.specs.Settles.{IsSettled, first_kind_behind, is_behind}
use Rattle.cmc_collector.proofs.OneKind.{object_at-of_kind, of_kind-oldest}
use Rattle.cmc_collector.proofs.Unchanged.{kind_self}

-- ---- every cache is current

none_by : (a b c : Bool) → (if a then Some Certificate else (if b then Some CertificateRequest else (if c then Some Secret else None))) ≡ None → (a ≡ false) × ((b ≡ false) × (c ≡ false))
none_by true b c none = absurd (cc none)
none_by false true c none = absurd (cc none)
none_by false false true none = absurd (cc none)
none_by false false false none = (refl, (refl, refl))

not_behind : (kind : Kind) (s : Setting) (ms : List Moment) → first_kind_behind s ms ≡ None → is_behind kind s ms ≡ false
not_behind Certificate s ms none = (none_by (is_behind Certificate s ms) (is_behind CertificateRequest s ms) (is_behind Secret s ms) none).0
not_behind CertificateRequest s ms none = (none_by (is_behind Certificate s ms) (is_behind CertificateRequest s ms) (is_behind Secret s ms) none).1.0
not_behind Secret s ms none = (none_by (is_behind Certificate s ms) (is_behind CertificateRequest s ms) (is_behind Secret s ms) none).1.1

-- so the caches hold what stands
pub cached_current : (s : Setting) (ms : List Moment) → first_kind_behind s ms ≡ None → (key : Key) → cached_object s ms key ≡ object_at (objects s (played ms)) key
cached_current s ms none key =
    let ws : List Write = writes s (played ms) in
    let off : nat_lt (position key.kind ms) (newest key.kind s ms) ≡ false = not_behind key.kind s ms none in
    let all : newest key.kind s ms ≤ position key.kind ms = grind (arith, nat_tests) in
    ap (λ (l : List Write). object_at (contents l) key) (of_kind-oldest key.kind (position key.kind ms) ws all)
    ∙ object_at-of_kind key.kind ws key
    ∙ ap (λ b. cond b (object_at (contents ws) key) None) (kind_self key.kind)
    ∙ ap (λ (m : Objects). object_at m key) (writes_leave s (played ms))

-- ---- nothing is due

due_by : (x : Option Examination) (orphan : Bool) (o : Object) → orphan ≡ true → is_some (current_of x orphan (Some o)) ≡ true
due_by (Some x) orphan o is = refl
due_by None true o is = refl
due_by None false o is = absurd (cc is)

gone_by : (found : Option Object) (uid : ℕ) → ((o : Object) → found ≡ Some o → uid_of o ≡ uid → ⊥) → not (has_uid uid found) ≡ true
gone_by None uid none = refl
gone_by (Some o) uid none = differs (uid == uid_of o) refl where
  differs : (b : Bool) → (uid == uid_of o) ≡ b → not b ≡ true
  differs true e = absurd (none o refl (grind (arith, nat_tests)))
  differs false e = refl

gone_in : (s : Setting) (ms : List Moment) (namespace : List ℕ) (os : List OwnerRef) → ((key : Key) → cached_object s ms key ≡ object_at (objects s (played ms)) key)
    → AreDead namespace os s (played ms) → are_gone (cached_object s ms) (accepted s (played ms)) namespace os ≡ true
gone_in s ms namespace [] current dead = refl
gone_in s ms namespace (o ∷ os) current dead =
    let low : o.uid ≤ accepted s (played ms) = dead.0.0 in
    let given : nat_le o.uid (accepted s (played ms)) ≡ true = grind (arith, nat_tests) in
    let gone = gone_by (cached_object s ms (owner_key namespace o)) o.uid (λ p is same. dead.0.1 p (sym (current (owner_key namespace o)) ∙ is) same) in
    and_from _ _ (and_from _ _ given gone) (gone_in s ms namespace os current dead.1)

has_some : (os : List OwnerRef) → os ≢ [] → has_owners os ≡ true
has_some [] some = absurd (some refl)
has_some (o ∷ os) some = refl

pub none_left : (s : Setting) (ms : List Moment) → IsSettled s ms → (key : Key) → IsGoodCollect s (played ms) key → ⊥
none_left s ms settled key good =
    let current = cached_current s ms settled.0 in
    let held : cached_object s ms key ≡ Some good.object = current key ∙ good.stands in
    let orphan : is_orphan s ms key ≡ true =
    ap (is_orphan_in (cached_object s ms) (accepted s (played ms)) key.namespace) held
    ∙ and_from _ _ (has_some (owners_of good.object) good.owned) (gone_in s ms key.namespace (owners_of good.object) current good.dead) in
    let due : is_to_examine s ms key ≡ true =
    ap (λ (o : Option Object). is_some (current_of (examination s ms key) (is_orphan s ms key) o)) held ∙ due_by (examination s ms key) (is_orphan s ms key) good.object orphan in
    let none = settled.1 key in
    cc (due, none)
