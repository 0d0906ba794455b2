-- Which Secrets lead to which Certificates.
use Rattle.std.proofs.Common.{◌≡◌, Option, Bool, true, false, refl, sym, ap, ◌∙◌, subst, List, ℕ}
use Rattle.std.specs.List.{filter}
use Rattle.std.specs.Prelude.{if◌then◌else◌}
use Rattle.cmc_meta.specs.declared.key.Key.{Key}
use Rattle.cmc_meta.specs.Keys.{key_eq}
use Rattle.cmc_objects.specs.declared.object.Object.{Object}
use Rattle.cmc_model.specs.Objects.{object_at}
use Rattle.cmc_informer.specs.Caches.{IsLedTo, Slotted, is_targeting, objects_in, secret_key, slot_at}
use Rattle.cmc_informer.specs.Indexes.{AreKeys, Targeted, points}
use Rattle.cmc_informer.proofs.OneMark.{equal_key}
use Rattle.cmc_informer.proofs.Leading.{keys_among}
use Rattle.cmc_informer.proofs.Changing.{keys_alike, object_at-slots}

led_by : (b : Bool) (index : Targeted) (es : Slotted) (key k : Key) (o : Option Object) → key_eq key k ≡ b → IsLedTo index (slot_at es k) k → IsLedTo index o key → IsLedTo index (if b then o else slot_at es k) k
led_by true index es key k o e led new = subst (λ (q : Key). IsLedTo index o q) (equal_key key k e) new
led_by false index es key k o e led new = led

-- the slot of one key changes, and that key is led to already
pub led_changed : (index : Targeted) (es fs : Slotted) (key : Key) (o : Option Object) → ((k : Key) → IsLedTo index (slot_at es k) k) → IsLedTo index o key
    → ((k : Key) → slot_at fs k ≡ (if key_eq key k then o else slot_at es k)) → (k : Key) → IsLedTo index (slot_at fs k) k
led_changed index es fs key o led new set k =
    subst (λ (p : Option Object). IsLedTo index p k) (sym (set k)) (led_by (key_eq key k) index es key k o refl (led k) new)

-- of the keys that the Secret leads to, those whose slots name it are all that name it
pub targeting_keys : (slots : Slotted) (index : Targeted) (namespace name : List ℕ) (secret : Key) (held kept : List Key) → secret ≡ secret_key namespace name
    → ((k : Key) → IsLedTo index (slot_at slots k) k) → AreKeys held (λ k. points index secret k) → kept ≡ filter (λ k. is_targeting namespace name (slot_at slots k)) held
    → AreKeys kept (λ k. is_targeting namespace name (object_at (objects_in slots) k))
targeting_keys slots index namespace name secret held kept names led are kept_are =
    keys_alike kept (λ k. is_targeting namespace name (slot_at slots k)) (λ k. is_targeting namespace name (object_at (objects_in slots) k))
    (subst (λ (ks : List Key). AreKeys ks (λ k. is_targeting namespace name (slot_at slots k))) (sym kept_are)
    (keys_among held (λ k. points index secret k) (λ k. is_targeting namespace name (slot_at slots k)) are
    (λ k is. ap (λ (s : Key). points index s k) names ∙ led k namespace name is)))
    (λ k. ap (is_targeting namespace name) (sym (object_at-slots slots k)))
