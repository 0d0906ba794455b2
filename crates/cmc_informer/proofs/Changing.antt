-- Rows where the object of one key changes.
use Rattle.std.proofs.Common.{◌≡◌, Option, Some, None, Bool, true, false, cond, refl, sym, ap, ◌∙◌, List, [], ◌∷◌}
use Rattle.std.specs.Cmp.{eq_by_cmp_equiv}
use Rattle.std.specs.FinMap.{same_map, get-empty}
use Rattle.std.specs.Map.{lookup}
use Rattle.std.specs.Ordering.{eq_by_cmp}
use Rattle.std.specs.Prelude.{if◌then◌else◌}
use Rattle.cmc_meta.specs.declared.key.Key.{Key}
use Rattle.cmc_meta.specs.Keys.{key_cmp, key_eq}
use Rattle.cmc_objects.specs.declared.object.Object.{Object}
use Rattle.cmc_model.specs.Objects.{object_at}
use Rattle.cmc_model.specs.Replies.{put_at}
use Rattle.cmc_meta.proofs.KeyOrder.{key_cmp-total, key_cmp-IsAntisymmetric}
use Rattle.cmc_model.proofs.Versions.{object_at-put}
use Rattle.cmc_informer.specs.Caches.{Slotted, object_in_slot, slot_at, objects_in}
use Rattle.cmc_informer.specs.Indexes.{AreKeys, Finds}
use Rattle.cmc_informer.proofs.OneMark.{key_tie}

held_by : (b : Bool) (o : Option Object) (rest : Option (Option Object)) → cond b o (object_in_slot rest) ≡ object_in_slot (cond b (Some o) rest)
held_by true o rest = refl
held_by false o rest = refl

-- the objects in the slots are what the slots hold
pub object_at-slots : (es : Slotted) (q : Key) → object_at (objects_in es) q ≡ slot_at es q
unfolding objects_in slot_at
object_at-slots [] q = get-empty key_cmp q
object_at-slots (e ∷ es) q =
    object_at-put (objects_in es) e.0 e.1 q ∙ ap (λ b. cond b e.1 (object_at (objects_in es) q)) (key_tie q e.0)
    ∙ ap (cond (key_eq q e.0) e.1) (object_at-slots es q) ∙ held_by (key_eq q e.0) e.1 (lookup (key_eq q) es)

pub objects_alike : (es fs : Slotted) → ((k : Key) → slot_at fs k ≡ slot_at es k) → objects_in fs ≡ objects_in es
objects_alike es fs each = same_map key_cmp-total key_cmp-IsAntisymmetric (objects_in fs) (objects_in es) (λ q. object_at-slots fs q ∙ each q ∙ sym (object_at-slots es q))

as_cond : (b : Bool) (o p : Option Object) → (if b then o else p) ≡ cond b o p
as_cond true o p = refl
as_cond false o p = refl

-- where one slot changes, the objects change so
pub objects_changed : (es fs : Slotted) (key : Key) (o : Option Object) → ((k : Key) → slot_at fs k ≡ (if key_eq key k then o else slot_at es k)) → objects_in fs ≡ put_at (objects_in es) key o
objects_changed es fs key o each = same_map key_cmp-total key_cmp-IsAntisymmetric (objects_in fs) (put_at (objects_in es) key o) (λ q.
    object_at-slots fs q ∙ each q ∙ as_cond (key_eq key q) o (slot_at es q)
    ∙ ap (λ b. cond b o (slot_at es q)) (sym (key_tie key q) ∙ (eq_by_cmp_equiv key_cmp-total).symm key q)
    ∙ ap (cond (eq_by_cmp key_cmp q key) o) (sym (object_at-slots es q))
    ∙ sym (object_at-put (objects_in es) key o q))

one_by : {U : Type 0} (b : Bool) (f : U → Option Object → Bool) (u : U) (o p : Option Object) (s : Bool) → s ≡ f u p → (if b then f u o else s) ≡ f u (if b then o else p)
one_by true f u o p s law = refl
one_by false f u o p s law = law

-- an index that changes with the slot of one key leads where it should
pub index_changed : {U : Type 0} (index new : U → Key → Bool) (f : U → Option Object → Bool) (es fs : Slotted) (key : Key) (o : Option Object)
    → ((u : U) (k : Key) → index u k ≡ f u (slot_at es k)) → ((u : U) (k : Key) → new u k ≡ (if key_eq key k then f u o else index u k))
    → ((k : Key) → slot_at fs k ≡ (if key_eq key k then o else slot_at es k)) → (u : U) (k : Key) → new u k ≡ f u (slot_at fs k)
index_changed index new f es fs key o law put set u k = put u k ∙ one_by (key_eq key k) f u o (slot_at es k) (index u k) (law u k) ∙ ap (f u) (sym (set k))

-- keys of an index are keys of objects
pub keys_alike : (keys : List Key) (P Q : Key → Bool) → AreKeys keys P → ((k : Key) → P k ≡ Q k) → AreKeys keys Q
keys_alike keys P Q are same = record { ordered = are.ordered; exact = λ k. are.exact k ∙ same k }

pub found_alike : (P Q : Key → Bool) (found : Option Key) → Finds P found → ((k : Key) → P k ≡ Q k) → Finds Q found
found_alike P Q None finds same = λ k. sym (same k) ∙ finds k
found_alike P Q (Some k) finds same = sym (same k) ∙ finds
