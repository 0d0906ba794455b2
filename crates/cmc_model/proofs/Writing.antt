-- What holds of each accepted call holds of each write, and of what stands.
use Rattle.std.proofs.Common.{◌≡◌, ◌+◌, List, [], ◌∷◌, Option, Some, None, Bool, true, false, cond, refl, sym, subst, ◌∙◌, inl, inr}
use Rattle.std.specs.Prelude.{if◌then◌else◌}
use Rattle.std.specs.Ordering.{eq_by_cmp}
use Rattle.std.specs.FinMap.{get-empty}
use Rattle.cmc_meta.specs.declared.key.Key.{Key}
use Rattle.cmc_meta.specs.Keys.{key_cmp}
use Rattle.cmc_objects.specs.declared.object.Object.{Object}
use Rattle.cmc_objects.specs.declared.call.Call.{Call}
use Rattle.cmc_objects.specs.declared.call.Reply.{Reply}
use Rattle.cmc_objects.specs.declared.entry.Entry.{Entry}
use Rattle.cmc_objects.specs.declared.entry.Entry.TheVariants.{Call as Called}
use Rattle.cmc_model.specs.declared.write.Write.{Write}
use Rattle.cmc_model.specs.Objects.{Objects, no_objects, object_at}
use Rattle.cmc_model.specs.Replies.{IsReply, is_accepted, key_of_call, settled, stored}
use Rattle.cmc_model.specs.Verdicts.{IsAnswered}
use Rattle.cmc_model.specs.Histories.{Setting, moment, state, objects, accepted}
use Rattle.cmc_model.specs.Writes.{writes, write_of, contents}
use Rattle.cmc_model.specs.Versions.{IsVersion}
use Rattle.cmc_model.proofs.Versions.{object_at-put}
use Rattle.cmc_model.proofs.Writes.{writes_leave}

-- each write is so by what stood under its key
abbrev pub EachWrite : (Option Object → Option Object → Type 0) → List Write → Type 0
EachWrite R [] = Unit {0}
EachWrite R (w ∷ ws) = R (object_at (contents ws) w.key) w.object × EachWrite R ws

-- the call, accepted now, is so
abbrev pub IsCallOf : (Option Object → Option Object → Type 0) → Setting → List Entry → Call → Type 0
IsCallOf R s h call = R (object_at (objects s h) (key_of_call call)) (stored (accepted s h + 1) (moment s h) (objects s h) call)

added : (R : Option Object → Option Object → Type 0) (s : Setting) (h : List Entry) (call : Call) (b : Bool) → EachWrite R (writes s h) → (b ≡ true → IsCallOf R s h call)
    → EachWrite R (if b then write_of (moment s h) (state s h) call ∷ writes s h else writes s h)
added R s h call true each new = (subst (λ (m : Objects). R (object_at m (key_of_call call)) (stored (accepted s h + 1) (moment s h) (objects s h) call)) (sym (writes_leave s h)) (new refl), each)
added R s h call false each new = each

-- what each accepted call has, under the name that it gets, by its reply and by the writes before it, each write has
pub each_write : (R : Option Object → Option Object → Type 0) (s : Setting) (h : List Entry)
    → ((k : List Entry) (call : Call) (reply : Reply) → IsReply s.faults (state s k) call reply → EachWrite R (writes s k) → is_accepted reply ≡ true → IsCallOf R s k (settled call reply))
    → IsAnswered s h → EachWrite R (writes s h)
each_write R s [] step right = tt
each_write R s (Called who call reply ∷ h) step right =
    let each = each_write R s h step right.1 in
    added R s h (settled call reply) (is_accepted reply) each (step h call reply right.0 each)
each_write R s (other ∷ h) step right = each_write R s h step right

-- what holds of each new object by itself holds of what stands
standing_by : (R : Option Object → Option Object → Type 0) (Q : Object → Type 0) (w : Write) (ws : List Write) (key : Key) (o : Object) (b : Bool)
    → ((old : Option Object) (new : Object) → R old (Some new) → Q new) → (object_at (contents ws) key ≡ Some o → Q o)
    → R (object_at (contents ws) w.key) w.object → cond b w.object (object_at (contents ws) key) ≡ Some o → Q o
standing_by R Q w ws key o true gives below r is = gives (object_at (contents ws) w.key) o (subst (λ (x : Option Object). R (object_at (contents ws) w.key) x) is r)
standing_by R Q w ws key o false gives below r is = below is

pub standing_is : (R : Option Object → Option Object → Type 0) (Q : Object → Type 0) (ws : List Write) (key : Key) (o : Object)
    → ((old : Option Object) (new : Object) → R old (Some new) → Q new) → EachWrite R ws → object_at (contents ws) key ≡ Some o → Q o
unfolding contents
standing_is R Q [] key o gives each is = absurd (let none : object_at no_objects key ≡ None = get-empty key_cmp key in cc (none, is))
standing_is R Q (w ∷ ws) key o gives each is =
    standing_by R Q w ws key o (eq_by_cmp key_cmp key w.key) gives (λ there. standing_is R Q ws key o gives each.1 there) each.0
    (sym (object_at-put (contents ws) w.key w.object key) ∙ is)

-- and of each version
pub version_is : (R : Option Object → Option Object → Type 0) (Q : Object → Type 0) (ws : List Write) (key : Key) (o : Object)
    → ((old : Option Object) (new : Object) → R old (Some new) → Q new) → EachWrite R ws → IsVersion key o ws → Q o
version_is R Q [] key o gives each has = absurd has
version_is R Q (w ∷ ws) key o gives each (inl here) =
    gives (object_at (contents ws) w.key) o (subst (λ (x : Option Object). R (object_at (contents ws) w.key) x) here.1 each.0)
version_is R Q (w ∷ ws) key o gives each (inr there) = version_is R Q ws key o gives each.1 there
