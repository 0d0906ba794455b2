-- What holds of all versions of objects in a run, carried over the accepted writes of users and of passes.
use Rattle.std.proofs.Common.{◌≡◌, List, [], ◌∷◌, Option, Some, None, Bool, true, false, refl, subst, inl, inr}
use Rattle.std.specs.Prelude.{if◌then◌else◌, IfSome}
use Rattle.cmc_meta.specs.declared.key.Key.{Key}
use Rattle.cmc_objects.specs.declared.object.Object.{Object}
use Rattle.cmc_objects.specs.declared.call.Call.{Call}
use Rattle.cmc_objects.specs.declared.call.Reply.{Reply}
use Rattle.cmc_objects.specs.declared.entry.Who.TheVariants.{User, Pass}
use Rattle.cmc_objects.specs.declared.entry.Entry.{Entry}
use Rattle.cmc_objects.specs.declared.entry.Entry.TheVariants.{Call as Called}
use Rattle.cmc_pass.specs.declared.pass.Views.{Views}
use Rattle.cmc_model.specs.declared.write.Write.{Write}
use Rattle.cmc_model.specs.Objects.{object_at}
use Rattle.cmc_model.specs.Replies.{IsReply, is_accepted, settled}
use Rattle.cmc_model.specs.Histories.{Setting, moment, state, objects}
use Rattle.cmc_model.specs.Versions.{IsVersion}
use Rattle.cmc_model.specs.Writes.{writes, write_of}
use Rattle.cmc_rules.specs.declared.effect.Effect.TheVariants as effects
use Rattle.cmc_rules.specs.Legality.{IsLegal}
use Rattle.cmc_rules.specs.UserSteps.{owed, Follows}
use Rattle.cmc_rules.specs.SeenObjects.{IsSeen}
use Rattle.cmc_rules.proofs.Sighted.{AreKnown}
use Rattle.cmc_rules.proofs.Versions.{stands_is_version}
use Rattle.cmc_safety.specs.Formed.{IsFormed}
use Rattle.cmc_safety.proofs.Course.{AreSound}
use Rattle.cmc_safety.proofs.InProgress.{IsPlayed, played_below}
use Rattle.cmc_safety.proofs.PassWrites.{IsWriter, writer_of}

-- ---- versions

-- each version that the writes made is so
abbrev pub EachVersion : (Object → Type 0) → List Write → Type 0
EachVersion Q ws = (key : Key) (o : Object) → IsVersion key o ws → Q o

pub no_version : (Q : Object → Type 0) → EachVersion Q []
no_version Q key o has = absurd has

pub one_more : (Q : Object → Type 0) (w : Write) (ws : List Write) → IfSome w.object Q → EachVersion Q ws → EachVersion Q (w ∷ ws)
one_more Q w ws new each key o (inl here) = subst (λ (x : Option Object). IfSome x Q) here.1 new
one_more Q w ws new each key o (inr there) = each key o there

-- what stands is so, and what is seen
pub stands_so : (Q : Object → Type 0) (s : Setting) (h : List Entry) (key : Key) (o : Object) → EachVersion Q (writes s h) → object_at (objects s h) key ≡ Some o → Q o
stands_so Q s h key o each is = each key o (stands_is_version s h key o is)

pub standing_has : (Q : Object → Type 0) (s : Setting) (h : List Entry) (key : Key) → EachVersion Q (writes s h) → IfSome (object_at (objects s h) key) Q
standing_has Q s h key each = by (object_at (objects s h) key) refl where
  by : (x : Option Object) → object_at (objects s h) key ≡ x → IfSome x Q
  by None is = tt
  by (Some o) is = stands_so Q s h key o each is

pub seen_has : (Q : Object → Type 0) (ws : List Write) (seen : Views) (o : Object) → EachVersion Q ws → AreKnown ws seen → IsSeen seen o → Q o
seen_has Q ws seen o each known is = let there = known o is in each there.0 o there.1

-- ---- writes

-- what a call leaves under the name that it has
abbrev pub newest : Setting → List Entry → Call → Reply → Write
newest s h call reply = write_of (moment s h) (state s h) (settled call reply)

-- what is true of no writes stays so over each accepted write of a user, and over each of a pass
pub record IsCarried (s : Setting) (T : List Write → Type 0) : Type 0 where
  pub none : T []
  pub user : (h : List Entry) (call : Call) (reply : Reply) → IsPlayed s h → IsReply s.faults (state s h) call reply → owed s h ≡ Some (effects.Call call) → is_accepted reply ≡ true
      → T (writes s h) → T (newest s h call reply ∷ writes s h)
  pub pass : (h : List Entry) (call : Call) (reply : Reply) → IsPlayed s h → IsWriter s h call reply → T (writes s h) → T (newest s h call reply ∷ writes s h)

pub where_accepted : (T : List Write → Type 0) (b : Bool) (w : Write) (ws : List Write) → (b ≡ true → T ws → T (w ∷ ws)) → T ws → T (if b then w ∷ ws else ws)
where_accepted T true w ws more is = more refl is
where_accepted T false w ws more is = is

pub carried : AreSound → (T : List Write → Type 0) (s : Setting) → IsFormed s → IsCarried s T → (h : List Entry) → IsPlayed s h → T (writes s h)
unfolding IsLegal Follows
carried sound T s formed is [] o = is.none
carried sound T s formed is (Called User call reply ∷ h) o =
    let below = played_below s (Called User call reply) h o in
    where_accepted T (is_accepted reply) (newest s h call reply) (writes s h) (λ ok before. is.user h call reply below o.legal.0.0 o.follows.0 ok before) (carried sound T s formed is h below)
carried sound T s formed is (Called (Pass m) call reply ∷ h) o =
    let below = played_below s (Called (Pass m) call reply) h o in
    where_accepted T (is_accepted reply) (newest s h call reply) (writes s h) (λ ok before. is.pass h call reply below (writer_of sound s h m call reply formed o ok) before) (carried sound T s formed is h below)
carried sound T s formed is (other ∷ h) o = carried sound T s formed is h (played_below s other h o)
