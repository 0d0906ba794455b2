-- What an examination has found stays so, and what it deletes had dead owners alone.
use Rattle.std.proofs.Common.{◌≡◌, ℕ, ◌≤◌, ◌+◌, List, [], ◌∷◌, ◌++◌, length, take, slice_get, Bool, true, false, Some, None, refl, sym, ap, subst, ◌∙◌, inr, arith}
use Rattle.std.proofs.lemmas.List.{take_more}
use Rattle.std.proofs.lemmas.Option.{slice_get_within, get_or_from_slice_get}
use Rattle.std.specs.Prelude.{if◌then◌else◌, zero, suc}
use Rattle.cmc_meta.specs.declared.key.Key.{Key}
use Rattle.cmc_meta.specs.declared.owners.OwnerRef.{OwnerRef}
use Rattle.cmc_objects.specs.declared.object.Object.{Object}
use Rattle.cmc_objects.specs.declared.call.Reply.{Reply}
use Rattle.cmc_objects.specs.declared.entry.Entry.{Entry}
use Rattle.cmc_objects.specs.declared.entry.Entry.TheVariants.{Call as Called}
use Rattle.cmc_objects.specs.Objects.{version_of}
use Rattle.cmc_model.specs.declared.write.Write.{Write}
use Rattle.cmc_model.specs.Objects.{Objects, object_at}
use Rattle.cmc_model.specs.Replies.{IsReply, is_accepted, settled}
use Rattle.cmc_model.specs.Acceptance.{IsFounded}
use Rattle.cmc_model.specs.Histories.{Setting, moment, state, objects, accepted}
use Rattle.cmc_model.specs.Verdicts.{IsAnswered}
use Rattle.cmc_model.specs.Versions.{uid_of, HasVersion, IsVersion}
use Rattle.cmc_model.specs.Writes.{writes, write_of, contents}
use Rattle.cmc_model.proofs.Accepting.{accepted_found}
use Rattle.cmc_model.proofs.Versions.{IsLawful, lawful_called, standing}
use Rattle.cmc_model.proofs.Writes.{writes_count, writes_leave}
use Rattle.cmc_objects.specs.declared.call.Call.TheVariants as calls
use Rattle.cmc_collector.specs.declared.examination.Examination.{Examination}
use Rattle.cmc_collector.specs.Examinations.{IsExamined, next_owner}
use Rattle.cmc_collector.specs.Owners.{IsGone, IsDead, AreDead, IsGoodCollect, owners_of}
use Rattle.cmc_collector.specs.Replays.{owner_key}
use Rattle.cmc_collector.proofs.Dead.{stays_gone, one_version}

pub lawful : (s : Setting) (h : List Entry) → IsAnswered s h → IsLawful (writes s h)
lawful s [] right = tt
lawful s (Called who call reply ∷ h) right =
    lawful_called s.faults (moment s h) (state s h) call reply (writes s h) (is_accepted reply) refl (writes_count s h) (writes_leave s h) right.0 (lawful s h right.1)
lawful s (other ∷ h) right = lawful s h right

-- ---- dead owners in histories

-- in the words of writes, and back
to_writes : (s : Setting) (h : List Entry) (key : Key) (uid : ℕ) → IsGone key uid (objects s h) (accepted s h) → IsGone key uid (contents (writes s h)) (length (writes s h))
to_writes s h key uid gone = subst (λ (n : ℕ). IsGone key uid (contents (writes s h)) n) (sym (writes_count s h)) (subst (λ (m : Objects). IsGone key uid m (accepted s h)) (sym (writes_leave s h)) gone)

of_writes : (s : Setting) (h : List Entry) (key : Key) (uid : ℕ) → IsGone key uid (contents (writes s h)) (length (writes s h)) → IsGone key uid (objects s h) (accepted s h)
of_writes s h key uid gone = subst (λ (n : ℕ). IsGone key uid (objects s h) n) (writes_count s h) (subst (λ (m : Objects). IsGone key uid m (length (writes s h))) (writes_leave s h) gone)

more_writes : (b : Bool) (w : Write) (ws : List Write) (key : Key) (uid : ℕ) → IsLawful (if b then w ∷ ws else ws) → IsGone key uid (contents ws) (length ws)
    → IsGone key uid (contents (if b then w ∷ ws else ws)) (length (if b then w ∷ ws else ws))
more_writes true w ws key uid law gone = stays_gone w ws key uid law gone
more_writes false w ws key uid law gone = gone

-- a dead owner stays dead, whatever comes
pub dead_stays : (s : Setting) (e : Entry) (h : List Entry) (key : Key) (uid : ℕ) → IsAnswered s (e ∷ h) → IsGone key uid (objects s h) (accepted s h) → IsGone key uid (objects s (e ∷ h)) (accepted s (e ∷ h))
dead_stays s (Called who call reply) h key uid right gone =
    of_writes s (Called who call reply ∷ h) key uid
    (more_writes (is_accepted reply) (write_of (moment s h) (state s h) (settled call reply)) (writes s h) key uid (lawful s (Called who call reply ∷ h) right) (to_writes s h key uid gone))
dead_stays s other h key uid right gone = gone

all_stay : (s : Setting) (e : Entry) (h : List Entry) (namespace : List ℕ) (os : List OwnerRef) → IsAnswered s (e ∷ h) → AreDead namespace os s h → AreDead namespace os s (e ∷ h)
all_stay s e h namespace [] right dead = tt
all_stay s e h namespace (o ∷ os) right dead = (dead_stays s e h (owner_key namespace o) o.uid right dead.0, all_stay s e h namespace os right dead.1)

version_kept : (b : Bool) (w : Write) (ws : List Write) (key : Key) (o : Object) → IsVersion key o ws → IsVersion key o (if b then w ∷ ws else ws)
version_kept true w ws key o has = inr has
version_kept false w ws key o has = has

pub was_before : (s : Setting) (e : Entry) (h : List Entry) (key : Key) (o : Object) → HasVersion s h key o → HasVersion s (e ∷ h) key o
was_before s (Called who call reply) h key o has = version_kept (is_accepted reply) (write_of (moment s h) (state s h) (settled call reply)) (writes s h) key o has
was_before s other h key o has = has

count_by : (b : Bool) (n : ℕ) → n ≤ (if b then n + 1 else n)
count_by true n = omega arith
count_by false n = omega arith

pub counts_on : (s : Setting) (e : Entry) (h : List Entry) → accepted s h ≤ accepted s (e ∷ h)
counts_on s (Called who call reply) h = count_by (is_accepted reply) (accepted s h)
counts_on s other h = omega arith

-- ---- examinations

-- whatever comes, an examination stands as it stood
pub examined_on : (s : Setting) (e : Entry) (h : List Entry) (key : Key) (x : Examination) → IsAnswered s (e ∷ h) → IsExamined s h key x → IsExamined s (e ∷ h) key x
examined_on s e h key x right is = record {
  was = was_before s e h key x.object is.was;
  owned = is.owned;
  given = λ n o at. let was = is.given n o at in let more = counts_on s e h in omega (arith, was, more);
  dead = all_stay s e h key.namespace (take x.next (owners_of x.object)) right is.dead;
}

one_more_dead : (s : Setting) (h : List Entry) (namespace : List ℕ) (os : List OwnerRef) (o : OwnerRef) → AreDead namespace os s h → IsDead namespace o s h → AreDead namespace (os ++ o ∷ []) s h
one_more_dead s h namespace [] o dead new = (new, tt)
one_more_dead s h namespace (p ∷ os) o dead new = (dead.0, one_more_dead s h namespace os o dead.1 new)

same_some : (o p : OwnerRef) → Some o ≡ Some p → o ≡ p
same_some o p e = cc e

taken : (os : List OwnerRef) (n : ℕ) (o : OwnerRef) → slice_get os n ≡ Some o → take (n + 1) os ≡ take n os ++ o ∷ []
taken os n o at = take_more os n o (slice_get_within os n o at) ∙ ap (λ p. take n os ++ p ∷ []) (get_or_from_slice_get os n o o at)

-- the next owner is looked for and not found
pub looked_on : (s : Setting) (h : List Entry) (key : Key) (x : Examination) (o : OwnerRef) → IsExamined s h key x → next_owner x ≡ Some o
    → ((p : Object) → object_at (objects s h) (owner_key key.namespace o) ≡ Some p → uid_of p ≡ o.uid → ⊥) → IsExamined s h key (record x { next = x.next + 1 })
looked_on s h key x o is at none = record {
  was = is.was;
  owned = is.owned;
  given = is.given;
  dead = subst (λ (os : List OwnerRef). AreDead key.namespace os s h) (sym (taken (owners_of x.object) x.next o at)) (one_more_dead s h key.namespace (take x.next (owners_of x.object)) o is.dead (is.given x.next o at, none));
}

all_taken : (os : List OwnerRef) (n : ℕ) → slice_get os n ≡ None → take n os ≡ os
all_taken [] zero none = refl
all_taken [] (suc n) none = refl
all_taken (o ∷ os) zero none = absurd (cc none)
all_taken (o ∷ os) (suc n) none = ap (λ l. o ∷ l) (all_taken os n none)

-- what is deleted at the version is the object that was seen, and its owners are dead
good_at : (s : Setting) (h : List Entry) (key : Key) (x : Examination) → IsAnswered s h → IsExamined s h key x → next_owner x ≡ None
    → (o : Object) → object_at (objects s h) key ≡ Some o → version_of o ≡ version_of x.object → IsGoodCollect s h key
good_at s h key x right is none o stands at =
    let version_there : IsVersion key o (writes s h) = standing (writes s h) key o (ap (λ (m : Objects). object_at m key) (writes_leave s h) ∙ stands) in
    let same : o ≡ x.object = one_version (writes s h) key key o x.object (lawful s h right) version_there is.was at in
    record {
      object = x.object;
      stands = stands ∙ ap Some same;
      owned = is.owned;
      dead = subst (λ (os : List OwnerRef). AreDead key.namespace os s h) (all_taken (owners_of x.object) x.next none) is.dead;
    }

pub good_delete : (s : Setting) (h : List Entry) (key : Key) (x : Examination) (reply : Reply) → IsAnswered s h → IsExamined s h key x → next_owner x ≡ None
    → IsReply s.faults (state s h) (calls.Delete key (Some (version_of x.object))) reply → is_accepted reply ≡ true → IsGoodCollect s h key
unfolding IsFounded settled
good_delete s h key x reply right is none served ok =
    let founded = accepted_found s.faults (state s h) (calls.Delete key (Some (version_of x.object))) reply served ok in
    good_at s h key x right is none founded.0 founded.1 founded.2
