-- Replies to changes that are accepted.
use Rattle.std.proofs.Common.{◌≡◌, ◌≢◌, ℕ, ◌+◌, ◌==◌, Bool, List, Option, Some, None, true, false, refl, sym, subst, inr, arith}
use Rattle.std.proofs.lemmas.Bool.Decides.{nat_tests}
use Rattle.std.specs.Prelude.{IfOk}
use Rattle.std.specs.declared.alloc.AllocError.{AllocError}
use Rattle.std.specs.declared.result.Result.{Result}
use Rattle.std.specs.declared.result.Result.TheVariants as results
use Rattle.cmc_objects.specs.declared.object.Object.{Object}
use Rattle.cmc_objects.specs.declared.call.Reply.{Reply}
use Rattle.cmc_objects.specs.declared.call.Reply.TheVariants.{Ok, Invalid}
use Rattle.cmc_objects.specs.Objects.{name_of, version_of}
use Rattle.cmc_model.specs.Stored.{updated, with_status}
use Rattle.cmc_model.specs.Admission.{refusing_rule}
use Rattle.cmc_meta.specs.declared.key.Key.{Key}
use Rattle.cmc_model.specs.Objects.{Objects}
use Rattle.cmc_store.specs.Answers.{IsPutOrRefused, refusal_of}
use Rattle.std.specs.List.{list_any}
use Rattle.cmc_objects.specs.declared.call.Call.{Call}
use Rattle.cmc_model.specs.Replies.{State, IsCreated, IsUpdated, IsRestated, IsServed, IsReply}
use Rattle.cmc_store.specs.declared.calls.Replied.{Replied}

-- what is not answered as refused meets no rule that refuses
pub not_refused : (rule : Option ℕ) → None ≡ refusal_of rule → rule ≡ None
not_refused None is = refl
not_refused (Some n) is = absurd (cc is)

-- a call that a rule refuses leaves all as it was, and tells of no write
pub refused_answer : (key : Key) (object : Option Object) (objects : Objects) (rule : Option ℕ) (answer : Replied) → Some answer ≡ refusal_of rule → IsPutOrRefused key object objects objects answer
refused_answer key object objects None answer is = absurd (cc is)
refused_answer key object objects (Some n) answer is =
    let told : answer ≡ record { reply = Invalid n; key = None; object = None } = cc is in
    subst (IsPutOrRefused key object objects objects) (sym told) (record { after = refl; key_told = refl; object_told = refl })

-- a create under a key where nothing stands is accepted
pub created_reply : (accepted : ℕ) (taken : Bool) (object : Object) (stands : Option Object) (name : List ℕ) → stands ≡ None
    → refusing_rule None object false taken ≡ None → name ≡ name_of object → IsCreated accepted taken object stands (Ok (accepted + 1) name)
created_reply accepted taken object stands name is passes is_name = rw (is, is_name, passes) refl

-- a change under the version that stands is accepted
pub updated_reply : (accepted : ℕ) (taken : Bool) (object old : Object) (named : ℕ) (stands : Option Object) (name : List ℕ) → stands ≡ Some old → named ≡ version_of old
    → refusing_rule (Some old) object false taken ≡ None → updated old object ≢ old → name ≡ name_of object → IsUpdated accepted taken object named stands (Ok (accepted + 1) name)
updated_reply accepted taken object old named stands name is version passes differ is_name =
    let same : (named == version_of old) ≡ true = grind (arith, nat_tests) in
    rw (is, same, is_name, passes) (inr (differ, refl))

-- a change of status under the version that stands is accepted
pub restated_reply : (accepted : ℕ) (object old : Object) (named : ℕ) (stands : Option Object) (name : List ℕ) → stands ≡ Some old → named ≡ version_of old
    → refusing_rule (Some old) object true false ≡ None → with_status old object ≢ old → name ≡ name_of object → IsRestated accepted object named stands (Ok (accepted + 1) name)
restated_reply accepted object old named stands name is version passes differ is_name =
    let same : (named == version_of old) ≡ true = grind (arith, nat_tests) in
    rw (is, same, is_name, passes) (inr (differ, refl))

-- what is so of the reply that a write tells is so of the reply of each write that succeeds
pub reply_of_write : (result : Result Replied AllocError) (told : Replied) (P : Reply → Type 0) → IfOk result (λ r. r ≡ told) → P told.reply → IfOk result (λ r. P r.reply)
reply_of_write (results.Ok r) told P is so = subst (λ (x : Replied). P x.reply) (sym is) so
reply_of_write (results.Err e) told P is so = tt

-- a call whose number is no fault is answered by the objects
pub served_reply : (faults : List ℕ) (s : State) (call : Call) (reply : Reply) → list_any (λ n. n == s.calls + 1) faults ≡ false → IsServed s.accepted s.objects call reply → IsReply faults s call reply
served_reply faults s call reply e h = rw e h
