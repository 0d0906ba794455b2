-- The search for a free number, and what a create comes to under its name.
use Rattle.std.proofs.Common.{◌≡◌, ℕ, ℤ, zero, suc, ◌+◌, Bool, true, false, Some, refl, sym, ap, subst, ◌∙◌, arith}
use Rattle.std.specs.Prelude.{if◌then◌else◌, IfOk}
use Rattle.std.specs.declared.alloc.AllocError.{AllocError}
use Rattle.std.specs.declared.result.Result.{Result}
use Rattle.std.specs.declared.result.Result.TheVariants as results
use Rattle.cmc_objects.specs.declared.object.Object.{Object}
use Rattle.cmc_objects.specs.declared.call.Call.TheVariants.{Create}
use Rattle.cmc_objects.specs.Objects.{key_of}
use Rattle.cmc_model.specs.Objects.{Objects}
use Rattle.cmc_model.specs.Stored.{created}
use Rattle.cmc_model.specs.Generated.{free_from, free_named}
use Rattle.cmc_model.specs.Replies.{IsServed, IsCreatedIn, is_accepted, key_of_call, settled, stored, under_reply}
use Rattle.cmc_model.proofs.Settling.{made_as}
use Rattle.cmc_store.specs.declared.calls.Replied.{Replied}
use Rattle.cmc_store.specs.Answers.{IsPutOrRefused}

pub free_more : (room left : ℕ) (taken : ℕ → Bool) (n : ℕ) → room ≡ left + 1 → taken n ≡ true → free_from room taken n ≡ free_from left taken (n + 1)
free_more zero left taken n is on = absurd (omega (arith, is))
free_more (suc room) left taken n is on =
    let same : room ≡ left = omega (arith, is) in
    ap (λ (b : Bool). if b then free_from room taken (n + 1) else n) on ∙ ap (λ (r : ℕ). free_from r taken (n + 1)) same

by_name : (n : ℕ) (now : ℤ) (objects new : Objects) (object : Object) (generate : Bool) (answer : Replied) (b : Bool) → is_accepted answer.reply ≡ b
    → IsServed n objects (Create object generate) answer.reply
    → IsPutOrRefused (key_of (if generate then free_named (n + 1) objects object else object)) (Some (created (n + 1) now (if generate then free_named (n + 1) objects object else object))) objects new answer
    → IsPutOrRefused (key_of (if generate then under_reply object answer.reply else object)) (Some (created (n + 1) now (if generate then under_reply object answer.reply else object))) objects new answer
by_name n now objects new object generate answer true e right told =
    subst (λ (o : Object). IsPutOrRefused (key_of o) (Some (created (n + 1) now o)) objects new answer) (sym (made_as n objects object generate answer.reply right e)) told
by_name n now objects new object generate answer false e right told =
    record { after = told.after ∙ rw e refl; key_told = told.key_told ∙ rw e refl; object_told = told.object_told ∙ rw e refl }

-- what is told of the create under its free name is told of it under the name in its reply
pub answered_by_name : (n : ℕ) (now : ℤ) (objects new : Objects) (object made : Object) (generate : Bool) (result : Result Replied AllocError)
    → generate ≡ true → made ≡ free_named (n + 1) objects object
    → IfOk result (λ r. IsCreatedIn n objects made r.reply)
    → IfOk result (λ r. IsPutOrRefused (key_of made) (Some (created (n + 1) now made)) objects new r)
    → IfOk result (λ r. IsPutOrRefused (key_of_call (settled (Create object generate) r.reply)) (stored (n + 1) now objects (settled (Create object generate) r.reply)) objects new r)
unfolding settled
answered_by_name n now objects new object made generate (results.Ok r) on is right told =
    let served : IsServed n objects (Create object true) r.reply = subst (λ (o : Object). IsCreatedIn n objects o r.reply) is right in
    let there : IsPutOrRefused (key_of (free_named (n + 1) objects object)) (Some (created (n + 1) now (free_named (n + 1) objects object))) objects new r =
    subst (λ (o : Object). IsPutOrRefused (key_of o) (Some (created (n + 1) now o)) objects new r) is told in
    subst (λ (g : Bool). IsPutOrRefused (key_of_call (settled (Create object g) r.reply)) (stored (n + 1) now objects (settled (Create object g) r.reply)) objects new r) (sym on)
    (by_name n now objects new object true r (is_accepted r.reply) refl served there)
answered_by_name n now objects new object made generate (results.Err e) on is right told = tt
