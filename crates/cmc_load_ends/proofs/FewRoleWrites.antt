-- Where each write of a role lowers the measure, roles write no more often than applies and ticks add to it.
use Rattle.std.proofs.Common.{◌≡◌, ◌≤◌, ◌<◌, ◌+◌, ◌*◌, ◌∷◌, ℕ, ℤ, List, [], length, Bool, true, false, Option, Some, None, refl, sym, ap, subst, ◌∙◌, arith}
use Rattle.std.specs.FinMap.{get-empty}
use Rattle.std.specs.Prelude.{option_and_then, if◌then◌else◌}
use Rattle.cmc_meta.specs.declared.key.Key.{Key}
use Rattle.cmc_meta.specs.Keys.{key_cmp}
use Rattle.cmc_objects.specs.declared.call.Call.{Call}
use Rattle.cmc_objects.specs.declared.call.Reply.{Reply}
use Rattle.cmc_objects.specs.declared.object.Object.{Object}
use Rattle.cmc_objects.specs.declared.entry.Entry.{Entry}
use Rattle.cmc_objects.specs.declared.entry.Entry.TheVariants.{Call as Called, Start, Stop, Tick}
use Rattle.cmc_objects.specs.declared.entry.Who.TheVariants.{User, Pass}
use Rattle.cmc_model.specs.Histories.{Setting, accepted, moment, objects, state}
use Rattle.cmc_model.specs.Objects.{Objects, no_objects}
use Rattle.cmc_model.specs.Replies.{IsReply, is_accepted, key_of_call, put_at, settled, stored}
use Rattle.cmc_model.specs.Writes.{writes}
use Rattle.cmc_pass.specs.declared.pass.Desk.{Desk}
use Rattle.cmc_rules.specs.Legality.{IsLegal}
use Rattle.cmc_rules.specs.Views.{certificate_at, certificate_in}
use Rattle.cmc_moves.proofs.Sounds.{each_sound}
use Rattle.cmc_safety.proofs.InProgress.{IsPlayed, played_below}
use Rattle.cmc_run_laws.specs.Begins.{count_of}
use Rattle.cmc_load_laws.specs.Belonging.{IsParted}
use Rattle.cmc_load_laws.specs.Loads.{HasFreeCertificates}
use Rattle.cmc_load_laws.specs.LoadRuns.{IsForOneCertificate, LowersMeasure, WriteForOneCertificate}
use Rattle.cmc_load_laws.specs.Totals.{HasCertificate, total_measure}
use Rattle.cmc_load_laws.proofs.LoadHistories.{after_accepted, parted_at, put_there, write_for_one}
use Rattle.cmc_load_ends.specs.LoadLengths.{is_role_write, is_user_write}
use Rattle.cmc_load_ends.specs.LoadWrites.{HasFewRoleWrites, RoleWritesLower, added_by_ticks, applied_keys, owned_requests, keys_with}
use Rattle.cmc_load_ends.proofs.AppliedKeys.{AreAllKeys, keys_kept, keys_later, no_keys}
use Rattle.cmc_load_ends.proofs.AppliesAdd.{apply_in}
use Rattle.cmc_load_ends.proofs.OthersSame.{role_leaves}
use Rattle.cmc_load_ends.proofs.PlainEntries.{ArePlain, IsApply}
use Rattle.cmc_load_ends.proofs.TimeAdds.{time_adds}
use Rattle.cmc_load_ends.proofs.UserAdds.{IsApplyIn, user_adds}

-- what the scenario gives to decide by
abbrev pub desk_of : Setting → Desk
desk_of s = record { material = s.material; asked = 0; rules = s.rules }

abbrev pub measure_of : Setting → ℤ → List Key → Objects → ℕ
measure_of s now keys m = total_measure (desk_of s) 0 now keys m

-- The keys are those of the Certificates that exist; what is written and what is left to write are paid for.
pub record IsPaidUp (s : Setting) (h : List Entry) (keys : List Key) (m : Objects) (roles users : ℕ) : Type 0 where
  pub are : AreAllKeys m keys
  pub low : roles + measure_of s (moment s h) keys m ≤ 14 * users + added_by_ticks s h

abbrev pub PaidUp : Setting → List Entry → Type 0
PaidUp s h = IsPaidUp s h (applied_keys h) (objects s h) (count_of is_role_write h) (count_of is_user_write h)

none_there : (key : Key) → HasCertificate no_objects key → ⊥
none_there key (c, at) = absurd (let none : certificate_at no_objects key ≡ None = ap (option_and_then certificate_in) (get-empty key_cmp key) in cc (none, at))

-- ---- a write of a role

falls_by_one : (r before after most : ℕ) → r + before ≤ most → after < before → (r + 1) + after ≤ most
falls_by_one r before after most low less = omega (arith, low, less)

role_paid : (s : Setting) (h : List Entry) (n : ℕ) (call : Call) (reply : Reply) → is_accepted reply ≡ true → IsParted (objects s (Called (Pass n) call reply ∷ h)) → IsForOneCertificate s h (Called (Pass n) call reply) call reply
    → LowersMeasure s h (Called (Pass n) call reply) → PaidUp s h → IsPaidUp s h (applied_keys h) (objects s (Called (Pass n) call reply ∷ h)) (count_of is_role_write h + 1) (count_of is_user_write h)
role_paid s h n call reply ok later one lowers p = record {
  are = keys_kept one.own (objects s h) (objects s (Called (Pass n) call reply ∷ h)) (role_leaves s h n call reply ok later one) later (one.write.after, one.write.is) (applied_keys h)
      (p.are.all one.own (one.write.before, one.write.was)) p.are;
  low = falls_by_one (count_of is_role_write h) (measure_of s (moment s h) (applied_keys h) (objects s h)) (measure_of s (moment s h) (applied_keys h) (objects s (Called (Pass n) call reply ∷ h)))
      (14 * count_of is_user_write h + added_by_ticks s h) p.low (lowers.all (desk_of s) 0 (applied_keys h) refl p.are.each (p.are.all lowers.own lowers.exists));
}

-- ---- a write of a user

rises_by_one : (r before after u added : ℕ) → r + before ≤ 14 * u + added → after ≤ before + 14 → r + after ≤ 14 * (u + 1) + added
rises_by_one r before after u added low more = omega (arith, low, more)

-- what the apply leaves, in the words of the store
user_paid : (s : Setting) (h : List Entry) (call : Call) (reply : Reply) → is_accepted reply ≡ true → IsParted (objects s (Called User call reply ∷ h))
    → IsApplyIn s (writes s h) (objects s h) (key_of_call (settled call reply)) (stored (accepted s h + 1) (moment s h) (objects s h) (settled call reply)) → PaidUp s h
    → IsPaidUp s h (keys_with (key_of_call (settled call reply)) (applied_keys h)) (objects s (Called User call reply ∷ h)) (count_of is_role_write h) (count_of is_user_write h + 1)
user_paid s h call reply ok later a p =
    let own : Key = key_of_call (settled call reply) in
    let new : Option Object = stored (accepted s h + 1) (moment s h) (objects s h) (settled call reply) in
    let same : objects s (Called User call reply ∷ h) ≡ put_at (objects s h) own new = after_accepted s h User call reply ok in
    let there : certificate_at (put_at (objects s h) own new) own ≡ Some a.leaves.after = ap (option_and_then certificate_in) (put_there (objects s h) own new ∙ a.leaves.is) in
    let adds = user_adds s (writes s h) (desk_of s) (moment s h) (objects s h) own new a (applied_keys h) p.are in
    subst (λ (n : Objects). IsPaidUp s h (keys_with own (applied_keys h)) n (count_of is_role_write h) (count_of is_user_write h + 1)) (sym same)
    (record {
      are = keys_later own (objects s h) (put_at (objects s h) own new) a.others (subst IsParted same later) (a.leaves.after, there) (applied_keys h) p.are;
      low = rises_by_one (count_of is_role_write h) (measure_of s (moment s h) (applied_keys h) (objects s h)) (measure_of s (moment s h) (keys_with own (applied_keys h)) (put_at (objects s h) own new))
          (count_of is_user_write h) (added_by_ticks s h) p.low adds;
    })

-- ---- histories

-- one more, where the call was accepted
pass_by : (b : Bool) (s : Setting) (h : List Entry) (n : ℕ) (call : Call) (reply : Reply) → is_accepted reply ≡ b → IsParted (objects s (Called (Pass n) call reply ∷ h))
    → (is_accepted reply ≡ true → IsForOneCertificate s h (Called (Pass n) call reply) call reply) → (is_accepted reply ≡ true → LowersMeasure s h (Called (Pass n) call reply)) → PaidUp s h
    → PaidUp s (Called (Pass n) call reply ∷ h)
pass_by true s h n call reply ok later one lowers p =
    let paid = role_paid s h n call reply ok later (one ok) (lowers ok) p in
    record { are = paid.are; low = subst (λ (b : Bool). (if b then count_of is_role_write h + 1 else count_of is_role_write h) + measure_of s (moment s h) (applied_keys h) (objects s (Called (Pass n) call reply ∷ h)) ≤ 14 * count_of is_user_write h + added_by_ticks s h) (sym ok) paid.low }
pass_by false s h n call reply off later one lowers p =
    subst (λ (b : Bool). IsPaidUp s (Called (Pass n) call reply ∷ h) (applied_keys h) (if b then put_at (objects s h) (key_of_call (settled call reply)) (stored (accepted s h + 1) (moment s h) (objects s h) (settled call reply)) else objects s h)
    (if b then count_of is_role_write h + 1 else count_of is_role_write h) (count_of is_user_write h)) (sym off) (record { are = p.are; low = p.low })

user_by : (b : Bool) (s : Setting) (h : List Entry) (call : Call) (reply : Reply) → HasFreeCertificates s → IsPlayed s (Called User call reply ∷ h) → is_accepted reply ≡ b → IsReply s.faults (state s h) call reply → IsApply s h call → PaidUp s h
    → PaidUp s (Called User call reply ∷ h)
user_by true s h call reply free o ok right apply p =
    let paid = user_paid s h call reply ok (parted_at each_sound s (Called User call reply ∷ h) free o) (apply_in s h call reply free o ok right apply) p in
    subst (λ (b : Bool). IsPaidUp s (Called User call reply ∷ h) (if b then keys_with (key_of_call (settled call reply)) (applied_keys h) else applied_keys h) (objects s (Called User call reply ∷ h)) (count_of is_role_write h)
    (if b then count_of is_user_write h + 1 else count_of is_user_write h)) (sym ok) (record { are = paid.are; low = paid.low })
user_by false s h call reply free o off right apply p =
    subst (λ (b : Bool). IsPaidUp s (Called User call reply ∷ h) (if b then keys_with (key_of_call (settled call reply)) (applied_keys h) else applied_keys h)
    (if b then put_at (objects s h) (key_of_call (settled call reply)) (stored (accepted s h + 1) (moment s h) (objects s h) (settled call reply)) else objects s h) (count_of is_role_write h)
    (if b then count_of is_user_write h + 1 else count_of is_user_write h)) (sym off) (record { are = p.are; low = p.low })

later_by : (r before after most more : ℕ) → r + before ≤ most → after ≤ before + more → r + after ≤ most + more
later_by r before after most more low rises = omega (arith, low, rises)

tick_paid : (s : Setting) (h : List Entry) (now : ℤ) → PaidUp s h → PaidUp s (Tick now ∷ h)
tick_paid s h now p =
    let rises = time_adds (desk_of s) 0 (moment s h) now (applied_keys h) (objects s h) in
    let sum = later_by (count_of is_role_write h) (measure_of s (moment s h) (applied_keys h) (objects s h)) (measure_of s now (applied_keys h) (objects s h)) (14 * count_of is_user_write h + added_by_ticks s h)
    (14 * length (applied_keys h) + owned_requests (applied_keys h) (objects s h)) p.low rises in
    record { are = p.are; low = omega (arith, sum) }

pub paid_up : (s : Setting) (h : List Entry) → HasFreeCertificates s → IsPlayed s h → WriteForOneCertificate s h → RoleWritesLower s h → ArePlain s h → PaidUp s h
unfolding IsLegal
paid_up s [] free o one lowers plain = record { are = no_keys no_objects none_there; low = omega arith }
paid_up s (Called (Pass n) call reply ∷ h) free o one lowers plain =
    let below = played_below s (Called (Pass n) call reply) h o in
    pass_by (is_accepted reply) s h n call reply refl (parted_at each_sound s (Called (Pass n) call reply ∷ h) free o) one.0 lowers.0 (paid_up s h free below one.1 lowers.1 plain.1)
paid_up s (Called User call reply ∷ h) free o one lowers plain =
    user_by (is_accepted reply) s h call reply free o refl o.legal.0.0 plain.0.1 (paid_up s h free (played_below s (Called User call reply) h o) one lowers plain.1)
paid_up s (Tick now ∷ h) free o one lowers plain = tick_paid s h now (paid_up s h free (played_below s (Tick now) h o) one lowers plain.1)
paid_up s (Stop role ∷ h) free o one lowers plain = absurd plain.0
paid_up s (Start role at ∷ h) free o one lowers plain = absurd plain.0
paid_up s (other ∷ h) free o one lowers plain = let p = paid_up s h free (played_below s other h o) one lowers plain.1 in record { are = p.are; low = p.low }

pub few_role_writes : (s : Setting) (h : List Entry) → HasFreeCertificates s → IsPlayed s h → RoleWritesLower s h → ArePlain s h → HasFewRoleWrites s h
few_role_writes s h free o lowers plain = let p = paid_up s h free o (write_for_one each_sound s h free o) lowers plain in let low = p.low in omega (arith, low)
