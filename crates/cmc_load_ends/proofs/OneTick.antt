-- Where time goes on once at most, roles write 35 times for each write of a user at most.
use Rattle.std.proofs.Common.{◌≡◌, ◌≤◌, ◌+◌, ◌*◌, ◌∷◌, ℕ, ℤ, List, [], length, Bool, true, false, refl, sym, ap, subst, arith}
use Rattle.std.specs.BTreeMap.{is_at}
use Rattle.std.specs.List.{list_any}
use Rattle.std.specs.Prelude.{if◌then◌else◌}
use Rattle.cmc_meta.specs.declared.key.Key.{Key}
use Rattle.cmc_meta.specs.Keys.{key_cmp}
use Rattle.cmc_objects.specs.declared.call.Call.{Call}
use Rattle.cmc_objects.specs.declared.call.Reply.{Reply}
use Rattle.cmc_objects.specs.declared.entry.Entry.{Entry}
use Rattle.cmc_objects.specs.declared.entry.Entry.TheVariants.{Call as Called, Start, Stop, Tick}
use Rattle.cmc_objects.specs.declared.entry.Who.TheVariants.{User, Pass}
use Rattle.cmc_model.specs.Histories.{Setting, accepted, moment, objects}
use Rattle.cmc_model.specs.Objects.{Objects}
use Rattle.cmc_model.specs.Replies.{is_accepted, key_of_call, put_at, settled, stored}
use Rattle.cmc_model.specs.Writes.{writes}
use Rattle.cmc_pass.specs.declared.pass.Desk.{Desk}
use Rattle.cmc_rules.specs.Legality.{IsLegal}
use Rattle.cmc_safety.proofs.InProgress.{IsPlayed, played_below}
use Rattle.cmc_run_laws.specs.Begins.{count_of}
use Rattle.cmc_load_laws.specs.Loads.{HasFreeCertificates}
use Rattle.cmc_load_laws.specs.LoadRuns.{WriteForOneCertificate}
use Rattle.cmc_load_laws.specs.Totals.{total_measure}
use Rattle.cmc_load_laws.proofs.LoadHistories.{after_accepted}
use Rattle.cmc_load_ends.specs.LoadLengths.{is_role_write, is_user_write}
use Rattle.cmc_load_ends.specs.LoadWrites.{RoleWritesLower, added_by_ticks, applied_keys, owned_requests, keys_with}
use Rattle.cmc_load_ends.proofs.AppliesAdd.{apply_in}
use Rattle.cmc_load_ends.proofs.FewRoleWrites.{PaidUp, desk_of, measure_of, paid_up}
use Rattle.cmc_load_ends.proofs.PlainEntries.{ArePlain}
use Rattle.cmc_load_ends.proofs.RequestTotals.{role_owns}
use Rattle.cmc_load_ends.proofs.StepCounts.{is_tick_entry}
use Rattle.cmc_load_ends.proofs.UserAdds.{user_owns}

-- ---- no more keys than writes of users

keys_with_low : (key : Key) (keys : List Key) (u : ℕ) → length keys ≤ u → length (keys_with key keys) ≤ u + 1
keys_with_low key keys u low = by (list_any (is_at (key_cmp key)) keys) where
  by : (b : Bool) → length (if b then keys else key ∷ keys) ≤ u + 1
  by true = omega (arith, low)
  by false = omega (arith, low)

keys_by : (b : Bool) (key : Key) (keys : List Key) (u : ℕ) → length keys ≤ u → length (if b then keys_with key keys else keys) ≤ (if b then u + 1 else u)
keys_by true key keys u low = keys_with_low key keys u low
keys_by false key keys u low = low

few_keys : (h : List Entry) → length (applied_keys h) ≤ count_of is_user_write h
few_keys [] = omega arith
few_keys (Called User call reply ∷ h) = keys_by (is_accepted reply) (key_of_call (settled call reply)) (applied_keys h) (count_of is_user_write h) (few_keys h)
few_keys (other ∷ h) = few_keys h

-- ---- no more requests than writes of roles

more_owned : (a b r : ℕ) → a ≤ b + 1 → b ≤ r → a ≤ r + 1
more_owned a b r one low = omega (arith, one, low)

no_more_owned : (a b r : ℕ) → a ≤ b → b ≤ r → a ≤ r
no_more_owned a b r one low = omega (arith, one, low)

-- what a call that is not accepted leaves
same_objects : (s : Setting) (h : List Entry) (call : Call) (reply : Reply) → is_accepted reply ≡ false
    → (if is_accepted reply then put_at (objects s h) (key_of_call (settled call reply)) (stored (accepted s h + 1) (moment s h) (objects s h) (settled call reply)) else objects s h) ≡ objects s h
same_objects s h call reply off =
    ap (λ (b : Bool). if b then put_at (objects s h) (key_of_call (settled call reply)) (stored (accepted s h + 1) (moment s h) (objects s h) (settled call reply)) else objects s h) off

few_owned : (s : Setting) (h : List Entry) → HasFreeCertificates s → IsPlayed s h → WriteForOneCertificate s h → RoleWritesLower s h → ArePlain s h → owned_requests (applied_keys h) (objects s h) ≤ count_of is_role_write h
unfolding IsLegal
few_owned s [] free o one lowers plain = omega arith
few_owned s (Called (Pass n) call reply ∷ h) free o one lowers plain =
    let below = played_below s (Called (Pass n) call reply) h o in
    by (is_accepted reply) refl (few_owned s h free below one.1 lowers.1 plain.1) (paid_up s h free below one.1 lowers.1 plain.1)
  where
    by : (b : Bool) → is_accepted reply ≡ b → owned_requests (applied_keys h) (objects s h) ≤ count_of is_role_write h → PaidUp s h
        → owned_requests (applied_keys h) (objects s (Called (Pass n) call reply ∷ h)) ≤ (if b then count_of is_role_write h + 1 else count_of is_role_write h)
    by true ok low p = more_owned (owned_requests (applied_keys h) (objects s (Called (Pass n) call reply ∷ h))) (owned_requests (applied_keys h) (objects s h)) (count_of is_role_write h)
        (role_owns s h n call reply free o ok (one.0 ok) (applied_keys h) p.are) low
    by false off low p = subst (λ (m : Objects). owned_requests (applied_keys h) m ≤ count_of is_role_write h) (sym (same_objects s h call reply off)) low
few_owned s (Called User call reply ∷ h) free o one lowers plain =
    let below = played_below s (Called User call reply) h o in
    by (is_accepted reply) refl (few_owned s h free below one lowers plain.1) (paid_up s h free below one lowers plain.1)
  where
    by : (b : Bool) → is_accepted reply ≡ b → owned_requests (applied_keys h) (objects s h) ≤ count_of is_role_write h → PaidUp s h
        → owned_requests (if b then keys_with (key_of_call (settled call reply)) (applied_keys h) else applied_keys h) (objects s (Called User call reply ∷ h)) ≤ count_of is_role_write h
    by true ok low p =
        subst (λ (m : Objects). owned_requests (keys_with (key_of_call (settled call reply)) (applied_keys h)) m ≤ count_of is_role_write h) (sym (after_accepted s h User call reply ok))
        (no_more_owned (owned_requests (keys_with (key_of_call (settled call reply)) (applied_keys h)) (put_at (objects s h) (key_of_call (settled call reply)) (stored (accepted s h + 1) (moment s h) (objects s h) (settled call reply))))
        (owned_requests (applied_keys h) (objects s h)) (count_of is_role_write h)
        (user_owns s (writes s h) (desk_of s) (moment s h) (objects s h) (key_of_call (settled call reply)) (stored (accepted s h + 1) (moment s h) (objects s h) (settled call reply))
        (apply_in s h call reply free o ok o.legal.0.0 plain.0.1) (applied_keys h) p.are) low)
    by false off low p = subst (λ (m : Objects). owned_requests (applied_keys h) m ≤ count_of is_role_write h) (sym (same_objects s h call reply off)) low
few_owned s (Stop role ∷ h) free o one lowers plain = absurd plain.0
few_owned s (Start role at ∷ h) free o one lowers plain = absurd plain.0
few_owned s (other ∷ h) free o one lowers plain = few_owned s h free (played_below s other h o) one lowers plain.1

-- ---- the tick

owned_in_measure : (desk : Desk) (now : ℤ) (keys : List Key) (m : Objects) → owned_requests keys m ≤ total_measure desk 0 now keys m
owned_in_measure desk now [] m = omega arith
owned_in_measure desk now (key ∷ keys) m = let rest = owned_in_measure desk now keys m in omega (arith, rest)

no_tick : (s : Setting) (h : List Entry) → count_of is_tick_entry h ≡ 0 → added_by_ticks s h ≡ 0
no_tick s [] none = refl
no_tick s (Tick now ∷ h) none = absurd (omega (arith, none))
no_tick s (other ∷ h) none = no_tick s h none

tick_low : (k owned r left users added : ℕ) → added ≡ 0 → r + left ≤ 14 * users + added → owned ≤ r → owned ≤ left → k ≤ users → added + (14 * k + owned) ≤ 21 * users
tick_low k owned r left users added none low few less short = omega (arith, none, low, few, less, short)

more_users : (b : Bool) (added u : ℕ) → added ≤ 21 * u → added ≤ 21 * (if b then u + 1 else u)
more_users true added u low = omega (arith, low)
more_users false added u low = low

added_low : (s : Setting) (h : List Entry) → HasFreeCertificates s → IsPlayed s h → WriteForOneCertificate s h → RoleWritesLower s h → ArePlain s h → count_of is_tick_entry h ≤ 1 → added_by_ticks s h ≤ 21 * count_of is_user_write h
added_low s [] free o one lowers plain once = omega arith
added_low s (Tick now ∷ h) free o one lowers plain once =
    let below = played_below s (Tick now) h o in
    let none = no_tick s h (omega (arith, once)) in
    tick_low (length (applied_keys h)) (owned_requests (applied_keys h) (objects s h)) (count_of is_role_write h) (measure_of s (moment s h) (applied_keys h) (objects s h)) (count_of is_user_write h) (added_by_ticks s h) none
    (paid_up s h free below one lowers plain.1).low (few_owned s h free below one lowers plain.1) (owned_in_measure (desk_of s) (moment s h) (applied_keys h) (objects s h)) (few_keys h)
added_low s (Called User call reply ∷ h) free o one lowers plain once =
    more_users (is_accepted reply) (added_by_ticks s h) (count_of is_user_write h) (added_low s h free (played_below s (Called User call reply) h o) one lowers plain.1 once)
added_low s (Called (Pass n) call reply ∷ h) free o one lowers plain once = added_low s h free (played_below s (Called (Pass n) call reply) h o) one.1 lowers.1 plain.1 once
added_low s (other ∷ h) free o one lowers plain once = added_low s h free (played_below s other h o) one lowers plain.1 once

summed : (r left u added : ℕ) → r + left ≤ 14 * u + added → added ≤ 21 * u → r ≤ 35 * u
summed r left u added low few = omega (arith, low, few)

pub few_with_one_tick : (s : Setting) (h : List Entry) → HasFreeCertificates s → IsPlayed s h → WriteForOneCertificate s h → RoleWritesLower s h → ArePlain s h → count_of is_tick_entry h ≤ 1 → count_of is_role_write h ≤ 35 * count_of is_user_write h
few_with_one_tick s h free o one lowers plain once =
    summed (count_of is_role_write h) (measure_of s (moment s h) (applied_keys h) (objects s h)) (count_of is_user_write h) (added_by_ticks s h) (paid_up s h free o one lowers plain).low (added_low s h free o one lowers plain once)
