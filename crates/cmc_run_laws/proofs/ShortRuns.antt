-- A run is no longer than its accepted writes, its failed calls and its steps allow.
use Rattle.std.proofs.Common.{◌≡◌, ℕ, ◌+◌, ◌*◌, ◌≤◌, List, [], ◌∷◌, length, map, Option, Some, None, Bool, true, false, refl, ap, ◌∙◌, arith}
use Rattle.std.proofs.lemmas.Bool.{or_left, or_right}
use Rattle.std.proofs.lemmas.List.{length-map}
use Rattle.std.proofs.lemmas.Nat.{mul-le}
use Rattle.std.specs.Prelude.{if◌then◌else◌, ◌||◌}
use Rattle.std.specs.List.{list_any}
use Rattle.cmc_meta.specs.declared.key.Key.{Key}
use Rattle.cmc_meta.specs.Keys.{key_eq}
use Rattle.cmc_objects.specs.declared.call.Call.{Call}
use Rattle.cmc_objects.specs.declared.call.Reply.{Reply}
use Rattle.cmc_objects.specs.declared.call.Reply.TheVariants.{Ok, Unavailable}
use Rattle.cmc_objects.specs.declared.entry.Who.TheVariants.{User, Pass}
use Rattle.cmc_objects.specs.declared.entry.Entry.{Entry}
use Rattle.cmc_objects.specs.declared.entry.Entry.TheVariants.{Script, Call as Called, Begin, Stop, Start, Tick}
use Rattle.cmc_model.specs.declared.write.Write.{Write}
use Rattle.cmc_model.specs.Replies.{is_accepted, settled}
use Rattle.cmc_model.specs.Histories.{Setting, accepted, moment, state}
use Rattle.cmc_model.specs.Writes.{is_known, write_of, writes}
use Rattle.cmc_model.proofs.Writes.{writes_count}
use Rattle.cmc_rules.specs.declared.effect.Effect.{Effect}
use Rattle.cmc_rules.specs.UserSteps.{Follows, owed}
use Rattle.cmc_rules.specs.Legality.{IsLegal, IsLegalEntry}
use Rattle.cmc_rules.specs.Runs.{IsRun}
use Rattle.cmc_rules.specs.Scripts.{scripted}
use Rattle.cmc_kernel.proofs.SameKeys.{key_eq-refl, same_key}
use Rattle.cmc_waits.specs.Waits.{all_roles}
use Rattle.cmc_run_laws.specs.Begins.{count_of, is_accepted_or_failed}
use Rattle.cmc_run_laws.specs.Lengths.{BeginsOn, Each, HasBoundedLength, HasFewPasses, HasShortPasses, HasFewDeliveries, all_kinds, is_begin, is_effect, is_failed, is_of_pass, is_reason, is_start, is_delivery, most_passes, most_reasons, most_deliveries}
use Rattle.cmc_run_laws.proofs.Counting.{counted_less}
use Rattle.cmc_run_laws.proofs.ReasonsEnough.{counted_more}

-- ---- what the script has happen

abbrev pub owes : Option Effect → ℕ
owes None = 0
owes (Some effect) = 1

owes_one : (x : Option Effect) → owes x ≤ 1
owes_one None = omega arith
owes_one (Some effect) = omega arith

paid : (x : Option Effect) (effect : Effect) (n m : ℕ) → n + owes x ≤ m → x ≡ Some effect → n + 1 + 0 ≤ m
paid x effect n m low is = let one : owes x ≡ 1 = ap owes is in omega (arith, low, one)

-- each step has at most one thing happen
pub effects_few : (s : Setting) (h : List Entry) → Follows s h → count_of is_effect h + owes (owed s h) ≤ scripted h
unfolding Follows
effects_few s [] follows = omega arith
effects_few s (Script step ∷ h) follows =
    let low = effects_few s h follows.1 in
    let one = owes_one (owed s (Script step ∷ h)) in
    omega (arith, low, one)
effects_few s (Called User call reply ∷ h) follows = paid (owed s h) _ (count_of is_effect h) (scripted h) (effects_few s h follows.1) follows.0
effects_few s (Stop role ∷ h) follows = paid (owed s h) _ (count_of is_effect h) (scripted h) (effects_few s h follows.1) follows.0
effects_few s (Start role at ∷ h) follows = paid (owed s h) _ (count_of is_effect h) (scripted h) (effects_few s h follows.1) follows.0
effects_few s (Tick now ∷ h) follows = paid (owed s h) _ (count_of is_effect h) (scripted h) (effects_few s h follows.1) follows.0
effects_few s (other ∷ h) follows = let low = effects_few s h follows.1 in omega (arith, low)

start_is_effect : (e : Entry) → is_start e ≡ true → is_effect e ≡ true
start_is_effect (Start role at) is = refl
start_is_effect other is = absurd (cc is)

-- ---- all entries by their sorts

pub by_sorts : (h : List Entry) → length h ≡ scripted h + count_of is_effect h + count_of is_delivery h + count_of is_begin h + count_of is_of_pass h
by_sorts [] = refl
by_sorts (Called User call reply ∷ h) = let is = by_sorts h in omega (arith, is)
by_sorts (Called (Pass n) call reply ∷ h) = let is = by_sorts h in omega (arith, is)
by_sorts (other ∷ h) = let is = by_sorts h in omega (arith, is)

-- ---- reasons

no_fewer : (b : Bool) (n : ℕ) → n ≤ (if b then n + 1 else n)
no_fewer true n = omega arith
no_fewer false n = omega arith

called_for_reason : (n : ℕ) (call : Call) (reply : Reply) (reasons writes failed effects told : ℕ) → reasons ≤ writes + failed + effects + told
    → (if is_accepted_or_failed reply then reasons + 1 else reasons) ≤ (if is_accepted reply then writes + 1 else writes) + (if is_failed (Called (Pass n) call reply) then failed + 1 else failed) + effects + told
called_for_reason n call (Ok version name) reasons writes failed effects told low = omega (arith, low)
called_for_reason n call (Unavailable number) reasons writes failed effects told low = omega (arith, low)
called_for_reason n call other reasons writes failed effects told low = omega (arith, low)

reasons_from : (s : Setting) (h : List Entry) → count_of is_reason h ≤ accepted s h + count_of is_failed h + count_of is_effect h + count_of is_delivery h
reasons_from s [] = omega arith
reasons_from s (Called User call reply ∷ h) =
    let low = reasons_from s h in
    let writes = no_fewer (is_accepted reply) (accepted s h) in
    let failed = counted_more is_failed (Called User call reply) h in
    omega (arith, low, writes, failed)
reasons_from s (Called (Pass n) call reply ∷ h) = called_for_reason n call reply (count_of is_reason h) (accepted s h) (count_of is_failed h) (count_of is_effect h) (count_of is_delivery h) (reasons_from s h)
reasons_from s (other ∷ h) = let low = reasons_from s h in omega (arith, low)

-- ---- keys

abbrev keys_of : List Write → List Key
keys_of ws = map (λ (w : Write). w.key) ws

key_turned : (a b : Key) → key_eq a b ≡ true → key_eq b a ≡ true
key_turned a b is = let same = same_key a b is in ap (λ (k : Key). key_eq b k) same ∙ key_eq-refl b

is_among : (ws : List Write) (key : Key) → is_known key ws ≡ true → list_any (λ k. key_eq key k) (keys_of ws) ≡ true
is_among [] key is = absurd (cc is)
is_among (w ∷ ws) key is = by (key_eq w.key key) refl is (is_among ws key) where
  by : (b : Bool) → key_eq w.key key ≡ b → (b || is_known key ws) ≡ true → (is_known key ws ≡ true → list_any (λ k. key_eq key k) (keys_of ws) ≡ true)
      → (key_eq key w.key || list_any (λ k. key_eq key k) (keys_of ws)) ≡ true
  by true same known rest = or_left _ _ (key_turned w.key key same)
  by false other known rest = or_right _ _ (rest known)

known_after_call : (b : Bool) (w : Write) (ws : List Write) (key : Key) → is_known key ws ≡ true → is_known key (if b then w ∷ ws else ws) ≡ true
known_after_call true w ws key is = or_right _ _ is
known_after_call false w ws key is = is

known_later : (s : Setting) (e : Entry) (h : List Entry) (key : Key) → is_known key (writes s h) ≡ true → is_known key (writes s (e ∷ h)) ≡ true
known_later s (Called who call reply) h key is = known_after_call (is_accepted reply) (write_of (moment s h) (state s h) (settled call reply)) (writes s h) key is
known_later s other h key is = is

begins_on_known : (s : Setting) (h : List Entry) (ws : List Write) (e : Entry) → IsLegalEntry s h e → ((key : Key) → is_known key (writes s h) ≡ true → is_known key ws ≡ true) → BeginsOn (keys_of ws) e
begins_on_known s h ws (Begin pass role key at now) right goes = is_among ws key (goes key right.known)
begins_on_known s h ws other right goes = tt

on_known : (s : Setting) (h : List Entry) (ws : List Write) → IsLegal s h → ((key : Key) → is_known key (writes s h) ≡ true → is_known key ws ≡ true) → Each (BeginsOn (keys_of ws)) h
unfolding IsLegal
on_known s [] ws legal goes = tt
on_known s (e ∷ h) ws legal goes =
    (begins_on_known s h ws e legal.0 (λ key is. goes key (known_later s e h key is)), on_known s h ws legal.1 (λ key is. goes key (known_later s e h key is)))

-- ---- the sum

more_told : (told writes starts steps : ℕ) → told ≤ most_deliveries writes starts → starts ≤ steps → told ≤ most_deliveries writes steps
more_told told writes starts steps low few =
    let one = mul-le writes (starts + 1) writes (steps + 1) (omega arith) (omega (arith, few)) in
    let of_kinds = mul-le (length all_kinds) (writes * (starts + 1)) (length all_kinds) (writes * (steps + 1)) (omega arith) one in
    let of_roles = mul-le (length all_roles) (length all_kinds * (writes * (starts + 1))) (length all_roles) (length all_kinds * (writes * (steps + 1))) (omega arith) of_kinds in
    omega (arith, low, of_roles)

more_passes : (passes keys writes reasons most : ℕ) → passes ≤ length all_roles * (keys * (reasons + 1)) → keys ≡ writes → reasons ≤ most → passes ≤ length all_roles * (writes * (most + 1))
more_passes passes keys writes reasons most low same few =
    let one = mul-le keys (reasons + 1) writes (most + 1) (omega (arith, same)) (omega (arith, few)) in
    let of_roles = mul-le (length all_roles) (keys * (reasons + 1)) (length all_roles) (writes * (most + 1)) (omega arith) one in
    omega (arith, low, of_roles)

all_reasons : (reasons writes failed effects told steps most : ℕ) → reasons ≤ writes + failed + effects + told → effects ≤ steps → told ≤ most → reasons ≤ writes + failed + steps + most
all_reasons reasons writes failed effects told steps most low few seldom = omega (arith, low, few, seldom)

sum_up : (n steps effects told begins rest most_told most : ℕ) → n ≡ steps + effects + told + begins + rest → effects ≤ steps → told ≤ most_told → begins ≤ most → rest ≤ begins * 4
    → n ≤ (steps + steps) + most_told + (most + most * 4)
sum_up n steps effects told begins rest most_told most is few seldom low short = omega (arith, is, few, seldom, low, short)

pub bounded_length : (s : Setting) (whole : List Entry) → IsRun s whole → HasFewPasses whole → HasShortPasses whole → HasFewDeliveries s whole → HasBoundedLength s whole
bounded_length s whole run passes short seldom =
    let written = accepted s whole in
    let failed = count_of is_failed whole in
    let steps = scripted whole in
    let effects : count_of is_effect whole ≤ steps = (let few = effects_few s whole run.follows in omega (arith, few)) in
    let starts : count_of is_start whole ≤ steps = (let less = counted_less is_start is_effect whole start_is_effect in omega (arith, less, effects)) in
    let told = more_told (count_of is_delivery whole) written (count_of is_start whole) steps seldom starts in
    let reasons = all_reasons (count_of is_reason whole) written failed (count_of is_effect whole) (count_of is_delivery whole) steps (most_deliveries written steps) (reasons_from s whole) effects told in
    let keys : length (keys_of (writes s whole)) ≡ written = length-map (writes s whole) (λ (w : Write). w.key) ∙ writes_count s whole in
    let begins = more_passes (count_of is_begin whole) (length (keys_of (writes s whole))) written (count_of is_reason whole) (most_reasons written failed steps)
    (passes (keys_of (writes s whole)) (on_known s whole (writes s whole) run.legal (λ key is. is))) keys reasons in
    sum_up (length whole) steps (count_of is_effect whole) (count_of is_delivery whole) (count_of is_begin whole) (count_of is_of_pass whole) (most_deliveries written steps) (most_passes written failed steps)
    (by_sorts whole) effects told begins short
