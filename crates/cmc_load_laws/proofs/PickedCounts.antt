-- How many objects are picked of all, over one call.
use Rattle.std.proofs.Common.{◌≡◌, ◌+◌, ◌++◌, ℕ, List, [], ◌∷◌, length, Bool, true, false, Option, Some, None, refl, ap, arith}
use Rattle.std.proofs.lemmas.List.{length-append}
use Rattle.std.specs.List.{cons_option}
use Rattle.std.specs.Prelude.{filter, if◌then◌else◌}
use Rattle.cmc_objects.specs.declared.call.Call.{Call}
use Rattle.cmc_objects.specs.declared.call.Reply.{Reply}
use Rattle.cmc_objects.specs.declared.entry.Entry.{Entry}
use Rattle.cmc_objects.specs.declared.entry.Entry.TheVariants.{Call as Called}
use Rattle.cmc_objects.specs.declared.entry.Who.{Who}
use Rattle.cmc_model.specs.Objects.{Objects}
use Rattle.cmc_model.specs.Replies.{is_accepted, key_of_call, put_at, settled, stored}
use Rattle.cmc_model.specs.Histories.{Setting, moment, objects, accepted}
use Rattle.cmc_load_laws.specs.Frame.{IsOneChange}
use Rattle.cmc_load_laws.specs.Measure.{weight}

-- ---- lists

-- one if there is one that passes
abbrev pub count_if : {X : Type 0} → (X → Bool) → Option X → ℕ
count_if p None = 0
count_if p (Some x) = weight 1 (p x)

one_if : {X : Type 0} (b : Bool) (x : X) (xs : List X) → length (if b then x ∷ xs else xs) ≡ weight 1 b + length xs
one_if true x xs = omega arith
one_if false x xs = omega arith

with_one : {X : Type 0} (p : X → Bool) (o : Option X) (xs : List X) → length (filter p (cons_option o xs)) ≡ count_if p o + length (filter p xs)
with_one p None xs = omega arith
with_one p (Some x) xs = one_if (p x) x (filter p xs)

within : {X : Type 0} (p : X → Bool) (first rest : List X) (o : Option X) → length (filter p (first ++ cons_option o rest)) ≡ length (filter p first) + (count_if p o + length (filter p rest))
within p [] rest o = omega (arith, with_one p o rest)
within p (x ∷ first) rest o =
    let below : List _ = first ++ cons_option o rest in
    omega (arith, one_if (p x) x (filter p below), one_if (p x) x (filter p first), within p first rest o)

-- how many pass before and after one change
pub counts_change : {X : Type 0} (p : X → Bool) (old new : Option X) (before after : List X) → IsOneChange old new before after → length (filter p after) + count_if p old ≡ length (filter p before) + count_if p new
counts_change p old new before after one =
    omega (
      arith,
      ap (λ (l : List _). length (filter p l)) one.was,
      ap (λ (l : List _). length (filter p l)) one.is,
      within p one.first one.rest old,
      within p one.first one.rest new,
    )

-- one where there is one
abbrev pub count : {X : Type 0} → Option X → ℕ
count None = 0
count (Some x) = 1

longer : {X : Type 0} (o : Option X) (xs : List X) → length (cons_option o xs) ≡ count o + length xs
longer None xs = omega arith
longer (Some x) xs = omega arith

pub lengths_change : {X : Type 0} (old new : Option X) (before after : List X) → IsOneChange old new before after → length after + count old ≡ length before + count new
lengths_change old new before after one =
    omega (
      arith,
      ap (λ (l : List _). length l) one.was,
      ap (λ (l : List _). length l) one.is,
      length-append one.first (cons_option old one.rest),
      length-append one.first (cons_option new one.rest),
      longer old one.rest,
      longer new one.rest,
    )

-- ---- objects over a call

pub over_call : (P : Objects → Type 0) (s : Setting) (h : List Entry) (who : Who) (call : Call) (reply : Reply) → P (objects s h)
    → (is_accepted reply ≡ true → P (put_at (objects s h) (key_of_call (settled call reply)) (stored (accepted s h + 1) (moment s h) (objects s h) (settled call reply)))) → P (objects s (Called who call reply ∷ h))
over_call P s h who call reply before after = by (is_accepted reply) after where
  new : Objects
  new = put_at (objects s h) (key_of_call (settled call reply)) (stored (accepted s h + 1) (moment s h) (objects s h) (settled call reply))

  by : (b : Bool) → (b ≡ true → P new) → P (if b then new else objects s h)
  by true is = is refl
  by false is = before
