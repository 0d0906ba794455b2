-- How many steps a generated load has, and how many entries a move adds.
use Rattle.std.proofs.Common.{◌≡◌, ℕ, zero, suc, ◌+◌, ◌<◌, ◌≤◌, ◌^◌, List, [], ◌∷◌, ◌++◌, length, Option, Some, None, refl, arith, length-append}
use Rattle.cmc_objects.specs.declared.entry.Entry.{Entry}
use Rattle.cmc_model.specs.Histories.{Setting}
use Rattle.cmc_rules.specs.declared.effect.Effect.{Effect}
use Rattle.cmc_moves.specs.Answers.{entries_of, next_effect}
use Rattle.cmc_moves.specs.declared.moves.Move.{Move}
use Rattle.cmc_moves.specs.declared.moves.Move.TheVariants as moves
use Rattle.cmc_world.specs.Histories.{entries_for}
use Rattle.cmc_scenario.specs.Loads.{load_step, loads, rests}

loads_length : (n : ℕ) → length (loads n) ≡ n
loads_length zero = refl
loads_length (suc n) = let both = length-append (loads n) (load_step (n + 1) ∷ []) in let rest = loads_length n in omega (arith, both, rest)

pub script_length : (n : ℕ) → length (loads n ++ rests) ≡ n + 3
script_length n = let both = length-append (loads n) rests in let one = loads_length n in omega (arith, both, one)

-- ---- one move

effect_entries : (effect : Option Effect) → entries_of effect ≤ 2
effect_entries None = omega arith
effect_entries (Some effect) = omega arith

pub two_at_most : (s : Setting) (h : List Entry) (move : Move) → entries_for s h move ≤ 2
two_at_most s h moves.Script = effect_entries (next_effect s h)
two_at_most s h (moves.Deliver role kind to) = omega arith
two_at_most s h (moves.Begin role key) = omega arith
two_at_most s h (moves.Next n named) = omega arith
two_at_most s h (moves.Give n named given) = omega arith
two_at_most s h (moves.Decide n named d) = omega arith

pub small : (n : ℕ) → n ≤ 250000 → n < 2 ^ 64
small n low = omega (arith, low)
