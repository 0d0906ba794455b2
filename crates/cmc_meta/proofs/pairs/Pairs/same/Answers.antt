use Rattle.std.proofs.Common.{◌≡◌, rules}
use Rattle.std.proofs.lemmas.Slice.Eq.{bytes_eq-Decides, slice_eq-Decides}
use Rattle.std.specs.Bool.{Decides}
use Rattle.std.specs.Cmp.Lexicographic.{pointwise}
use Rattle.std.specs.Prelude.{nat_eq, ◌&&◌, ℕ, List}
use Rattle.cmc_meta.proofs.pairs.Pairs.same.Goals as goal

-- two pairs are one where their keys and their texts are
pair-Decides : (a b : List ℕ × List ℕ) → Decides (pointwise nat_eq a.0 b.0 && pointwise nat_eq a.1 b.1) (a ≡ b)
pair-Decides a b = search (rules, bytes_eq-Decides)

pub returns : goal.returns
returns c = slice_eq-Decides pair-Decides _ _ _ c.eq.ensures
