use Rattle.std.proofs.lemmas.Bool.Decides.{Decides-eqb}
use Rattle.std.proofs.lemmas.Slice.Eq.{ends_is}
use Rattle.cmc_policy_rules.proofs.Pieces.{first_place, no_place, starless_end}
use Rattle.cmc_policy_rules.proofs.matching.matches_behind_star.Goals as goal

pub returns-in_default-find : goal.returns-in_default-find
returns-in_default-find c = (
  (λ never. absurd (cc never)),
  (λ matched. absurd (no_place _ _ _ _ c.in-Some.ensures c.in_default-find.ensures (c.loop-piece.invariant.1 matched))),
)

pub loop-piece-preserved : goal.loop-piece-preserved
loop-piece-preserved c =
    let step = first_place _ _ _ _ _ c.in-Some.ensures c.in-Some-find.ensures in
    ((λ matched. c.loop-piece.invariant.0 (step.1 matched)), (λ matched. step.0 (c.loop-piece.invariant.1 matched)))

pub returns : goal.returns
returns c =
    let starless = starless_end c.loop-piece.left.now c.loop-piece.rest.now c.in_default.ensures in
    let ends = ends_is Decides-eqb c.loop-piece.rest.now c.loop-piece.left.now c.ends_with.result c.ends_with.ensures.value in (
      (λ yes. c.loop-piece.invariant.0 (starless.1 (_, ends.0 yes))),
      (λ matched. let at = starless.0 (c.loop-piece.invariant.1 matched) in ends.1 at.0 at.1),
    )
