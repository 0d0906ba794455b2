use Rattle.std.proofs.Common.{None, Some, sym}
use Rattle.std.proofs.lemmas.Bool.Decides.{Decides-eqb}
use Rattle.std.proofs.lemmas.Slice.Eq.{slice_eq-Decides, strip_prefix_is}
use Rattle.cmc_policy_rules.proofs.Pieces.{front_piece, other_front, starless_matches}
use Rattle.cmc_policy_rules.proofs.matching.fits.Goals as goal

pub returns-in_default : goal.returns-in_default
returns-in_default c =
    let starless = starless_matches c.args.pattern.now c.args.text.now c.in_default.ensures in
    let same = slice_eq-Decides Decides-eqb c.args.pattern.now c.args.text.now c.eq.result c.eq.ensures in
    ((λ yes. starless.1 (sym (same.0 yes))), (λ matched. same.1 (sym (starless.0 matched))))

pub returns-in-Some-strip_prefix : goal.returns-in-Some-strip_prefix
returns-in-Some-strip_prefix c =
    let front = front_piece c.args.pattern.now c.in-Some.piece.now c.in-Some.behind.now c.args.text.now c.in-Some-strip_prefix.rest.now c.in-Some.ensures
    (strip_prefix_is Decides-eqb c.args.text.now c.in-Some.piece.now (Some c.in-Some-strip_prefix.rest) c.in-Some-strip_prefix.ensures.cases) in (
      (λ yes. front.0 (c.matches_behind_star.ensures.0 yes)),
      (λ matched. c.matches_behind_star.ensures.1 (front.1 matched)),
    )

pub returns-in-None : goal.returns-in-None
returns-in-None c = (
  (λ never. absurd (cc never)),
  (λ matched. absurd (other_front _ _ _ _ c.in-Some.ensures
      (strip_prefix_is Decides-eqb c.args.text.now c.in-Some.piece.now None c.in-None.ensures.cases) matched)),
)
