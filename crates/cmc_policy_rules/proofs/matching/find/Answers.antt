use Rattle.std.proofs.Common.{None, Some}
use Rattle.std.proofs.lemmas.Bool.Decides.{Decides-eqb}
use Rattle.std.proofs.lemmas.Slice.Eq.{strip_prefix_is}
use Rattle.cmc_policy_rules.proofs.Places.{found, each_further, end_further, none_left}
use Rattle.cmc_policy_rules.proofs.matching.find.Goals as goal

pub returns-in-Some : goal.returns-in-Some
returns-in-Some c =
    found _ _ _ _ c.loop-rest.invariant.is_end c.loop-rest.invariant.has_each
    (strip_prefix_is Decides-eqb c.loop-rest.left.now c.args.piece.now (Some c.in-Some.rest) c.in-Some.ensures.cases)

pub returns-in-empty : goal.returns-in-empty
returns-in-empty c =
    none_left c.args.text.now c.loop-rest.left.now c.args.piece.now c.loop-rest.invariant.has_each
    (strip_prefix_is Decides-eqb c.loop-rest.left.now c.args.piece.now None c.in_default.ensures.cases)
    c.in-empty.len_below

pub loop-rest-preserved : goal.loop-rest-preserved
loop-rest-preserved c = record {
  is_end = end_further c.args.text.now c.loop-rest.left.now c.loop-rest.invariant.is_end;
  has_each = each_further c.args.text.now c.loop-rest.left.now c.args.piece.now c.loop-rest.invariant.has_each
      (strip_prefix_is Decides-eqb c.loop-rest.left.now c.args.piece.now None c.in_default.ensures.cases);
}
