use Rattle.std.proofs.Common.{◌∙◌}
use Rattle.cmc_collector.proofs.rows.give_up_rows.Goals as goal

pub loop-key-preserved : goal.loop-key-preserved
loop-key-preserved c = record {
  same = λ k. c.give_up_row.ensures.same k ∙ c.loop-key.invariant.same k;
  keeps = λ k on has. c.give_up_row.ensures.keeps k on (c.loop-key.invariant.keeps k on has);
}
