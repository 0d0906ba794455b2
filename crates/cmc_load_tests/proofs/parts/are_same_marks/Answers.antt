use Rattle.cmc_load_tests.proofs.Written.{told_pairs}
use Rattle.cmc_load_tests.proofs.parts.are_same_marks.Goals as goal

pub returns : goal.returns
returns c = told_pairs c.same.result c.args.left.now c.args.right.now c.same.ensures
