use Rattle.cmc_match.proofs.PairLaws.{answer_validity, answer_ordered, answer_begins, answer_ends, answer_means}
use Rattle.cmc_match.proofs.facts.pair_in.Goals as goal

pub returns-clause-means : goal.returns-clause-means
returns-clause-means c = answer_means c.pair_with.result c.args.secret.now c.pair_with.ensures

pub returns-clause-ordered : goal.returns-clause-ordered
returns-clause-ordered c = answer_ordered c.pair_with.result (answer_validity c.pair_with.result c.args.secret.now c.pair_with.ensures)

pub returns-clause-begins_in_range : goal.returns-clause-begins_in_range
returns-clause-begins_in_range c = answer_begins c.pair_with.result (answer_validity c.pair_with.result c.args.secret.now c.pair_with.ensures)

pub returns-clause-ends_in_range : goal.returns-clause-ends_in_range
returns-clause-ends_in_range c = answer_ends c.pair_with.result (answer_validity c.pair_with.result c.args.secret.now c.pair_with.ensures)
