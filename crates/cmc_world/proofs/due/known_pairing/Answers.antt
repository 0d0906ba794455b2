use Rattle.cmc_match.proofs.PairLaws.{known_validity}
use Rattle.cmc_world.proofs.due.known_pairing.Goals as goal

pub returns-clause-ordered : goal.returns-clause-ordered
returns-clause-ordered c = (known_validity c.args.secret.now _ _ c.pairing_in.ensures.begins c.pairing_in.ensures.ends).ordered

pub returns-clause-begins_in_range : goal.returns-clause-begins_in_range
returns-clause-begins_in_range c = (known_validity c.args.secret.now _ _ c.pairing_in.ensures.begins c.pairing_in.ensures.ends).begins

pub returns-clause-ends_in_range : goal.returns-clause-ends_in_range
returns-clause-ends_in_range c = (known_validity c.args.secret.now _ _ c.pairing_in.ensures.begins c.pairing_in.ensures.ends).ends
