use Rattle.cmc_report.specs.Trees.{reply_tree}
use Rattle.cmc_report.proofs.calls.write_reply.Goals as goal

pub returns-in-Unchanged : goal.returns-in-Unchanged
unfolding reply_tree
returns-in-Unchanged c = rw c.in-Unchanged.is c.write_lone.ensures

pub returns-in-AlreadyExists : goal.returns-in-AlreadyExists
unfolding reply_tree
returns-in-AlreadyExists c = rw c.in-AlreadyExists.is c.write_lone-in-AlreadyExists.ensures

pub returns-in-Unavailable : goal.returns-in-Unavailable
unfolding reply_tree
returns-in-Unavailable c = rw c.in-Unavailable.is c.write_lone-in-Unavailable.ensures
