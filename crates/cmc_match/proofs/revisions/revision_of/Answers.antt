use Rattle.cmc_match.proofs.NumberLaws.{revision_written, revision_read}
use Rattle.cmc_match.proofs.revisions.revision_of.Goals as goal

pub returns-clause-written : goal.returns-clause-written
returns-clause-written c = revision_written c.revision.result c.args.request.now c.revision.ensures

pub returns-clause-read : goal.returns-clause-read
returns-clause-read c number small text = revision_read c.revision.result c.args.request.now c.revision.ensures number small text
