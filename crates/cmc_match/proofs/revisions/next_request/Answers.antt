-- The revision behind the greatest u64 is nobody's.
use Rattle.std.proofs.Common.{sym, arith}
use Rattle.cmc_match.proofs.NumberLaws.{nothing_above}
use Rattle.cmc_match.proofs.revisions.next_request.Goals as goal

pub returns-then-current : goal.returns-then-current
returns-then-current c = sym (nothing_above _ c.args.requests.now (omega (arith, c.if-current)))
