use Rattle.cmc_der.specs.Keys.{cert_shown}
use Rattle.cmc_match.specs.Facts.{IsPair}
use Rattle.cmc_audit_clauses.proofs.Reading.{read_some}
use Rattle.cmc_audit_clauses.proofs.written.is_paired.Goals as goal

pub returns : goal.returns
returns c = read_some cert_shown c.pair_in.result (IsPair c.args.written.now) c.is_some.result c.is_some.ensures c.pair_in.ensures.means
