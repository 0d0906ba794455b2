use Rattle.cmc_caches.specs.Board.{numbers_for}
use Rattle.cmc_caches.proofs.Topped.{topped_same}
use Rattle.cmc_caches.proofs.column.note_target.Goals as goal

pub returns-in-Some-Request-clause-kept : goal.returns-in-Some-Request-clause-kept
returns-in-Some-Request-clause-kept c s = topped_same c.args.number (numbers_for c.args.targets.now s)

pub returns-in-Some-Secret-clause-kept : goal.returns-in-Some-Secret-clause-kept
returns-in-Some-Secret-clause-kept c s = topped_same c.args.number (numbers_for c.args.targets.now s)

pub returns-in-None-clause-kept : goal.returns-in-None-clause-kept
returns-in-None-clause-kept c s = topped_same c.args.number (numbers_for c.args.targets.now s)
