use Rattle.cmc_caches.specs.Board.{numbers_for}
use Rattle.cmc_caches.proofs.Topped.{topped_same}
use Rattle.cmc_caches.proofs.column.note_left.Goals as goal

pub returns-in_err-note_owners-clause-targets_kept : goal.returns-in_err-note_owners-clause-targets_kept
returns-in_err-note_owners-clause-targets_kept c s = topped_same c.args.number (numbers_for c.args.targets.now s)
