use Rattle.cmc_caches.specs.Board.{numbers_for}
use Rattle.cmc_caches.proofs.LeftNotes.{target_kept, target_noted}
use Rattle.cmc_caches.proofs.Topped.{topped_on, topped_same}
use Rattle.cmc_caches.proofs.column.note_secret.Goals as goal

pub returns-then-names_target-clause-kept : goal.returns-then-names_target-clause-kept
returns-then-names_target-clause-kept c s = topped_same c.args.number (numbers_for c.args.targets.now s)

pub returns-in_err-secret-clause-kept : goal.returns-in_err-secret-clause-kept
returns-in_err-secret-clause-kept c s = topped_same c.args.number (numbers_for c.args.targets.now s)

pub returns-in_err-add-clause-kept : goal.returns-in_err-add-clause-kept
returns-in_err-add-clause-kept c s =
    topped_on c.args.number (numbers_for c.args.targets.now s) (numbers_for c.args.targets.now s) (numbers_for c.add.new.self s) (c.in_err-add.ensures.err _) (topped_same c.args.number (numbers_for c.args.targets.now s))

pub returns-clause-kept : goal.returns-clause-kept
returns-clause-kept c s = target_kept s c.in_ok-secret.secret c.args.number c.args.targets.now c.add.new.self c.in_ok-add.ensures.ok

pub returns-clause-noted : goal.returns-clause-noted
returns-clause-noted c s on off = target_noted c.args.certificate.now s c.in_ok-secret.secret c.args.number c.args.targets.now c.add.new.self c.in_ok-secret.ensures c.in_ok-add.ensures.ok on
