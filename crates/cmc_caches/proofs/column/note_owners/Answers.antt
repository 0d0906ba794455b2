use Rattle.std.proofs.Common.{◌≡◌}
use Rattle.std.specs.Option.{option_copied}
use Rattle.cmc_informer.specs.Caches.{is_owned_by}
use Rattle.cmc_caches.specs.Left.{numbers_under}
use Rattle.cmc_caches.proofs.LeftNotes.{owned_alike}
use Rattle.cmc_caches.proofs.Topped.{topped_same}
use Rattle.cmc_caches.proofs.column.note_owners.Goals as goal

pub returns-then-have_same_owners-clause-kept : goal.returns-then-have_same_owners-clause-kept
returns-then-have_same_owners-clause-kept c u = topped_same c.args.number (numbers_under c.args.owners.now u)

pub returns-then-have_same_owners-clause-noted : goal.returns-then-have_same_owners-clause-noted
returns-then-have_same_owners-clause-noted c u on off =
    absurd (
    let same : is_owned_by u (option_copied c.args.before) ≡ is_owned_by u (option_copied c.args.after) =
    owned_alike (option_copied c.args.before) (option_copied c.args.after) u (c.have_same_owners.ensures c.if-have_same_owners.true) in
    cc (same, on, off))

pub returns-in-None-clause-kept : goal.returns-in-None-clause-kept
returns-in-None-clause-kept c u = topped_same c.args.number (numbers_under c.args.owners.now u)
