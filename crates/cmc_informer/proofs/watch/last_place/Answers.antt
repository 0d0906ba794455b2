use Rattle.std.proofs.Common.{length, reverse, sym, arith, ◌∙◌}
use Rattle.std.proofs.lemmas.List.{length-reverse}
use Rattle.cmc_model.proofs.Writes.{oldest-beyond}
use Rattle.cmc_informer.proofs.watch.last_place.Goals as goal

pub returns-clause-same : goal.returns-clause-same
returns-clause-same c =
    let count = length-reverse c.args.writes.now in
    oldest-beyond (length c.args.writes.now) (reverse c.args.writes.now) (omega (arith, count)) ∙ sym (oldest-beyond c.args.to (reverse c.args.writes.now) (omega (arith, count, c.if-to-accepted.false)))
