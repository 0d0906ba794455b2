use Rattle.std.proofs.Common.{ap, sym, ◌∙◌}
use Rattle.std.specs.Option.{option_copied_mut}
use Rattle.cmc_collector.proofs.OneRow.{row_is_kept, row_written, rows_stay}
use Rattle.cmc_collector.proofs.rows.Rows.set.Goals as goal
use Rattle.cmc_collector.proofs.rows.Rows.set.Goals.{in-Some, in_default}

pub returns : goal.returns
returns c =
    elim c.match-get_mut.branch [
      | in-Some w ↦ rw (← c.self.view_is, w.self-inside-is) (record {
        rows = row_written c.self.inside.map (c.get_mut.follows.lender c.args.row) c.args.key.now w.in-Some.place.now c.args.row (sym c.get_mut.ensures.value ∙ ap option_copied_mut w.in-Some.is) (c.get_mut.follows.holds c.args.row);
        room = rows_stay c.self.inside.map (c.get_mut.follows.lender c.args.row) c.args.key.now w.in-Some.place.now c.args.row (sym c.get_mut.ensures.value ∙ ap option_copied_mut w.in-Some.is) (c.get_mut.follows.holds c.args.row);
      })
      | in_default w ↦ absurd (row_is_kept c.self.inside.map.entries c.args.key.now (rw c.self.view_is c.requires) (sym c.get_mut.ensures.value ∙ ap option_copied_mut w.in_default.is))
    ]
