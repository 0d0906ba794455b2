use Rattle.std.proofs.Common.{ap, inl, refl, sym, ◌∙◌}
use Rattle.cmc_queue.specs.declared.row.Found.{Found}
use Rattle.cmc_queue.specs.declared.row.Row.{Row}
use Rattle.cmc_queue.specs.Rows.{is_found, lapsed, looked}
use Rattle.cmc_queue.proofs.Counts.{none_counted}
use Rattle.cmc_queue.proofs.RowOrder.{finds_none}
use Rattle.cmc_queue.proofs.Ticking.{lapsed_all, lapsing_on}
use Rattle.cmc_queue.proofs.Waits.{changed_by_put}
use Rattle.cmc_queue.proofs.rows.Rows.lapse.Goals as goal

pub returns-then-self-eq0-clause-rows : goal.returns-then-self-eq0-clause-rows
returns-then-self-eq0-clause-rows c =
    let es = c.self.inside.map.entries in
    rw (← c.self.view_is) (lapsed_all es es (λ k. inl refl) (finds_none is_found es refl (λ i e at. none_counted is_found es i e (sym c.self.invariant.found ∙ c.if-self-eq0.true) at)))

pub loop-at-preserved : goal.loop-at-preserved
loop-at-preserved c =
    let f = λ (r : Row). looked (lapsed r.work) r in
    let at = c.in-Some.ensures.at in
    let mine = c.in-Some.ensures.row at.0 at.1 in
    record {
      lapsing = lapsing_on c.args.self.now c.loop-at.self c.write.new.self at.0 c.loop-at.invariant.lapsing
          (changed_by_put f c.loop-at.self c.write.new.self at.0 c.looked.result (c.looked.ensures ∙ ap (λ (work : Found). looked work c.in-Some.row) c.lapsed.ensures ∙ ap f mine) (c.write.ensures.rows at.0 at.1));
      room = λ k. c.write.ensures.room k ∙ c.loop-at.invariant.room k;
    }
