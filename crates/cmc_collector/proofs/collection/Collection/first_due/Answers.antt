use Rattle.std.proofs.Common.{subst, sym, ◌≡◌, true}
use Rattle.std.proofs.lemmas.Result.{IfOk-weaker}
use Rattle.std.specs.Option.{option_copied}
use Rattle.cmc_collector.specs.Rows.{Rowed, has_examine_row}
use Rattle.cmc_collector.proofs.Reading.{held_covered}
use Rattle.cmc_collector.proofs.Seeing.{found_due}
use Rattle.cmc_collector.proofs.collection.Collection.first_due.Goals as goal

pub first_due-requires : goal.first_due-requires
first_due-requires c = λ k owned. subst (λ (es : Rowed). has_examine_row es k ≡ true) (sym c.map.ensures) (held_covered _ _ _ _ c.self.invariant k owned)

pub returns : goal.returns
returns c =
    IfOk-weaker c.first_due.result _ _
    (λ key finds. found_due c.self.inside.events c.self.inside.server c.self.inside.caches c.self.inside.rows c.map.result.now.entries c.self.inside.entries.moments c.accepted.result c.args.self.now (option_copied key) c.self.invariant c.map.ensures c.accepted.ensures.state c.self.view_is finds) c.first_due.ensures
