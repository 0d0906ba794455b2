use Rattle.std.proofs.Common.{List, ap, length, sym, ◌∙◌}
use Rattle.cmc_model.specs.declared.write.Write.{Write}
use Rattle.cmc_model.specs.Writes.{last_of_kind}
use Rattle.cmc_store.specs.Kept.{Kept}
use Rattle.cmc_collector.proofs.ByVersion.{none_newest}
use Rattle.cmc_collector.proofs.watched.WatchedStore.new.Goals as goal

pub invariant_of-result : goal.invariant_of-result
invariant_of-result c = record {
  count = ap (λ (ws : List Write). length ws) c.new.ensures.writes ∙ sym (ap (λ (s : Kept). s.state.accepted) c.seeded.ensures);
  last = λ kind. none_newest kind ∙ ap (last_of_kind kind) (sym c.new.ensures.writes);
}
