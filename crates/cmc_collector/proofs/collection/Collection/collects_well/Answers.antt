use Rattle.std.proofs.Common.{subst}
use Rattle.cmc_collector.specs.Owners.{CollectsWell}
use Rattle.cmc_collector.specs.Replays.{Collecting, on}
use Rattle.cmc_collector.proofs.Promise.{collects_well}
use Rattle.cmc_collector.proofs.collection.Collection.collects_well.Goals as goal

pub returns : goal.returns
returns c = subst (λ (v : Collecting). on CollectsWell v) c.self.view_is (collects_well _ _ c.self.invariant.collected)
