use Rattle.cmc_model.proofs.Maps.{entries-from_entries}
use Rattle.cmc_store.proofs.shelf.Shelf.objects.Goals as goal

pub returns : goal.returns
returns c = rw (← c.self.view_is) (entries-from_entries _ c.iter-entries.ensures.ordered)
