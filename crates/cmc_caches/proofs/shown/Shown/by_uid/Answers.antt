use Rattle.std.proofs.Common.{subst, sym}
use Rattle.cmc_caches.specs.Board.{AreBornWhereNumbered, ShownKind}
use Rattle.cmc_caches.proofs.shown.Shown.by_uid.Goals as goal

pub by_uid-requires-clause-born : goal.by_uid-requires-clause-born
by_uid-requires-clause-born c = subst (λ (s : ShownKind). AreBornWhereNumbered s.writes) (sym c.self.view_is) c.requires
