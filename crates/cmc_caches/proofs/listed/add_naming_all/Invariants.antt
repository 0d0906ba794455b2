use Rattle.std.proofs.Common.{take}
use Rattle.cmc_caches.specs.Affected.{AddsExisting, AreListedBySecret, KeepsKeys}
use Rattle.cmc_caches.specs.Board.{shown_by}
use Rattle.cmc_caches.proofs.listed.add_naming_all.Given as goal

abbrev pub invariant-loop-secret : goal.invariant-loop-secret
invariant-loop-secret l = record {
  listed : AreListedBySecret (shown_by l.certificates) (take l.secret-index l.secrets) l.keys.items;
  keeps : KeepsKeys l.initial.keys.items l.keys.items;
  adds : AddsExisting (shown_by l.certificates) l.initial.keys.items l.keys.items;
}
