use Rattle.std.proofs.Common.{take}
use Rattle.cmc_caches.specs.Affected.{AddsExisting, AreListedByUid, KeepsKeys}
use Rattle.cmc_caches.specs.Board.{shown_by}
use Rattle.cmc_caches.proofs.listed.add_with_uids.Given as goal

abbrev pub invariant-loop-uid : goal.invariant-loop-uid
invariant-loop-uid l = record {
  listed : AreListedByUid (shown_by l.certificates) (take l.uid-index l.uids) l.keys.items;
  keeps : KeepsKeys l.initial.keys.items l.keys.items;
  adds : AddsExisting (shown_by l.certificates) l.initial.keys.items l.keys.items;
}
