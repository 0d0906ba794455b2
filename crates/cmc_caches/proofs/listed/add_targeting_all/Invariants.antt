use Rattle.std.proofs.Common.{◌≡◌, take, true}
use Rattle.cmc_meta.specs.declared.key.Key.{Key}
use Rattle.cmc_model.specs.Objects.{object_at}
use Rattle.cmc_informer.specs.Caches.{is_targeting}
use Rattle.cmc_caches.specs.Affected.{AddsExisting, KeepsKeys, is_among}
use Rattle.cmc_caches.specs.Board.{shown_by}
use Rattle.cmc_caches.proofs.listed.add_targeting_all.Given as goal

abbrev pub invariant-loop-key : goal.invariant-loop-key
invariant-loop-key l = record {
  listed : (k : Key) → is_among (take l.key-index l.more) k ≡ true → is_targeting l.secret.namespace l.secret.name (object_at (shown_by l.certificates) k) ≡ true → is_among l.keys.items k ≡ true;
  keeps : KeepsKeys l.initial.keys.items l.keys.items;
  adds : AddsExisting (shown_by l.certificates) l.initial.keys.items l.keys.items;
}
