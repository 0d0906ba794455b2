use Rattle.std.proofs.Common.{◌≡◌, ℕ, take, true}
use Rattle.cmc_informer.specs.Caches.{names}
use Rattle.cmc_caches.specs.Left.{IsTopped, numbers_under}
use Rattle.cmc_caches.specs.Lines.{is_on_line}
use Rattle.cmc_caches.proofs.left.Left.add_each.Given as goal

abbrev pub invariant-loop-owner : goal.invariant-loop-owner
invariant-loop-owner l = record {
  kept : (u : ℕ) → IsTopped l.number (numbers_under l.initial.self u) (numbers_under l.self u);
  noted : (u : ℕ) → names u (take l.owner-index l.owners) ≡ true → is_on_line l.number (numbers_under l.self u) ≡ true;
}
