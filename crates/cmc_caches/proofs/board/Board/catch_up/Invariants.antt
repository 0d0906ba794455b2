use Rattle.std.proofs.Common.{◌≡◌, ◌≤◌, ◌-◌}
use Rattle.cmc_caches.proofs.board.Board.catch_up.Given as goal

abbrev pub invariant-next : goal.invariant-next
invariant-next l = record {
  writes : l.self.writes ≡ l.initial.self.writes;
  spare : l.self.spare ≡ l.initial.self.spare;
  known : l.initial.self.known ≤ l.self.known;
}

abbrev pub decreases-next : goal.decreases-next
decreases-next l = l.to - l.self.known
