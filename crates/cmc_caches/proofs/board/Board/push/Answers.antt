use Rattle.std.proofs.Common.{List, subst, sym}
use Rattle.cmc_model.specs.declared.write.Write.{Write}
use Rattle.cmc_caches.specs.Board.{IsBoard}
use Rattle.cmc_caches.proofs.Boards.{board_pushed}
use Rattle.cmc_caches.proofs.board.Board.push.Goals as goal

pub invariant_of-self : goal.invariant_of-self
invariant_of-self c =
    subst (λ (ws : List Write). IsBoard c.self.inside.lines c.self.inside.certificates c.self.inside.requests c.self.inside.secrets c.self.inside.known ws) (sym c.push.ensures.writes)
    (board_pushed c.self.inside.lines c.self.inside.certificates c.self.inside.requests c.self.inside.secrets c.self.inside.known c.args.write c.self.inside.log.writes c.self.invariant)
