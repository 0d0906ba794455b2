use Rattle.cmc_caches.proofs.Boards.{board_first}
use Rattle.cmc_caches.proofs.board.Board.of.Goals as goal

pub invariant_of-result : goal.invariant_of-result
invariant_of-result c = board_first c.new.result c.new-2.result c.new-3.result c.new-4.result c.args.log.writes c.new.ensures c.new-2.ensures c.new-3.ensures c.new-4.ensures
