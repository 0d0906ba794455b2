use Rattle.std.proofs.Common.{◌≤◌, ◌∙◌, ap, arith}
use Rattle.cmc_model.specs.Writes.{last_under}
use Rattle.cmc_caches.specs.Board.{Boarded}
use Rattle.cmc_caches.specs.Lines.{last_at}
use Rattle.cmc_caches.proofs.LastNumbers.{known_by_last}
use Rattle.cmc_caches.proofs.board.Board.last_under.Goals as goal

pub returns : goal.returns
returns c =
    let low : last_under c.args.key.now c.self.inside.log.writes ≤ c.self.inside.known = c.last_above-newer.ensures.none (omega (arith, c.if-newer-gt0.false)) in
    c.last_until.ensures ∙ ap (last_at c.self.inside.known) (c.get.ensures ∙ c.self.invariant.lines c.args.key.now) ∙ known_by_last c.self.inside.known c.args.key.now c.self.inside.log.writes low
    ∙ ap (λ (b : Boarded). last_under c.args.key.now b.writes) c.self.view_is
