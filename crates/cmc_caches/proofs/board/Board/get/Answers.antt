use Rattle.std.proofs.Common.{◌≤◌, ◌∙◌, ℕ, ap, subst, sym}
use Rattle.cmc_model.specs.Objects.{object_at}
use Rattle.cmc_model.specs.Writes.{write_at}
use Rattle.cmc_caches.specs.Board.{Boarded, objects_by}
use Rattle.cmc_caches.specs.Lines.{last_at, left_by_write}
use Rattle.cmc_caches.proofs.Boards.{answers_none, answers_of}
use Rattle.cmc_caches.proofs.board.Board.get.Goals as goal

pub returns-then-eq : goal.returns-then-eq
returns-then-eq c =
    let low = subst (λ (b : Boarded). c.args.position ≤ b.known) (sym c.self.view_is) c.requires in
    c.object_of.ensures ∙ ap left_by_write c.write.ensures
    ∙ ap (λ (n : ℕ). left_by_write (write_at n c.self.inside.log.writes)) (c.last_until-number.ensures ∙ ap (last_at c.args.position) c.get.ensures)
    ∙ answers_of c.self.inside.lines c.self.inside.certificates c.self.inside.requests c.self.inside.secrets c.args.kind c.self.inside.known c.args.position c.args.key.now c.self.inside.log.writes low c.self.invariant
    (sym c.eq.ensures ∙ c.if-eq.true)
    ∙ ap (λ (b : Boarded). object_at (objects_by c.args.kind c.args.position b.writes) c.args.key.now) c.self.view_is

pub returns : goal.returns
returns c = answers_none c.args.kind c.args.position c.args.key.now c.args.self.now.writes (sym c.eq.ensures ∙ c.if-eq.false)
