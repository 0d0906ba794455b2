use Rattle.std.proofs.Common.{subst, sym}
use Rattle.std.specs.Prelude.{IfOk}
use Rattle.cmc_moves.specs.Answers.{Answers}
use Rattle.cmc_moves.specs.declared.moves.Move.{Move}
use Rattle.cmc_kernel.specs.Kept.{on}
use Rattle.cmc_world.proofs.world.World.make.Goals as goal

pub returns-in-Begin-clause-answer : goal.returns-in-Begin-clause-answer
returns-in-Begin-clause-answer c = subst (λ (m : Move). IfOk c.step_begin.result (λ r. on Answers c.args.self.now m r)) (sym c.in-Begin.is) c.step_begin.ensures.answer
