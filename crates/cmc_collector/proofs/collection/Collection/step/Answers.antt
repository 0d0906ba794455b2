use Rattle.std.proofs.Common.{rules}
use Rattle.std.proofs.lemmas.Int.{to_z-of_z}
use Rattle.std.specs.Int.{w64}
use Rattle.cmc_collector.proofs.Turned.{leaves_on}
use Rattle.cmc_collector.proofs.collection.Collection.step.Goals as goal
use Rattle.cmc_collector.proofs.collection.Collection.step.Goals.{in-User+in_ok-make_call-in-User, in-Deliver+in_ok-deliver-in-Deliver, in-Examine+in_ok-examine-in-Examine}

pub returns-clause-leaves : goal.returns-clause-leaves
returns-clause-leaves c =
    let same = to_z-of_z w64 c.args.now (search rules) in
    elim c.match-step-3.branch [
      | in-User+in_ok-make_call-in-User w ↦ leaves_on _ c.args.now c.args.step _ c.args.self.now w.make_call.new.self c.match-step-3.self same w.in-User.is w.self-is w.in_ok-make_call-in-User.ensures.ok
      | in-Deliver+in_ok-deliver-in-Deliver w ↦ leaves_on _ c.args.now c.args.step _ c.args.self.now w.deliver.new.self c.match-step-3.self same w.in-Deliver.is w.self-is w.in_ok-deliver-in-Deliver.ensures.ok
      | in-Examine+in_ok-examine-in-Examine w ↦ leaves_on _ c.args.now c.args.step _ c.args.self.now w.examine.new.self c.match-step-3.self same w.in-Examine.is w.self-is w.in_ok-examine-in-Examine.ensures.ok
    ]
