use Rattle.std.proofs.Common.{◌≡◌, true, rules}
use Rattle.std.specs.Int.{w64}
use Rattle.std.proofs.lemmas.Int.{to_z-of_z}
use Rattle.cmc_store.proofs.Free.{answered_by_name}
use Rattle.cmc_store.proofs.generating.create_named.Goals as goal

pub returns-clause-answer : goal.returns-clause-answer
returns-clause-answer c =
    let on : c.args.generate ≡ true = cc (c.if-not-generate.false) in
    answered_by_name c.args.accepted c.args.now c.args.catalogue.now c.create-2.new.catalogue c.args.object.now c.in_ok-object.object c.args.generate c.create-2.result on c.in_ok-object.ensures
    c.create-2.ensures.reply (rw (to_z-of_z w64 c.args.now (search rules)) at c.create-2.ensures.answer)
