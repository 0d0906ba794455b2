use Rattle.std.proofs.Common.{◌≡◌, true, [], refl, subst}
use Rattle.cmc_informer.specs.declared.marks.Held.{Held}
use Rattle.cmc_informer.specs.Indexes.{has_place}
use Rattle.cmc_informer.specs.Marks.{marked}
use Rattle.cmc_informer.proofs.OneMark.{mark_missing}
use Rattle.cmc_informer.proofs.OneKey.{set_one, set_keeps}
use Rattle.cmc_informer.proofs.marks.Held.set.Goals as goal

pub returns-in-Nothing-clause-marks : goal.returns-in-Nothing-clause-marks
returns-in-Nothing-clause-marks c = rw c.in-Nothing.is (mark_missing [] c.args.key.now c.args.on (subst (λ (held : Held). c.args.on ≡ true → has_place (marked held) c.args.key.now ≡ true) c.in-Nothing.is c.requires) refl)

pub returns-in-One-clause-marks : goal.returns-in-One-clause-marks
returns-in-One-clause-marks c =
    rw c.in-One.is (set_one c.in-One.mark c.set.new.self c.args.key.now c.args.on c.set.ensures (subst (λ (held : Held). c.args.on ≡ true → has_place (marked held) c.args.key.now ≡ true) c.in-One.is c.requires))

pub returns-in-One-clause-keeps : goal.returns-in-One-clause-keeps
returns-in-One-clause-keeps c = rw c.in-One.is (set_keeps c.in-One.mark c.set.new.self c.args.key.now c.args.on c.set.ensures)
