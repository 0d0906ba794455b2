use Rattle.std.proofs.Common.{arith, length, ap}
use Rattle.std.proofs.lemmas.Option.{slice_get_within}
use Rattle.cmc_collector.specs.Owners.{owners_of}
use Rattle.cmc_collector.proofs.examination.Examination.after.Goals as goal

pub overflow_add-result : goal.overflow_add-result
overflow_add-result c = let within = slice_get_within (owners_of c.args.self.object) c.args.self.next _ c.requires in let same = ap length c.as_slice-owners.ensures in let of = ap (λ m. length m.owners) c.meta.ensures in omega (arith, within, same, of)
