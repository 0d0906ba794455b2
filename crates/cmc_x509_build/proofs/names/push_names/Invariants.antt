use Rattle.std.proofs.Common.{◌≡◌, ◌++◌, flat_map, drop}
use Rattle.cmc_der.specs.Builders.{value}
use Rattle.cmc_x509_build.proofs.names.push_names.Given as goal

abbrev pub invariant-loop-text : goal.invariant-loop-text
invariant-loop-text l = l.names.items ++ flat_map (value l.tag) (drop l.text-index l.texts) ≡ l.fn.names.items ++ flat_map (value l.tag) l.texts
