use Rattle.std.proofs.Common.{◌≡◌, ◌++◌, flat_map, drop}
use Rattle.cmc_x509_build.specs.Octets.{address_octets}
use Rattle.cmc_x509_build.proofs.names.push_addresses.Given as goal

abbrev pub invariant-loop-text : goal.invariant-loop-text
invariant-loop-text l = l.names.items ++ flat_map address_octets (drop l.text-index l.texts) ≡ l.fn.names.items ++ flat_map address_octets l.texts
