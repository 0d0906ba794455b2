use Rattle.std.proofs.Common.{◌≡◌, take}
use Rattle.cmc_load_laws.specs.Measure.{requests_part}
use Rattle.cmc_load_tests.proofs.left.requests_part.Given as goal

abbrev pub invariant-loop-request : goal.invariant-loop-request
invariant-loop-request l = l.sum ≡ requests_part l.desk l.now (take l.request-index l.requests)
