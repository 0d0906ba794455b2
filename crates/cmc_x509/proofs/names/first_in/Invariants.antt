use Rattle.std.proofs.Common.{◌≡◌, length}
use Rattle.cmc_der.specs.Keys.{text_shown}
use Rattle.cmc_x509.specs.Lists.{first_at, after_found}
use Rattle.cmc_x509.proofs.names.first_in.Given as goal

abbrev pub invariant-loop-rest : goal.invariant-loop-rest
invariant-loop-rest g l = after_found (text_shown l.found) (first_at g.P.Part.reads l.rest) ≡ first_at g.P.Part.reads l.body

abbrev pub decreases-loop-rest : goal.decreases-loop-rest
decreases-loop-rest g l = length l.rest
