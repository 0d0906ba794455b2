use Rattle.std.proofs.Common.{arith}
use Rattle.std.proofs.lemmas.Bool.Decides.{nat_tests}
use Rattle.cmc_caches.proofs.Walks.{none_at_all, none_newer}
use Rattle.cmc_caches.proofs.walk.has_newer.Goals as goal

pub returns-then-is_empty : goal.returns-then-is_empty
returns-then-is_empty c is k ws = none_at_all c.args.position c.args.numbers.now k ws (grind (arith, nat_tests))

pub returns : goal.returns
returns c is k ws = none_newer c.args.position c.args.numbers.now k ws (grind (arith, nat_tests)) c.requires (grind (arith, nat_tests))
