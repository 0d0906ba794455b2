use Rattle.std.proofs.Common.{length, reverse, ap, arith}
use Rattle.cmc_der.specs.Builders.{Building}
use Rattle.cmc_der.specs.Integers.{integer_of}
use Rattle.cmc_der.proofs.Sizes.{added_fits, integer_size}
use Rattle.cmc_der.proofs.writing.Writer.integer.Goals as goal

pub invariant_of-self-2 : goal.invariant_of-self-2
invariant_of-self-2 c =
    let len = ap (λ (b : Building). b.len) c.self.view_is in
    rw (c.in_ok-put_integer.ensures.ok) (added_fits 2 (reverse c.self.inside.levels.items) c.self.inside.octets.items (integer_of c.args.bytes.now) c.self.inside.len (length c.args.bytes.now) (integer_size c.args.bytes.now) c.self.invariant.0, omega (arith, len, c.requires))
