use Rattle.std.proofs.Common.{length, reverse, ap, arith}
use Rattle.cmc_der.specs.Builders.{Building}
use Rattle.cmc_der.proofs.Sizes.{added_fits}
use Rattle.cmc_der.proofs.writing.Writer.octets.Goals as goal

pub invariant_of-self-2 : goal.invariant_of-self-2
invariant_of-self-2 c =
    let len = ap (λ (b : Building). b.len) c.self.view_is in
    rw (c.in_ok-put.ensures.ok) (added_fits c.args.tag (reverse c.self.inside.levels.items) c.self.inside.octets.items c.args.bytes.now c.self.inside.len (length c.args.bytes.now) (omega arith) c.self.invariant.0, omega (arith, len, c.requires.fits))
