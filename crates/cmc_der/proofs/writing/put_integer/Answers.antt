use Rattle.std.proofs.Common.{arith}
use Rattle.cmc_der.proofs.Sizes.{trimmed_size}
use Rattle.cmc_der.proofs.writing.put_integer.Goals as goal

pub put_signed-requires : goal.put_signed-requires
put_signed-requires c = rw (c.without_zeros.ensures) (omega (arith, trimmed_size c.args.bytes.now, c.requires))
