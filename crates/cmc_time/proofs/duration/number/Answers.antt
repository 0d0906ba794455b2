use Rattle.std.proofs.Common.{arith, drop}
use Rattle.cmc_time.proofs.Digits.{digits_value_nine, digits_value_after_grows}
use Rattle.cmc_time.proofs.duration.number.Goals as goal

pub overflow_mul-number : goal.overflow_mul-number
overflow_mul-number c =
    let ds = c.args.digits.now in
    omega (arith, digits_value_nine ds c.requires.are_digits c.requires.few, digits_value_after_grows c.loop-digit.number (drop c.loop-digit.digit-index ds), c.loop-digit.invariant.rest)

pub overflow_add-number : goal.overflow_add-number
overflow_add-number c =
    let ds = c.args.digits.now in
    omega (arith, digits_value_nine ds c.requires.are_digits c.requires.few, digits_value_after_grows c.loop-digit.number (drop c.loop-digit.digit-index ds), c.loop-digit.invariant.rest, c.type_inv.digits c.loop-digit.digit-index)

pub returns-clause-bound : goal.returns-clause-bound
returns-clause-bound c =
    let ds = c.args.digits.now in
    omega (arith, digits_value_nine ds c.requires.are_digits c.requires.few, digits_value_after_grows c.loop-digit.number (drop c.loop-digit.digit-index ds), c.loop-digit.invariant.rest)
