use Rattle.std.proofs.Common.{◌≡◌, true, drop}
use Rattle.std.specs.Str.{all_ascii_digits}
use Rattle.std.specs.Str.Parse.{digits_value, digits_value_after}
use Rattle.cmc_time.proofs.duration.number.Given as goal

abbrev pub invariant-loop-digit : goal.invariant-loop-digit
invariant-loop-digit l = record {
  rest : digits_value_after 10 l.number (drop l.digit-index l.digits) ≡ digits_value 10 l.digits;
  are_digits : all_ascii_digits (drop l.digit-index l.digits) ≡ true;
}
