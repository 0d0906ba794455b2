-- Values that are written, within the size that is read, are values of the grammar.
use Rattle.std.proofs.Common.{◌≢◌, ℕ, ◌%◌, ◌≤◌, List, [], ◌++◌, length, sym, arith, append-nil, length-append}
use Rattle.cmc_der.specs.Values.{IsDerValue, BeginsWith}
use Rattle.cmc_der.specs.Builders.{value, length_octets}
use Rattle.cmc_der.proofs.Spelled.{value_spelled, value_begins}

-- within the size that is read
abbrev pub IsSmall : List ℕ → Type 0
IsSmall octets = length octets ≤ 16777216

-- the contents octets are no longer than the value
pub contents_small : (tag : ℕ) (body : List ℕ) → IsSmall (value tag body) → IsSmall body
unfolding value
contents_small tag body small = omega (arith, length-append (length_octets (length body)) body)

pub front_small : (a b : List ℕ) → IsSmall (a ++ b) → IsSmall a
front_small a b small = omega (arith, length-append a b)

pub back_small : (a b : List ℕ) → IsSmall (a ++ b) → IsSmall b
back_small a b small = omega (arith, length-append a b)

-- the octets of a value are that value
pub value_is : (tag : ℕ) (body : List ℕ) → tag % 32 ≢ 31 → IsSmall (value tag body) → IsDerValue (value tag body) tag body
value_is tag body low small = value_spelled tag body low (omega (arith, contents_small tag body small))

-- also where others stand behind them
pub value_first : (tag : ℕ) (body rest : List ℕ) → tag % 32 ≢ 31 → IsSmall (value tag body ++ rest) → BeginsWith (value tag body ++ rest) tag body rest
value_first tag body rest low small =
    value_begins tag body rest low (omega (arith, contents_small tag body (front_small (value tag body) rest small)))

-- and where nothing does
pub value_last : (tag : ℕ) (body : List ℕ) → tag % 32 ≢ 31 → IsSmall (value tag body) → BeginsWith (value tag body) tag body []
value_last tag body low small = (value tag body, value_is tag body low small, sym (append-nil (value tag body)))
