-- What contracts see of a store.
use Rattle.std.specs.Prelude.{ℕ, List}
use Rattle.cmc_model.specs.Replies.{State}

pub record Kept : Type 0 where
  -- the numbers of the calls that fail
  pub faults : List ℕ
  pub state : State
