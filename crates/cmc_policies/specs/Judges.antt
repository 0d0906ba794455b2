-- A closure that judges facts.
use Rattle.std.specs.Prelude.{◌≡◌, Bool}
use Rattle.std.specs.Borrow.{Bor}
use Rattle.std.specs.Fn.{Shared, FnReturnsAt}
use Rattle.cmc_policies.specs.declared.facts.Facts.{Facts}
use Rattle.cmc_policies.specs.declared.facts.Frame.{Frame}
use Rattle.cmc_policies.specs.declared.facts.Reason.{Reason}
use Rattle.cmc_policies.specs.Reasons.{holds, known}

-- the closure may be called on all facts, and answers whether the reason holds of them in the frame
pub record Judges {F : Type 0} (calls : Shared F (Bor Facts × Unit {0}) Bool) (test : F) (reason : Reason) (frame : Frame) : Type 0 where
  pub callable : (facts : Bor Facts) → calls.pre test (facts, tt)
  pub answers : (facts : Facts) (answer : Bool) → FnReturnsAt calls test facts answer → answer ≡ holds reason frame (known facts)
