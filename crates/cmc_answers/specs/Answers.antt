-- Answers to questions to issuers.
use Rattle.std.specs.Prelude.{◌≡◌, Bool, true, false}
use Rattle.cmc_objects.specs.Requests.{Signs}
use Rattle.cmc_objects.specs.declared.rows.SignRow.{SignRow}
use Rattle.cmc_objects.specs.declared.rows.SignRow.TheVariants.{Issue, Pending, Fail, Raw, Free}
use Rattle.cmc_objects.specs.declared.orders.Signing.{Signing}
use Rattle.cmc_answers.specs.Signings.{signing_of}

-- a row that leaves the answer open
abbrev pub is_left_open : SignRow → Bool
is_left_open (Issue seconds before serial key ca) = false
is_left_open Pending = false
is_left_open (Fail message) = false
is_left_open (Raw der) = false
is_left_open Free = true

-- what the row of the question says
abbrev pub scripted_answer : Signs → Signing
scripted_answer order = signing_of order.row order.number order.request order.moment

-- the answer is what the row says, unless the row leaves it open
abbrev pub IsAnswer : Signs → Signing → Type 0
IsAnswer order answer = is_left_open order.row ≡ false → answer ≡ scripted_answer order

-- what contracts see of an answered question
pub record AnsweredQuestion : Type 0 where
  pub order : Signs
  pub answer : Signing
