-- Which values are right for a question.
use Rattle.std.specs.Prelude.{◌≡◌, is_none}
use Rattle.cmc_objects.specs.declared.orders.Order.{Order}
use Rattle.cmc_objects.specs.declared.orders.Order.TheVariants.{Key, Csr, Sign, Judge}
use Rattle.cmc_keys.specs.Values.{IsKeyValue, IsCsrValue}
use Rattle.cmc_answers.specs.Answers.{IsAnswer}
use Rattle.cmc_answers.specs.Denials.{denial_of}
use Rattle.cmc_pass.specs.declared.value.Value.{Value}
use Rattle.cmc_pass.specs.declared.value.Value.TheVariants.{Made, Signed, Answered, Judged}

-- The value is of the sort of the question and answers it: a key of the kind that was asked for, as its row says; the signature of the
-- body; what the row of the issuer says; whether nothing bars the approval.
abbrev pub IsValue : Order → Value → Type 0
IsValue (Key order) (Made key) = IsKeyValue order key
IsValue (Csr order) (Signed signature) = IsCsrValue order signature
IsValue (Sign order) (Answered answer) = IsAnswer order answer
IsValue (Judge order) (Judged approved) = approved ≡ is_none (denial_of order)
IsValue order value = ⊥
