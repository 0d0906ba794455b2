-- The question and the value of what is given back.
use Rattle.std.specs.Prelude.{is_none}
use Rattle.cmc_objects.specs.declared.orders.Order.{Order}
use Rattle.cmc_objects.specs.declared.orders.Order.TheVariants as orders
use Rattle.cmc_pass.specs.declared.value.Value.{Value}
use Rattle.cmc_pass.specs.declared.value.Value.TheVariants as values
use Rattle.cmc_pass.specs.declared.given.Given.{Given}
use Rattle.cmc_pass.specs.declared.given.Given.TheVariants.{Made, Signed, Answered, Judged}

abbrev pub order_of : Given → Order
order_of (Made made) = orders.Key made.order
order_of (Signed signed) = orders.Csr signed.order
order_of (Answered answered) = orders.Sign answered.order
order_of (Judged judged) = orders.Judge judged.order

abbrev pub value_of : Given → Value
value_of (Made made) = values.Made made.bytes
value_of (Signed signed) = values.Signed signed.signature
value_of (Answered answered) = values.Answered answered.answer
value_of (Judged judged) = values.Judged (is_none judged.denial)
