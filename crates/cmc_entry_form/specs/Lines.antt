-- What is so of each line that is read.
use Rattle.std.specs.Prelude.{◌≡◌, Ok, Option, Some, None}
use Rattle.base64.specs.GeneralPurpose.{IsBytes}
use Rattle.serde_json.specs.Data.{Data}
use Rattle.cmc_objects.specs.declared.object.Object.{Object}
use Rattle.cmc_objects.specs.declared.orders.Signing.{Signing}
use Rattle.cmc_objects.specs.declared.orders.Signing.TheVariants as answers
use Rattle.cmc_objects.specs.declared.entry.Entry.{Entry}
use Rattle.cmc_status_form.specs.Laws.{HasFormRead}
use Rattle.cmc_lines.specs.Shown.{line_of_entry}
use Rattle.cmc_lines.specs.declared.line.PrintedOrder.{PrintedOrder}
use Rattle.cmc_lines.specs.declared.line.PrintedOrder.TheVariants as asked
use Rattle.cmc_lines.specs.declared.line.PrintedLine.{PrintedLine}
use Rattle.cmc_lines.specs.declared.line.PrintedLine.TheVariants as lines
use Rattle.cmc_entry_form.specs.Entries.{HasForm}
use Rattle.cmc_entry_form.specs.LineForm.{line_at}

-- Some entry of its form shows this.
abbrev pub IsFormedLine : PrintedLine → Type 0
IsFormedLine line = (entry : Entry) × HasForm entry × (line_of_entry entry ≡ line)

-- ---- what the types of a line say

abbrev pub GivenHasForm : Option Object → Type 0
GivenHasForm None = Unit {0}
GivenHasForm (Some object) = HasFormRead object

abbrev pub OrderHasOctets : PrintedOrder → Type 0
OrderHasOctets (asked.Key certificate number) = Unit {0}
OrderHasOctets (asked.Csr key body) = IsBytes key × IsBytes body
OrderHasOctets (asked.Sign number request version) = Unit {0}
OrderHasOctets (asked.Judge request version) = Unit {0}

abbrev pub AnswerHasOctets : Signing → Type 0
AnswerHasOctets (answers.Issued certificate ca) = IsBytes certificate × IsBytes ca
AnswerHasOctets answers.Pending = Unit {0}
AnswerHasOctets (answers.Failed message) = Unit {0}

-- Its octets are bytes, and its object, if it is read, is of its form.
abbrev pub HasOctets : PrintedLine → Type 0
HasOctets (lines.Call call key given version reply who) = GivenHasForm given
HasOctets (lines.Ask pass order) = OrderHasOctets order
HasOctets (lines.Made pass key) = IsBytes key
HasOctets (lines.Signed pass signature) = IsBytes signature
HasOctets (lines.Answered pass answer) = AnswerHasOctets answer
HasOctets other = Unit {0}

-- What is read is shown by some entry of its form.
abbrev pub IsFormedRead : PrintedLine → Type 0
IsFormedRead line = (d : Data) → line_at d ≡ Ok line → IsFormedLine line
