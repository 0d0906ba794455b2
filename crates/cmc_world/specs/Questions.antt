-- Where a pass asked its question, and of what sort that is.
use Rattle.std.specs.Prelude.{ℕ, ◌==◌, Bool, false, List, [], ◌∷◌, length, if◌then◌else◌}
use Rattle.cmc_objects.specs.declared.entry.Entry.{Entry}
use Rattle.cmc_objects.specs.declared.entry.Entry.TheVariants.{Ask}
use Rattle.cmc_objects.specs.declared.orders.Order.{Order}
use Rattle.cmc_objects.specs.declared.orders.Order.TheVariants as orders
use Rattle.cmc_world.specs.declared.gate.Work.{Work}
use Rattle.cmc_world.specs.declared.gate.Work.TheVariants as works

-- the pass of this number asks in this entry
abbrev pub asks : ℕ → Entry → Bool
asks number (Ask pass order) = pass == number
asks number other = false

-- the number of the entry in which the pass asked last, 0 where it asked nothing
unfoldable pub ask_number : ℕ → List Entry → ℕ
ask_number pass [] = 0
ask_number pass (e ∷ h) = if asks pass e then length (e ∷ h) else ask_number pass h

abbrev pub work_of : Order → Work
work_of (orders.Key order) = works.Key
work_of (orders.Csr order) = works.Csr
work_of (orders.Sign order) = works.Sign
work_of (orders.Judge order) = works.Judge
