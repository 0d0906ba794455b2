-- What the entries of each run bring, as far as types do not say it.
use Rattle.std.specs.Prelude.{◌≡◌, ℕ, List, Option, Some, true}
use Rattle.std.specs.List.{AllByRecursion}
use Rattle.cmc_meta.specs.declared.key.Kind.TheVariants.{Certificate}
use Rattle.cmc_objects.specs.declared.object.Object.{Object}
use Rattle.cmc_objects.specs.declared.object.Object.TheVariants.{Cert, Request, Secret}
use Rattle.cmc_objects.specs.declared.call.Call.{Call}
use Rattle.cmc_objects.specs.declared.call.Call.TheVariants.{Create, Update, UpdateStatus, Delete, Get}
use Rattle.cmc_objects.specs.declared.orders.Order.{Order}
use Rattle.cmc_objects.specs.declared.orders.Order.TheVariants as orders
use Rattle.cmc_objects.specs.declared.entry.Step.{Step}
use Rattle.cmc_objects.specs.declared.entry.Step.TheVariants.{Apply}
use Rattle.cmc_objects.specs.declared.entry.Entry.{Entry}
use Rattle.cmc_objects.specs.declared.entry.Entry.TheVariants.{Call as Called, Begin, Ask, Tick}
use Rattle.cmc_objects.specs.Objects.{no_cert_status, no_request_status}
use Rattle.cmc_objects.specs.Requests.{is_run_time}
use Rattle.cmc_objects.specs.Informers.{kind_of_work}
use Rattle.cmc_rules.specs.Dates.{IsDated}
use Rattle.cmc_rules.specs.Scripts.{step_at}
use Rattle.cmc_setup.specs.ObjectForms.{is_object_form}

-- ---- what a script applies

abbrev pub HasNoStatus : Object → Type 0
HasNoStatus (Cert c) = c.status ≡ no_cert_status
HasNoStatus (Request r) = r.status ≡ no_request_status
HasNoStatus (Secret k) = Unit {0}

-- each object that a step applies comes without a status, as reading gives it
abbrev pub ApplyBare : List Step → Type 0
ApplyBare script = (number : ℕ) (object : Object) (version : Option ℕ) → step_at script number ≡ Some (Apply object version) → HasNoStatus object

-- ---- what entries bring

-- The object is of the form that is read, and each moment of its status lies in the years that can be written.
abbrev pub IsGiven : Object → Type 0
IsGiven o = (is_object_form o ≡ true) × IsDated (Some o)

abbrev pub BringsGiven : Call → Type 0
BringsGiven (Create object generate) = IsGiven object
BringsGiven (Update object named) = IsGiven object
BringsGiven (UpdateStatus object named) = IsGiven object
BringsGiven (Delete key named) = Unit {0}
BringsGiven (Get key) = Unit {0}

-- A key is asked for a Certificate.
abbrev pub IsForCertificate : Order → Type 0
IsForCertificate (orders.Key order) = order.certificate.kind ≡ Certificate
IsForCertificate other = Unit {0}

abbrev pub IsGivenEntry : Entry → Type 0
IsGivenEntry (Called who call reply) = BringsGiven call
IsGivenEntry (Begin pass role key at now) = (key.kind ≡ kind_of_work role) × (is_run_time now ≡ true)
IsGivenEntry (Ask pass order) = IsForCertificate order
IsGivenEntry (Tick now) = is_run_time now ≡ true
IsGivenEntry other = Unit {0}

abbrev pub AreGiven : List Entry → Type 0
AreGiven h = AllByRecursion IsGivenEntry h
