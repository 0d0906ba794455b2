-- Objects with their status, for which printing and reading agree.
use Rattle.std.specs.Prelude.{◌≡◌, ℤ, ◌<◌, ◌^◌, List, true, Ok, Option, IfSome}
use Rattle.std.specs.List.{AllByRecursion}
use Rattle.base64.specs.GeneralPurpose.{IsBytes}
use Rattle.serde_json.specs.Data.{Data}
use Rattle.cmc_time.specs.Moment.{IsPrintable}
use Rattle.cmc_meta.specs.Names.{is_subdomain}
use Rattle.cmc_meta.specs.ConditionLists.{IsInOrder}
use Rattle.cmc_meta.specs.declared.conditions.Condition.{Condition}
use Rattle.cmc_objects.specs.declared.certificate.CertStatus.{CertStatus}
use Rattle.cmc_objects.specs.declared.request.RequestStatus.{RequestStatus}
use Rattle.cmc_objects.specs.declared.object.Object.{Object}
use Rattle.cmc_objects.specs.declared.object.Object.TheVariants.{Cert, Request, Secret}
use Rattle.cmc_print.specs.Printed.{object_tree}
use Rattle.cmc_codec.specs.ObjectForm.{object_read_at}
use Rattle.cmc_codec.specs.Laws.{HasBytes, bare_meta, bare}
use Rattle.cmc_status_form.specs.WholeForm.{whole_object_at}

-- ---- the form

-- It has stood since a moment that RFC 3339 writes.
abbrev pub HasMoment : Condition → Type 0
HasMoment c = IsPrintable c.since

-- RFC 3339 writes the moment, where there is one.
abbrev pub HasMoments : Option ℤ → Type 0
HasMoments given = IfSome given IsPrintable

-- In order of kind, each kind at most once.
pub record AreConditions (cs : List Condition) : Type 0 where
  pub order : IsInOrder cs
  pub moments : AllByRecursion HasMoment cs

-- Moments that RFC 3339 writes, numbers of 32 and of 64 bits, and a name that is one.
pub record IsCertStatus (s : CertStatus) : Type 0 where
  pub conditions : AreConditions s.conditions
  pub attempts : IfSome s.attempts (λ n. n < 2 ^ 32)
  pub last_failure : HasMoments s.last_failure
  pub next_key : IfSome s.next_key (λ name. is_subdomain name ≡ true)
  pub not_after : HasMoments s.not_after
  pub not_before : HasMoments s.not_before
  pub renewal : HasMoments s.renewal
  pub revision : IfSome s.revision (λ n. n < 2 ^ 64)

-- Octets that are bytes, and moments that RFC 3339 writes.
pub record IsRequestStatus (s : RequestStatus) : Type 0 where
  pub ca : IsBytes s.ca
  pub certificate : IsBytes s.certificate
  pub conditions : AreConditions s.conditions
  pub failure : HasMoments s.failure

abbrev pub HasStatusForm : Object → Type 0
HasStatusForm (Cert c) = IsCertStatus c.status
HasStatusForm (Request r) = IsRequestStatus r.status
HasStatusForm (Secret s) = Unit {0}

-- Without its status it is what reading gives of some value, its octets are bytes, and its status is of its form.
pub record HasWholeForm (o : Object) : Type 0 where
  pub value : Data
  pub is_read : object_read_at value ≡ Ok (bare o)
  pub bytes : HasBytes o
  pub status : HasStatusForm o

-- The octets of its status are bytes, and its revision has 64 bits.
abbrev pub HasStatusWidths : Object → Type 0
HasStatusWidths (Cert c) = IfSome c.status.revision (λ n. n < 2 ^ 64)
HasStatusWidths (Request r) = IsBytes r.status.ca × IsBytes r.status.certificate
HasStatusWidths (Secret s) = Unit {0}

-- ---- the laws

-- The object with its status, without what the store owns.
abbrev pub as_printed : Object → Object
as_printed (Cert c) = Cert (record c { meta = bare_meta c.meta })
as_printed (Request r) = Request (record r { meta = bare_meta r.meta })
as_printed (Secret s) = Secret (record s { meta = bare_meta s.meta })

-- What is printed of an object of the form is read as that object, without what the store owns.
abbrev pub IsWholeAgain : Object → Type 0
IsWholeAgain o = HasWholeForm o → whole_object_at (object_tree o) ≡ Ok (as_printed o)

-- What is read is of the form, and has nothing that the store owns.
abbrev pub HasFormRead : Object → Type 0
HasFormRead o = (d : Data) → whole_object_at d ≡ Ok o → HasWholeForm o × (as_printed o ≡ o)
