-- What the types of an entry say of it.
use Rattle.std.specs.Prelude.{◌≡◌, ℕ, ◌<◌, ◌^◌, List, true, Option, IfSome}
use Rattle.std.specs.List.{AllByRecursion}
use Rattle.base64.specs.GeneralPurpose.{IsBytes}
use Rattle.cmc_meta.specs.ConditionLists.{IsInOrder}
use Rattle.cmc_meta.specs.Names.{is_subdomain}
use Rattle.cmc_meta.specs.declared.object_meta.ObjectMeta.{ObjectMeta}
use Rattle.cmc_meta.specs.declared.owners.OwnerRef.{OwnerRef}
use Rattle.cmc_objects.specs.declared.certificate.CertSpec.{CertSpec}
use Rattle.cmc_objects.specs.declared.certificate.CertStatus.{CertStatus}
use Rattle.cmc_objects.specs.declared.certificate.Certificate.{Certificate}
use Rattle.cmc_objects.specs.declared.request.CertificateRequest.{CertificateRequest}
use Rattle.cmc_objects.specs.declared.request.RequestStatus.{RequestStatus}
use Rattle.cmc_objects.specs.declared.secret.Secret.{Secret as SecretObject}
use Rattle.cmc_objects.specs.declared.object.Object.{Object}
use Rattle.cmc_objects.specs.declared.object.Object.TheVariants.{Cert, Request, Secret}
use Rattle.cmc_objects.specs.declared.call.Call.{Call}
use Rattle.cmc_objects.specs.declared.call.Call.TheVariants.{Create, Update, UpdateStatus, Delete, Get}
use Rattle.cmc_objects.specs.declared.call.Reply.{Reply}
use Rattle.cmc_objects.specs.declared.call.Reply.TheVariants as replies
use Rattle.cmc_objects.specs.declared.orders.Order.{Order}
use Rattle.cmc_objects.specs.declared.orders.Order.TheVariants as orders
use Rattle.cmc_objects.specs.declared.orders.Signing.{Signing}
use Rattle.cmc_objects.specs.declared.orders.Signing.TheVariants as answers
use Rattle.cmc_objects.specs.declared.entry.Entry.{Entry}
use Rattle.cmc_objects.specs.declared.entry.Entry.TheVariants.{Call as Called, Begin, Ask, Made, Signed, Answered}
use Rattle.cmc_codec.specs.Laws.{EachValue, IsOrdered}
use Rattle.cmc_audit_calls.specs.CallsOfLines.{IsOfNames}

-- ---- metadata

abbrev pub IsTypedOwner : OwnerRef → Type 0
IsTypedOwner o = (o.uid < 2 ^ 64) × (is_subdomain o.name ≡ true)

pub record IsTypedMeta (m : ObjectMeta) : Type 0 where
  pub namespace : is_subdomain m.namespace ≡ true
  pub name : is_subdomain m.name ≡ true
  pub labels : IsOrdered m.labels
  pub annotations : IsOrdered m.annotations
  pub owners : AllByRecursion IsTypedOwner m.owners

-- ---- objects

-- a number of 32 bits, and one of 64, where there is one
abbrev pub IsSmall : Option ℕ → Type 0
IsSmall n = IfSome n (λ x. x < 2 ^ 32)

abbrev pub IsWide : Option ℕ → Type 0
IsWide n = IfSome n (λ x. x < 2 ^ 64)

pub record IsTypedSpec (s : CertSpec) : Type 0 where
  pub secret : is_subdomain s.secret_name ≡ true
  pub size : IsSmall s.key.size
  pub percent : IsSmall s.renew_percent
  pub limit : IsSmall s.history_limit

pub record IsTypedStatus (s : CertStatus) : Type 0 where
  pub order : IsInOrder s.conditions
  pub attempts : IsSmall s.attempts
  pub next_key : IfSome s.next_key (λ name. is_subdomain name ≡ true)
  pub revision : IsWide s.revision

pub record IsTypedCertificate (c : Certificate) : Type 0 where
  pub meta : IsTypedMeta c.meta
  pub spec : IsTypedSpec c.spec
  pub status : IsTypedStatus c.status

pub record IsTypedAnswer (s : RequestStatus) : Type 0 where
  pub order : IsInOrder s.conditions
  pub certificate : IsBytes s.certificate
  pub ca : IsBytes s.ca

pub record IsTypedRequest (r : CertificateRequest) : Type 0 where
  pub meta : IsTypedMeta r.meta
  pub request : IsBytes r.spec.request
  pub status : IsTypedAnswer r.status

pub record IsTypedSecret (k : SecretObject) : Type 0 where
  pub meta : IsTypedMeta k.meta
  pub order : IsOrdered k.parts
  pub parts : EachValue IsBytes k.parts

abbrev pub IsTypedObject : Object → Type 0
IsTypedObject (Cert c) = IsTypedCertificate c
IsTypedObject (Request r) = IsTypedRequest r
IsTypedObject (Secret k) = IsTypedSecret k

-- ---- entries

abbrev pub IsTypedCall : Call → Type 0
IsTypedCall (Create object generate) = IsTypedObject object
IsTypedCall (Update object named) = IsTypedObject object
IsTypedCall (UpdateStatus object named) = IsTypedObject object
IsTypedCall (Delete key named) = IsOfNames key
IsTypedCall (Get key) = IsOfNames key

abbrev pub IsTypedReply : Reply → Type 0
IsTypedReply (replies.Ok version name) = is_subdomain name ≡ true
IsTypedReply (replies.Invalid rule) = rule < 2 ^ 32
IsTypedReply other = Unit {0}

abbrev pub IsOfNamedRequest : CertificateRequest → Type 0
IsOfNamedRequest r = (is_subdomain r.meta.namespace ≡ true) × (is_subdomain r.meta.name ≡ true)

abbrev pub IsTypedOrder : Order → Type 0
IsTypedOrder (orders.Key order) = IsOfNames order.certificate
IsTypedOrder (orders.Csr order) = IsBytes order.key × IsBytes order.body
IsTypedOrder (orders.Sign order) = IsOfNamedRequest order.request
IsTypedOrder (orders.Judge order) = IsOfNamedRequest order.request

abbrev pub IsTypedValue : Signing → Type 0
IsTypedValue (answers.Issued certificate ca) = IsBytes certificate × IsBytes ca
IsTypedValue answers.Pending = Unit {0}
IsTypedValue (answers.Failed message) = Unit {0}

abbrev pub IsTypedEntry : Entry → Type 0
IsTypedEntry (Called who call reply) = IsTypedCall call × IsTypedReply reply
IsTypedEntry (Begin pass role key at now) = IsOfNames key
IsTypedEntry (Ask pass order) = IsTypedOrder order
IsTypedEntry (Made pass key) = IsBytes key
IsTypedEntry (Signed pass signature) = IsBytes signature
IsTypedEntry (Answered pass answer) = IsTypedValue answer
IsTypedEntry other = Unit {0}

abbrev pub AreTyped : List Entry → Type 0
AreTyped h = AllByRecursion IsTypedEntry h
