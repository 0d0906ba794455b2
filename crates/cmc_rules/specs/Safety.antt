-- What is promised of each Secret that is issued, each question to an issuer, each revision that rises and each approval.
use Rattle.std.specs.Prelude.{◌≡◌, ◌≢◌, ◌⊎◌, ℕ, ℤ, ◌+◌, true, false, MatchBool, List, [], ◌∷◌, codes, Option, Some, None}
use Rattle.cmc_meta.specs.declared.key.Key.{Key}
use Rattle.cmc_meta.specs.declared.conditions.ConditionKind.TheVariants as conditions
use Rattle.cmc_meta.specs.declared.conditions.Tri.TheVariants as tri
use Rattle.cmc_meta.specs.ConditionLists.{condition_at}
use Rattle.cmc_meta.specs.PairLists.{text_by_key}
use Rattle.cmc_objects.specs.declared.certificate.Certificate.{Certificate}
use Rattle.cmc_objects.specs.declared.request.CertificateRequest.{CertificateRequest}
use Rattle.cmc_objects.specs.declared.secret.Secret.{Secret as SecretObject}
use Rattle.cmc_objects.specs.declared.object.Object.{Object}
use Rattle.cmc_objects.specs.declared.object.Object.TheVariants.{Cert, Request, Secret}
use Rattle.cmc_objects.specs.declared.orders.Order.{Order}
use Rattle.cmc_objects.specs.declared.orders.Order.TheVariants as orders
use Rattle.cmc_objects.specs.declared.role.Role.{Role}
use Rattle.cmc_objects.specs.declared.role.Role.TheVariants as roles
use Rattle.cmc_objects.specs.declared.call.Call.{Call}
use Rattle.cmc_objects.specs.declared.call.Call.TheVariants.{Create, Update, UpdateStatus, Get}
use Rattle.cmc_objects.specs.declared.call.Reply.{Reply}
use Rattle.cmc_objects.specs.declared.call.Reply.TheVariants as replies
use Rattle.cmc_objects.specs.declared.entry.Who.{Who}
use Rattle.cmc_objects.specs.declared.entry.Who.TheVariants.{User, Pass}
use Rattle.cmc_objects.specs.declared.entry.Entry.{Entry}
use Rattle.cmc_objects.specs.declared.entry.Entry.TheVariants.{Script, Call as Called, Deliver, List as Listed, Begin, Ask, Made, Signed, Answered, Judged, End, Stop, Start, Tick}
use Rattle.cmc_objects.specs.Requests.{is_approved, is_denied}
use Rattle.cmc_der.specs.Keys.{CertificateFields}
use Rattle.cmc_match.specs.Marks.{is_temporary, asks_for_temporary}
use Rattle.cmc_match.specs.Matches.{Matches}
use Rattle.cmc_match.specs.Facts.{IsPair, HasRequestedKey, key_in, certificate_file_in}
use Rattle.cmc_match.specs.Revisions.{only_of}
use Rattle.cmc_answers.specs.Temporary.{temporary}
use Rattle.cmc_pass.specs.declared.pass.Views.{Views}
use Rattle.cmc_model.specs.Objects.{object_at}
use Rattle.cmc_model.specs.Replies.{is_accepted, key_of_call, settled, stored}
use Rattle.cmc_model.specs.Histories.{Setting, moment, objects, accepted}
use Rattle.cmc_model.specs.Versions.{HasVersion}
use Rattle.cmc_model.specs.Writes.{writes}
use Rattle.cmc_rules.specs.declared.progress.OpenPass.{OpenPass}
use Rattle.cmc_rules.specs.Views.{is_owned, has_next_label}
use Rattle.cmc_rules.specs.Passes.{open_pass}
use Rattle.cmc_rules.specs.Revisions.{stated_revision, revision_of_uid, RaisesRevision}
use Rattle.cmc_rules.specs.SeenObjects.{IsAmong}
use Rattle.cmc_rules.specs.Rights.{IsRightfulEntry}

-- an entry of this kind stands in the history
abbrev pub HasEntry : (Entry → Type 0) → List Entry → Type 0
HasEntry P [] = ⊥
HasEntry P (e ∷ h) = P e ⊎ HasEntry P h

-- no version of the request's uid is denied, in the whole history
abbrev pub IsNeverDenied : Setting → List Entry → CertificateRequest → Type 0
IsNeverDenied s whole r = (key : Key) (o : CertificateRequest) → HasVersion s whole key (Request o) → o.meta.uid ≡ r.meta.uid → is_denied o ≡ false

-- ---- a Secret that issuing writes

-- the live read of the pass was answered with the Certificate
abbrev pub IsLiveRead : ℕ → Certificate → Entry → Type 0
IsLiveRead pass c e = (key : Key) × (e ≡ Called (Pass pass) (Get key) (replies.Found (Cert c)))

-- the issuer has issued: Ready is True with this reason
pub record IsIssued (r : CertificateRequest) : Type 0 where
  pub since : ℤ
  pub message : List ℕ
  pub ready : condition_at r.status.conditions conditions.Ready ≡ Some (record { kind = conditions.Ready; status = tri.True; reason = codes "Issued"; message = message; since = since })

-- A certificate of an issuer: the request was approved and is denied in no version, the issuer has issued, and the Secret has the
-- certificate that stands in the request's status.
pub record IsOfIssuer (s : Setting) (whole : List Entry) (r : CertificateRequest) (written : SecretObject) : Type 0 where
  pub approved : is_approved r ≡ true
  pub never_denied : IsNeverDenied s whole r
  pub issued : IsIssued r
  pub certificate : certificate_file_in written ≡ Some r.status.certificate

-- A temporary certificate, which no issuer has signed: the Certificate asks for one, the request is not denied, and it is the one of the
-- request and the key at the moment at which the pass began.
pub record IsTemporaryCertificate (c : Certificate) (r : CertificateRequest) (file : List ℕ) (since : ℤ) (written : SecretObject) : Type 0 where
  pub asked_for : asks_for_temporary c ≡ true
  pub not_denied : is_denied r ≡ false
  pub stand_in : List ℕ
  pub is_stand_in : temporary r.spec.request file since ≡ Some stand_in
  pub certificate : certificate_file_in written ≡ Some stand_in
  pub no_ca : text_by_key written.parts (codes "ca.crt") ≡ None

-- A good issue. Of what the pass saw: the Certificate, as it was read live; the one request of the revision in progress, which asks for
-- what the Certificate asks for; and the key that the Certificate's status names. The Secret has the Certificate's namespace and the name
-- that it gives; its key is this key, and with its certificate and the request it has one public key, of the kind that is asked for.
pub record IsGoodIssue (s : Setting) (whole h : List Entry) (pass : ℕ) (p : OpenPass) (written : SecretObject) : Type 0 where
  pub certificate : Certificate
  pub sees : p.seen.certificate ≡ Some certificate
  pub read : HasEntry (IsLiveRead pass certificate) h
  -- the request
  pub request : CertificateRequest
  pub next : only_of (revision_of_uid certificate.meta.uid (writes s h) + 1) p.seen.requests ≡ Some request
  pub owned : is_owned certificate request.meta ≡ true
  pub matches : Matches certificate.spec request
  -- the key
  pub key : SecretObject
  pub named : certificate.status.next_key ≡ Some key.meta.name
  pub among : IsAmong key p.seen.next
  pub labelled : has_next_label key.meta ≡ true
  pub key_owned : is_owned certificate key.meta ≡ true
  pub file : List ℕ
  pub is_key : key_in key ≡ Some file
  -- what is written
  pub namespace : written.meta.namespace ≡ certificate.meta.namespace
  pub name : written.meta.name ≡ certificate.spec.secret_name
  pub unlabelled : has_next_label written.meta ≡ false
  pub has_key : key_in written ≡ Some file
  pub fields : CertificateFields
  pub pair : IsPair written fields
  pub requested : HasRequestedKey certificate.spec.key written request
  pub signed : MatchBool (is_temporary written) (IsTemporaryCertificate certificate request file p.since written) (IsOfIssuer s whole request written)

abbrev pub WritesWell : Setting → List Entry → List Entry → ℕ → OpenPass → Option Object → Type 0
WritesWell s whole h pass p new = (written : SecretObject) → p.role ≡ roles.Issuing → new ≡ Some (Secret written) → IsGoodIssue s whole h pass p written

-- ---- a revision that changes

-- the pass wrote a Secret that is not marked as temporary, and it was answered Ok or Unchanged
abbrev pub IsSecretWrite : Call → Type 0
IsSecretWrite (Create (Secret k) generate) = is_temporary k ≡ false
IsSecretWrite (Update (Secret k) named) = is_temporary k ≡ false
IsSecretWrite other = ⊥

abbrev pub IsServedReply : Reply → Type 0
IsServedReply (replies.Ok version name) = Unit {0}
IsServedReply (replies.Unchanged version) = Unit {0}
IsServedReply other = ⊥

abbrev pub IsSecretSaved : ℕ → Entry → Type 0
IsSecretSaved pass e = (call : Call) × (reply : Reply) × (e ≡ Called (Pass pass) call reply) × IsSecretWrite call × IsServedReply reply

abbrev pub IsStatusUpdate : Call → Type 0
IsStatusUpdate (UpdateStatus object named) = Unit {0}
IsStatusUpdate other = ⊥

-- A good raise: a status update by issuing, by one, after the pass's own Secret.
pub record IsGoodRaise (h : List Entry) (pass : ℕ) (role : Role) (call : Call) (old new : Object) : Type 0 where
  pub issuing : role ≡ roles.Issuing
  pub status : IsStatusUpdate call
  pub by_one : RaisesRevision (Some old) (Some new)
  pub saved : HasEntry (IsSecretSaved pass) h

abbrev pub RaisesWell : List Entry → ℕ → Role → Call → Option Object → Option Object → Type 0
RaisesWell h pass role call before after = (old new : Object) → before ≡ Some old → after ≡ Some new → stated_revision new ≢ stated_revision old → IsGoodRaise h pass role call old new

-- a user changes no revision
abbrev pub LeavesRevisions : Option Object → Option Object → Type 0
LeavesRevisions before after = (old new : Object) → before ≡ Some old → after ≡ Some new → stated_revision new ≡ stated_revision old

-- ---- an approval by the approver

-- the last question of the pass is one of these
abbrev pub LastAsks : ℕ → (Order → Type 0) → List Entry → Type 0
LastAsks pass P [] = ⊥
LastAsks pass P (Ask m order ∷ h) = ((m ≡ pass) × P order) ⊎ ((m ≢ pass) × LastAsks pass P h)
LastAsks pass P (other ∷ h) = LastAsks pass P h

-- it asks whether to approve just this version of the request
abbrev pub AsksToApprove : CertificateRequest → Order → Type 0
AsksToApprove r (orders.Judge order) = order.request ≡ r
AsksToApprove r other = ⊥

-- the pass was told yes, and the last question before that was about this version of the request
abbrev pub IsJudgedYes : List Entry → ℕ → CertificateRequest → Type 0
IsJudgedYes [] pass r = ⊥
IsJudgedYes (e ∷ h) pass r = ((e ≡ Judged pass true) × LastAsks pass (AsksToApprove r) h) ⊎ IsJudgedYes h pass r

abbrev pub ApprovesWell : List Entry → ℕ → Role → Option Object → Option Object → Type 0
ApprovesWell h pass role before after =
    (old new : CertificateRequest) → role ≡ roles.Approver → before ≡ Some (Request old) → after ≡ Some (Request new) → is_approved old ≡ false → is_approved new ≡ true → IsJudgedYes h pass old

-- ---- a question to an issuer

-- A good ask: about the request that the pass sees, which is approved, and denied in no version.
pub record IsGoodAsk (s : Setting) (whole : List Entry) (seen : Views) (r : CertificateRequest) : Type 0 where
  pub sees : seen.request ≡ Some r
  pub approved : is_approved r ≡ true
  pub never_denied : IsNeverDenied s whole r

abbrev pub AsksWell : Setting → List Entry → Option OpenPass → Order → Type 0
AsksWell s whole None order = ⊥
AsksWell s whole (Some p) (orders.Sign order) = IsGoodAsk s whole p.seen order.request
AsksWell s whole (Some p) (orders.Key order) = Unit {0}
AsksWell s whole (Some p) (orders.Csr order) = Unit {0}
AsksWell s whole (Some p) (orders.Judge order) = Unit {0}

-- ---- all entries

-- what an accepted write of a pass makes of what stood is good in each way
pub record IsGoodWrite (s : Setting) (whole h : List Entry) (pass : ℕ) (p : OpenPass) (call : Call) (before after : Option Object) : Type 0 where
  pub issue : WritesWell s whole h pass p after
  pub raise : RaisesWell h pass p.role call before after
  pub approval : ApprovesWell h pass p.role before after

-- the call under the name that it has
abbrev pub IsSafeWrite : Setting → List Entry → List Entry → Who → Call → Type 0
IsSafeWrite s whole h User call = LeavesRevisions (object_at (objects s h) (key_of_call call)) (stored (accepted s h + 1) (moment s h) (objects s h) call)
IsSafeWrite s whole h (Pass pass) call =
    (p : OpenPass) → open_pass s h pass ≡ Some p → IsGoodWrite s whole h pass p call (object_at (objects s h) (key_of_call call)) (stored (accepted s h + 1) (moment s h) (objects s h) call)

abbrev pub IsSafeEntry : Setting → List Entry → List Entry → Entry → Type 0
IsSafeEntry s whole h (Script step) = Unit {0}
IsSafeEntry s whole h (Called who call reply) = is_accepted reply ≡ true → IsSafeWrite s whole h who (settled call reply)
IsSafeEntry s whole h (Deliver role kind to) = Unit {0}
IsSafeEntry s whole h (Listed role kind to) = Unit {0}
IsSafeEntry s whole h (Begin pass role key at now) = Unit {0}
IsSafeEntry s whole h (Ask pass order) = AsksWell s whole (open_pass s h pass) order
IsSafeEntry s whole h (Made pass key) = Unit {0}
IsSafeEntry s whole h (Signed pass signature) = Unit {0}
IsSafeEntry s whole h (Answered pass answer) = Unit {0}
IsSafeEntry s whole h (Judged pass approved) = Unit {0}
IsSafeEntry s whole h (End pass cause) = Unit {0}
IsSafeEntry s whole h (Stop role) = Unit {0}
IsSafeEntry s whole h (Start role at) = Unit {0}
IsSafeEntry s whole h (Tick now) = Unit {0}

-- each entry of the list is safe and within the rights of its role, where the whole history may go on beyond it
unfoldable pub AreSafe : Setting → List Entry → List Entry → Type 0
AreSafe s whole [] = Unit {0}
AreSafe s whole (e ∷ h) = IsSafeEntry s whole h e × (IsRightfulEntry s h e × AreSafe s whole h)

-- the promise of this project, of a whole history
abbrev pub IsSafe : Setting → List Entry → Type 0
IsSafe s h = AreSafe s h h
