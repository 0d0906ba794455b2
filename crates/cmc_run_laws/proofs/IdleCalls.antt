-- A call that is answered Unchanged leaves what was seen as it is.
use Rattle.std.proofs.Common.{◌≡◌, ◌==◌, ℕ, ◌+◌, List, Option, Some, None, Bool, true, false, refl, sym, ap, subst, inl, inr, arith}
use Rattle.std.proofs.lemmas.Bool.Decides.{nat_tests}
use Rattle.std.specs.Prelude.{MatchBool}
use Rattle.std.specs.List.{list_any}
use Rattle.cmc_objects.specs.declared.certificate.Certificate.{Certificate}
use Rattle.cmc_objects.specs.declared.certificate.CertStatus.{CertStatus}
use Rattle.cmc_objects.specs.declared.request.CertificateRequest.{CertificateRequest}
use Rattle.cmc_objects.specs.declared.request.RequestStatus.{RequestStatus}
use Rattle.cmc_objects.specs.declared.object.Object.{Object}
use Rattle.cmc_objects.specs.declared.object.Object.TheVariants.{Cert, Request, Secret}
use Rattle.cmc_objects.specs.declared.call.Call.{Call}
use Rattle.cmc_objects.specs.declared.call.Call.TheVariants.{Create, Update, UpdateStatus, Delete, Get}
use Rattle.cmc_objects.specs.declared.call.Reply.TheVariants.{Ok, Unchanged, Conflict, Unavailable}
use Rattle.cmc_objects.specs.declared.entry.Entry.{Entry}
use Rattle.cmc_objects.specs.Objects.{key_of, name_of, version_of}
use Rattle.cmc_pass.specs.declared.pass.Views.{Views}
use Rattle.cmc_model.specs.Admission.{is_taken, refusing_rule}
use Rattle.cmc_model.specs.Generated.{free_named}
use Rattle.cmc_model.specs.Histories.{Setting, state, objects}
use Rattle.cmc_model.specs.Objects.{Objects, object_at}
use Rattle.cmc_model.specs.Replies.{State, IsReply, IsServed, IsCreated, IsUpdated, IsRestated, IsDeleted, IsGot, IsChange, IsAdmitted}
use Rattle.cmc_model.specs.Stored.{updated, with_status}
use Rattle.cmc_model.specs.Writes.{writes}
use Rattle.cmc_rules.specs.Legality.{IsLegal}
use Rattle.cmc_rules.specs.SeenObjects.{IsPart, IsSeen}
use Rattle.cmc_rules.proofs.Sighted.{AreKnown, stands_as_seen}

-- ---- what an answer Unchanged says of what stands

-- the call leaves what stands under its key as it is
abbrev LeavesAsIs : Objects → Call → Type 0
LeavesAsIs stored (Update object named) = (old : Object) × (object_at stored (key_of object) ≡ Some old) × (version_of old ≡ named) × (updated old object ≡ old)
LeavesAsIs stored (UpdateStatus object named) = (old : Object) × (object_at stored (key_of object) ≡ Some old) × (version_of old ≡ named) × (with_status old object ≡ old)
LeavesAsIs stored other = ⊥

unrefused : (rule : Option ℕ) (served : Type 0) (v : ℕ) → IsAdmitted rule served (Unchanged v) → served
unrefused None served v right = right
unrefused (Some rule) served v right = absurd (cc right)

same_object : (n : ℕ) (name : List ℕ) (old new : Object) (v : ℕ) → IsChange n name old new (Unchanged v) → new ≡ old
same_object n name old new v (inl same) = same.0
same_object n name old new v (inr other) = absurd (let no = other.1 in cc no)

at_version : (at : Bool) (named : ℕ) (old : Object) (served : Type 0) (v : ℕ) → (named == version_of old) ≡ at → MatchBool at served (Unchanged v ≡ Conflict named (version_of old)) → (version_of old ≡ named) × served
at_version true named old served v is right = (grind (arith, nat_tests), right)
at_version false named old served v is right = absurd (cc right)

never_created : (n : ℕ) (taken : Bool) (object : Object) (old : Option Object) (v : ℕ) → IsCreated n taken object old (Unchanged v) → ⊥
never_created n taken object (Some old) v right = absurd (cc right)
never_created n taken object None v right = absurd (let no = unrefused (refusing_rule None object false taken) (Unchanged v ≡ Ok (n + 1) (name_of object)) v right in cc no)

updated_as_is : (n : ℕ) (taken : Bool) (object : Object) (named : ℕ) (x : Option Object) (v : ℕ) → IsUpdated n taken object named x (Unchanged v) → (old : Object) × (x ≡ Some old) × (version_of old ≡ named) × (updated old object ≡ old)
updated_as_is n taken object named None v right = absurd (cc right)
updated_as_is n taken object named (Some old) v right =
    let at = at_version (named == version_of old) named old (IsAdmitted (refusing_rule (Some old) object false taken) (IsChange n (name_of object) old (updated old object) (Unchanged v)) (Unchanged v)) v refl right in
    (old, refl, at.0, same_object n (name_of object) old (updated old object) v (unrefused (refusing_rule (Some old) object false taken) (IsChange n (name_of object) old (updated old object) (Unchanged v)) v at.1))

restated_as_is : (n : ℕ) (object : Object) (named : ℕ) (x : Option Object) (v : ℕ) → IsRestated n object named x (Unchanged v) → (old : Object) × (x ≡ Some old) × (version_of old ≡ named) × (with_status old object ≡ old)
restated_as_is n object named None v right = absurd (cc right)
restated_as_is n object named (Some old) v right =
    let at = at_version (named == version_of old) named old (IsAdmitted (refusing_rule (Some old) object true false) (IsChange n (name_of object) old (with_status old object) (Unchanged v)) (Unchanged v)) v refl right in
    (old, refl, at.0, same_object n (name_of object) old (with_status old object) v (unrefused (refusing_rule (Some old) object true false) (IsChange n (name_of object) old (with_status old object) (Unchanged v)) v at.1))

never_deleted : (n : ℕ) (named : Option ℕ) (name : List ℕ) (x : Option Object) (v : ℕ) → IsDeleted n named name x (Unchanged v) → ⊥
never_deleted n None name None v right = cc right
never_deleted n (Some named) name None v right = cc right
never_deleted n None name (Some old) v right = cc right
never_deleted n (Some named) name (Some old) v right = absurd (let no = (at_version (named == version_of old) named old (Unchanged v ≡ Ok (n + 1) name) v refl right).1 in cc no)

never_got : (n : ℕ) (x : Option Object) (v : ℕ) → IsGot n x (Unchanged v) → ⊥
never_got n None v right = cc right
never_got n (Some old) v right = cc right

served_as_is : (n : ℕ) (stored : Objects) (call : Call) (v : ℕ) → IsServed n stored call (Unchanged v) → LeavesAsIs stored call
unfolding free_named
served_as_is n stored (Create object false) v right = never_created n (is_taken stored object) object (object_at stored (key_of object)) v right
served_as_is n stored (Create object true) v right =
    let made : Object = free_named (n + 1) stored object in
    never_created n (is_taken stored made) made (object_at stored (key_of made)) v right
served_as_is n stored (Update object named) v right = updated_as_is n (is_taken stored object) object named (object_at stored (key_of object)) v right
served_as_is n stored (UpdateStatus object named) v right = restated_as_is n object named (object_at stored (key_of object)) v right
served_as_is n stored (Delete key named) v right = never_deleted n named key.name (object_at stored key) v right
served_as_is n stored (Get key) v right = never_got n (object_at stored key) v right

as_is_by : (fails : Bool) (st : State) (call : Call) (v : ℕ) → MatchBool fails (Unchanged v ≡ Unavailable (st.calls + 1)) (IsServed st.accepted st.objects call (Unchanged v)) → LeavesAsIs st.objects call
as_is_by true st call v right = absurd (cc right)
as_is_by false st call v right = served_as_is st.accepted st.objects call v right

-- ---- calls that change what was seen

-- an update or a status update at the version of an object that was seen, which would change that object
abbrev pub ChangesSeen : Views → Call → Type 0
ChangesSeen seen (Update object named) = (old : Object) × IsSeen seen old × (version_of old ≡ named) × (updated old object ≡ old → ⊥)
ChangesSeen seen (UpdateStatus object named) = (old : Object) × IsSeen seen old × (version_of old ≡ named) × (with_status old object ≡ old → ⊥)
ChangesSeen seen other = Unit {0}

changed_by : (s : Setting) (h : List Entry) (seen : Views) (call : Call) → IsLegal s h → AreKnown (writes s h) seen → ChangesSeen seen call → LeavesAsIs (objects s h) call → ⊥
changed_by s h seen (Create object generate) legal known changes as_is = as_is
changed_by s h seen (Update object named) legal known (old, sees, version, changes) (stood, there, at, same) =
    let one : old ≡ stood = stands_as_seen s h seen (key_of object) named old stood legal known sees version there at in
    changes (subst (λ (o : Object). updated o object ≡ o) (sym one) same)
changed_by s h seen (UpdateStatus object named) legal known (old, sees, version, changes) (stood, there, at, same) =
    let one : old ≡ stood = stands_as_seen s h seen (key_of object) named old stood legal known sees version there at in
    changes (subst (λ (o : Object). with_status o object ≡ o) (sym one) same)
changed_by s h seen (Delete key named) legal known changes as_is = as_is
changed_by s h seen (Get key) legal known changes as_is = as_is

-- is not answered Unchanged
pub never_unchanged : (s : Setting) (h : List Entry) (seen : Views) (call : Call) (v : ℕ) → IsLegal s h → AreKnown (writes s h) seen → ChangesSeen seen call → IsReply s.faults (state s h) call (Unchanged v) → ⊥
never_unchanged s h seen call v legal known changes right =
    changed_by s h seen call legal known changes (as_is_by (list_any (λ n. n == (state s h).calls + 1) s.faults) (state s h) call v right)

-- ---- status updates

abbrev cert_status : CertStatus → Object → CertStatus
cert_status none (Cert c) = c.status
cert_status none (Request r) = none
cert_status none (Secret k) = none

abbrev request_status : RequestStatus → Object → RequestStatus
request_status none (Cert c) = none
request_status none (Request r) = r.status
request_status none (Secret k) = none

pub restates_certificate : (seen : Views) (c : Certificate) (new : CertStatus) → seen.certificate ≡ Some c → (new ≡ c.status → ⊥) → ChangesSeen seen (UpdateStatus (Cert (record c { status = new })) c.meta.version)
unfolding with_status
restates_certificate seen c new sees differs = (
  Cert c,
  inl (subst (λ (x : Option Certificate). IsPart Cert x (Cert c)) (sym sees) refl),
  refl,
  λ same. differs (ap (cert_status new) same),
)

pub restates_request : (seen : Views) (r : CertificateRequest) (new : RequestStatus) → seen.request ≡ Some r → (new ≡ r.status → ⊥) → ChangesSeen seen (UpdateStatus (Request (record r { status = new })) r.meta.version)
unfolding with_status
restates_request seen r new sees differs = (
  Request r,
  inr (inr (inl (subst (λ (x : Option CertificateRequest). IsPart Request x (Request r)) (sym sees) refl))),
  refl,
  λ same. differs (ap (request_status new) same),
)
