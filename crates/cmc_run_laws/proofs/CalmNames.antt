-- Only issuing makes an object under a name of its own: every other create has a generated name.
use Rattle.std.proofs.Common.{◌≡◌, ℕ, ℤ, pos, List, [], ◌∷◌, Option, Some, None, Bool, true, false, refl, sym, subst, inl, inr}
use Rattle.std.specs.Prelude.{if◌then◌else◌}
use Rattle.cmc_der.specs.Keys.{PublicKey}
use Rattle.cmc_objects.specs.declared.certificate.Certificate.{Certificate}
use Rattle.cmc_objects.specs.declared.secret.Secret.{Secret as SecretObject}
use Rattle.cmc_objects.specs.declared.object.Object.{Object}
use Rattle.cmc_objects.specs.declared.object.Object.TheVariants.{Cert, Request, Secret}
use Rattle.cmc_objects.specs.declared.key_spec.Rotation.{Rotation}
use Rattle.cmc_objects.specs.declared.key_spec.Rotation.TheVariants.{Always, Never}
use Rattle.cmc_objects.specs.declared.orders.Order.{Order}
use Rattle.cmc_objects.specs.declared.call.Call.{Call}
use Rattle.cmc_objects.specs.declared.call.Call.TheVariants.{Create, Update, UpdateStatus, Delete, Get}
use Rattle.cmc_objects.specs.declared.role.Role.{Role}
use Rattle.cmc_objects.specs.declared.role.Role.TheVariants as roles
use Rattle.cmc_pass.specs.declared.pass.Views.{Views}
use Rattle.cmc_pass.specs.declared.pass.Desk.{Desk}
use Rattle.cmc_pass.specs.declared.pass.Act.{Act}
use Rattle.cmc_pass.specs.declared.pass.Act.TheVariants.{Nothing, Call as Calls, Ask as Asks, Issue, Temporary}
use Rattle.cmc_pass.specs.declared.value.Value.{Value}
use Rattle.cmc_pass.specs.declared.value.Value.TheVariants as values
use Rattle.cmc_model.specs.Stored.{created}
use Rattle.cmc_rules.specs.Acts.{act, call_after}
use Rattle.cmc_rules.specs.Causes.{IsFirstCall}
use Rattle.cmc_rules.specs.KeyManager as keys
use Rattle.cmc_rules.specs.KeyManager.{key_manager, key_after, name_call, drop_call, ask_key, make_call}
use Rattle.cmc_rules.specs.NextKeys.{named_key}
use Rattle.cmc_rules.specs.RequestManager as requests
use Rattle.cmc_rules.specs.RequestManager.{request_after, make_request}
use Rattle.cmc_rules.specs.Rights.{MayChange}
use Rattle.cmc_rules.specs.SeenObjects.{OnSeen}
use Rattle.cmc_rules.specs.Sound.{IsOrdinary, IsWriteAfterValue, IsWithin}
use Rattle.cmc_rules.specs.Trigger as triggering

-- the call makes no object under a name of its own
abbrev pub IsUnnamed : Call → Type 0
IsUnnamed (Create object false) = ⊥
IsUnnamed other = Unit {0}

abbrev IsUnnamedAct : Act → Type 0
IsUnnamedAct (Calls call) = IsUnnamed call
IsUnnamedAct other = Unit {0}

abbrev IsUnnamedOption : Option Call → Type 0
IsUnnamedOption None = Unit {0}
IsUnnamedOption (Some call) = IsUnnamed call

-- ---- the key manager

either : (b : Bool) (x y : Act) → IsUnnamedAct x → IsUnnamedAct y → IsUnnamedAct (if b then x else y)
either true x y one other = one
either false x y one other = other

of_reused : (c : Certificate) (desk : Desk) (file : Option (List ℕ)) → IsUnnamedAct (keys.reused c desk file)
unfolding ask_key make_call
of_reused c desk None = tt
of_reused c desk (Some file) = search either

of_rotated : (c : Certificate) (desk : Desk) (file : Option (List ℕ)) (rotation : Rotation) → IsUnnamedAct (keys.rotated c desk file rotation)
unfolding ask_key
of_rotated c desk file Always = tt
of_rotated c desk file Never = of_reused c desk file

of_only : (c : Certificate) (k : SecretObject) → IsUnnamedAct (keys.only_key c k)
unfolding name_call drop_call
of_only c k = search either

of_dropped : (k : Option SecretObject) → IsUnnamedAct (keys.dropped k)
unfolding drop_call
of_dropped None = tt
of_dropped (Some k) = tt

of_issued : (c : Certificate) (desk : Desk) (target : Option SecretObject) (next : List SecretObject) → IsUnnamedAct (keys.while_issuing c desk target next)
of_issued c desk target [] = of_rotated c desk (keys.target_key target) _
of_issued c desk target (k ∷ []) = of_only c k
of_issued c desk target (k ∷ j ∷ ks) = of_dropped _

of_unnamed : (c : Certificate) (name : Option (List ℕ)) → IsUnnamedAct (keys.unnamed c name)
unfolding name_call
of_unnamed c None = tt
of_unnamed c (Some name) = tt

of_idle : (c : Certificate) (next : List SecretObject) → IsUnnamedAct (keys.while_idle c next)
unfolding drop_call
of_idle c [] = of_unnamed c c.status.next_key
of_idle c (k ∷ ks) = tt

manages : (c : Option Certificate) (desk : Desk) (target : Option SecretObject) (next : List SecretObject) → IsUnnamedAct (keys.keys_of c desk target next)
manages None desk target next = tt
manages (Some c) desk target next = either (triggering.is_issuing c) (keys.while_issuing c desk target next) (keys.while_idle c next) (of_issued c desk target next) (of_idle c next)

-- ---- the first call

-- no other role may make an object by an ordinary write
not_made : (role : Role) (seen : Views) (now : ℤ) (object : Object) → (role ≡ roles.KeyManager → ⊥) → IsOrdinary role now None (Some (created 0 (pos 0) object)) → ⊥
unfolding created
not_made roles.Trigger seen now object other on = on.rights
not_made roles.KeyManager seen now object other on = other refl
not_made roles.RequestManager seen now (Request r) other on = on.no_request _ refl refl
not_made roles.RequestManager seen now (Cert c) other on = by on.rights where
  by : MayChange roles.RequestManager None (Some (created 0 (pos 0) (Cert c))) → ⊥
  by (inl is) = is
  by (inr is) = is
not_made roles.RequestManager seen now (Secret k) other on = by on.rights where
  by : MayChange roles.RequestManager None (Some (created 0 (pos 0) (Secret k))) → ⊥
  by (inl is) = is
  by (inr is) = is
not_made roles.Approver seen now object other on = on.rights
not_made roles.Issuer seen now object other on = on.rights
not_made roles.Issuing seen now (Secret k) other on = on.no_secret _ refl refl
not_made roles.Issuing seen now (Cert c) other on = by on.rights where
  by : MayChange roles.Issuing None (Some (created 0 (pos 0) (Cert c))) → ⊥
  by (inl is) = is
  by (inr (inl is)) = is
  by (inr (inr is)) = is
not_made roles.Issuing seen now (Request r) other on = by on.rights where
  by : MayChange roles.Issuing None (Some (created 0 (pos 0) (Request r))) → ⊥
  by (inl is) = is
  by (inr (inl is)) = is
  by (inr (inr is)) = is
not_made roles.Readiness seen now object other on = on.rights
not_made roles.Revision seen now object other on = on.rights

ordinary : (role : Role) (seen : Views) (now : ℤ) (call : Call) → (role ≡ roles.KeyManager → ⊥) → OnSeen (IsOrdinary role now) seen call → IsUnnamed call
unfolding OnSeen
ordinary role seen now (Create object false) other on = not_made role seen now object other (on.makes 0 (pos 0))
ordinary role seen now (Create object true) other on = tt
ordinary role seen now (Update object named) other on = tt
ordinary role seen now (UpdateStatus object named) other on = tt
ordinary role seen now (Delete key named) other on = tt
ordinary role seen now (Get key) other on = tt

first_by : (role : Role) (after : Order → Value → Option Call) (seen : Views) (now : ℤ) (does : Act) (call : Call) → ((call : Call) → does ≡ Calls call → OnSeen (IsOrdinary role now) seen call → IsUnnamed call)
    → IsWithin role after seen now does → IsFirstCall does call → IsUnnamed call
first_by role after seen now Nothing call by within first = absurd first
first_by role after seen now (Calls made) call by within first = subst IsUnnamed (sym first) (by made refl within)
first_by role after seen now (Asks order) call by within first = absurd first
first_by role after seen now (Issue plan) call by within first = subst IsUnnamed (sym first) tt
first_by role after seen now (Temporary plan) call by within first = subst IsUnnamed (sym first) tt

key_managed : (seen : Views) (now : ℤ) (desk : Desk) → IsUnnamedAct (act roles.KeyManager seen now desk)
unfolding act key_manager
key_managed seen now desk = manages seen.certificate desk seen.secret seen.next

by_role : (role : Role) (seen : Views) (now : ℤ) (desk : Desk) (call : Call) → act role seen now desk ≡ Calls call → OnSeen (IsOrdinary role now) seen call → IsUnnamed call
by_role roles.KeyManager seen now desk call is on = subst IsUnnamedAct is (key_managed seen now desk)
by_role roles.Trigger seen now desk call is on = ordinary roles.Trigger seen now call (λ e. absurd (cc e)) on
by_role roles.RequestManager seen now desk call is on = ordinary roles.RequestManager seen now call (λ e. absurd (cc e)) on
by_role roles.Approver seen now desk call is on = ordinary roles.Approver seen now call (λ e. absurd (cc e)) on
by_role roles.Issuer seen now desk call is on = ordinary roles.Issuer seen now call (λ e. absurd (cc e)) on
by_role roles.Issuing seen now desk call is on = ordinary roles.Issuing seen now call (λ e. absurd (cc e)) on
by_role roles.Readiness seen now desk call is on = ordinary roles.Readiness seen now call (λ e. absurd (cc e)) on
by_role roles.Revision seen now desk call is on = ordinary roles.Revision seen now call (λ e. absurd (cc e)) on

pub first_is_unnamed : (role : Role) (seen : Views) (now : ℤ) (desk : Desk) (call : Call) → IsWithin role (call_after role seen now) seen now (act role seen now desk)
    → IsFirstCall (act role seen now desk) call → IsUnnamed call
first_is_unnamed role seen now desk call within first = first_by role (call_after role seen now) seen now (act role seen now desk) call (λ made is on. by_role role seen now desk made is on) within first

-- ---- the call that follows a value

kept_one : (c : Option Certificate) (value : Value) → IsUnnamedOption (keys.kept_for c value)
unfolding make_call
kept_one (Some c) (values.Made file) = tt
kept_one c value = tt

signed_one : (c : Certificate) (k : SecretObject) (key : Option PublicKey) (signature : List ℕ) → IsUnnamedOption (requests.signed_by c k key signature)
unfolding make_request
signed_one c k None signature = tt
signed_one c k (Some key) signature = tt

signed_file : (c : Certificate) (k : SecretObject) (file : Option (List ℕ)) (signature : List ℕ) → IsUnnamedOption (requests.signed_in c k file signature)
signed_file c k None signature = tt
signed_file c k (Some file) signature = signed_one c k _ signature

signed_key : (c : Certificate) (k : Option SecretObject) (signature : List ℕ) → IsUnnamedOption (requests.signed_with c k signature)
signed_key c None signature = tt
signed_key c (Some k) signature = signed_file c k _ signature

signed_all : (c : Option Certificate) (next : List SecretObject) (signature : List ℕ) → IsUnnamedOption (requests.signed_for c next signature)
signed_all None next signature = tt
signed_all (Some c) next signature = signed_key c (named_key c.status.next_key next) signature

requested : (seen : Views) (value : Value) → IsUnnamedOption (requests.request_from seen value)
requested seen (values.Signed signature) = signed_all seen.certificate seen.next signature
requested seen other = tt

-- approver and issuer make nothing
answered : (role : Role) (seen : Views) (now : ℤ) (value : Value) (call : Call) → ((new : Option Object) → MayChange role None new → ⊥) → OnSeen (IsWriteAfterValue role seen now value) seen call → IsUnnamed call
unfolding OnSeen
answered role seen now value (Create object false) none on = none _ (on.makes 0 (pos 0)).rights
answered role seen now value (Create object true) none on = tt
answered role seen now value (Update object named) none on = tt
answered role seen now value (UpdateStatus object named) none on = tt
answered role seen now value (Delete key named) none on = tt
answered role seen now value (Get key) none on = tt

after_key : (seen : Views) (now : ℤ) (order : Order) (value : Value) → IsUnnamedOption (call_after roles.KeyManager seen now order value)
unfolding call_after key_after
after_key seen now order value = kept_one seen.certificate value

after_request : (seen : Views) (now : ℤ) (order : Order) (value : Value) → IsUnnamedOption (call_after roles.RequestManager seen now order value)
unfolding call_after request_after
after_request seen now order value = requested seen value

pub following_is_unnamed : (role : Role) (seen : Views) (now : ℤ) (order : Order) (value : Value) (call : Call) → OnSeen (IsWriteAfterValue role seen now value) seen call
    → call_after role seen now order value ≡ Some call → IsUnnamed call
unfolding call_after
following_is_unnamed roles.KeyManager seen now order value call on is = subst IsUnnamedOption is (after_key seen now order value)
following_is_unnamed roles.RequestManager seen now order value call on is = subst IsUnnamedOption is (after_request seen now order value)
following_is_unnamed roles.Approver seen now order value call on is = answered roles.Approver seen now value call (λ new may. may) on
following_is_unnamed roles.Issuer seen now order value call on is = answered roles.Issuer seen now value call (λ new may. may) on
following_is_unnamed roles.Trigger seen now order value call on is = absurd (cc is)
following_is_unnamed roles.Issuing seen now order value call on is = absurd (cc is)
following_is_unnamed roles.Readiness seen now order value call on is = absurd (cc is)
following_is_unnamed roles.Revision seen now order value call on is = absurd (cc is)
