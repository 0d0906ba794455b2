-- What key manager and request manager make belongs to the Certificate that they see.
use Rattle.std.proofs.Common.{◌≡◌, ℕ, ℤ, List, [], ◌∷◌, Option, Some, None, Bool, true, false, refl, sym, subst}
use Rattle.std.specs.Prelude.{if◌then◌else◌, is_some, find, not}
use Rattle.cmc_der.specs.Keys.{PublicKey}
use Rattle.cmc_meta.specs.declared.object_meta.ObjectMeta.{ObjectMeta}
use Rattle.cmc_x509.specs.ReadKeys.{key_file_at}
use Rattle.cmc_objects.specs.declared.certificate.Certificate.{Certificate}
use Rattle.cmc_objects.specs.declared.secret.Secret.{Secret as SecretObject}
use Rattle.cmc_objects.specs.declared.object.Object.TheVariants.{Request, Secret}
use Rattle.cmc_objects.specs.declared.key_spec.Rotation.{Rotation}
use Rattle.cmc_objects.specs.declared.key_spec.Rotation.TheVariants.{Always, Never}
use Rattle.cmc_objects.specs.declared.orders.Order.{Order}
use Rattle.cmc_objects.specs.declared.call.Call.{Call}
use Rattle.cmc_objects.specs.declared.call.Call.TheVariants.{Create}
use Rattle.cmc_objects.specs.declared.role.Role.TheVariants.{KeyManager, RequestManager}
use Rattle.cmc_objects.specs.Defaults.{key_rotation}
use Rattle.cmc_match.specs.Facts.{fits, key_in}
use Rattle.cmc_pass.specs.declared.pass.Views.{Views}
use Rattle.cmc_pass.specs.declared.pass.Desk.{Desk}
use Rattle.cmc_pass.specs.declared.pass.Act.{Act}
use Rattle.cmc_pass.specs.declared.pass.Act.TheVariants.{Nothing, Call as Calls, Ask as Asks, Issue, Temporary}
use Rattle.cmc_pass.specs.declared.value.Value.{Value}
use Rattle.cmc_pass.specs.declared.value.Value.TheVariants as values
use Rattle.cmc_rules.specs.Acts.{act, call_after}
use Rattle.cmc_rules.specs.Causes.{IsFirstCall}
use Rattle.cmc_rules.specs.KeyManager as keys
use Rattle.cmc_rules.specs.KeyManager.{key_manager, key_after, name_call, drop_call, ask_key, make_call, key_secret}
use Rattle.cmc_rules.specs.NextKeys.{is_named, named_key, has_fitting_key}
use Rattle.cmc_rules.specs.Owners.{owned_meta}
use Rattle.cmc_rules.specs.RequestManager as requests
use Rattle.cmc_rules.specs.RequestManager.{request_after, make_request, new_request}
use Rattle.cmc_rules.specs.Trigger as triggering
use Rattle.cmc_rules.specs.Views.{has_next_label}

-- the metadata of what a role makes for the Certificate that it sees
pub record IsOwnedMeta (seen : Views) (m : ObjectMeta) : Type 0 where
  pub certificate : Certificate
  pub sees : seen.certificate ≡ Some certificate
  pub labels : List (List ℕ × List ℕ)
  pub annotations : List (List ℕ × List ℕ)
  pub is : m ≡ owned_meta certificate labels annotations

-- what the call makes is a next key or a request of the Certificate, under a name that is generated
abbrev pub IsMakingCall : Views → Call → Type 0
IsMakingCall seen (Create (Secret k) true) = IsOwnedMeta seen k.meta × (has_next_label k.meta ≡ true)
IsMakingCall seen (Create (Request r) true) = IsOwnedMeta seen r.meta
IsMakingCall seen (Create object generate) = ⊥
IsMakingCall seen other = Unit {0}

abbrev IsMakingAct : Views → Act → Type 0
IsMakingAct seen (Calls call) = IsMakingCall seen call
IsMakingAct seen other = Unit {0}

abbrev IsMakingOption : Views → Option Call → Type 0
IsMakingOption seen None = Unit {0}
IsMakingOption seen (Some call) = IsMakingCall seen call

-- ---- the key manager

either : (seen : Views) (b : Bool) (x y : Act) → IsMakingAct seen x → IsMakingAct seen y → IsMakingAct seen (if b then x else y)
either seen true x y one other = one
either seen false x y one other = other

of_make : (seen : Views) (c : Certificate) (file : List ℕ) → seen.certificate ≡ Some c → IsMakingCall seen (make_call c file)
unfolding make_call key_secret owned_meta
of_make seen c file sees = (record { certificate = c; sees = sees; labels = _; annotations = _; is = refl }, refl)

of_reused : (seen : Views) (c : Certificate) (desk : Desk) (file : Option (List ℕ)) → seen.certificate ≡ Some c → IsMakingAct seen (keys.reused c desk file)
unfolding ask_key
of_reused seen c desk None sees = tt
of_reused seen c desk (Some file) sees =
    either seen (is_some (key_file_at file)) (if fits c.spec.key file then Calls (make_call c file) else Nothing) (ask_key c desk)
    (either seen (fits c.spec.key file) (Calls (make_call c file)) Nothing (of_make seen c file sees) tt) tt

of_rotated : (seen : Views) (c : Certificate) (desk : Desk) (file : Option (List ℕ)) (rotation : Rotation) → seen.certificate ≡ Some c → IsMakingAct seen (keys.rotated c desk file rotation)
unfolding ask_key
of_rotated seen c desk file Always sees = tt
of_rotated seen c desk file Never sees = of_reused seen c desk file sees

of_only : (seen : Views) (c : Certificate) (k : SecretObject) → IsMakingAct seen (keys.only_key c k)
unfolding name_call drop_call
of_only seen c k =
    either seen (has_fitting_key c.spec.key k) (if is_named c.status.next_key k then Nothing else name_call (Some k.meta.name) c) (drop_call k)
    (either seen (is_named c.status.next_key k) Nothing (name_call (Some k.meta.name) c) tt tt) tt

of_dropped : (seen : Views) (k : Option SecretObject) → IsMakingAct seen (keys.dropped k)
unfolding drop_call
of_dropped seen None = tt
of_dropped seen (Some k) = tt

of_issued : (seen : Views) (c : Certificate) (desk : Desk) (target : Option SecretObject) (next : List SecretObject) → seen.certificate ≡ Some c → IsMakingAct seen (keys.while_issuing c desk target next)
of_issued seen c desk target [] sees = of_rotated seen c desk (keys.target_key target) (key_rotation c.spec.key) sees
of_issued seen c desk target (k ∷ []) sees = of_only seen c k
of_issued seen c desk target (k ∷ j ∷ ks) sees = of_dropped seen (find (λ o. not (is_named c.status.next_key o)) (k ∷ j ∷ ks))

of_unnamed : (seen : Views) (c : Certificate) (name : Option (List ℕ)) → IsMakingAct seen (keys.unnamed c name)
unfolding name_call
of_unnamed seen c None = tt
of_unnamed seen c (Some name) = tt

of_idle : (seen : Views) (c : Certificate) (next : List SecretObject) → IsMakingAct seen (keys.while_idle c next)
unfolding drop_call
of_idle seen c [] = of_unnamed seen c c.status.next_key
of_idle seen c (k ∷ ks) = tt

manages : (seen : Views) (c : Option Certificate) (desk : Desk) (target : Option SecretObject) (next : List SecretObject) → seen.certificate ≡ c → IsMakingAct seen (keys.keys_of c desk target next)
manages seen None desk target next sees = tt
manages seen (Some c) desk target next sees =
    either seen (triggering.is_issuing c) (keys.while_issuing c desk target next) (keys.while_idle c next) (of_issued seen c desk target next sees) (of_idle seen c next)

key_act : (seen : Views) (now : ℤ) (desk : Desk) → IsMakingAct seen (act KeyManager seen now desk)
unfolding act key_manager
key_act seen now desk = manages seen seen.certificate desk seen.secret seen.next refl

of_first : (seen : Views) (does : Act) (call : Call) → IsMakingAct seen does → IsFirstCall does call → IsMakingCall seen call
of_first seen Nothing call makes first = absurd first
of_first seen (Calls made) call makes first = subst (IsMakingCall seen) (sym first) makes
of_first seen (Asks order) call makes first = absurd first
of_first seen (Issue plan) call makes first = subst (IsMakingCall seen) (sym first) tt
of_first seen (Temporary plan) call makes first = subst (IsMakingCall seen) (sym first) tt

pub first_key_call : (seen : Views) (now : ℤ) (desk : Desk) (call : Call) → IsFirstCall (act KeyManager seen now desk) call → IsMakingCall seen call
first_key_call seen now desk call first = of_first seen (act KeyManager seen now desk) call (key_act seen now desk) first

kept_one : (seen : Views) (c : Option Certificate) (value : Value) → seen.certificate ≡ c → IsMakingOption seen (keys.kept_for c value)
kept_one seen None value sees = tt
kept_one seen (Some c) (values.Made file) sees = of_make seen c file sees
kept_one seen (Some c) (values.Signed signature) sees = tt
kept_one seen (Some c) (values.Answered answer) sees = tt
kept_one seen (Some c) (values.Judged approved) sees = tt

after_key : (seen : Views) (now : ℤ) (order : Order) (value : Value) → IsMakingOption seen (call_after KeyManager seen now order value)
unfolding call_after key_after
after_key seen now order value = kept_one seen seen.certificate value refl

pub next_key_call : (seen : Views) (now : ℤ) (order : Order) (value : Value) (call : Call) → call_after KeyManager seen now order value ≡ Some call → IsMakingCall seen call
next_key_call seen now order value call is = subst (IsMakingOption seen) is (after_key seen now order value)

-- ---- the request manager

of_request : (seen : Views) (c : Certificate) (k : SecretObject) (request : List ℕ) → seen.certificate ≡ Some c → IsMakingCall seen (make_request c k request)
unfolding make_request new_request
of_request seen c k request sees = record { certificate = c; sees = sees; labels = _; annotations = _; is = refl }

signed_one : (seen : Views) (c : Certificate) (k : SecretObject) (key : Option PublicKey) (signature : List ℕ) → seen.certificate ≡ Some c → IsMakingOption seen (requests.signed_by c k key signature)
signed_one seen c k None signature sees = tt
signed_one seen c k (Some key) signature sees = of_request seen c k _ sees

signed_file : (seen : Views) (c : Certificate) (k : SecretObject) (file : Option (List ℕ)) (signature : List ℕ) → seen.certificate ≡ Some c → IsMakingOption seen (requests.signed_in c k file signature)
signed_file seen c k None signature sees = tt
signed_file seen c k (Some file) signature sees = signed_one seen c k (key_file_at file) signature sees

signed_key : (seen : Views) (c : Certificate) (k : Option SecretObject) (signature : List ℕ) → seen.certificate ≡ Some c → IsMakingOption seen (requests.signed_with c k signature)
signed_key seen c None signature sees = tt
signed_key seen c (Some k) signature sees = signed_file seen c k (key_in k) signature sees

signed_all : (seen : Views) (c : Option Certificate) (next : List SecretObject) (signature : List ℕ) → seen.certificate ≡ c → IsMakingOption seen (requests.signed_for c next signature)
signed_all seen None next signature sees = tt
signed_all seen (Some c) next signature sees = signed_key seen c (named_key c.status.next_key next) signature sees

requested : (seen : Views) (value : Value) → IsMakingOption seen (requests.request_from seen value)
requested seen (values.Signed signature) = signed_all seen seen.certificate seen.next signature refl
requested seen (values.Made file) = tt
requested seen (values.Answered answer) = tt
requested seen (values.Judged approved) = tt

after_request : (seen : Views) (now : ℤ) (order : Order) (value : Value) → IsMakingOption seen (call_after RequestManager seen now order value)
unfolding call_after request_after
after_request seen now order value = requested seen value

pub next_request_call : (seen : Views) (now : ℤ) (order : Order) (value : Value) (call : Call) → call_after RequestManager seen now order value ≡ Some call → IsMakingCall seen call
next_request_call seen now order value call is = subst (IsMakingOption seen) is (after_request seen now order value)
