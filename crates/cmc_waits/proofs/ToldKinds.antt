-- Which kinds a role calls on: only kinds that it is told of.
use Rattle.std.proofs.Common.{◌≡◌, ◌⊎◌, ◌==◌, ℕ, ℤ, pos, List, [], ◌∷◌, Option, Some, None, Bool, true, false, refl, sym, ap, subst, ◌∙◌, inl, inr, option_and_then}
use Rattle.std.specs.Prelude.{if◌then◌else◌, IfSome}
use Rattle.cmc_meta.specs.declared.key.Key.{Key}
use Rattle.cmc_meta.specs.declared.key.Kind.TheVariants as kinds
use Rattle.cmc_objects.specs.declared.object.Object.{Object}
use Rattle.cmc_objects.specs.declared.object.Object.TheVariants.{Cert, Request, Secret}
use Rattle.cmc_objects.specs.declared.call.Call.{Call}
use Rattle.cmc_objects.specs.declared.call.Call.TheVariants.{Create, Update, UpdateStatus, Delete, Get}
use Rattle.cmc_objects.specs.declared.role.Role.{Role}
use Rattle.cmc_objects.specs.declared.role.Role.TheVariants.{Trigger, KeyManager, RequestManager, Approver, Issuer, Issuing, Readiness}
use Rattle.cmc_objects.specs.declared.entry.Entry.{Entry}
use Rattle.cmc_objects.specs.declared.entry.Entry.TheVariants.{Call as Called, Begin, Ask, Made, Signed, Answered, Judged, End, Stop}
use Rattle.cmc_objects.specs.Objects.{key_of, kind_of}
use Rattle.cmc_pass.specs.declared.pass.Views.{Views}
use Rattle.cmc_pass.specs.declared.value.Value.TheVariants as values
use Rattle.cmc_model.specs.Stored.{created}
use Rattle.cmc_model.specs.Generated.{named}
use Rattle.cmc_model.specs.Histories.{Setting}
use Rattle.cmc_model.specs.Replies.{key_of_call}
use Rattle.cmc_rules.specs.declared.progress.OpenPass.{OpenPass}
use Rattle.cmc_objects.specs.Informers.{has_informer, works_on_requests, looks_at_secret, looks_at_next, looks_at_requests}
use Rattle.cmc_rules.specs.Views.{Caches, caches, certificate_at, request_at, target_at, next_of, requests_of, of_certificate, views_of, views_in, views}
use Rattle.cmc_rules.specs.Passes.{open_pass, new_pass, stage_after}
use Rattle.cmc_rules.specs.Legality.{IsLegal}
use Rattle.cmc_rules.specs.Causes.{IsCaused, MayCall}
use Rattle.cmc_rules.specs.Rights.{MayChange}
use Rattle.cmc_rules.specs.SeenObjects.{IsPart, IsPartOf, IsSeen, ForNone, ForSeen, OnSeen}
use Rattle.cmc_rules.proofs.Carrying.{over_call, over_ask, over_given, over_begin, over_end, over_stop}
use Rattle.cmc_rules.proofs.Sights.{seen_certificate}
use Rattle.cmc_model.proofs.Settling.{kind_of-named}
use Rattle.cmc_model.proofs.Stored.{key_of-created}
use Rattle.cmc_safety.proofs.NextCalls.{IsLiveCall}
use Rattle.cmc_safety.proofs.Course.{of_open}
use Rattle.cmc_safety.proofs.InProgress.{caller_of}
use Rattle.cmc_safety.proofs.PassWrites.{IsPassWrite, writes_at}
use Rattle.cmc_moves.proofs.Sounds.{each_sound}

-- the role is told of the kind of the object
abbrev IsTold : Role → Object → Type 0
IsTold role o = has_informer role (key_of o).kind ≡ true

-- ---- what it sees

told_part : {A : Type 0} (role : Role) (kind : A → Object) (looks : Bool) (x : Option A) (o : Object) → ((a : A) → looks ≡ true → IsTold role (kind a)) → IsPart kind (if looks then x else None) o
    → IsTold role o
told_part role kind false x o told is = absurd is
told_part role kind true None o told is = absurd is
told_part role kind true (Some a) o told is = subst (IsTold role) (sym is) (told a refl)

told_other : {A : Type 0} (role : Role) (kind : A → Object) (blind : Bool) (x : Option A) (o : Object) → ((a : A) → blind ≡ false → IsTold role (kind a)) → IsPart kind (if blind then None else x) o
    → IsTold role o
told_other role kind true x o told is = absurd is
told_other role kind false None o told is = absurd is
told_other role kind false (Some a) o told is = subst (IsTold role) (sym is) (told a refl)

told_among : {A : Type 0} (role : Role) (kind : A → Object) (xs : List A) (o : Object) → ((a : A) → IsTold role (kind a)) → IsPartOf kind xs o → IsTold role o
told_among role kind [] o told is = absurd is
told_among role kind (x ∷ xs) o told (inl is) = subst (IsTold role) (sym is) (told x)
told_among role kind (x ∷ xs) o told (inr is) = told_among role kind xs o told is

told_list : {A : Type 0} (role : Role) (kind : A → Object) (looks : Bool) (xs : List A) (o : Object) → ((a : A) → looks ≡ true → IsTold role (kind a)) → IsPartOf kind (if looks then xs else []) o
    → IsTold role o
told_list role kind false xs o told is = absurd is
told_list role kind true xs o told is = told_among role kind xs o (λ a. told a refl) is

-- the kinds that it looks at
certificates_told : (role : Role) → works_on_requests role ≡ false → has_informer role kinds.Certificate ≡ true
certificates_told role off = ap (λ (b : Bool). if b then false else true) off

requests_told : (role : Role) → works_on_requests role ≡ true → has_informer role kinds.CertificateRequest ≡ true
requests_told Approver on = refl
requests_told Issuer on = refl
requests_told other on = absurd (cc on)

owned_told : (role : Role) → looks_at_requests role ≡ true → has_informer role kinds.CertificateRequest ≡ true
owned_told KeyManager on = absurd (cc on)
owned_told other on = refl

secret_told : (role : Role) → looks_at_secret role ≡ true → has_informer role kinds.Secret ≡ true
secret_told Trigger on = refl
secret_told KeyManager on = refl
secret_told Issuing on = refl
secret_told Readiness on = refl
secret_told other on = absurd (cc on)

next_told : (role : Role) → looks_at_next role ≡ true → has_informer role kinds.Secret ≡ true
next_told KeyManager on = refl
next_told RequestManager on = refl
next_told Issuing on = refl
next_told other on = absurd (cc on)

pub told_views : (role : Role) (c : Caches) (key : Key) (o : Object) → IsSeen (views_in role c key) o → IsTold role o
unfolding views_in views_of
told_views role c key o (inl is) = told_other role Cert (works_on_requests role) (certificate_at c.certificates key) o (λ a. certificates_told role) is
told_views role c key o (inr (inl is)) =
    told_part role Secret (looks_at_secret role) (option_and_then (target_at c.secrets) (if works_on_requests role then None else certificate_at c.certificates key)) o (λ k. secret_told role) is
told_views role c key o (inr (inr (inl is))) = told_part role Request (works_on_requests role) (request_at c.requests key) o (λ r. requests_told role) is
told_views role c key o (inr (inr (inr (inl is)))) =
    told_list role Secret (looks_at_next role) (of_certificate (next_of c.secrets) (if works_on_requests role then None else certificate_at c.certificates key)) o (λ k. next_told role) is
told_views role c key o (inr (inr (inr (inr is)))) =
    told_list role Request (looks_at_requests role) (of_certificate (requests_of c.requests) (if works_on_requests role then None else certificate_at c.certificates key)) o (λ r. owned_told role) is

-- all that the pass saw is of kinds that its role is told of
abbrev pub SawTold : OpenPass → Type 0
SawTold p = (o : Object) → IsSeen p.seen o → IsTold p.role o

pub saw_told : (s : Setting) (h : List Entry) (n : ℕ) → IfSome (open_pass s h n) SawTold
saw_told s [] n = tt
saw_told s (Called who call reply ∷ h) n = over_call SawTold n who (stage_after s h call reply) (open_pass s h n) (λ p told. told) (saw_told s h n)
saw_told s (Begin pass role key at now ∷ h) n = over_begin SawTold (n == pass) (new_pass role key (views s h role key) now) (open_pass s h n) (told_views role (caches s h role) key) (saw_told s h n)
saw_told s (Ask pass order ∷ h) n = over_ask SawTold n pass order (open_pass s h n) (λ p told. told) (saw_told s h n)
saw_told s (Made pass key ∷ h) n = over_given SawTold n pass (values.Made key) (open_pass s h n) (λ p told. told) (saw_told s h n)
saw_told s (Signed pass signature ∷ h) n = over_given SawTold n pass (values.Signed signature) (open_pass s h n) (λ p told. told) (saw_told s h n)
saw_told s (Answered pass answer ∷ h) n = over_given SawTold n pass (values.Answered answer) (open_pass s h n) (λ p told. told) (saw_told s h n)
saw_told s (Judged pass approved ∷ h) n = over_given SawTold n pass (values.Judged approved) (open_pass s h n) (λ p told. told) (saw_told s h n)
saw_told s (End pass cause ∷ h) n = over_end SawTold (n == pass) (open_pass s h n) (saw_told s h n)
saw_told s (Stop role ∷ h) n = over_stop SawTold role (open_pass s h n) (saw_told s h n)
saw_told s (other ∷ h) n = saw_told s h n

-- ---- what it makes

told_made : (role : Role) (new : Object) → MayChange role None (Some new) → IsTold role new
told_made KeyManager (Secret k) (inl may) = refl
told_made KeyManager other (inl may) = absurd may
told_made KeyManager new (inr (inl may)) = absurd may
told_made KeyManager new (inr (inr may)) = absurd may
told_made RequestManager (Request r) (inl may) = refl
told_made RequestManager other (inl may) = absurd may
told_made RequestManager new (inr may) = absurd may
told_made Issuing (Secret k) (inl may) = refl
told_made Issuing other (inl may) = absurd may
told_made Issuing new (inr (inl may)) = absurd may
told_made Issuing new (inr (inr may)) = absurd may
told_made other new may = absurd may

-- ---- what it calls

-- what it saw is told, and so is what it makes by this
told_under : (role : Role) (P : Option Object → Option Object → Type 0) (seen : Views) (under : Key) (named : ℕ) (leaves : ℕ → Object → Option Object) (rule : Object → Bool → Option ℕ)
    → ((o : Object) → IsSeen seen o → IsTold role o) → ForSeen P seen under named leaves rule → has_informer role under.kind ≡ true
told_under role P seen under named leaves rule told on = ap (λ (k : Key). has_informer role k.kind) (sym on.key) ∙ told on.old on.sees

told_create : (role : Role) (P : Option Object → Option Object → Type 0) (object : Object) → ((old new : Option Object) → P old new → MayChange role old new) → ForNone P object → has_informer role (kind_of object) ≡ true
told_create role P object rights on =
    let made = told_made role (created 0 (pos 0) object) (rights None (Some (created 0 (pos 0) object)) (on.makes 0 (pos 0))) in
    ap (λ (k : Key). has_informer role k.kind) (sym (key_of-created 0 (pos 0) object)) ∙ made

told_call : (role : Role) (P : Option Object → Option Object → Type 0) (seen : Views) (call : Call) → ((old new : Option Object) → P old new → MayChange role old new)
    → ((o : Object) → IsSeen seen o → IsTold role o) → OnSeen P seen call → has_informer role (key_of_call call).kind ≡ true
unfolding OnSeen
told_call role P seen (Create object false) rights told on = told_create role P object rights on
told_call role P seen (Create object true) rights told on = ap (has_informer role) (sym (kind_of-named [] object)) ∙ told_create role P (named [] object) rights (on [])
told_call role P seen (Update object named) rights told on = told_under role P seen (key_of object) named _ _ told on
told_call role P seen (UpdateStatus object named) rights told on = told_under role P seen (key_of object) named _ _ told on
told_call role P seen (Delete key None) rights told on = absurd on
told_call role P seen (Delete key (Some named)) rights told on = told_under role P seen key named _ _ told on
told_call role P seen (Get key) rights told on = absurd on

told_sort : (role : Role) (seen : Views) (since : ℤ) (call : Call) → ((o : Object) → IsSeen seen o → IsTold role o) → OnSeen (IsPassWrite role seen since) seen call ⊎ IsLiveCall role seen call
    → has_informer role (key_of_call call).kind ≡ true
told_sort role seen since call told (inl on) = told_call role (IsPassWrite role seen since) seen call (λ old new is. is.rights) told on
told_sort role seen since call told (inr live) =
    ap (λ (k : Call). has_informer role (key_of_call k).kind) live.get ∙ told (Cert live.certificate) (seen_certificate seen live.certificate live.sees)

-- each call of an open pass is on a kind that its role is told of
pub calls_known : (s : Setting) (h : List Entry) (n : ℕ) (call : Call) → IsLegal s h → IsCaused s h → MayCall s h (open_pass s h n) call
    → IfSome (open_pass s h n) (λ p. has_informer p.role (key_of_call call).kind ≡ true)
calls_known s h n call legal caused may =
    let c = caller_of each_sound s h n call legal caused may in
    subst (λ (x : Option OpenPass). IfSome x (λ p. has_informer p.role (key_of_call call).kind ≡ true)) (sym c.opened)
    (told_sort c.pass.role c.pass.seen c.pass.since call (of_open SawTold (open_pass s h n) c.pass c.opened (saw_told s h n)) (writes_at c.pass.stage c.pass.role c.pass.seen c.pass.since call c.at))
