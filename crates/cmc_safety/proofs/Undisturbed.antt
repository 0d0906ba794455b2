-- What holds of a pass of issuing that nothing disturbs: what it saw is still there, and its writes are accepted.
use Rattle.std.proofs.Common.{◌≡◌, ◌≢◌, ◌==◌, ℕ, ℤ, ◌+◌, List, ◌∷◌, Option, Some, None, Bool, true, false, cond, refl, sym, ap, subst, ◌∙◌, inl, inr, arith}
use Rattle.std.proofs.lemmas.Bool.Decides.{nat_tests}
use Rattle.std.specs.Prelude.{if◌then◌else◌, MatchBool, IfSome, option_map}
use Rattle.std.specs.Cmp.{Equal-is}
use Rattle.std.specs.Ordering.{eq_by_cmp}
use Rattle.cmc_meta.specs.declared.key.Key.{Key}
use Rattle.cmc_meta.specs.declared.key.Kind.TheVariants as kinds
use Rattle.cmc_meta.specs.Keys.{key_cmp}
use Rattle.cmc_objects.specs.declared.certificate.Certificate.{Certificate}
use Rattle.cmc_objects.specs.declared.secret.Secret.{Secret as SecretObject}
use Rattle.cmc_objects.specs.declared.object.Object.{Object}
use Rattle.cmc_objects.specs.declared.object.Object.TheVariants.{Cert, Secret}
use Rattle.cmc_objects.specs.declared.call.Call.{Call}
use Rattle.cmc_objects.specs.declared.call.Call.TheVariants.{Create, Update, UpdateStatus, Delete, Get}
use Rattle.cmc_objects.specs.declared.call.Reply.{Reply}
use Rattle.cmc_objects.specs.declared.call.Reply.TheVariants.{Ok, Conflict}
use Rattle.cmc_objects.specs.declared.role.Role.TheVariants as roles
use Rattle.cmc_objects.specs.declared.entry.Entry.{Entry}
use Rattle.cmc_objects.specs.Objects.{key_of, name_of, version_of}
use Rattle.cmc_pass.specs.declared.pass.Views.{Views}
use Rattle.cmc_pass.specs.declared.pass.Act.{Act}
use Rattle.cmc_pass.specs.declared.pass.Act.TheVariants.{Nothing, Call as Calls, Ask as Asks, Issue, Temporary}
use Rattle.cmc_model.specs.Objects.{Objects, object_at}
use Rattle.cmc_model.specs.Stored.{updated}
use Rattle.cmc_model.specs.Admission.{is_taken, refusing_rule}
use Rattle.cmc_model.specs.Replies.{IsServed as IsServedBy, IsCreated, IsUpdated, IsChange, IsAdmitted, key_of_call, settled, stored, put_at}
use Rattle.cmc_model.specs.Histories.{Setting, moment, objects, accepted}
use Rattle.cmc_model.specs.Writes.{writes}
use Rattle.cmc_meta.proofs.KeyOrder.{key_cmp-IsAntisymmetric}
use Rattle.cmc_model.proofs.Versions.{object_at-put}
use Rattle.cmc_rules.specs.declared.progress.OpenPass.{OpenPass}
use Rattle.cmc_rules.specs.declared.progress.Stage.{Stage}
use Rattle.cmc_rules.specs.declared.progress.Stage.TheVariants.{Fresh, Asked, Given, Read, Saved, Wrote, Refused, Barred}
use Rattle.cmc_rules.specs.Acts.{call_after}
use Rattle.cmc_rules.specs.Issuance.{secret_call, new_target, old_target, issuing}
use Rattle.cmc_rules.specs.Legality.{IsLegal}
use Rattle.cmc_rules.specs.Safety.{HasEntry, IsServedReply}
use Rattle.cmc_rules.specs.SeenObjects.{OnSeen}
use Rattle.cmc_rules.specs.Sound.{IsWithin}
use Rattle.cmc_rules.proofs.Sighted.{AreKnown, stands_as_seen}
use Rattle.cmc_safety.specs.Completion.{IsServedCall, IsCarriedOut, IsPlan}
use Rattle.cmc_safety.proofs.Plans.{IsForTarget, PlansFor}

-- ---- keys of calls

-- the name of the target
abbrev pub target_key : Certificate → Key
target_key c = record { kind = kinds.Secret; namespace = c.meta.namespace; name = c.spec.secret_name }

-- the Secret that is seen stands under that name
abbrev pub IsNamed : Certificate → Option SecretObject → Type 0
IsNamed c None = Unit {0}
IsNamed c (Some k) = key_of (Secret k) ≡ target_key c

-- what a write of the target comes to
abbrev pub IsTargetCall : Certificate → Option SecretObject → Call → Type 0
IsTargetCall c None (Create object false) = key_of object ≡ target_key c
IsTargetCall c (Some k) (Update object named) = (key_of object ≡ target_key c) × (named ≡ k.meta.version)
IsTargetCall c target other = ⊥

target_call : (stand_in : Bool) (c : Certificate) (key certificate ca : List ℕ) (target : Option SecretObject) → IsNamed c target → IsTargetCall c target (secret_call stand_in c key certificate ca target)
unfolding secret_call new_target old_target
target_call stand_in c key certificate ca None named = refl
target_call stand_in c key certificate ca (Some k) named = (named, refl)

pub for_target : (stand_in : Bool) (c : Certificate) (target : Option SecretObject) (call : Call) → IsNamed c target → IsForTarget stand_in c target call → IsTargetCall c target call
for_target stand_in c target call named f = subst (IsTargetCall c target) (sym f.is) (target_call stand_in c f.key f.certificate f.ca target named)

-- its name is the one that it says
pub target_settled : (c : Certificate) (target : Option SecretObject) (call : Call) (reply : Reply) → IsTargetCall c target call → key_of_call (settled call reply) ≡ target_key c
unfolding settled
target_settled c None (Create object false) reply is = is
target_settled c None (Create object true) reply is = absurd is
target_settled c None (Update object named) reply is = absurd is
target_settled c None (UpdateStatus object named) reply is = absurd is
target_settled c None (Delete key named) reply is = absurd is
target_settled c None (Get key) reply is = absurd is
target_settled c (Some k) (Create object generate) reply is = absurd is
target_settled c (Some k) (Update object named) reply is = is.0
target_settled c (Some k) (UpdateStatus object named) reply is = absurd is
target_settled c (Some k) (Delete key named) reply is = absurd is
target_settled c (Some k) (Get key) reply is = absurd is

pub target_called : (c : Certificate) (target : Option SecretObject) (call : Call) → IsTargetCall c target call → key_of_call call ≡ target_key c
target_called c None (Create object false) is = is
target_called c None (Create object true) is = absurd is
target_called c None (Update object named) is = absurd is
target_called c None (UpdateStatus object named) is = absurd is
target_called c None (Delete key named) is = absurd is
target_called c None (Get key) is = absurd is
target_called c (Some k) (Create object generate) is = absurd is
target_called c (Some k) (Update object named) is = is.0
target_called c (Some k) (UpdateStatus object named) is = absurd is
target_called c (Some k) (Delete key named) is = absurd is
target_called c (Some k) (Get key) is = absurd is

-- ---- what stands under a key that a call is not about

put_apart : (m : Objects) (k : Key) (o : Option Object) (q : Key) → k ≢ q → object_at (put_at m k o) q ≡ object_at m q
put_apart m k o q other = object_at-put m k o q ∙ ap (λ (x : Bool). cond x o (object_at m q)) (off (eq_by_cmp key_cmp q k) refl) where
  off : (x : Bool) → eq_by_cmp key_cmp q k ≡ x → eq_by_cmp key_cmp q k ≡ false
  off true e = absurd (other (sym (key_cmp-IsAntisymmetric q k ((Equal-is (key_cmp q k)).0 e))))
  off false e = e

pub keeps_at : (s : Setting) (h : List Entry) (call : Call) (ok : Bool) (q : Key) → (ok ≡ true → key_of_call call ≢ q)
    → object_at (if ok then put_at (objects s h) (key_of_call call) (stored (accepted s h + 1) (moment s h) (objects s h) call) else objects s h) q ≡ object_at (objects s h) q
keeps_at s h call true q apart = put_apart (objects s h) (key_of_call call) (stored (accepted s h + 1) (moment s h) (objects s h) call) q (apart refl)
keeps_at s h call false q apart = refl

-- ---- how far a pass has come

-- the Certificate and the target stand as they were seen
abbrev pub AreThere : Setting → List Entry → Certificate → Option SecretObject → Type 0
AreThere s h c target = (object_at (objects s h) (key_of (Cert c)) ≡ Some (Cert c)) × (object_at (objects s h) (target_key c) ≡ option_map Secret target)

-- only an issuance goes on behind its Secret
abbrev HasSaved : List Entry → ℕ → Act → Type 0
HasSaved k n (Issue plan) = HasEntry (IsServedCall n plan.secret) k
HasSaved k n other = ⊥

abbrev pub StandsAt : Setting → List Entry → List Entry → ℕ → Certificate → Option SecretObject → Act → Stage → Type 0
StandsAt s h k n c target does Fresh = AreThere s h c target
StandsAt s h k n c target does (Asked order) = ⊥
StandsAt s h k n c target does (Given order value) = ⊥
StandsAt s h k n c target does Read = AreThere s h c target
StandsAt s h k n c target does Saved = (object_at (objects s h) (key_of (Cert c)) ≡ Some (Cert c)) × HasSaved k n does
StandsAt s h k n c target does Wrote = IsCarriedOut k n does
StandsAt s h k n c target does (Refused entry obstacle) = ⊥
StandsAt s h k n c target does Barred = ⊥

-- what is planned, and on what
pub record IsScene (s : Setting) (seen : Views) (since : ℤ) (c : Certificate) (does : Act) : Type 0 where
  pub acts : issuing seen since ≡ does
  pub plan : IsPlan does
  pub sees : seen.certificate ≡ Some c
  pub within : IsWithin roles.Issuing (call_after roles.Issuing seen since) seen since does
  pub planned : PlansFor c seen.secret does
  pub named : IsNamed c seen.secret

pub record GoesWell (s : Setting) (h k : List Entry) (n : ℕ) (seen : Views) (since : ℤ) (c : Certificate) (does : Act) (p : OpenPass) : Type 0 where
  pub issuing : p.role ≡ roles.Issuing
  pub saw : p.seen ≡ seen
  pub began : p.since ≡ since
  pub stands : StandsAt s h k n c seen.secret does p.stage

-- ---- entries that leave both objects

carried_more : (e : Entry) (k : List Entry) (n : ℕ) (does : Act) → IsCarriedOut k n does → IsCarriedOut (e ∷ k) n does
carried_more e k n (Issue plan) is = (inr is.0, inr is.1)
carried_more e k n (Temporary plan) is = inr is
carried_more e k n Nothing is = is
carried_more e k n (Calls call) is = is
carried_more e k n (Asks order) is = is

saved_more : (e : Entry) (k : List Entry) (n : ℕ) (does : Act) → HasSaved k n does → HasSaved (e ∷ k) n does
saved_more e k n (Issue plan) is = inr is
saved_more e k n (Temporary plan) is = is
saved_more e k n Nothing is = is
saved_more e k n (Calls call) is = is
saved_more e k n (Asks order) is = is

stands_more : (s : Setting) (e : Entry) (h k : List Entry) (n : ℕ) (c : Certificate) (target : Option SecretObject) (does : Act) (stage : Stage)
    → object_at (objects s (e ∷ h)) (key_of (Cert c)) ≡ object_at (objects s h) (key_of (Cert c)) → object_at (objects s (e ∷ h)) (target_key c) ≡ object_at (objects s h) (target_key c)
    → StandsAt s h k n c target does stage → StandsAt s (e ∷ h) (e ∷ k) n c target does stage
stands_more s e h k n c target does Fresh x y is = (x ∙ is.0, y ∙ is.1)
stands_more s e h k n c target does (Asked order) x y is = absurd is
stands_more s e h k n c target does (Given order value) x y is = absurd is
stands_more s e h k n c target does Read x y is = (x ∙ is.0, y ∙ is.1)
stands_more s e h k n c target does Saved x y is = (x ∙ is.0, saved_more e k n does is.1)
stands_more s e h k n c target does Wrote x y is = carried_more e k n does is
stands_more s e h k n c target does (Refused entry obstacle) x y is = absurd is
stands_more s e h k n c target does Barred x y is = absurd is

pub well_more : (s : Setting) (e : Entry) (h k : List Entry) (n : ℕ) (seen : Views) (since : ℤ) (c : Certificate) (does : Act) (p : OpenPass)
    → object_at (objects s (e ∷ h)) (key_of (Cert c)) ≡ object_at (objects s h) (key_of (Cert c)) → object_at (objects s (e ∷ h)) (target_key c) ≡ object_at (objects s h) (target_key c)
    → GoesWell s h k n seen since c does p → GoesWell s (e ∷ h) (e ∷ k) n seen since c does p
well_more s e h k n seen since c does p x y g = record { issuing = g.issuing; saw = g.saw; began = g.began; stands = stands_more s e h k n c seen.secret does p.stage x y g.stands }

pub longer : (s : Setting) (e : Entry) (h k : List Entry) (n : ℕ) (seen : Views) (since : ℤ) (c : Certificate) (does : Act) (x : Option OpenPass)
    → object_at (objects s (e ∷ h)) (key_of (Cert c)) ≡ object_at (objects s h) (key_of (Cert c)) → object_at (objects s (e ∷ h)) (target_key c) ≡ object_at (objects s h) (target_key c)
    → IfSome x (GoesWell s h k n seen since c does) → IfSome x (GoesWell s (e ∷ h) (e ∷ k) n seen since c does)
longer s e h k n seen since c does None a b g = tt
longer s e h k n seen since c does (Some p) a b g = well_more s e h k n seen since c does p a b g

-- ---- the reply to a write that fits what stands

no_rule : (rule : Option ℕ) (served : Type 0) (reply : Reply) → rule ≡ None → IsAdmitted rule served reply → served
no_rule None served reply passes right = right
no_rule (Some rule) served reply passes right = absurd (cc passes)

changed : (n : ℕ) (name : List ℕ) (old new : Object) (reply : Reply) → IsChange n name old new reply → IsServedReply reply
changed n name old new reply (inl same) = subst IsServedReply (sym same.1) tt
changed n name old new reply (inr other) = subst IsServedReply (sym other.1) tt

pub at_version : (at : Bool) (n named : ℕ) (name : List ℕ) (old new : Object) (rule : Option ℕ) (reply : Reply) → (named == version_of old) ≡ at → version_of old ≡ named → rule ≡ None
    → MatchBool at (IsAdmitted rule (IsChange n name old new reply) reply) (reply ≡ Conflict named (version_of old)) → IsChange n name old new reply
at_version true n named name old new rule reply e same passes right = no_rule rule (IsChange n name old new reply) reply passes right
at_version false n named name old new rule reply e same passes right = absurd (grind (arith, nat_tests))

-- a new Secret where none stands
made_served : (n : ℕ) (taken : Bool) (object : Object) (old : Option Object) (reply : Reply) → old ≡ None → refusing_rule None object false taken ≡ None → IsCreated n taken object old reply → IsServedReply reply
made_served n taken object None reply none passes right =
    let ok : reply ≡ Ok (n + 1) (name_of object) = no_rule (refusing_rule None object false taken) (reply ≡ Ok (n + 1) (name_of object)) reply passes right in
    subst IsServedReply (sym ok) tt
made_served n taken object (Some old) reply none passes right = absurd (cc none)

-- the one that stands, at its version
updated_served : (n : ℕ) (taken : Bool) (object old : Object) (named : ℕ) (x : Option Object) (reply : Reply) → x ≡ Some old → version_of old ≡ named → refusing_rule (Some old) object false taken ≡ None
    → IsUpdated n taken object named x reply → IsServedReply reply
updated_served n taken object old named x reply there same passes right =
    let served : IsUpdated n taken object named (Some old) reply = subst (λ (o : Option Object). IsUpdated n taken object named o reply) there right in
    changed n (name_of object) old (updated old object) reply
    (at_version (named == version_of old) n named (name_of object) old (updated old object) (refusing_rule (Some old) object false taken) reply refl same passes served)

-- the write of the target, where it stands as it was seen
pub target_served : (P : Option Object → Option Object → Type 0) (s : Setting) (h : List Entry) (seen : Views) (c : Certificate) (target : Option SecretObject) (call : Call) (reply : Reply) → IsLegal s h → AreKnown (writes s h) seen
    → seen.secret ≡ target → OnSeen P seen call → IsTargetCall c target call → object_at (objects s h) (target_key c) ≡ option_map Secret target → IsServedBy (accepted s h) (objects s h) call reply → IsServedReply reply
unfolding OnSeen
target_served P s h seen c None (Create object false) reply legal known is on fits there right =
    let taken = is_taken (objects s h) object in
    made_served (accepted s h) taken object (object_at (objects s h) (key_of object)) reply (ap (object_at (objects s h)) fits ∙ there) (on.passes taken) right
target_served P s h seen c None (Create object true) reply legal known is on fits there right = absurd fits
target_served P s h seen c None (Update object named) reply legal known is on fits there right = absurd fits
target_served P s h seen c None (UpdateStatus object named) reply legal known is on fits there right = absurd fits
target_served P s h seen c None (Delete key named) reply legal known is on fits there right = absurd fits
target_served P s h seen c None (Get key) reply legal known is on fits there right = absurd fits
target_served P s h seen c (Some k) (Create object generate) reply legal known is on fits there right = absurd fits
target_served P s h seen c (Some k) (Update object named) reply legal known is on fits there right =
    let taken = is_taken (objects s h) object in
    let stood : object_at (objects s h) (key_of object) ≡ Some (Secret k) = ap (object_at (objects s h)) fits.0 ∙ there in
    let same : on.old ≡ Secret k = stands_as_seen s h seen (key_of object) named on.old (Secret k) legal known on.sees on.version stood (sym fits.1) in
    updated_served (accepted s h) taken object (Secret k) named (object_at (objects s h) (key_of object)) reply stood (sym fits.1)
    (subst (λ (o : Object). refusing_rule (Some o) object false taken ≡ None) same (on.passes taken)) right
target_served P s h seen c (Some k) (UpdateStatus object named) reply legal known is on fits there right = absurd fits
target_served P s h seen c (Some k) (Delete key named) reply legal known is on fits there right = absurd fits
target_served P s h seen c (Some k) (Get key) reply legal known is on fits there right = absurd fits
