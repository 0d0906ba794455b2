-- In a run of a load each Certificate that was written exists.
use Rattle.std.proofs.Common.{◌≡◌, ◌+◌, ℕ, ℤ, List, ◌∷◌, Option, Some, None, Bool, true, false, cond, refl, sym, ap, subst, ◌∙◌, inl, inr}
use Rattle.std.specs.BTreeMap.{is_at}
use Rattle.cmc_meta.specs.declared.key.Key.{Key}
use Rattle.cmc_meta.specs.Keys.{key_cmp}
use Rattle.cmc_objects.specs.declared.certificate.Certificate.{Certificate}
use Rattle.cmc_objects.specs.declared.object.Object.{Object}
use Rattle.cmc_objects.specs.declared.object.Object.TheVariants.{Cert, Request, Secret}
use Rattle.cmc_objects.specs.declared.call.Call.{Call}
use Rattle.cmc_objects.specs.declared.call.Call.TheVariants.{Create, Update, UpdateStatus, Delete, Get}
use Rattle.cmc_objects.specs.declared.call.Reply.{Reply}
use Rattle.cmc_objects.specs.declared.entry.Entry.{Entry}
use Rattle.cmc_objects.specs.declared.role.Role.{Role}
use Rattle.cmc_objects.specs.Objects.{key_of, numbered}
use Rattle.cmc_model.specs.declared.write.Write.{Write}
use Rattle.cmc_model.specs.Objects.{Objects, object_at}
use Rattle.cmc_model.specs.Stored.{updated, with_status, revised, restated}
use Rattle.cmc_model.specs.Acceptance.{IsFounded}
use Rattle.cmc_model.specs.Replies.{key_of_call, from_old, settled, stored}
use Rattle.cmc_model.specs.Histories.{Setting, moment, state, objects, accepted}
use Rattle.cmc_model.specs.Versions.{IsVersion}
use Rattle.cmc_model.specs.Writes.{writes, contents}
use Rattle.cmc_model.proofs.Accepting.{accepted_found}
use Rattle.cmc_model.proofs.Versions.{object_at-put}
use Rattle.cmc_model.proofs.Writes.{writes_leave}
use Rattle.cmc_rules.specs.Legality.{IsLegal}
use Rattle.cmc_rules.specs.Rights.{MayChange}
use Rattle.cmc_rules.proofs.Versions.{stands_is_version, version_keyed}
use Rattle.cmc_safety.proofs.Carried.{newest}
use Rattle.cmc_safety.proofs.Course.{AreSound}
use Rattle.cmc_safety.proofs.InProgress.{IsPlayed}
use Rattle.cmc_load_laws.specs.Loads.{HasFreeCertificates}
use Rattle.cmc_load_laws.proofs.Belonging.{itself}
use Rattle.cmc_load_laws.proofs.PassRights.{accepted_by}
use Rattle.cmc_load_laws.proofs.PlayedWrites.{carried_on}
use Rattle.cmc_load_laws.proofs.RolesKeep.{certificate_later}
use Rattle.cmc_load_laws.proofs.ScriptCalls.{IsScriptCall, script_call}
use Rattle.cmc_load_laws.proofs.Totals.{one_key}

-- there is a version of the Certificate
abbrev pub IsThere : Certificate → Option Object → Type 0
IsThere c o = (d : Certificate) × (o ≡ Some (Cert d)) × (d.meta.uid ≡ c.meta.uid)

-- where one was there is one afterwards
abbrev pub Stays : Option Object → Option Object → Type 0
Stays old new = (c : Certificate) → old ≡ Some (Cert c) → IsThere c new

abbrev pub HaveStayed : List Write → Type 0
HaveStayed ws = (key : Key) (c : Certificate) → IsVersion key (Cert c) ws → IsThere c (object_at (contents ws) key)

-- ---- over a write

pub put_is : (w : Write) (ws : List Write) (key : Key) (b : Bool) → is_at (key_cmp key) w.key ≡ b → object_at (contents (w ∷ ws)) key ≡ cond b w.object (object_at (contents ws) key)
unfolding contents
put_is w ws key b is = object_at-put (contents ws) w.key w.object key ∙ ap (λ (x : Bool). cond x w.object (object_at (contents ws) key)) is

stays_by : (b : Bool) (w : Write) (ws : List Write) (key : Key) (c : Certificate) → is_at (key_cmp key) w.key ≡ b → Stays (object_at (contents ws) w.key) w.object → IsThere c (object_at (contents ws) key)
    → IsThere c (object_at (contents (w ∷ ws)) key)
stays_by true w ws key c here stays there =
    let later = stays there.0 (ap (object_at (contents ws)) (sym (one_key key w.key here)) ∙ there.1) in
    (later.0, put_is w ws key true here ∙ later.1, later.2 ∙ there.2)
stays_by false w ws key c here stays there = (there.0, put_is w ws key false here ∙ there.1, there.2)

more_stayed : (w : Write) (ws : List Write) → Stays (object_at (contents ws) w.key) w.object → HaveStayed ws → HaveStayed (w ∷ ws)
more_stayed w ws stays each key c (inl here) =
    (c, put_is w ws key true (subst (λ (k : Key). is_at (key_cmp key) k ≡ true) (sym here.0) (itself key)) ∙ here.1, refl)
more_stayed w ws stays each key c (inr there) = stays_by (is_at (key_cmp key) w.key) w ws key c refl stays (each key c there)

-- ---- what calls leave

of_revised : (v : ℕ) (c : Certificate) (object : Object) → IsThere c (Some (revised v (Cert c) object))
unfolding numbered updated
of_revised v c (Cert d) = (_, refl, refl)
of_revised v c (Request r) = (_, refl, refl)
of_revised v c (Secret k) = (_, refl, refl)

of_restated : (v : ℕ) (c : Certificate) (object : Object) → IsThere c (Some (restated v (Cert c) object))
unfolding numbered with_status
of_restated v c (Cert d) = (_, refl, refl)
of_restated v c (Request r) = (_, refl, refl)
of_restated v c (Secret k) = (_, refl, refl)

from_there : (f : Object → Object) (c : Certificate) (o : Option Object) → o ≡ Some (Cert c) → IsThere c (Some (f (Cert c))) → IsThere c (from_old f o)
from_there f c o is there = (there.0, ap (from_old f) is ∙ there.1, there.2)

user_stays : (s : Setting) (h : List Entry) (v : ℕ) (now : ℤ) (call : Call) → HasFreeCertificates s → IsLegal s h → IsScriptCall s call → IsFounded (objects s h) call
    → Stays (object_at (objects s h) (key_of_call call)) (stored v now (objects s h) call)
unfolding IsFounded
user_stays s h v now (Create object generate) load legal script on c is = absurd (let none : None ≡ Some (Cert c) = sym on.0 ∙ is in cc none)
user_stays s h v now (Update object named) load legal script on c is = from_there (λ o. revised v o object) c (object_at (objects s h) (key_of object)) is (of_revised v c object)
user_stays s h v now (UpdateStatus object named) load legal script on c is = from_there (λ o. restated v o object) c (object_at (objects s h) (key_of object)) is (of_restated v c object)
user_stays s h v now (Delete key named) load legal script on c is =
    absurd (load.kept key script (sym (ap (λ (k : Key). k.kind) (version_keyed s h key (Cert c) legal (stands_is_version s h key (Cert c) is)))))
user_stays s h v now (Get key) load legal script on c is = absurd on

script_settled : (s : Setting) (call : Call) (reply : Reply) → IsScriptCall s call → IsScriptCall s (settled call reply)
unfolding settled
script_settled s (Create object false) reply is = is
script_settled s (Create object true) reply is = absurd is
script_settled s (Update object named) reply is = is
script_settled s (UpdateStatus object named) reply is = is
script_settled s (Delete key named) reply is = is
script_settled s (Get key) reply is = is

pub user_call : (s : Setting) (h : List Entry) (call : Call) (reply : Reply) → IsScriptCall s call → IsScriptCall s (settled call reply)
user_call s h call reply is = script_settled s call reply is

pub role_stays : (role : Role) (old new : Option Object) → MayChange role old new → Stays old new
role_stays role old new may c is =
    let later = certificate_later role c new (subst (λ (o : Option Object). MayChange role o new) is may) in
    (later.later, later.is, sym later.same.uid)

-- ---- histories

over_contents : (s : Setting) (h : List Entry) (key : Key) (new : Option Object) → Stays (object_at (objects s h) key) new → Stays (object_at (contents (writes s h)) key) new
over_contents s h key new stays = subst (λ (m : Objects). Stays (object_at m key) new) (sym (writes_leave s h)) stays

pub have_stayed : AreSound → (s : Setting) (h : List Entry) → HasFreeCertificates s → IsPlayed s h → HaveStayed (writes s h)
have_stayed sound s h load o =
    carried_on HaveStayed s
    (record {
      none = λ key c has. absurd has;
      user = λ h call reply o right owes ok before.
          more_stayed (newest s h call reply) (writes s h)
          (over_contents s h (key_of_call (settled call reply)) (newest s h call reply).object
          (user_stays s h (accepted s h + 1) (moment s h) (settled call reply) load o.legal (script_settled s call reply (script_call s h call owes)) (accepted_found s.faults (state s h) call reply right ok)))
          before;
      pass = λ h m call reply o ok before.
          let by = accepted_by sound s h m call reply o ok in
          more_stayed (newest s h call reply) (writes s h)
          (over_contents s h (key_of_call (settled call reply)) (newest s h call reply).object
          (role_stays by.caller.pass.role (object_at (objects s h) (key_of_call (settled call reply))) (newest s h call reply).object by.write.rights))
          before;
    })
    h o
