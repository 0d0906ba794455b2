-- In a plain run a pass of issuing that comes to its status finds the Secret as its plan writes it, and all else as it saw it.
use Rattle.std.proofs.Common.{◌≡◌, ◌+◌, ◌==◌, ℕ, ℤ, List, [], ◌∷◌, Bool, true, false, Option, Some, None, refl, sym, ap, subst, ◌∙◌, inl, inr}
use Rattle.std.proofs.lemmas.Bool.Decides.{Decides-eqb}
use Rattle.std.specs.Prelude.{option_and_then, if◌then◌else◌}
use Rattle.cmc_meta.specs.declared.key.Key.{Key}
use Rattle.cmc_meta.specs.declared.key.Kind.TheVariants as kinds
use Rattle.cmc_objects.specs.declared.certificate.Certificate.{Certificate}
use Rattle.cmc_objects.specs.declared.secret.Secret.{Secret as SecretObject}
use Rattle.cmc_objects.specs.declared.object.Object.{Object}
use Rattle.cmc_objects.specs.declared.object.Object.TheVariants.{Cert, Request, Secret}
use Rattle.cmc_objects.specs.declared.call.Call.{Call}
use Rattle.cmc_objects.specs.declared.call.Reply.{Reply}
use Rattle.cmc_objects.specs.declared.call.Reply.TheVariants.{Unchanged}
use Rattle.cmc_objects.specs.declared.entry.Entry.{Entry}
use Rattle.cmc_objects.specs.declared.entry.Entry.TheVariants.{Call as Called, Begin, Ask, Made, Signed, Answered, Judged, End}
use Rattle.cmc_objects.specs.declared.entry.Who.TheVariants.{User, Pass}
use Rattle.cmc_objects.specs.declared.role.Role.{Role}
use Rattle.cmc_objects.specs.declared.role.Role.TheVariants.{Issuing}
use Rattle.cmc_objects.specs.Objects.{key_of}
use Rattle.cmc_pass.specs.declared.pass.Act.TheVariants.{Issue}
use Rattle.cmc_pass.specs.declared.pass.IssuePlan.{IssuePlan}
use Rattle.cmc_pass.specs.declared.pass.Views.{Views}
use Rattle.cmc_pass.specs.declared.value.Value.{Value}
use Rattle.cmc_pass.specs.declared.value.Value.TheVariants as values
use Rattle.cmc_model.specs.Objects.{Objects, object_at}
use Rattle.cmc_model.specs.Replies.{IsReply, is_accepted, key_of_call, put_at, settled, stored}
use Rattle.cmc_model.specs.Histories.{Setting, moment, state, objects, accepted}
use Rattle.cmc_rules.specs.declared.progress.OpenPass.{OpenPass}
use Rattle.cmc_rules.specs.declared.progress.Stage.{Stage}
use Rattle.cmc_rules.specs.declared.progress.Stage.TheVariants.{Fresh, Asked, Given, Read, Saved, Wrote, Refused, Barred}
use Rattle.cmc_rules.specs.Acts.{act}
use Rattle.cmc_rules.specs.Causes.{IsCaused, IsGivenBy, IsNextCall, IsSecretCall, MayCall, MayGive, act_of, after_of}
use Rattle.cmc_rules.specs.Desks.{desk}
use Rattle.cmc_rules.specs.Issuance.{issuing, secret_call}
use Rattle.cmc_rules.specs.Legality.{IsLegal}
use Rattle.cmc_rules.specs.Passes.{gone_on, is_temporary_act, new_pass, open_pass, stage_after, stage_given, with_stage}
use Rattle.cmc_rules.specs.Views.{certificate_in, present_views, secret_in, views, views_in, views_of}
use Rattle.cmc_rules.proofs.Versions.{version_keyed}
use Rattle.cmc_run_laws.specs.Calm.{RunsAlone, is_before_writes}
use Rattle.cmc_run_laws.specs.Issuances.{IsAsWritten, with_certificate, with_secret}
use Rattle.cmc_safety.proofs.Course.{AreSound}
use Rattle.cmc_safety.proofs.InProgress.{IsCaller, IsPlayed, caller_of, played_below}
use Rattle.cmc_safety.proofs.NextCalls.{IsCallAt}
use Rattle.cmc_load_laws.specs.Frame.{key_of_target, seen_of}
use Rattle.cmc_load_laws.specs.Loads.{HasFreeCertificates}
use Rattle.cmc_load_laws.specs.LoadRuns.{SeesAll}
use Rattle.cmc_load_laws.proofs.Belonging.{certificate_of}
use Rattle.cmc_load_laws.proofs.CurrentSecrets.{after_is}
use Rattle.cmc_load_laws.proofs.IssuanceEnds.{IsPlanOf, plan_of, secret_of}
use Rattle.cmc_load_laws.proofs.LoadHistories.{IsForOneIn, after_accepted, for_one_in}
use Rattle.cmc_load_laws.proofs.SavingCalls.{HasSecretCall, IsServedAs, issuing_role, saving, secret_planned, went_by}
use Rattle.cmc_load_laws.proofs.SavedSecrets.{IsSavedAs, left_as, saved_as}
use Rattle.cmc_load_laws.proofs.SeenHistories.{HaveSeen}

-- the plan of the pass, the Secret as it stands, and what there is to see beside it
pub record HasSaved (s : Setting) (h : List Entry) (key : Key) (seen : Views) (since : ℤ) : Type 0 where
  pub plan : IssuePlan
  pub plans : issuing seen since ≡ Issue plan
  pub k : SecretObject
  pub written : IsAsWritten plan.secret k
  pub views : seen_of (objects s h) key ≡ with_secret k seen

-- ---- over that call

target_there : (o : Option Object) (old : SecretObject) → option_and_then secret_in o ≡ Some old → o ≡ Some (Secret old)
target_there None old is = absurd (cc is)
target_there (Some (Cert c)) old is = absurd (cc is)
target_there (Some (Request r)) old is = absurd (cc is)
target_there (Some (Secret k)) old is = ap (λ (x : SecretObject). Some (Secret x)) (let same : k ≡ old = cc is in same)

not_stored : (s : Setting) (h : List Entry) (n : ℕ) (call : Call) (reply : Reply) → is_accepted reply ≡ false → objects s (Called (Pass n) call reply ∷ h) ≡ objects s h
not_stored s h n call reply off =
    ap (λ (b : Bool). if b then put_at (objects s h) (key_of_call (settled call reply)) (stored (accepted s h + 1) (moment s h) (objects s h) (settled call reply)) else objects s h) off

module _ (sound : AreSound) (s : Setting) (h : List Entry) (n : ℕ) (call : Call) (reply : Reply) (load : HasFreeCertificates s) (o : IsPlayed s (Called (Pass n) call reply ∷ h)) (c : IsCaller s h n call) (current : SeesAll s h c.pass) (role : c.pass.role ≡ Issuing)
    (plan : IssuePlan) (plans : issuing c.pass.seen c.pass.since ≡ Issue plan) (calls : call ≡ plan.secret) where
  abbrev pub m : Objects
  m = objects s h

  abbrev pub p : OpenPass
  p = c.pass

  abbrev pub of : IsPlanOf c.pass.seen c.pass.since plan
  of = plan_of c.pass.seen c.pass.since plan plans

  abbrev pub d : Certificate
  d = of.certificate

  below : IsPlayed s h
  below = played_below s (Called (Pass n) call reply) h o

  key_is : key_of (Cert d) ≡ p.key
  key_is = version_keyed s h p.key (Cert d) below.legal (c.version d of.sees)

  sees_now : p.seen ≡ seen_of m p.key
  sees_now = subst (λ (r : Role). p.seen ≡ present_views s h r p.key) role current.sees

  present : object_at m (key_of (Cert d)) ≡ Some (Cert d)
  unfolding views_in views_of
  present = ap (object_at m) key_is ∙ certificate_of (object_at m p.key) d (sym (ap (λ (v : Views). v.certificate) sees_now) ∙ of.sees)

  target_now : p.seen.secret ≡ option_and_then secret_in (object_at m (key_of_target d))
  unfolding views_in views_of
  target_now = ap (λ (v : Views). v.secret) (sees_now ∙ ap (seen_of m) (sym key_is)) ∙ ap (λ (x : Option Object). option_and_then (λ (e : Certificate). option_and_then secret_in (object_at m (key_of_target e))) (option_and_then certificate_in x)) present

  target_is : (old : SecretObject) → p.seen.secret ≡ Some old → (key_of_target d ≡ key_of (Secret old)) × (object_at m (key_of_target d) ≡ Some (Secret old))
  target_is old is =
      (λ i. record { kind = kinds.Secret; namespace = sym (c.saw.well.target_namespace d old of.sees is) i; name = sym (c.saw.well.target_name d old of.sees is) i }, target_there (object_at m (key_of_target d)) old (sym target_now ∙ is))

  call_is : call ≡ secret_call false d of.going.file of.going.request.status.certificate of.going.request.status.ca p.seen.secret
  call_is = calls ∙ ap (λ (x : IssuePlan). x.secret) of.planned.is ∙ secret_of p.since d of.going.file of.going.request p.seen.secret

  saved_by_ok : is_accepted reply ≡ true → HasSaved s (Called (Pass n) call reply ∷ h) p.key p.seen p.since
  saved_by_ok ok =
      let as_is = subst (λ (x : Call). IsSavedAs s h x reply d) (sym call_is) (saved_as s h reply d of.going.file of.going.request.status.certificate of.going.request.status.ca p.seen.secret target_is) in
      let new : Option Object = stored (accepted s h + 1) (moment s h) m (settled call reply) in
      let one = for_one_in sound s h n call reply load o ok in
      let here = subst (λ (x : Option Object). IsForOneIn m (key_of_target d) x) as_is.is (subst (λ (q : Key). IsForOneIn m q new) as_is.key one) in
      let after = after_is s (moment s h) m d as_is.k here present in
      let same : objects s (Called (Pass n) call reply ∷ h) ≡ put_at m (key_of_target d) (Some (Secret as_is.k)) = after_accepted s h (Pass n) call reply ok ∙ (λ i. put_at m (as_is.key i) (as_is.is i)) in
      record {
        plan = plan;
        plans = plans;
        k = as_is.k;
        written = subst (λ (x : Call). IsAsWritten x as_is.k) calls as_is.written;
        views = (λ i. seen_of (same i) (sym key_is i)) ∙ after ∙ ap (λ (v : Views). with_secret as_is.k (with_certificate d v)) (ap (seen_of m) key_is ∙ sym sees_now)
            ∙ ap (λ (x : Option Certificate). with_secret as_is.k (record p.seen { certificate = x })) (sym of.sees);
      }

  saved_by_none : (version : ℕ) → reply ≡ Unchanged version → HasSaved s (Called (Pass n) call reply ∷ h) p.key p.seen p.since
  unfolding IsLegal
  saved_by_none version unchanged =
      let right = subst (λ (x : Call). IsReply s.faults (state s h) x (Unchanged version)) call_is (subst (λ (x : Reply). IsReply s.faults (state s h) call x) unchanged o.legal.0.0) in
      let left = left_as s h version d of.going.file of.going.request.status.certificate of.going.request.status.ca p.seen.secret target_is right in
      record {
        plan = plan;
        plans = plans;
        k = left.0;
        written = subst (λ (x : Call). IsAsWritten x left.0) (sym call_is ∙ calls) left.2;
        views = ap (λ (x : Objects). seen_of x p.key) (not_stored s h n call reply (ap is_accepted unchanged)) ∙ sym sees_now ∙ ap (λ (x : Option SecretObject). record p.seen { secret = x }) left.1;
      }

-- ---- the history of the pass

-- what is given to a pass does not bring it to its status
not_given : (value : Value) (x : Option OpenPass) (q : OpenPass) → x ≡ Some q → MayGive x value → stage_given value q.stage ≡ Saved → ⊥
not_given value x q is may saved = by q.stage refl (subst (λ (y : Option OpenPass). MayGive y value) is may) saved where
  by : (stage : Stage) → q.stage ≡ stage → MayGive (Some q) value → stage_given value stage ≡ Saved → ⊥
  by (Asked order) at may is = absurd (cc is)
  by Saved at may is = subst (λ (t : Stage). IsGivenBy t value) at may
  by Fresh at may is = absurd (cc is)
  by (Given order old) at may is = absurd (cc is)
  by Read at may is = absurd (cc is)
  by Wrote at may is = absurd (cc is)
  by (Refused entry obstacle) at may is = absurd (cc is)
  by Barred at may is = absurd (cc is)

no_given : (s : Setting) (h : List Entry) (n m : ℕ) (value : Value) (p : OpenPass) → (n == m) ≡ true → MayGive (open_pass s h m) value → gone_on n m (λ (q : OpenPass). stage_given value q.stage) (open_pass s h n) ≡ Some p → p.stage ≡ Saved → ⊥
no_given s h n m value p on may opened saved =
    let w = went_by (n == m) (λ (q : OpenPass). stage_given value q.stage) (open_pass s h n) p on opened in
    not_given value (open_pass s h m) w.0 (ap (open_pass s h) (sym ((Decides-eqb n m).0 on)) ∙ w.1) may (ap (λ (q : OpenPass). q.stage) w.2 ∙ saved)

closed : (b : Bool) (x : Option OpenPass) (p : OpenPass) → b ≡ true → (if b then None else x) ≡ Some p → ⊥
closed true x p on is = absurd (cc is)
closed false x p on is = absurd (cc on)

begun : (b : Bool) (new : OpenPass) (x : Option OpenPass) (p : OpenPass) → new.stage ≡ Fresh → b ≡ true → (if b then Some new else x) ≡ Some p → p.stage ≡ Saved → ⊥
begun true new x p fresh on is saved = absurd (let e : Fresh ≡ Saved = sym fresh ∙ ap (λ (q : OpenPass). q.stage) (let same : new ≡ p = cc is in same) ∙ saved in cc e)
begun false new x p fresh on is saved = absurd (cc on)

by_call : AreSound → (s : Setting) (h : List Entry) (n : ℕ) (call : Call) (reply : Reply) (p q : OpenPass) → HasFreeCertificates s → IsPlayed s (Called (Pass n) call reply ∷ h)
    → ((p : OpenPass) → open_pass s h n ≡ Some p → is_before_writes p.stage ≡ true → SeesAll s h p) → open_pass s h n ≡ Some q → with_stage (stage_after s h call reply q) q ≡ p → p.stage ≡ Saved → HasSaved s (Called (Pass n) call reply ∷ h) p.key p.seen p.since
unfolding IsCaused act
by_call sound s h n call reply p q load o sees opened same saved =
    let below = played_below s (Called (Pass n) call reply) h o in
    let c = caller_of sound s h n call below.legal below.caused o.caused.0 in
    let some : Some c.pass ≡ Some q = sym c.opened ∙ opened in
    let one : c.pass ≡ q = cc some in
    let w = saving q.seen.certificate (is_temporary_act (issuing q.seen q.since)) q.stage _ _ _ reply (ap (λ (x : OpenPass). x.stage) same ∙ saved) in
    let read : c.pass.stage ≡ Read = ap (λ (x : OpenPass). x.stage) one ∙ w.read in
    let role = issuing_role c.pass.role c.pass.seen c.pass.since call (subst (λ (t : Stage). IsCallAt t c.pass.role c.pass.seen c.pass.since call) read c.at) in
    let may : IsNextCall c.pass.stage (act_of s h c.pass) (after_of c.pass) call = subst (λ (x : Option OpenPass). MayCall s h x call) c.opened o.caused.0 in
    let next : IsSecretCall (act_of s h c.pass) call = subst (λ (t : Stage). IsNextCall t (act_of s h c.pass) (after_of c.pass) call) read may in
    let acts : IsSecretCall (issuing c.pass.seen c.pass.since) call = subst (λ (r : Role). IsSecretCall (act r c.pass.seen c.pass.since (desk s h c.pass.role c.pass.seen)) call) role next in
    let a = secret_planned (issuing c.pass.seen c.pass.since) call acts (ap (λ (x : OpenPass). is_temporary_act (issuing x.seen x.since)) one ∙ w.lasting) in
    let current = sees c.pass c.opened (ap is_before_writes read) in
    subst (λ (x : OpenPass). HasSaved s (Called (Pass n) call reply ∷ h) x.key x.seen x.since) same
    (subst (λ (x : OpenPass). HasSaved s (Called (Pass n) call reply ∷ h) x.key x.seen x.since) one (by w.served c current role a)) where
      by : IsServedAs reply → (c : IsCaller s h n call) → SeesAll s h c.pass → c.pass.role ≡ Issuing → HasSecretCall (issuing c.pass.seen c.pass.since) call → HasSaved s (Called (Pass n) call reply ∷ h) c.pass.key c.pass.seen c.pass.since
      by (inl ok) c current role a = saved_by_ok sound s h n call reply load o c current role a.plan a.is a.calls (ap is_accepted ok.2)
      by (inr none) c current role a = saved_by_none sound s h n call reply load o c current role a.plan a.is a.calls none.0 none.1

pub has_saved : AreSound → (s : Setting) (h : List Entry) (n : ℕ) (p : OpenPass) → HasFreeCertificates s → IsPlayed s h → HaveSeen s h → RunsAlone n h → open_pass s h n ≡ Some p → p.stage ≡ Saved → HasSaved s h p.key p.seen p.since
unfolding IsCaused
has_saved sound s [] n p load o seen alone opened saved = absurd alone
has_saved sound s (Called User call reply ∷ h) n p load o seen alone opened saved = absurd (cc alone.0)
has_saved sound s (Called (Pass m) call reply ∷ h) n p load o seen alone opened saved =
    let same : n ≡ m = (Decides-eqb n m).0 alone.0 in
    let w = went_by (n == m) (stage_after s h call reply) (open_pass s h n) p alone.0 opened in
    by_call sound s h m call reply p w.0 load o seen.0 (ap (open_pass s h) (sym same) ∙ w.1) w.2 saved
has_saved sound s (Ask m order ∷ h) n p load o seen alone opened saved =
    let w = went_by (n == m) (λ (q : OpenPass). Asked order) (open_pass s h n) p alone.0 opened in
    absurd (let e : Asked order ≡ Saved = ap (λ (q : OpenPass). q.stage) w.2 ∙ saved in cc e)
has_saved sound s (Made m key ∷ h) n p load o seen alone opened saved = absurd (no_given s h n m (values.Made key) p alone.0 o.caused.0 opened saved)
has_saved sound s (Signed m signature ∷ h) n p load o seen alone opened saved = absurd (no_given s h n m (values.Signed signature) p alone.0 o.caused.0 opened saved)
has_saved sound s (Answered m answer ∷ h) n p load o seen alone opened saved = absurd (no_given s h n m (values.Answered answer) p alone.0 o.caused.0 opened saved)
has_saved sound s (Judged m approved ∷ h) n p load o seen alone opened saved = absurd (no_given s h n m (values.Judged approved) p alone.0 o.caused.0 opened saved)
has_saved sound s (End m cause ∷ h) n p load o seen alone opened saved = absurd (closed (n == m) (open_pass s h n) p alone.0 opened)
has_saved sound s (Begin pass role key at now ∷ h) n p load o seen alone opened saved = absurd (begun (n == pass) (new_pass role key (views s h role key) now) (open_pass s h n) p refl ((Decides-eqb n pass).1 alone) opened saved)
has_saved sound s (other ∷ h) n p load o seen alone opened saved = absurd (cc alone.0)
