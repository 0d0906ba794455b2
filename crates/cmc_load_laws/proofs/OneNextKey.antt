-- In a plain run of a load a Certificate has one next key at most.
use Rattle.std.proofs.Common.{◌≡◌, ◌⊎◌, ◌+◌, ◌≤◌, ◌&&◌, ℕ, List, [], ◌∷◌, length, Bool, true, false, Option, Some, None, refl, sym, ap, subst, ◌∙◌, inl, inr, arith}
use Rattle.std.specs.Prelude.{option_and_then, if◌then◌else◌}
use Rattle.cmc_meta.specs.declared.key.Key.{Key}
use Rattle.cmc_objects.specs.declared.certificate.Certificate.{Certificate}
use Rattle.cmc_objects.specs.declared.secret.Secret.{Secret as SecretObject}
use Rattle.cmc_objects.specs.declared.object.Object.{Object}
use Rattle.cmc_objects.specs.declared.object.Object.TheVariants.{Cert, Request, Secret}
use Rattle.cmc_objects.specs.declared.call.Call.{Call}
use Rattle.cmc_objects.specs.declared.call.Call.TheVariants.{Delete, UpdateStatus}
use Rattle.cmc_objects.specs.declared.call.Reply.{Reply}
use Rattle.cmc_objects.specs.declared.entry.Entry.{Entry}
use Rattle.cmc_objects.specs.declared.entry.Entry.TheVariants.{Call as Called}
use Rattle.cmc_objects.specs.declared.entry.Who.TheVariants.{User, Pass}
use Rattle.cmc_objects.specs.declared.role.Role.{Role}
use Rattle.cmc_objects.specs.declared.role.Role.TheVariants.{Issuing, KeyManager}
use Rattle.cmc_pass.specs.declared.pass.Views.{Views}
use Rattle.cmc_model.specs.Acceptance.{IsFounded}
use Rattle.cmc_model.specs.Objects.{Objects, object_at}
use Rattle.cmc_model.specs.Replies.{key_of_call, put_at, settled, stored}
use Rattle.cmc_model.specs.Histories.{Setting, moment, state, objects, accepted}
use Rattle.cmc_model.proofs.Accepting.{accepted_found}
use Rattle.cmc_rules.specs.declared.progress.OpenPass.{OpenPass}
use Rattle.cmc_rules.specs.Desks.{desk}
use Rattle.cmc_rules.specs.Legality.{IsLegal}
use Rattle.cmc_rules.specs.Passes.{open_pass}
use Rattle.cmc_rules.specs.Rights.{MayChange}
use Rattle.cmc_rules.specs.UserSteps.{Follows}
use Rattle.cmc_rules.specs.Views.{has_next_label, is_owned, next_in, next_of, of_certificate, present_views, views_in, views_of}
use Rattle.cmc_run_laws.specs.Calm.{is_before_writes}
use Rattle.cmc_safety.proofs.Course.{AreSound, HasCome, of_open}
use Rattle.cmc_safety.proofs.InProgress.{IsPlayed, played_below}
use Rattle.cmc_load_laws.specs.Loads.{are_load_steps}
use Rattle.cmc_load_laws.specs.LoadRuns.{SeesAll}
use Rattle.cmc_load_laws.proofs.AppliedStores.{stores_certificate}
use Rattle.cmc_load_laws.proofs.AskedActs.{AskedByAct, HoldsOfQuestion, IsOfAct, asked_act}
use Rattle.cmc_load_laws.proofs.CurrentKeys.{IsNewKey, MadeKeysFit, is_new_key, key_call_at}
use Rattle.cmc_load_laws.proofs.KeyCalls.{IsKeyCall, IsMaking}
use Rattle.cmc_load_laws.proofs.LoadScripts.{apply_is_called}
use Rattle.cmc_load_laws.proofs.OwnersAlike.{one_owner, same_next}
use Rattle.cmc_load_laws.proofs.PassRights.{IsAcceptedBy, accepted_by, call_as, next_as}
use Rattle.cmc_load_laws.proofs.PickedCounts.{count, lengths_change, over_call}
use Rattle.cmc_load_laws.proofs.PlainWrites.{before_by}
use Rattle.cmc_load_laws.proofs.RoleWrites.{who_writes_secret}
use Rattle.cmc_load_laws.proofs.SeenHistories.{HaveSeen}
use Rattle.cmc_load_laws.proofs.Splits.{none_picked, one_change}
use Rattle.cmc_load_laws.proofs.UsualVersions.{apply_settled}

-- whatever the Certificate, it owns one next key at most
abbrev pub HaveOneKey : Objects → Type 0
HaveOneKey m = (c : Certificate) → length (next_of m c) ≤ 1

-- ---- what is stored

none_more : (m : Objects) (key : Key) (new : Option Object) (c : Certificate) → option_and_then (next_in c) new ≡ None → length (next_of m c) ≤ 1 → length (next_of (put_at m key new) c) ≤ 1
none_more m key new c none few =
    let one = one_change (next_in c) m key new in
    omega (arith, lengths_change (option_and_then (next_in c) (object_at m key)) (option_and_then (next_in c) new) (next_of m c) (next_of (put_at m key new) c) one, ap count none, few)

at_most_one : (o : Option SecretObject) → count o ≤ 1
at_most_one None = omega arith
at_most_one (Some k) = omega arith

first_one : (m : Objects) (key : Key) (new : Option Object) (c : Certificate) → next_of m c ≡ [] → length (next_of (put_at m key new) c) ≤ 1
first_one m key new c none =
    let one = one_change (next_in c) m key new in
    omega (arith, lengths_change (option_and_then (next_in c) (object_at m key)) (option_and_then (next_in c) new) (next_of m c) (next_of (put_at m key new) c) one, ap length none, at_most_one (option_and_then (next_in c) new))

-- a Secret with no label is no next key
unlabelled : (c : Certificate) (k : SecretObject) → has_next_label k.meta ≡ false → next_in c (Secret k) ≡ None
unlabelled c k off = ap (λ (b : Bool). if b && is_owned c k.meta then Some k else None) off

target_label : (old : Option Object) (k : SecretObject) → MayChange Issuing old (Some (Secret k)) → has_next_label k.meta ≡ false
target_label None k (inl is) = is
target_label (Some o) k (inl is) = absurd is
target_label None k (inr (inl is)) = absurd is
target_label (Some o) k (inr (inl is)) = is.1
target_label None k (inr (inr is)) = absurd is
target_label (Some (Cert c)) k (inr (inr is)) = absurd is
target_label (Some (Request r)) k (inr (inr is)) = absurd is
target_label (Some (Secret j)) k (inr (inr is)) = absurd is

-- ---- what the key manager sees

sees_keys : (s : Setting) (h : List Entry) (v : Views) (key : Key) (c : Certificate) → v ≡ present_views s h KeyManager key → v.certificate ≡ Some c → v.next ≡ next_of (objects s h) c
unfolding views_in views_of
sees_keys s h v key c is sees =
    ap (λ (x : Views). x.next) is ∙ ap (of_certificate (next_of (objects s h))) (sym (ap (λ (x : Views). x.certificate) is) ∙ sees)

-- ---- its writes

pub status_founded : (m : Objects) (call : Call) (reply : Reply) (object : Object) (named : ℕ) → call ≡ UpdateStatus object named → IsFounded m (settled call reply) → object_at m (key_of_call (settled call reply)) ≡ None → ⊥
unfolding settled IsFounded
status_founded m call reply object named is on none =
    let there : IsFounded m (settled (UpdateStatus object named) reply) = subst (λ (x : Call). IsFounded m (settled x reply)) is on in
    let free : object_at m (key_of_call (settled (UpdateStatus object named) reply)) ≡ None = subst (λ (x : Call). object_at m (key_of_call (settled x reply)) ≡ None) is none in
    let e : None ≡ Some there.0 = sym free ∙ there.1 in
    cc e

pub delete_founded : (m : Objects) (call : Call) (reply : Reply) (key : Key) (named : Option ℕ) → call ≡ Delete key named → IsFounded m (settled call reply) → object_at m (key_of_call (settled call reply)) ≡ None → ⊥
unfolding settled IsFounded
delete_founded m call reply key named is on none =
    let there : IsFounded m (settled (Delete key named) reply) = subst (λ (x : Call). IsFounded m (settled x reply)) is on in
    let free : object_at m (key_of_call (settled (Delete key named) reply)) ≡ None = subst (λ (x : Call). object_at m (key_of_call (settled x reply)) ≡ None) is none in
    let e : None ≡ Some there.0 = sym free ∙ there.1 in
    cc e

module _ (s : Setting) (h : List Entry) (n : ℕ) (call : Call) (reply : Reply) (a : IsAcceptedBy s h n call reply) (few : HaveOneKey (objects s h)) where
  abbrev m : Objects
  m = objects s h

  abbrev key : Key
  key = key_of_call (settled call reply)

  abbrev new : Option Object
  new = stored (accepted s h + 1) (moment s h) m (settled call reply)

  -- a key is made for the Certificate that is seen, where none is there
  made_first : (c d : Certificate) (w : IsMaking a.caller.pass.seen d call) → a.caller.pass.seen.next ≡ next_of m d → (k : IsNewKey s h call reply d w.file) → (b : Bool) → is_owned c k.made.meta ≡ b → length (next_of (put_at m key new) c) ≤ 1
  made_first c d w are k true owned =
      first_one m key new c (same_next m c d (one_owner c d k.made.meta k.namespace k.owners owned) ∙ sym are ∙ w.next)
  made_first c d w are k false owned =
      none_more m key new c (ap (option_and_then (next_in c)) k.is ∙ ap (λ (b : Bool). if has_next_label k.made.meta && b then Some k.made else None) owned ∙ ap (λ (b : Bool). if b && false then Some k.made else None) k.labelled) (few c)

  made_by : (c d : Certificate) → a.caller.pass.seen.next ≡ next_of m d → object_at m key ≡ None → IsKeyCall a.caller.pass.seen d call → length (next_of (put_at m key new) c) ≤ 1
  made_by c d are none (inl w) = absurd (status_founded m call reply _ _ w.is a.founded none)
  made_by c d are none (inr (inl w)) = absurd (status_founded m call reply _ _ w.is a.founded none)
  made_by c d are none (inr (inr (inl w))) = absurd (delete_founded m call reply _ _ w.is a.founded none)
  made_by c d are none (inr (inr (inr (inl w)))) = absurd (delete_founded m call reply _ _ w.is a.founded none)
  made_by c d are none (inr (inr (inr (inr (inl w))))) =
      let k = is_new_key s h call reply d w.file a.ok a.founded w.is in
      made_first c d w are k (is_owned c k.made.meta) refl
  made_by c d are none (inr (inr (inr (inr (inr many))))) = absurd (omega (arith, many, ap length are, few d))

  by_manager : MadeKeysFit → IsPlayed s h → (c : Certificate) → a.caller.pass.role ≡ KeyManager → object_at m key ≡ None → ((p : OpenPass) → open_pass s h n ≡ Some p → is_before_writes p.stage ≡ true → SeesAll s h p)
      → length (next_of (put_at m key new) c) ≤ 1
  by_manager fit o c is none sees =
      let p : OpenPass = a.caller.pass in
      let next = next_as s h n call reply a KeyManager is in
      let at = call_as s h n call reply a KeyManager is in
      let before = before_by p.stage KeyManager p.seen p.since _ _ call (λ e. absurd (cc e)) next at in
      let current = sees p a.caller.opened before in
      let asked = of_open (AskedByAct s) (open_pass s h n) p a.caller.opened (asked_act s h n o.caused) in
      let by = key_call_at fit s h n p.seen p.since (desk s h p.role p.seen) p.stage call (subst (λ (r : Role). HoldsOfQuestion p.stage (IsOfAct s r p.seen p.since)) is asked)
      (subst (λ (r : Role). HasCome h n r p.seen p.since p.stage) is a.caller.done) next at
      in
      let seen = subst (λ (r : Role). p.seen ≡ present_views s h r p.key) is current.sees in
      made_by c by.certificate (sees_keys s h p.seen p.key by.certificate seen by.sees) none by.so

  over_pass : MadeKeysFit → IsPlayed s h → ((p : OpenPass) → open_pass s h n ≡ Some p → is_before_writes p.stage ≡ true → SeesAll s h p) → (o : Option Object) → new ≡ o → HaveOneKey (put_at m key new)
  over_pass fit o sees None is c = none_more m key new c (ap (option_and_then (next_in c)) is) (few c)
  over_pass fit o sees (Some (Cert d)) is c = none_more m key new c (ap (option_and_then (next_in c)) is) (few c)
  over_pass fit o sees (Some (Request r)) is c = none_more m key new c (ap (option_and_then (next_in c)) is) (few c)
  over_pass fit o sees (Some (Secret k)) is c = by (who_writes_secret a.caller.pass.role (object_at m key) k rights) where
    rights : MayChange a.caller.pass.role (object_at m key) (Some (Secret k))
    rights = subst (λ (x : Option Object). MayChange a.caller.pass.role (object_at m key) x) is a.write.rights

    by : ((a.caller.pass.role ≡ KeyManager) × (object_at m key ≡ None)) ⊎ (a.caller.pass.role ≡ Issuing) → length (next_of (put_at m key new) c) ≤ 1
    by (inl made) = by_manager fit o c made.0 made.1 sees
    by (inr issuing) =
        none_more m key new c
        (ap (option_and_then (next_in c)) is ∙ unlabelled c k (target_label (object_at m key) k (subst (λ (r : Role). MayChange r (object_at m key) (Some (Secret k))) issuing rights))) (few c)

over_user : (m : Objects) (key : Key) (new : Option Object) (d : Certificate) → new ≡ Some (Cert d) → HaveOneKey m → HaveOneKey (put_at m key new)
over_user m key new d is few c = none_more m key new c (ap (option_and_then (next_in c)) is) (few c)

-- ---- histories

pub one_key : AreSound → MadeKeysFit → (s : Setting) (h : List Entry) → are_load_steps s.script ≡ true → IsPlayed s h → HaveSeen s h → HaveOneKey (objects s h)
unfolding IsLegal Follows
one_key sound fit s [] are o seen = λ c. omega (arith, ap length (none_picked (next_in c)))
one_key sound fit s (Called User call reply ∷ h) are o seen =
    let below = played_below s (Called User call reply) h o in
    let few = one_key sound fit s h are below seen in
    over_call HaveOneKey s h User call reply few
    (λ ok.
    let d = stores_certificate s h (accepted s h + 1) (moment s h) (settled call reply) below.legal (apply_settled s call reply (apply_is_called s h call are o.follows.0)) (accepted_found s.faults (state s h) call reply o.legal.0.0 ok) in
    over_user (objects s h) (key_of_call (settled call reply)) (stored (accepted s h + 1) (moment s h) (objects s h) (settled call reply)) d.0 d.1 few)
one_key sound fit s (Called (Pass n) call reply ∷ h) are o seen =
    let below = played_below s (Called (Pass n) call reply) h o in
    let few = one_key sound fit s h are below seen.1 in
    over_call HaveOneKey s h (Pass n) call reply few
    (λ ok. over_pass s h n call reply (accepted_by sound s h n call reply o ok) few fit below seen.0 (stored (accepted s h + 1) (moment s h) (objects s h) (settled call reply)) refl)
one_key sound fit s (other ∷ h) are o seen = one_key sound fit s h are (played_below s other h o) seen
