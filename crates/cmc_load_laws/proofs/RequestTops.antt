-- In a plain run of a load no request is of a later revision than the one that its Certificate has, or that is being issued.
use Rattle.std.proofs.Common.{◌≡◌, ◌⊎◌, ◌+◌, ◌≤◌, ℕ, List, [], ◌∷◌, length, true, Option, Some, None, refl, sym, ap, subst, ◌∙◌, inl, inr, arith}
use Rattle.std.specs.Prelude.{codes, unwrap_or}
use Rattle.cmc_meta.specs.declared.key.Key.{Key}
use Rattle.cmc_meta.specs.declared.object_meta.ObjectMeta.{ObjectMeta}
use Rattle.cmc_meta.specs.PairLists.{text_by_key}
use Rattle.cmc_meta.proofs.DecimalLaws.{number_again}
use Rattle.cmc_objects.specs.declared.certificate.Certificate.{Certificate}
use Rattle.cmc_objects.specs.declared.request.CertificateRequest.{CertificateRequest}
use Rattle.cmc_objects.specs.declared.object.Object.{Object}
use Rattle.cmc_objects.specs.declared.object.Object.TheVariants.{Cert, Request}
use Rattle.cmc_objects.specs.declared.call.Call.{Call}
use Rattle.cmc_objects.specs.declared.call.Reply.{Reply}
use Rattle.cmc_objects.specs.declared.entry.Entry.{Entry}
use Rattle.cmc_objects.specs.declared.entry.Entry.TheVariants.{Call as Called}
use Rattle.cmc_objects.specs.declared.entry.Who.TheVariants.{User, Pass}
use Rattle.cmc_objects.specs.declared.role.Role.{Role}
use Rattle.cmc_objects.specs.declared.role.Role.TheVariants.{RequestManager}
use Rattle.cmc_match.specs.Revisions.{number_of, revision_of}
use Rattle.cmc_pass.specs.declared.pass.Views.{Views}
use Rattle.cmc_model.specs.Objects.{Objects, object_at}
use Rattle.cmc_model.specs.Replies.{is_accepted, key_of_call, put_at, settled, stored}
use Rattle.cmc_model.specs.Histories.{Setting, moment, state, objects, accepted}
use Rattle.cmc_model.proofs.Accepting.{accepted_found}
use Rattle.cmc_rules.specs.declared.progress.OpenPass.{OpenPass}
use Rattle.cmc_rules.specs.Desks.{desk}
use Rattle.cmc_rules.specs.Legality.{IsLegal}
use Rattle.cmc_rules.specs.NextRequests.{HasNextRevision, next_revision}
use Rattle.cmc_rules.specs.Passes.{open_pass}
use Rattle.cmc_rules.specs.RevisionManager.{revision}
use Rattle.cmc_rules.specs.Rights.{KeepsMeta, MayChange}
use Rattle.cmc_rules.specs.Trigger.{is_issuing}
use Rattle.cmc_rules.specs.UserSteps.{Follows}
use Rattle.cmc_rules.specs.Views.{is_owned, present_views, views_in, views_of}
use Rattle.cmc_rules.proofs.Versions.{stands_is_version, uid_has_one_key}
use Rattle.cmc_run_laws.specs.Calm.{is_before_writes}
use Rattle.cmc_safety.specs.Formed.{IsFormed}
use Rattle.cmc_safety.proofs.Course.{AreSound, HasCome, of_open}
use Rattle.cmc_safety.proofs.InProgress.{IsPlayed, played_below}
use Rattle.cmc_safety.proofs.MayAct.{may_act_pass}
use Rattle.cmc_load_laws.specs.Loads.{IsLoad}
use Rattle.cmc_load_laws.specs.LoadRuns.{SeesAll}
use Rattle.cmc_load_laws.proofs.AppliedOwners.{owned_same, owner_stood}
use Rattle.cmc_load_laws.proofs.AppliedStores.{stores_certificate}
use Rattle.cmc_load_laws.proofs.AskedActs.{AskedByAct, HoldsOfQuestion, IsOfAct, asked_act}
use Rattle.cmc_load_laws.proofs.Belonging.{certificate_of}
use Rattle.cmc_load_laws.proofs.CurrentHistories.{run_below, shorter}
use Rattle.cmc_load_laws.proofs.CurrentRequests.{is_new_request, low_revision}
use Rattle.cmc_load_laws.proofs.LoadScripts.{apply_is_called}
use Rattle.cmc_load_laws.proofs.OldRequests.{is_number_of}
use Rattle.cmc_load_laws.proofs.OneNextKey.{delete_founded}
use Rattle.cmc_load_laws.proofs.OwnedPairs.{HavePairs, over_put}
use Rattle.cmc_load_laws.proofs.OwnersAlike.{one_owner}
use Rattle.cmc_load_laws.proofs.Parts.{weight_on}
use Rattle.cmc_load_laws.proofs.PassRights.{IsAcceptedBy, accepted_by, call_as, next_as}
use Rattle.cmc_load_laws.proofs.PickedCounts.{over_call}
use Rattle.cmc_load_laws.proofs.PlainWrites.{before_by}
use Rattle.cmc_load_laws.proofs.Requested.{own_revision}
use Rattle.cmc_load_laws.proofs.RevisionTops.{top, top_alike}
use Rattle.cmc_load_laws.proofs.RoleWrites.{WasRequest, was_certificate, was_request}
use Rattle.cmc_load_laws.proofs.SeenHistories.{HaveSeen}
use Rattle.cmc_load_laws.proofs.SignedRequests.{IsManagersCall, managers_call}
use Rattle.cmc_load_laws.proofs.StatusWrites.{NeverFails, status_top}
use Rattle.cmc_load_laws.proofs.UsualVersions.{apply_settled}

abbrev pub HaveTops : Objects → Type 0
HaveTops m = HavePairs (λ c r. revision r ≤ top c) m

revision_same : (q r : CertificateRequest) → KeepsMeta q.meta r.meta → revision r ≡ revision q
unfolding revision_of
revision_same q r kept = ap (λ (m : ObjectMeta). unwrap_or (number_of (text_by_key m.annotations (codes "cert-manager.io/certificate-revision"))) 0) kept

-- ---- what the request manager sees

pub manager_sees : (s : Setting) (h : List Entry) (v : Views) (key : Key) (c : Certificate) → v ≡ present_views s h RequestManager key → v.certificate ≡ Some c → object_at (objects s h) key ≡ Some (Cert c)
unfolding views_in views_of
manager_sees s h v key c is sees = certificate_of (object_at (objects s h) key) c (sym (ap (λ (x : Views). x.certificate) is) ∙ sees)

module _ (s : Setting) (h : List Entry) (n : ℕ) (call : Call) (reply : Reply) (a : IsAcceptedBy s h n call reply) (tops : HaveTops (objects s h)) where
  abbrev pub m : Objects
  m = objects s h

  abbrev pub key : Key
  key = key_of_call (settled call reply)

  abbrev pub new : Option Object
  new = stored (accepted s h + 1) (moment s h) m (settled call reply)

  abbrev pub p : OpenPass
  p = a.caller.pass

  certificate_top : NeverFails s h → (kq : Key) (c : Certificate) (r : CertificateRequest) → new ≡ Some (Cert c) → object_at m kq ≡ Some (Request r) → is_owned c r.meta ≡ true → revision r ≤ top c
  certificate_top never kq c r is there owned =
      let w = was_certificate p.role (object_at m key) c (subst (λ (x : Option Object). MayChange p.role (object_at m key) x) is a.write.rights) in
      let d : Certificate = w.before in
      let same : Some (Cert w.later.later) ≡ Some (Cert c) = sym w.later.is in
      let one : w.later.later ≡ c = cc same in
      let owns : is_owned d r.meta ≡ true =
      owned_same d c r.meta (w.later.same.namespace ∙ ap (λ (x : Certificate). x.meta.namespace) one) (w.later.same.uid ∙ ap (λ (x : Certificate). x.meta.uid) one) ∙ owned in
      omega (arith, tops key kq d r w.was there owns, status_top s h n call reply a never d c w.was is)

  -- a request of the next revision is made for the Certificate that is seen, and that is being issued
  made_top : (kc : Key) (c d : Certificate) (r : CertificateRequest) → object_at m kc ≡ Some (Cert c) → object_at m p.key ≡ Some (Cert d) → HasNextRevision (Some d) → new ≡ Some (Request r) → is_owned c r.meta ≡ true → object_at m key ≡ None
      → IsManagersCall p.seen d call → revision r ≤ top c
  made_top kc c d r at stands low is owned none (inl (inl w)) = absurd (delete_founded m call reply _ _ w.is a.founded none)
  made_top kc c d r at stands low is owned none (inl (inr w)) = absurd (delete_founded m call reply _ _ w.is a.founded none)
  made_top kc c d r at stands low is owned none (inr w) =
      let q = is_new_request s h call reply d w.has.key _ a.ok a.founded w.is in
      let same : Some (Request q.made) ≡ Some (Request r) = sym q.is ∙ is in
      let one : q.made ≡ r = cc same in
      let owned_made : is_owned c q.made.meta ≡ true = ap (λ (x : CertificateRequest). is_owned c x.meta) one ∙ owned in
      let owner = one_owner c d q.made.meta q.namespace q.owners owned_made in
      let keys : p.key ≡ kc = uid_has_one_key s h p.key kc (Cert d) (Cert c) a.legal (stands_is_version s h p.key (Cert d) stands) (stands_is_version s h kc (Cert c) at) (sym owner.uid) in
      let there : Some (Cert d) ≡ Some (Cert c) = sym stands ∙ ap (object_at m) keys ∙ at in
      let its : d ≡ c = cc there in
      let next = own_revision d w.has.key q.made q.marks (number_again (next_revision d) (low_revision d (Some d) refl low)) in
      subst (λ (x : Certificate). revision r ≤ top x) its
      (omega (arith, ap revision one, is_number_of (revision_of q.made) (next_revision d) next, weight_on 1 (is_issuing d) w.has.issuing))

  by_manager : IsPlayed s h → HasNextRevision p.seen.certificate → ((q : OpenPass) → open_pass s h n ≡ Some q → is_before_writes q.stage ≡ true → SeesAll s h q) → (kc : Key) (c : Certificate) (r : CertificateRequest) → object_at m kc ≡ Some (Cert c)
      → new ≡ Some (Request r) → is_owned c r.meta ≡ true → p.role ≡ RequestManager → object_at m key ≡ None → revision r ≤ top c
  by_manager o low sees kc c r at is owned manager none =
      let next = next_as s h n call reply a RequestManager manager in
      let at_stage = call_as s h n call reply a RequestManager manager in
      let before = before_by p.stage RequestManager p.seen p.since _ _ call (λ e. absurd (cc e)) next at_stage in
      let current = sees p a.caller.opened before in
      let asked = of_open (AskedByAct s) (open_pass s h n) p a.caller.opened (asked_act s h n o.caused) in
      let by = managers_call s h n p.seen p.since (desk s h p.role p.seen) p.stage call (subst (λ (x : Role). HoldsOfQuestion p.stage (IsOfAct s x p.seen p.since)) manager asked)
      (subst (λ (x : Role). HasCome h n x p.seen p.since p.stage) manager a.caller.done) next at_stage
      in
      let seen = subst (λ (x : Role). p.seen ≡ present_views s h x p.key) manager current.sees in
      made_top kc c by.certificate r at (manager_sees s h p.seen p.key by.certificate seen by.sees) (subst HasNextRevision by.sees low) is owned none by.so

  request_top : IsPlayed s h → HasNextRevision p.seen.certificate → ((q : OpenPass) → open_pass s h n ≡ Some q → is_before_writes q.stage ≡ true → SeesAll s h q) → (kc : Key) (c : Certificate) (r : CertificateRequest) → object_at m kc ≡ Some (Cert c)
      → new ≡ Some (Request r) → is_owned c r.meta ≡ true → revision r ≤ top c
  request_top o low sees kc c r at is owned = by (was_request p.role (object_at m key) r (subst (λ (x : Option Object). MayChange p.role (object_at m key) x) is a.write.rights)) where
    by : ((p.role ≡ RequestManager) × (object_at m key ≡ None)) ⊎ WasRequest (object_at m key) r → revision r ≤ top c
    by (inl made) = by_manager o low sees kc c r at is owned made.0 made.1
    by (inr w) = omega (arith, revision_same w.before r w.kept, tops kc key c w.before at w.was (sym (ap (is_owned c) w.kept) ∙ owned))

  pub over_pass : NeverFails s h → IsPlayed s h → HasNextRevision p.seen.certificate → ((q : OpenPass) → open_pass s h n ≡ Some q → is_before_writes q.stage ≡ true → SeesAll s h q) → HaveTops (put_at m key new)
  over_pass never o low sees = over_put (λ c r. revision r ≤ top c) m key new tops (certificate_top never) (request_top o low sees)

-- ---- over a call of the user

over_user : AreSound → (s : Setting) (h : List Entry) (call : Call) (reply : Reply) → IsLoad s → IsPlayed s (Called User call reply ∷ h) → is_accepted reply ≡ true → HaveTops (objects s h)
    → HaveTops (put_at (objects s h) (key_of_call (settled call reply)) (stored (accepted s h + 1) (moment s h) (objects s h) (settled call reply)))
unfolding IsLegal Follows
over_user sound s h call reply load o ok tops =
    let below = played_below s (Called User call reply) h o in
    let applies = apply_settled s call reply (apply_is_called s h call load.steps o.follows.0) in
    let founded = accepted_found s.faults (state s h) call reply o.legal.0.0 ok in
    let d = stores_certificate s h (accepted s h + 1) (moment s h) (settled call reply) below.legal applies founded in
    over_put (λ c r. revision r ≤ top c) (objects s h) (key_of_call (settled call reply)) (stored (accepted s h + 1) (moment s h) (objects s h) (settled call reply)) tops
    (λ kq c r is there owned.
    let w = owner_stood sound s h call reply load o ok kq c r is there owned in
    omega (arith, tops (key_of_call (settled call reply)) kq w.before r w.was there w.owned, top_alike c w.before w.revision w.issuing))
    (λ kc c r at is owned. absurd (let e : Some (Cert d.0) ≡ Some (Request r) = sym d.1 ∙ is in cc e))

-- ---- histories

pub have_tops : AreSound → (s : Setting) (h : List Entry) → IsFormed s → IsLoad s → length h ≤ s.events → ((k : List Entry) → IsPlayed s k → length k ≤ s.events → NeverFails s k) → IsPlayed s h → HaveSeen s h → HaveTops (objects s h)
have_tops sound s [] formed load short never o seen = λ kc kq c r at there owned. absurd (stands_is_version s [] kc (Cert c) at)
have_tops sound s (Called User call reply ∷ h) formed load short never o seen =
    let tops = have_tops sound s h formed load (shorter (Called User call reply) h s.events short) never (played_below s (Called User call reply) h o) seen in
    over_call HaveTops s h User call reply tops (λ ok. over_user sound s h call reply load o ok tops)
have_tops sound s (Called (Pass n) call reply ∷ h) formed load short never o seen =
    let below = played_below s (Called (Pass n) call reply) h o in
    let less = shorter (Called (Pass n) call reply) h s.events short in
    let tops = have_tops sound s h formed load less never below seen.1 in
    over_call HaveTops s h (Pass n) call reply tops
    (λ ok.
    let a = accepted_by sound s h n call reply o ok in
    let may = may_act_pass sound s h n a.caller.pass formed (run_below s h n call reply o less) a.caller.opened in
    over_pass s h n call reply a tops (never h below less) below may.revision seen.0)
have_tops sound s (other ∷ h) formed load short never o seen = have_tops sound s h formed load (shorter other h s.events short) never (played_below s other h o) seen
