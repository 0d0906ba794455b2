-- In a plain run of a load the writes of roles lower the measure.
use Rattle.std.proofs.Common.{◌≡◌, ◌⊎◌, ◌≤◌, ◌<◌, ◌^◌, ℕ, ℤ, List, ◌∷◌, length, true, false, Option, Some, None, refl, sym, ap, subst, ◌∙◌, inl, inr, arith}
use Rattle.std.specs.Prelude.{filter}
use Rattle.cmc_meta.specs.declared.key.Key.{Key}
use Rattle.cmc_objects.specs.declared.certificate.Certificate.{Certificate}
use Rattle.cmc_objects.specs.declared.object.Object.TheVariants.{Cert, Request}
use Rattle.cmc_objects.specs.declared.call.Call.{Call}
use Rattle.cmc_objects.specs.declared.call.Reply.{Reply}
use Rattle.cmc_objects.specs.declared.entry.Entry.{Entry}
use Rattle.cmc_objects.specs.declared.entry.Entry.TheVariants.{Call as Called}
use Rattle.cmc_objects.specs.declared.entry.Who.TheVariants.{Pass}
use Rattle.cmc_objects.specs.declared.orders.Order.{Order}
use Rattle.cmc_objects.specs.declared.role.Role.{Role}
use Rattle.cmc_objects.specs.declared.role.Role.TheVariants.{Trigger, KeyManager, RequestManager, Approver, Issuer, Issuing, Readiness, Revision}
use Rattle.cmc_match.specs.Revisions.{is_of_revision}
use Rattle.cmc_pass.specs.declared.pass.Act.{Act}
use Rattle.cmc_pass.specs.declared.pass.Views.{Views}
use Rattle.cmc_pass.specs.declared.value.Value.{Value}
use Rattle.cmc_model.specs.Replies.{is_accepted}
use Rattle.cmc_model.specs.Objects.{object_at}
use Rattle.cmc_model.specs.Histories.{Setting, objects}
use Rattle.cmc_model.specs.Writes.{writes}
use Rattle.cmc_rules.specs.declared.progress.OpenPass.{OpenPass}
use Rattle.cmc_rules.specs.declared.progress.Stage.{Stage}
use Rattle.cmc_rules.specs.declared.progress.Stage.TheVariants.{Fresh, Asked, Given, Read, Saved, Wrote, Refused, Barred}
use Rattle.cmc_rules.specs.Acts.{act, call_after}
use Rattle.cmc_rules.specs.Causes.{IsFirstCall, IsNextCall, MayCall, act_of, after_of}
use Rattle.cmc_rules.specs.Desks.{desk}
use Rattle.cmc_rules.specs.NextRequests.{next_revision}
use Rattle.cmc_rules.specs.Passes.{open_pass, writes_temporary}
use Rattle.cmc_rules.specs.RevisionManager.{revise}
use Rattle.cmc_rules.specs.Runs.{IsRun}
use Rattle.cmc_rules.specs.Views.{next_of, of_certificate, present_views, requests_of, views_in, views_of}
use Rattle.cmc_rules.proofs.Admitted.{versions_meet}
use Rattle.cmc_rules.proofs.Sights.{seen_owned}
use Rattle.cmc_world.specs.Histories.{IsPlain}
use Rattle.cmc_run_laws.specs.Calm.{is_before_writes}
use Rattle.cmc_safety.specs.Formed.{IsFormed}
use Rattle.cmc_safety.proofs.Carried.{EachVersion}
use Rattle.cmc_safety.proofs.Course.{AreSound, HasCome, marked_as_planned, of_open}
use Rattle.cmc_safety.proofs.InProgress.{IsPlayed, played_below}
use Rattle.cmc_safety.proofs.NextCalls.{IsCallAt}
use Rattle.cmc_load_laws.specs.Loads.{IsLoad}
use Rattle.cmc_load_laws.specs.LoadRuns.{IsLowering, IsPlainLowering, LowersMeasure, SeesAll}
use Rattle.cmc_load_laws.proofs.Belonging.{certificate_of}
use Rattle.cmc_load_laws.proofs.AskedActs.{AskedByAct, HoldsOfQuestion, IsOfAct, asked_act}
use Rattle.cmc_load_laws.proofs.CurrentHistories.{RoleLowers, lowers_at, shorter}
use Rattle.cmc_load_laws.proofs.CurrentKeys.{MadeKeysFit}
use Rattle.cmc_load_laws.proofs.FailedWrites.{failed_lowers}
use Rattle.cmc_load_laws.proofs.FirstCalls.{only_first}
use Rattle.cmc_load_laws.proofs.GoodRequests.{IsGoodObject}
use Rattle.cmc_load_laws.proofs.GoodVersions.{each_good, good_seen, usual_seen}
use Rattle.cmc_load_laws.proofs.IssuedStages.{issued_stage}
use Rattle.cmc_load_laws.proofs.LoadHistories.{for_one_in, played}
use Rattle.cmc_load_laws.proofs.LoadScripts.{calm_script}
use Rattle.cmc_load_laws.proofs.NeverFailing.{never_fails}
use Rattle.cmc_load_laws.proofs.NoStandIns.{none_stands_in}
use Rattle.cmc_load_laws.proofs.OldRequests.{limit_given, old_request}
use Rattle.cmc_load_laws.proofs.OneNextKey.{HaveOneKey, one_key}
use Rattle.cmc_load_laws.proofs.OneRequest.{HaveOneRequest, one_request, sees_requests}
use Rattle.cmc_load_laws.proofs.PassRights.{IsAcceptedBy, accepted_by, call_as, next_as}
use Rattle.cmc_load_laws.proofs.PlainRevisions.{none_ahead}
use Rattle.cmc_load_laws.proofs.PlainWrites.{RunAlone, SeeAll}
use Rattle.cmc_load_laws.proofs.RequestTops.{HaveTops, have_tops}
use Rattle.cmc_load_laws.proofs.RequestedRevisions.{NoneAboveNext, none_above}
use Rattle.cmc_load_laws.proofs.SeenHistories.{have_seen, see_now}
use Rattle.cmc_load_laws.proofs.SignedRequests.{managers_call, small_call}
use Rattle.cmc_load_laws.proofs.UsualVersions.{IsOfLoadObject, each_like_applied}

-- ---- what is known of the store, as a role sees it

few_of : (s : Setting) (h : List Entry) (o : Option Certificate) → HaveOneKey (objects s h) → length (of_certificate (next_of (objects s h)) o) ≤ 1
few_of s h None few = omega arith
few_of s h (Some c) few = few c

few_keys : (s : Setting) (h : List Entry) (v : Views) (key : Key) → v ≡ present_views s h KeyManager key → HaveOneKey (objects s h) → length v.next ≤ 1
unfolding views_in views_of
few_keys s h v key is few = subst (λ (x : Views). length x.next ≤ 1) (sym is) (few_of s h _ few)

few_requests_of : (s : Setting) (h : List Entry) (o : Option Certificate) (n : ℕ) → HaveOneRequest (objects s h) → length (filter (is_of_revision n) (of_certificate (requests_of (objects s h)) o)) ≤ 1
few_requests_of s h None n few = omega arith
few_requests_of s h (Some c) n few = few c n

few_requests : (s : Setting) (h : List Entry) (v : Views) (key : Key) (n : ℕ) → v ≡ present_views s h Revision key → HaveOneRequest (objects s h) → length (filter (is_of_revision n) v.requests) ≤ 1
unfolding views_in views_of
few_requests s h v key n is few = subst (λ (x : Views). length (filter (is_of_revision n) x.requests) ≤ 1) (sym is) (few_requests_of s h _ n few)

-- the Certificate that the revision manager sees stands
certificate_there : (s : Setting) (h : List Entry) (v : Views) (key : Key) (c : Certificate) → v ≡ present_views s h Revision key → v.certificate ≡ Some c → object_at (objects s h) key ≡ Some (Cert c)
unfolding views_in views_of
certificate_there s h v key c is sees = certificate_of (object_at (objects s h) key) c (sym (ap (λ (x : Views). x.certificate) is) ∙ sees)

-- ---- what is known of a load

record IsKnownLoad (s : Setting) (h : List Entry) : Type 0 where
  load : IsLoad s
  played : IsPlayed s h
  like : EachVersion (IsOfLoadObject s) (writes s h)
  good : EachVersion IsGoodObject (writes s h)
  one_key : HaveOneKey (objects s h)
  one_request : HaveOneRequest (objects s h)
  none_above : NoneAboveNext s h
  tops : HaveTops (objects s h)

module _ (sound : AreSound) (s : Setting) (h : List Entry) (n : ℕ) (call : Call) (reply : Reply) (k : IsKnownLoad s h) (a : IsAcceptedBy s h n call reply) where
  abbrev p : OpenPass
  p = a.caller.pass

  asked_as : (role : Role) → p.role ≡ role → HoldsOfQuestion p.stage (IsOfAct s role p.seen p.since)
  asked_as role is = subst (λ (x : Role). HoldsOfQuestion p.stage (IsOfAct s x p.seen p.since)) is (of_open (AskedByAct s) (open_pass s h n) p a.caller.opened (asked_act s h n k.played.caused))

  come_as : (role : Role) → p.role ≡ role → HasCome h n role p.seen p.since p.stage
  come_as role is = subst (λ (x : Role). HasCome h n x p.seen p.since p.stage) is a.caller.done

  seen_as : (role : Role) → p.role ≡ role → SeesAll s h p → p.seen ≡ present_views s h role p.key
  seen_as role is current = subst (λ (x : Role). p.seen ≡ present_views s h x p.key) is current.sees

  of_keys : p.role ≡ KeyManager → SeesAll s h p → IsLowering KeyManager p.seen p.stage call
  of_keys is current = few_keys s h p.seen p.key (seen_as KeyManager is current) k.one_key

  of_requests : p.role ≡ RequestManager → SeesAll s h p → IsLowering RequestManager p.seen p.stage call
  of_requests is current =
      let by = managers_call s h n p.seen p.since (desk s h p.role p.seen) p.stage call (asked_as RequestManager is) (come_as RequestManager is) (next_as s h n call reply a RequestManager is) (call_as s h n call reply a RequestManager is) in (
        (λ c sees.
            subst (λ (l : List _). length (filter (is_of_revision (next_revision c)) l) ≤ 1) (sym (sees_requests s h p.seen p.key c (seen_as RequestManager is current) sees)) (k.one_request c (next_revision c))),
        small_call p.seen by.certificate call (usual_seen s (writes s h) p.seen by.certificate k.load k.like a.caller.saw.known by.sees) by.so,
      )

  of_issuer : p.role ≡ Issuer → IsLowering Issuer p.seen p.stage call
  of_issuer is =
      issued_stage s h n p.seen p.since (desk s h p.role p.seen) p.stage call k.load.material (λ r sees. good_seen (writes s h) p.seen r k.good a.caller.saw.known sees) (asked_as Issuer is) (come_as Issuer is)
      (next_as s h n call reply a Issuer is) (call_as s h n call reply a Issuer is)

  first_revision : p.role ≡ Revision → IsFirstCall (revise p.seen) call
  unfolding act call_after
  first_revision is =
      only_first p.stage Revision p.seen p.since (revise p.seen) (call_after Revision p.seen p.since) call (λ e. absurd (cc e)) (λ order value. refl) (next_as s h n call reply a Revision is) (call_as s h n call reply a Revision is)

  of_revision : p.role ≡ Revision → SeesAll s h p → IsLowering Revision p.seen p.stage call
  of_revision is current =
      old_request p.seen call (first_revision is) (λ c sees. limit_given c (versions_meet s h a.legal p.key (Cert c) (a.caller.version c sees)))
      (λ i. few_requests s h p.seen p.key i (seen_as Revision is current) k.one_request)
      (λ c r sees among.
      let there = a.caller.saw.known (Request r) (seen_owned p.seen r among) in
      k.none_above p.key c there.0 r (certificate_there s h p.seen p.key c (seen_as Revision is current) sees) there.1 (a.caller.saw.well.request_owned c r sees among))
      (none_ahead s h n call reply a k.tops is current (first_revision is))

  may : MayCall s h (Some p) call
  may = a.next

  writes_it : p.role ≡ Issuing → p.stage ≡ Read → writes_temporary call ≡ false
  writes_it is read = marked_as_planned sound s h p call a.caller.saw may read ∙ none_stands_in p.seen p.since (λ c sees. (usual_seen s (writes s h) p.seen c k.load k.like a.caller.saw.known sees).no_stand_in)

-- ---- so each write is lowering

-- what the earlier law needs, or issuing fails
abbrev IsEither : Role → Views → Stage → Call → Type 0
IsEither role seen stage call = IsLowering role seen stage call ⊎ ((role ≡ Issuing) × (stage ≡ Fresh))

module _ (sound : AreSound) (s : Setting) (h : List Entry) (n : ℕ) (call : Call) (reply : Reply) (k : IsKnownLoad s h) (a : IsAcceptedBy s h n call reply) where
  issuing_by : (stage : Stage) → a.caller.pass.stage ≡ stage → a.caller.pass.role ≡ Issuing → IsNextCall stage (act Issuing a.caller.pass.seen a.caller.pass.since (desk s h a.caller.pass.role a.caller.pass.seen)) (call_after Issuing a.caller.pass.seen a.caller.pass.since) call
      → IsPlainLowering Issuing a.caller.pass.seen stage call → IsEither Issuing a.caller.pass.seen stage call
  unfolding call_after
  issuing_by Fresh at is next plain = inr (refl, refl)
  issuing_by (Asked order) at is next plain = absurd next
  issuing_by (Given order value) at is next plain = absurd (cc next)
  issuing_by Read at is next plain = inl (writes_it sound s h n call reply k a is at)
  issuing_by Saved at is next plain = absurd plain
  issuing_by Wrote at is next plain = absurd next
  issuing_by (Refused entry obstacle) at is next plain = absurd next
  issuing_by Barred at is next plain = absurd next

  either_for : (role : Role) → a.caller.pass.role ≡ role → SeesAll s h a.caller.pass → IsPlainLowering role a.caller.pass.seen a.caller.pass.stage call → IsEither role a.caller.pass.seen a.caller.pass.stage call
  either_for Trigger is current plain = inl tt
  either_for KeyManager is current plain = inl (of_keys sound s h n call reply k a is current)
  either_for RequestManager is current plain = inl (of_requests sound s h n call reply k a is current)
  either_for Approver is current plain = inl tt
  either_for Issuer is current plain = inl (of_issuer sound s h n call reply k a is)
  either_for Issuing is current plain = issuing_by a.caller.pass.stage refl is (next_as s h n call reply a Issuing is) plain
  either_for Readiness is current plain = inl tt
  either_for Revision is current plain = inl (of_revision sound s h n call reply k a is current)

-- a pass that may lower the measure has written nothing
before_stage : (stage : Stage) (does : Act) (after : Order → Value → Option Call) (call : Call) → IsNextCall stage does after call → (stage ≡ Saved → ⊥) → is_before_writes stage ≡ true
before_stage Fresh does after call next unsaved = refl
before_stage (Asked order) does after call next unsaved = refl
before_stage (Given order value) does after call next unsaved = refl
before_stage Read does after call next unsaved = refl
before_stage Saved does after call next unsaved = absurd (unsaved refl)
before_stage Wrote does after call next unsaved = absurd next
before_stage (Refused entry obstacle) does after call next unsaved = absurd next
before_stage Barred does after call next unsaved = absurd next

-- only issuing saves, and its status is left out
unsaved : (role : Role) (seen : Views) (since : ℤ) (stage : Stage) (call : Call) → IsCallAt stage role seen since call → IsPlainLowering role seen stage call → stage ≡ Saved → ⊥
unsaved role seen since stage call at plain saved =
    let there : IsCallAt Saved role seen since call = subst (λ (t : Stage). IsCallAt t role seen since call) saved at in
    let left : IsPlainLowering Issuing seen Saved call = subst (λ (r : Role). IsPlainLowering r seen Saved call) there.issues.issuing (subst (λ (t : Stage). IsPlainLowering role seen t call) saved plain) in
    left

module _ (sound : AreSound) (fit : MadeKeysFit) (alone : RunAlone) (sees : SeeAll) (each : (role : Role) → RoleLowers role) where
  lowers_by : (s : Setting) (h : List Entry) (n : ℕ) (call : Call) (reply : Reply) → IsFormed s → length h ≤ s.events → IsLoad s → IsPlayed s (Called (Pass n) call reply ∷ h) → is_accepted reply ≡ true → IsKnownLoad s h → (a : IsAcceptedBy s h n call reply)
      → SeesAll s h a.caller.pass → IsEither a.caller.pass.role a.caller.pass.seen a.caller.pass.stage call → LowersMeasure s h (Called (Pass n) call reply)
  lowers_by s h n call reply formed short load o ok k a current (inl lowers) = lowers_at sound each s h n call reply formed short load.free o ok a.caller.pass a.caller.opened current lowers
  lowers_by s h n call reply formed short load o ok k a current (inr fails) =
      failed_lowers s h n call reply a (played_below s (Called (Pass n) call reply) h o) fails.0 fails.1 current (for_one_in sound s h n call reply load.free o ok)

  pub load_lowers : (s : Setting) (h : List Entry) (n : ℕ) (call : Call) (reply : Reply) (p : OpenPass) → IsFormed s → IsLoad s → s.events < 2 ^ 64 → IsPlain s h → IsRun s (Called (Pass n) call reply ∷ h) → is_accepted reply ≡ true
      → open_pass s h n ≡ Some p → IsPlainLowering p.role p.seen p.stage call → LowersMeasure s h (Called (Pass n) call reply)
  load_lowers s h n call reply p formed load small plain run ok opened lowering =
      let e : Entry = Called (Pass n) call reply in
      let o = played s (e ∷ h) run in
      let below = played_below s e h o in
      let short = shorter e h s.events run.short in
      let calm = calm_script s.script load.steps in
      let seen = have_seen alone sees s h calm small plain in
      let a = accepted_by sound s h n call reply o ok in
      let k : IsKnownLoad s h = record {
        load = load;
        played = below;
        like = each_like_applied sound s h load.steps below;
        good = each_good sound s h load below;
        one_key = one_key sound fit s h load.steps below seen;
        one_request = one_request sound s h formed short load.steps below seen;
        none_above = none_above sound s h formed load short below;
        tops = have_tops sound s h formed load short (λ k q few. never_fails sound s k formed load few q) below seen;
      } in
      let some : Some p ≡ Some a.caller.pass = sym opened ∙ a.caller.opened in
      let same : p ≡ a.caller.pass = cc some in
      let q : OpenPass = a.caller.pass in
      let lowers : IsPlainLowering q.role q.seen q.stage call = subst (λ (x : OpenPass). IsPlainLowering x.role x.seen x.stage call) same lowering in
      let before = before_stage q.stage (act_of s h q) (after_of q) call a.next (unsaved q.role q.seen q.since q.stage call a.caller.at lowers) in
      let current = see_now alone sees s h calm small plain n q a.caller.opened before in
      lowers_by s h n call reply formed short load o ok k a current (either_for sound s h n call reply k a q.role refl current lowers)
