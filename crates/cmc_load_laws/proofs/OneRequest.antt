-- In a plain run of a load a Certificate has one request of a revision at most.
use Rattle.std.proofs.Common.{◌≡◌, ◌⊎◌, ◌+◌, ◌≤◌, ◌&&◌, ℕ, List, [], ◌∷◌, length, Bool, true, false, Option, Some, None, refl, sym, ap, subst, ◌∙◌, inl, inr, arith}
use Rattle.std.proofs.lemmas.Bool.Decides.{Decides-eqb}
use Rattle.std.specs.Prelude.{codes, filter, option_and_then, if◌then◌else◌}
use Rattle.cmc_meta.specs.declared.key.Key.{Key}
use Rattle.cmc_meta.specs.declared.object_meta.ObjectMeta.{ObjectMeta}
use Rattle.cmc_meta.specs.PairLists.{text_by_key}
use Rattle.cmc_meta.proofs.DecimalLaws.{number_again}
use Rattle.cmc_objects.specs.declared.certificate.Certificate.{Certificate}
use Rattle.cmc_objects.specs.declared.request.CertificateRequest.{CertificateRequest}
use Rattle.cmc_objects.specs.declared.object.Object.{Object}
use Rattle.cmc_objects.specs.declared.object.Object.TheVariants.{Cert, Request, Secret}
use Rattle.cmc_objects.specs.declared.call.Call.{Call}
use Rattle.cmc_objects.specs.declared.call.Reply.{Reply}
use Rattle.cmc_objects.specs.declared.entry.Entry.{Entry}
use Rattle.cmc_objects.specs.declared.entry.Entry.TheVariants.{Call as Called}
use Rattle.cmc_objects.specs.declared.entry.Who.TheVariants.{User, Pass}
use Rattle.cmc_objects.specs.declared.role.Role.{Role}
use Rattle.cmc_objects.specs.declared.role.Role.TheVariants.{RequestManager}
use Rattle.cmc_match.specs.Revisions.{is_number, is_of_revision, number_of, revision_of}
use Rattle.cmc_pass.specs.declared.pass.Views.{Views}
use Rattle.cmc_model.specs.Objects.{Objects, object_at}
use Rattle.cmc_model.specs.Replies.{key_of_call, put_at, settled, stored}
use Rattle.cmc_model.specs.Histories.{Setting, moment, state, objects, accepted}
use Rattle.cmc_model.proofs.Accepting.{accepted_found}
use Rattle.cmc_rules.specs.declared.progress.OpenPass.{OpenPass}
use Rattle.cmc_rules.specs.Desks.{desk}
use Rattle.cmc_rules.specs.Legality.{IsLegal}
use Rattle.cmc_rules.specs.NextRequests.{HasNextRevision, next_revision}
use Rattle.cmc_rules.specs.Passes.{open_pass}
use Rattle.cmc_rules.specs.Rights.{KeepsMeta, MayChange}
use Rattle.cmc_rules.specs.UserSteps.{Follows}
use Rattle.cmc_rules.specs.Views.{is_owned, of_certificate, owned_in, present_views, requests_of, views_in, views_of}
use Rattle.cmc_run_laws.specs.Calm.{is_before_writes}
use Rattle.cmc_safety.specs.Formed.{IsFormed}
use Rattle.cmc_safety.proofs.Course.{AreSound, HasCome, of_open}
use Rattle.cmc_safety.proofs.InProgress.{IsPlayed, played_below}
use Rattle.cmc_safety.proofs.MayAct.{may_act_pass}
use Rattle.cmc_load_laws.specs.Loads.{are_load_steps}
use Rattle.cmc_load_laws.specs.LoadRuns.{SeesAll}
use Rattle.cmc_load_laws.specs.Measure.{weight}
use Rattle.cmc_load_laws.proofs.AppliedStores.{stores_certificate}
use Rattle.cmc_load_laws.proofs.AskedActs.{AskedByAct, HoldsOfQuestion, IsOfAct, asked_act}
use Rattle.cmc_load_laws.proofs.CurrentHistories.{run_below, shorter}
use Rattle.cmc_load_laws.proofs.CurrentRequests.{IsNewRequest, is_new_request, low_revision}
use Rattle.cmc_load_laws.proofs.LoadScripts.{apply_is_called}
use Rattle.cmc_load_laws.proofs.OneNextKey.{delete_founded}
use Rattle.cmc_load_laws.proofs.OwnersAlike.{one_owner, same_requests}
use Rattle.cmc_load_laws.proofs.PassRights.{IsAcceptedBy, accepted_by, call_as, next_as}
use Rattle.cmc_load_laws.proofs.PickedCounts.{count_if, counts_change, over_call}
use Rattle.cmc_load_laws.proofs.PlainWrites.{before_by}
use Rattle.cmc_load_laws.proofs.Requested.{own_revision}
use Rattle.cmc_load_laws.proofs.RoleWrites.{WasRequest, was_request}
use Rattle.cmc_load_laws.proofs.SeenHistories.{HaveSeen}
use Rattle.cmc_load_laws.proofs.SignedRequests.{IsManagersCall, IsSigned, managers_call}
use Rattle.cmc_load_laws.proofs.Splits.{none_picked, one_change}
use Rattle.cmc_load_laws.proofs.UsualVersions.{apply_settled}

abbrev pub of_revision : Objects → Certificate → ℕ → List CertificateRequest
of_revision m c n = filter (is_of_revision n) (requests_of m c)

-- whatever the Certificate, it owns one request of a revision at most
abbrev pub HaveOneRequest : Objects → Type 0
HaveOneRequest m = (c : Certificate) (n : ℕ) → length (of_revision m c n) ≤ 1

-- ---- what is stored

counted : (m : Objects) (key : Key) (new : Option Object) (c : Certificate) (n : ℕ)
    → length (of_revision (put_at m key new) c n) + count_if (is_of_revision n) (option_and_then (owned_in c) (object_at m key)) ≡ length (of_revision m c n) + count_if (is_of_revision n) (option_and_then (owned_in c) new)
counted m key new c n =
    counts_change (is_of_revision n) (option_and_then (owned_in c) (object_at m key)) (option_and_then (owned_in c) new) (requests_of m c) (requests_of (put_at m key new) c) (one_change (owned_in c) m key new)

none_more : (m : Objects) (key : Key) (new : Option Object) (c : Certificate) (n : ℕ) → count_if (is_of_revision n) (option_and_then (owned_in c) new) ≤ count_if (is_of_revision n) (option_and_then (owned_in c) (object_at m key))
    → length (of_revision m c n) ≤ 1 → length (of_revision (put_at m key new) c n) ≤ 1
none_more m key new c n fewer few = omega (arith, counted m key new c n, fewer, few)

at_most_one : (p : CertificateRequest → Bool) (o : Option CertificateRequest) → count_if p o ≤ 1
at_most_one p None = omega arith
at_most_one p (Some r) = elim (p r) as (λ b. weight 1 b ≤ 1) [ true ↦ omega arith | false ↦ omega arith ]

first_one : (m : Objects) (key : Key) (new : Option Object) (c : Certificate) (n : ℕ) → of_revision m c n ≡ [] → length (of_revision (put_at m key new) c n) ≤ 1
first_one m key new c n none = omega (arith, counted m key new c n, ap length none, at_most_one (is_of_revision n) (option_and_then (owned_in c) new))

-- what is no request counts as none
not_owned : (p : CertificateRequest → Bool) (m : Objects) (key : Key) (new : Option Object) (c : Certificate) → option_and_then (owned_in c) new ≡ None → count_if p (option_and_then (owned_in c) new) ≤ count_if p (option_and_then (owned_in c) (object_at m key))
not_owned p m key new c none = omega (arith, ap (count_if p) none)

-- a request whose metadata stay counts as before
pub marks_alike : (n : ℕ) (q r : CertificateRequest) → r.meta.annotations ≡ q.meta.annotations → is_of_revision n r ≡ is_of_revision n q
unfolding revision_of
marks_alike n q r same = ap (λ (l : List (List ℕ × List ℕ)). is_number n (number_of (text_by_key l (codes "cert-manager.io/certificate-revision")))) same

owned_count : (n : ℕ) (c : Certificate) (r : CertificateRequest) → count_if (is_of_revision n) (owned_in c (Request r)) ≡ weight 1 (is_owned c r.meta && is_of_revision n r)
owned_count n c r = elim (is_owned c r.meta) as (λ b. count_if (is_of_revision n) (if b then Some r else None) ≡ weight 1 (b && is_of_revision n r)) [ true ↦ refl | false ↦ refl ]

restated_alike : (n : ℕ) (c : Certificate) (q r : CertificateRequest) → KeepsMeta q.meta r.meta → count_if (is_of_revision n) (owned_in c (Request r)) ≡ count_if (is_of_revision n) (owned_in c (Request q))
restated_alike n c q r kept =
    let owned : is_owned c r.meta ≡ is_owned c q.meta = ap (is_owned c) kept in
    let marks : is_of_revision n r ≡ is_of_revision n q = marks_alike n q r (ap (λ (x : ObjectMeta). x.annotations) kept) in
    owned_count n c r ∙ (λ i. weight 1 (owned i && marks i)) ∙ sym (owned_count n c q)

-- ---- what the request manager sees

pub sees_requests : (s : Setting) (h : List Entry) (v : Views) (key : Key) (c : Certificate) → v ≡ present_views s h RequestManager key → v.certificate ≡ Some c → v.requests ≡ requests_of (objects s h) c
unfolding views_in views_of
sees_requests s h v key c is sees =
    ap (λ (x : Views). x.requests) is ∙ ap (of_certificate (requests_of (objects s h))) (sym (ap (λ (x : Views). x.certificate) is) ∙ sees)

one_number : (o : Option ℕ) (n k : ℕ) → is_number n o ≡ true → is_number k o ≡ true → n ≡ k
one_number None n k a b = absurd (cc a)
one_number (Some number) n k a b = sym ((Decides-eqb number n).0 a) ∙ (Decides-eqb number k).0 b

module _ (s : Setting) (h : List Entry) (n : ℕ) (call : Call) (reply : Reply) (a : IsAcceptedBy s h n call reply) (few : HaveOneRequest (objects s h)) where
  abbrev m : Objects
  m = objects s h

  abbrev key : Key
  key = key_of_call (settled call reply)

  abbrev new : Option Object
  new = stored (accepted s h + 1) (moment s h) m (settled call reply)

  -- a request of the next revision is made for the Certificate that is seen, where none is there
  made_first : (c d : Certificate) (i : ℕ) (w : IsSigned a.caller.pass.seen d call) (octets : List ℕ) → a.caller.pass.seen.requests ≡ requests_of m d → (q : IsNewRequest s h call reply d w.has.key octets) → is_of_revision (next_revision d) q.made ≡ true
      → (x y : Bool) → is_owned c q.made.meta ≡ x → is_of_revision i q.made ≡ y → length (of_revision (put_at m key new) c i) ≤ 1
  made_first c d i w octets are q next true true owned is =
      let same : i ≡ next_revision d = one_number (revision_of q.made) i (next_revision d) is next in
      first_one m key new c i
      (ap (filter (is_of_revision i)) (same_requests m c d (one_owner c d q.made.meta q.namespace q.owners owned) ∙ sym are) ∙ ap (λ (k : ℕ). filter (is_of_revision k) a.caller.pass.seen.requests) same ∙ w.none)
  made_first c d i w octets are q next true false owned is =
      none_more m key new c i (omega (arith, ap (λ (o : Option Object). count_if (is_of_revision i) (option_and_then (owned_in c) o)) q.is, owned_count i c q.made, ap (λ (b : Bool). weight 1 (b && is_of_revision i q.made)) owned, ap (weight 1) is)) (few c i)
  made_first c d i w octets are q next false y owned is =
      none_more m key new c i (omega (arith, ap (λ (o : Option Object). count_if (is_of_revision i) (option_and_then (owned_in c) o)) q.is, owned_count i c q.made, ap (λ (b : Bool). weight 1 (b && is_of_revision i q.made)) owned)) (few c i)

  made_by : (c d : Certificate) (i : ℕ) → a.caller.pass.seen.certificate ≡ Some d → HasNextRevision a.caller.pass.seen.certificate → a.caller.pass.seen.requests ≡ requests_of m d → object_at m key ≡ None → IsManagersCall a.caller.pass.seen d call
      → length (of_revision (put_at m key new) c i) ≤ 1
  made_by c d i sees low are none (inl (inl w)) = absurd (delete_founded m call reply _ _ w.is a.founded none)
  made_by c d i sees low are none (inl (inr w)) = absurd (delete_founded m call reply _ _ w.is a.founded none)
  made_by c d i sees low are none (inr w) =
      let q = is_new_request s h call reply d w.has.key _ a.ok a.founded w.is in
      let next = own_revision d w.has.key q.made q.marks (number_again (next_revision d) (low_revision d a.caller.pass.seen.certificate sees low)) in
      made_first c d i w _ are q next (is_owned c q.made.meta) (is_of_revision i q.made) refl refl

  by_manager : IsPlayed s h → HasNextRevision a.caller.pass.seen.certificate → (c : Certificate) (i : ℕ) → a.caller.pass.role ≡ RequestManager → object_at m key ≡ None
      → ((p : OpenPass) → open_pass s h n ≡ Some p → is_before_writes p.stage ≡ true → SeesAll s h p) → length (of_revision (put_at m key new) c i) ≤ 1
  by_manager o low c i is none sees =
      let p : OpenPass = a.caller.pass in
      let next = next_as s h n call reply a RequestManager is in
      let at = call_as s h n call reply a RequestManager is in
      let before = before_by p.stage RequestManager p.seen p.since _ _ call (λ e. absurd (cc e)) next at in
      let current = sees p a.caller.opened before in
      let asked = of_open (AskedByAct s) (open_pass s h n) p a.caller.opened (asked_act s h n o.caused) in
      let by = managers_call s h n p.seen p.since (desk s h p.role p.seen) p.stage call (subst (λ (r : Role). HoldsOfQuestion p.stage (IsOfAct s r p.seen p.since)) is asked)
      (subst (λ (r : Role). HasCome h n r p.seen p.since p.stage) is a.caller.done) next at
      in
      let seen = subst (λ (r : Role). p.seen ≡ present_views s h r p.key) is current.sees in
      made_by c by.certificate i by.sees low (sees_requests s h p.seen p.key by.certificate seen by.sees) none by.so

  over_pass : IsPlayed s h → HasNextRevision a.caller.pass.seen.certificate → ((p : OpenPass) → open_pass s h n ≡ Some p → is_before_writes p.stage ≡ true → SeesAll s h p) → (o : Option Object) → new ≡ o → HaveOneRequest (put_at m key new)
  over_pass o low sees None is c i = none_more m key new c i (not_owned (is_of_revision i) m key new c (ap (option_and_then (owned_in c)) is)) (few c i)
  over_pass o low sees (Some (Cert d)) is c i = none_more m key new c i (not_owned (is_of_revision i) m key new c (ap (option_and_then (owned_in c)) is)) (few c i)
  over_pass o low sees (Some (Secret k)) is c i = none_more m key new c i (not_owned (is_of_revision i) m key new c (ap (option_and_then (owned_in c)) is)) (few c i)
  over_pass o low sees (Some (Request r)) is c i = by (was_request a.caller.pass.role (object_at m key) r rights) where
    rights : MayChange a.caller.pass.role (object_at m key) (Some (Request r))
    rights = subst (λ (x : Option Object). MayChange a.caller.pass.role (object_at m key) x) is a.write.rights

    by : ((a.caller.pass.role ≡ RequestManager) × (object_at m key ≡ None)) ⊎ WasRequest (object_at m key) r → length (of_revision (put_at m key new) c i) ≤ 1
    by (inl made) = by_manager o low c i made.0 made.1 sees
    by (inr w) =
        none_more m key new c i
        (omega (arith, ap (λ (x : Option Object). count_if (is_of_revision i) (option_and_then (owned_in c) x)) is, ap (λ (x : Option Object). count_if (is_of_revision i) (option_and_then (owned_in c) x)) w.was, restated_alike i c w.before r w.kept))
        (few c i)

over_user : (m : Objects) (key : Key) (new : Option Object) (d : Certificate) → new ≡ Some (Cert d) → HaveOneRequest m → HaveOneRequest (put_at m key new)
over_user m key new d is few c n = none_more m key new c n (not_owned (is_of_revision n) m key new c (ap (option_and_then (owned_in c)) is)) (few c n)

-- ---- histories

pub one_request : AreSound → (s : Setting) (h : List Entry) → IsFormed s → length h ≤ s.events → are_load_steps s.script ≡ true → IsPlayed s h → HaveSeen s h → HaveOneRequest (objects s h)
unfolding IsLegal Follows
one_request sound s [] formed short are o seen = λ c n. omega (arith, ap (λ (l : List CertificateRequest). length (filter (is_of_revision n) l)) (none_picked (owned_in c)))
one_request sound s (Called User call reply ∷ h) formed short are o seen =
    let below = played_below s (Called User call reply) h o in
    let few = one_request sound s h formed (shorter (Called User call reply) h s.events short) are below seen in
    over_call HaveOneRequest s h User call reply few
    (λ ok.
    let d = stores_certificate s h (accepted s h + 1) (moment s h) (settled call reply) below.legal (apply_settled s call reply (apply_is_called s h call are o.follows.0)) (accepted_found s.faults (state s h) call reply o.legal.0.0 ok) in
    over_user (objects s h) (key_of_call (settled call reply)) (stored (accepted s h + 1) (moment s h) (objects s h) (settled call reply)) d.0 d.1 few)
one_request sound s (Called (Pass n) call reply ∷ h) formed short are o seen =
    let below = played_below s (Called (Pass n) call reply) h o in
    let less = shorter (Called (Pass n) call reply) h s.events short in
    let few = one_request sound s h formed less are below seen.1 in
    over_call HaveOneRequest s h (Pass n) call reply few
    (λ ok.
    let a = accepted_by sound s h n call reply o ok in
    let may = may_act_pass sound s h n a.caller.pass formed (run_below s h n call reply o less) a.caller.opened in
    over_pass s h n call reply a few below may.revision seen.0 (stored (accepted s h + 1) (moment s h) (objects s h) (settled call reply)) refl)
one_request sound s (other ∷ h) formed short are o seen = one_request sound s h formed (shorter other h s.events short) are (played_below s other h o) seen
