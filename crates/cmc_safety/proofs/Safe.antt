-- Every history that is legal, caused and follows its script is safe.
use Rattle.std.proofs.Common.{◌≡◌, ◌==◌, ℕ, ◌+◌, ◌≤◌, List, [], ◌∷◌, length, Option, Some, None, Bool, true, false, refl, sym, ap, subst, ◌∙◌, inl, inr, arith}
use Rattle.std.proofs.lemmas.Bool.Decides.{nat_tests}
use Rattle.std.specs.Prelude.{if◌then◌else◌, MatchBool, IfSome, filter, find, nat_le}
use Rattle.cmc_meta.specs.declared.key.Key.{Key}
use Rattle.cmc_objects.specs.declared.certificate.Certificate.{Certificate}
use Rattle.cmc_objects.specs.declared.request.CertificateRequest.{CertificateRequest}
use Rattle.cmc_objects.specs.declared.secret.Secret.{Secret as SecretObject}
use Rattle.cmc_objects.specs.declared.object.Object.{Object}
use Rattle.cmc_objects.specs.declared.object.Object.TheVariants.{Cert, Request, Secret}
use Rattle.cmc_objects.specs.declared.call.Call.{Call}
use Rattle.cmc_objects.specs.declared.call.Call.TheVariants.{UpdateStatus}
use Rattle.cmc_objects.specs.declared.call.Reply.{Reply}
use Rattle.cmc_objects.specs.declared.orders.Order.{Order}
use Rattle.cmc_objects.specs.declared.orders.Order.TheVariants as orders
use Rattle.cmc_objects.specs.declared.role.Role.{Role}
use Rattle.cmc_objects.specs.declared.role.Role.TheVariants as roles
use Rattle.cmc_objects.specs.declared.entry.Who.{Who}
use Rattle.cmc_objects.specs.declared.entry.Who.TheVariants.{User, Pass}
use Rattle.cmc_objects.specs.declared.entry.Entry.{Entry}
use Rattle.cmc_objects.specs.declared.entry.Entry.TheVariants.{Call as Called, Ask, Judged}
use Rattle.cmc_objects.specs.Requests.{is_approved, is_denied}
use Rattle.cmc_match.specs.Marks.{is_temporary}
use Rattle.cmc_match.specs.Revisions.{is_of_revision, only_of}
use Rattle.cmc_pass.specs.Values.{IsValue}
use Rattle.cmc_pass.specs.declared.value.Value.{Value}
use Rattle.cmc_pass.specs.declared.value.Value.TheVariants as values
use Rattle.cmc_model.specs.declared.write.Write.{Write}
use Rattle.cmc_model.specs.Objects.{object_at}
use Rattle.cmc_model.specs.Replies.{IsReply, is_accepted, key_of_call, settled, stored}
use Rattle.cmc_model.specs.Acceptance.{IsFounded}
use Rattle.cmc_model.specs.Histories.{Setting, moment, state, objects, accepted}
use Rattle.cmc_model.specs.Verdicts.{AreFinal}
use Rattle.cmc_model.specs.Versions.{HasVersion, IsVersion}
use Rattle.cmc_model.specs.Writes.{writes, write_of}
use Rattle.cmc_model.proofs.Accepting.{accepted_found}
use Rattle.cmc_rules.specs.declared.progress.OpenPass.{OpenPass}
use Rattle.cmc_rules.specs.declared.progress.Stage.{Stage}
use Rattle.cmc_rules.specs.declared.progress.Stage.TheVariants.{Fresh, Asked, Given, Read, Saved, Wrote, Refused, Barred}
use Rattle.cmc_rules.specs.Passes.{open_pass}
use Rattle.cmc_rules.specs.Legality.{IsLegal}
use Rattle.cmc_rules.specs.Causes.{IsCaused, MayAsk}
use Rattle.cmc_rules.specs.UserSteps.{Follows}
use Rattle.cmc_rules.specs.Revisions.{stated_revision, revision, revision_of_uid, KeepsRevision, RaisesRevision}
use Rattle.cmc_rules.specs.Rights.{MayChange, IsRightful}
use Rattle.cmc_rules.specs.SeenObjects.{IsAmong, IsWellSeen, OnSeen}
use Rattle.cmc_rules.specs.Sound.{IsOrdinary, IsWriteAfterValue, IsReadyToIssue, IsTarget, WritesTarget, IsSigned, IsMarked, IsRaiseOf, IsQuestion}
use Rattle.cmc_rules.specs.Safety.{HasEntry, LastAsks, AsksToApprove, IsNeverDenied, IsLiveRead, IsIssued, IsOfIssuer, IsTemporaryCertificate, IsGoodIssue, IsSecretSaved, IsStatusUpdate, RaisesWell, IsJudgedYes, AsksWell, IsGoodWrite, IsSafeWrite, AreSafe, IsSafe}
use Rattle.cmc_rules.proofs.Answered.{verdicts_stay_in}
use Rattle.cmc_rules.proofs.Sights.{seen_request, seen_owned, found_among}
use Rattle.cmc_rules.proofs.Sighted.{AreKnown, IsStored, as_seen}
use Rattle.cmc_rules.proofs.WellSeen.{SawAll, saw_all}
use Rattle.cmc_safety.specs.Formed.{IsFormed}
use Rattle.cmc_safety.proofs.Moments.{BeganInRun, began_in_run}
use Rattle.cmc_safety.proofs.Users.{users_keep}
use Rattle.cmc_safety.proofs.NextCalls.{IsCallAt}
use Rattle.cmc_safety.proofs.Course.{AreSound, of_open, IsGivenOn, HasValue, HasReadLive, HasCome, question_of}
use Rattle.cmc_safety.proofs.InProgress.{IsCaller, caller_of, not_accepted, IsInProgress, HoldsWhileIssuing, IsUnmoved, IsPlayed, played_below, in_progress}

-- ---- words

stands_as : (P Q : Entry → Type 0) (h : List Entry) → ((e : Entry) → P e → Q e) → HasEntry P h → HasEntry Q h
stands_as P Q [] gives is = is
stands_as P Q (e ∷ h) gives (inl is) = inl (gives e is)
stands_as P Q (e ∷ h) gives (inr is) = inr (stands_as P Q h gives is)

false_where : (b : Bool) → (b ≡ true → ⊥) → b ≡ false
false_where true never = absurd (never refl)
false_where false never = refl

one_in : (A : Type 0) (x y : A) (o : Option A) → o ≡ Some x → o ≡ Some y → x ≡ y
one_in A x y o a b = let some : Some x ≡ Some y = sym a ∙ b in cc some

chosen_among : (b : Bool) (f : CertificateRequest → Bool) (rs : List CertificateRequest) (r : CertificateRequest) → (if b then find f rs else None) ≡ Some r → IsAmong r rs
chosen_among true f rs r is = found_among f rs r is
chosen_among false f rs r is = absurd (cc is)

only_among : (n : ℕ) (rs : List CertificateRequest) (r : CertificateRequest) → only_of n rs ≡ Some r → IsAmong r rs
unfolding only_of
only_among n rs r is = chosen_among (length (filter (λ request. is_of_revision n request) rs) == 1) (λ request. is_of_revision n request) rs r is

-- ---- never denied, in the whole history

-- a version of the history below is one of the whole
abbrev pub IsEarlier : Setting → List Entry → List Entry → Type 0
IsEarlier s whole h = (key : Key) (o : Object) → HasVersion s h key o → HasVersion s whole key o

-- where one version is approved, none is denied, older or newer
not_denied : (s : Setting) (h : List Entry) (j k : Key) (r o : CertificateRequest) (b : Bool) → AreFinal s h → HasVersion s h j (Request r) → HasVersion s h k (Request o) → r.meta.uid ≡ o.meta.uid
    → is_approved r ≡ true → is_denied o ≡ true → nat_le r.meta.version o.meta.version ≡ b → ⊥
not_denied s h j k r o true final a c same approved denied first =
    let older : r.meta.version ≤ o.meta.version = grind (arith, nat_tests) in
    let kept = final.kept j k (Request r) (Request o) a c same older in
    final.one k (Request o) c (kept.approved approved).0 denied
not_denied s h j k r o false final a c same approved denied first =
    let older : o.meta.version ≤ r.meta.version = grind (arith, nat_tests) in
    let kept = final.kept k j (Request o) (Request r) c a (sym same) older in
    final.one j (Request r) a approved (kept.denied denied).0

stays_undenied : (s : Setting) (whole h : List Entry) (r : CertificateRequest) → IsLegal s whole → IsEarlier s whole h → IsStored (writes s h) (Request r) → is_approved r ≡ true → IsNeverDenied s whole r
stays_undenied s whole h r legal below stored approved key o has same =
    false_where (is_denied o)
    (λ denied. not_denied s whole stored.0 key r o (nat_le r.meta.version o.meta.version) (verdicts_stay_in s whole legal) (below stored.0 (Request r) stored.1) has (sym same) approved denied refl)

-- ---- revisions

pub leaves : (before after : Option Object) → KeepsRevision before after → (old new : Object) → before ≡ Some old → after ≡ Some new → stated_revision new ≡ stated_revision old
leaves before after keeps old new a b = subst (λ (x : Option Object). KeepsRevision x (Some new)) a (subst (λ (x : Option Object). KeepsRevision before x) b keeps)

raised : (before after : Option Object) → RaisesRevision before after → (old new : Object) → before ≡ Some old → after ≡ Some new → RaisesRevision (Some old) (Some new)
raised before after raises old new a b = subst (λ (x : Option Object). RaisesRevision x (Some new)) a (subst (λ (x : Option Object). RaisesRevision before x) b raises)

no_raise : (h : List Entry) (pass : ℕ) (role : Role) (call : Call) (before after : Option Object) → KeepsRevision before after → RaisesWell h pass role call before after
no_raise h pass role call before after keeps old new a b other = absurd (other (leaves before after keeps old new a b))

-- ---- what an accepted write of a pass is

pub record IsGoodCall (s : Setting) (whole h : List Entry) (pass : ℕ) (p : OpenPass) (call : Call) (before after : Option Object) : Type 0 where
  pub write : IsGoodWrite s whole h pass p call before after
  pub rights : MayChange p.role before after

good_ordinary : (s : Setting) (whole h : List Entry) (pass : ℕ) (p : OpenPass) (call : Call) (before after : Option Object) → IsOrdinary p.role p.since before after → IsGoodCall s whole h pass p call before after
good_ordinary s whole h pass p call before after is = record {
  write = record {
    issue = λ written issuing there. absurd (is.no_secret written issuing there);
    raise = no_raise h pass p.role call before after is.revision;
    approval = λ old new role a b x y. absurd (is.no_approval old new role a b x y);
  };
  rights = is.rights;
}

-- the approver asked about the request that it saw
asks_about : (p : OpenPass) (order : Order) (r : CertificateRequest) → IsValue order (values.Judged true) → IsQuestion p.role p.seen order → p.seen.request ≡ Some r → AsksToApprove r order
asks_about p (orders.Key order) r right question sees = absurd right
asks_about p (orders.Csr order) r right question sees = absurd right
asks_about p (orders.Sign order) r right question sees = absurd right
asks_about p (orders.Judge order) r right question sees = one_in CertificateRequest order.request r p.seen.request question.1 sees

last_as : (P Q : Order → Type 0) (pass : ℕ) (h : List Entry) → ((order : Order) → P order → Q order) → LastAsks pass P h → LastAsks pass Q h
last_as P Q pass [] gives last = absurd last
last_as P Q pass (Ask m order ∷ h) gives (inl here) = inl (here.0, gives order here.1)
last_as P Q pass (Ask m order ∷ h) gives (inr there) = inr (there.0, last_as P Q pass h gives there.1)
last_as P Q pass (other ∷ h) gives last = last_as P Q pass h gives last

judged_by : (h : List Entry) (pass : ℕ) (r : CertificateRequest) (P : Order → Type 0) → ((order : Order) → P order → AsksToApprove r order) → IsGivenOn pass P (values.Judged true) h → IsJudgedYes h pass r
judged_by [] pass r P gives given = absurd given
judged_by (e ∷ h) pass r P gives (inl here) = inl (here.0, last_as P (AsksToApprove r) pass h gives here.1)
judged_by (e ∷ h) pass r P gives (inr there) = inr (judged_by h pass r P gives there)

good_answer : (s : Setting) (whole h : List Entry) (pass : ℕ) (p : OpenPass) (call : Call) (order : Order) (value : Value) (before after : Option Object) → HasValue h pass p.role p.seen p.since order value
    → IsWriteAfterValue p.role p.seen p.since value before after → IsGoodCall s whole h pass p call before after
good_answer s whole h pass p call order value before after has is = record {
  write = record {
    issue = λ written issuing there. absurd (is.no_secret written issuing there);
    raise = no_raise h pass p.role call before after is.revision;
    approval = λ old new role a b x y.
        let it = is.approval old new role a b x y in
        let about : AsksToApprove old order = asks_about p order old (subst (IsValue order) it.0 has.right) has.question it.1 in
        judged_by h pass old (λ o. o ≡ order) (λ o same. subst (AsksToApprove old) (sym same) about) (subst (λ (v : Value). IsGivenOn pass (λ o. o ≡ order) v h) it.0 has.given);
  };
  rights = is.rights;
}

-- ---- issuing

other_role : (role : Role) → role ≡ roles.Issuing → role ≡ roles.Approver → ⊥
other_role role a b = let e : roles.Issuing ≡ roles.Approver = sym a ∙ b in absurd (cc e)

-- what is known of an issuing pass that writes a Secret
pub record WritesForIssue (s : Setting) (whole h : List Entry) (pass : ℕ) (p : OpenPass) : Type 0 where
  pub legal : IsLegal s whole
  pub below : IsEarlier s whole h
  pub known : AreKnown (writes s h) p.seen
  pub well : IsWellSeen p.seen
  pub began : BeganInRun p
  pub issuing : p.role ≡ roles.Issuing
  pub steady : IsInProgress (writes s h) p.role p.key p.seen
  pub read : HasReadLive h pass p.seen

good_issue : (s : Setting) (whole h : List Entry) (pass : ℕ) (p : OpenPass) (c : Certificate) (r : CertificateRequest) (k : SecretObject) (file : List ℕ) (written : SecretObject) → WritesForIssue s whole h pass p
    → IsReadyToIssue p.seen c r k file → IsTarget c r file written → MatchBool (is_temporary written) (IsTemporaryCertificate c r file p.since written) (IsOfIssuer s whole r written) → IsGoodIssue s whole h pass p written
good_issue s whole h pass p c r k file written its ready target signed =
    let read : its.read.certificate ≡ c = one_in Certificate its.read.certificate c p.seen.certificate its.read.sees ready.sees in
    let steady : its.steady.certificate ≡ c = one_in Certificate its.steady.certificate c p.seen.certificate its.steady.sees ready.sees in
    let present : revision_of_uid c.meta.uid (writes s h) ≡ revision c = subst (λ (d : Certificate). revision_of_uid d.meta.uid (writes s h) ≡ revision d) steady its.steady.present in
    record {
      certificate = c;
      sees = ready.sees;
      read = subst (λ (d : Certificate). HasEntry (IsLiveRead pass d) h) read its.read.read;
      request = r;
      next = ap (λ (n : ℕ). only_of (n + 1) p.seen.requests) present ∙ ready.next;
      owned = its.well.request_owned c r ready.sees (only_among (revision c + 1) p.seen.requests r ready.next);
      matches = ready.matches;
      key = k;
      named = ready.named;
      among = ready.among;
      labelled = its.well.labelled k ready.among;
      key_owned = its.well.key_owned c k ready.sees ready.among;
      file = file;
      is_key = ready.is_key;
      namespace = target.namespace;
      name = target.name;
      unlabelled = target.unlabelled;
      has_key = target.has_key;
      fields = target.fields;
      pair = target.pair;
      requested = target.requested;
      signed = signed;
    }

-- a Secret by issuing, whichever certificate is in it
good_secret : (s : Setting) (whole h : List Entry) (pass : ℕ) (p : OpenPass) (call : Call) (P : SecretObject → Type 0) (before after : Option Object) → p.role ≡ roles.Issuing
    → ((written : SecretObject) → P written → IsGoodIssue s whole h pass p written) → WritesTarget p.role p.since P before after → IsGoodCall s whole h pass p call before after
good_secret s whole h pass p call P before after issuing issues is = record {
  write = record {
    issue = λ written role there. issues written (is.target written there);
    raise = no_raise h pass p.role call before after is.revision;
    approval = λ old new role a b x y. absurd (other_role p.role issuing role);
  };
  rights = is.rights;
}

-- the certificate of an issuer
issued_well : (s : Setting) (whole h : List Entry) (pass : ℕ) (p : OpenPass) (its : WritesForIssue s whole h pass p) (c : Certificate) (r : CertificateRequest) (k : SecretObject) (file : List ℕ) (written : SecretObject)
    → IsReadyToIssue p.seen c r k file → is_approved r ≡ true → IsIssued r → IsSigned c r file written → IsGoodIssue s whole h pass p written
issued_well s whole h pass p its c r k file written ready approved issued w =
    let stored : IsStored (writes s h) (Request r) = its.known (Request r) (seen_owned p.seen r (only_among (revision c + 1) p.seen.requests r ready.next)) in
    let of_issuer : IsOfIssuer s whole r written =
    record { approved = approved; never_denied = stays_undenied s whole h r its.legal its.below stored approved; issued = issued; certificate = w.certificate }
    in
    good_issue s whole h pass p c r k file written its ready w.target
    (subst (λ (b : Bool). MatchBool b (IsTemporaryCertificate c r file p.since written) (IsOfIssuer s whole r written)) (sym w.unmarked) of_issuer)

-- the stand-in certificate, whose times can be read since the pass began in the time of a run
marked_well : (s : Setting) (whole h : List Entry) (pass : ℕ) (p : OpenPass) (its : WritesForIssue s whole h pass p) (c : Certificate) (r : CertificateRequest) (k : SecretObject) (file : List ℕ) (written : SecretObject)
    → IsReadyToIssue p.seen c r k file → IsMarked c r file p.since written → IsGoodIssue s whole h pass p written
marked_well s whole h pass p its c r k file written ready w =
    good_issue s whole h pass p c r k file written its ready (w.target its.began)
    (subst (λ (b : Bool). MatchBool b (IsTemporaryCertificate c r file p.since written) (IsOfIssuer s whole r written)) (sym w.marked) w.stand_in)

secret_over_certificate : (c : Certificate) (written : SecretObject) → MayChange roles.Issuing (Some (Cert c)) (Some (Secret written)) → ⊥
secret_over_certificate c written (inl made) = made
secret_over_certificate c written (inr (inl changed)) = changed.0
secret_over_certificate c written (inr (inr changed)) = changed

status_settled : (call : Call) (reply : Reply) → IsStatusUpdate call → IsStatusUpdate (settled call reply)
unfolding settled
status_settled (UpdateStatus object named) reply is = tt
status_settled other reply is = absurd is

good_status : (s : Setting) (whole h : List Entry) (pass : ℕ) (p : OpenPass) (c : Certificate) (call : Call) (before after : Option Object) → p.role ≡ roles.Issuing → IsStatusUpdate call → HasEntry (IsSecretSaved pass) h
    → IsRaiseOf c p.since before after → IsGoodCall s whole h pass p call before after
good_status s whole h pass p c call before after issuing status saved is = record {
  write = record {
    issue = λ written role there. absurd (secret_over_certificate c written (subst (λ (x : Option Object). MayChange roles.Issuing x (Some (Secret written))) is.of_it (subst (λ (x : Option Object). MayChange roles.Issuing before x) there is.rights)));
    raise = λ old new a b other. record { issuing = issuing; status = status; by_one = raised before after is.raises old new a b; saved = saved };
    approval = λ old new role a b x y. absurd (other_role p.role issuing role);
  };
  rights = subst (λ (r : Role). MayChange r before after) (sym issuing) is.rights;
}

-- ---- by how far the pass has come

-- what is known of an accepted call
pub record IsCallKnown (s : Setting) (whole h : List Entry) (p : OpenPass) (call : Call) (reply : Reply) : Type 0 where
  pub legal : IsLegal s whole
  pub legal_here : IsLegal s h
  pub below : IsEarlier s whole h
  pub known : AreKnown (writes s h) p.seen
  pub well : IsWellSeen p.seen
  pub began : BeganInRun p
  pub ok : is_accepted reply ≡ true
  pub founded : IsFounded (objects s h) (settled call reply)

abbrev IsGoodNow : Setting → List Entry → List Entry → ℕ → OpenPass → Call → Type 0
IsGoodNow s whole h pass p call = IsGoodCall s whole h pass p call (object_at (objects s h) (key_of_call call)) (stored (accepted s h + 1) (moment s h) (objects s h) call)

-- what the call was for stood there
stood : (P : Option Object → Option Object → Type 0) (s : Setting) (whole h : List Entry) (p : OpenPass) (call : Call) (reply : Reply) → IsCallKnown s whole h p call reply → OnSeen P p.seen call
    → P (object_at (objects s h) (key_of_call (settled call reply))) (stored (accepted s h + 1) (moment s h) (objects s h) (settled call reply))
stood P s whole h p call reply k on = as_seen P s h p.seen call reply k.legal_here k.known k.ok k.founded on

good_by : (s : Setting) (whole h : List Entry) (pass : ℕ) (p : OpenPass) (stage : Stage) (call : Call) (reply : Reply) → IsCallKnown s whole h p call reply
    → HoldsWhileIssuing stage (IsInProgress (writes s h) p.role p.key p.seen) → HasCome h pass p.role p.seen p.since stage → IsCallAt stage p.role p.seen p.since call → IsGoodNow s whole h pass p (settled call reply)
good_by s whole h pass p Fresh call reply k steady has (inl on) =
    good_ordinary s whole h pass p (settled call reply) (object_at (objects s h) (key_of_call (settled call reply))) (stored (accepted s h + 1) (moment s h) (objects s h) (settled call reply))
    (stood (IsOrdinary p.role p.since) s whole h p call reply k on)
good_by s whole h pass p Fresh call reply k steady has (inr live) = absurd (not_accepted (objects s h) p.role p.seen call reply live k.founded)
good_by s whole h pass p (Asked order) call reply k steady has at = absurd at
good_by s whole h pass p (Given order value) call reply k steady has at =
    good_answer s whole h pass p (settled call reply) order value (object_at (objects s h) (key_of_call (settled call reply))) (stored (accepted s h + 1) (moment s h) (objects s h) (settled call reply)) has
    (stood (IsWriteAfterValue p.role p.seen p.since value) s whole h p call reply k at)
good_by s whole h pass p Read call reply k steady has (inl at) =
    let i = at.issues in
    let its : WritesForIssue s whole h pass p = record { legal = k.legal; below = k.below; known = k.known; well = k.well; began = k.began; issuing = i.issuing; steady = steady; read = has } in
    good_secret s whole h pass p (settled call reply) (IsSigned i.certificate i.request i.file) (object_at (objects s h) (key_of_call (settled call reply))) (stored (accepted s h + 1) (moment s h) (objects s h) (settled call reply)) i.issuing
    (λ written w. issued_well s whole h pass p its i.certificate i.request i.key i.file written i.prepared i.approved i.issued w)
    (stood (WritesTarget p.role p.since (IsSigned i.certificate i.request i.file)) s whole h p call reply k
    (subst (OnSeen (WritesTarget p.role p.since (IsSigned i.certificate i.request i.file)) p.seen) (sym at.planned) i.secret))
good_by s whole h pass p Read call reply k steady has (inr at) =
    let i = at.stands_in in
    let its : WritesForIssue s whole h pass p = record { legal = k.legal; below = k.below; known = k.known; well = k.well; began = k.began; issuing = i.issuing; steady = steady; read = has } in
    good_secret s whole h pass p (settled call reply) (IsMarked i.certificate i.request i.file p.since) (object_at (objects s h) (key_of_call (settled call reply))) (stored (accepted s h + 1) (moment s h) (objects s h) (settled call reply)) i.issuing
    (λ written w. marked_well s whole h pass p its i.certificate i.request i.key i.file written i.prepared w)
    (stood (WritesTarget p.role p.since (IsMarked i.certificate i.request i.file p.since)) s whole h p call reply k
    (subst (OnSeen (WritesTarget p.role p.since (IsMarked i.certificate i.request i.file p.since)) p.seen) (sym at.planned) i.secret))
good_by s whole h pass p Saved call reply k steady has at =
    let i = at.issues in
    good_status s whole h pass p i.certificate (settled call reply) (object_at (objects s h) (key_of_call (settled call reply))) (stored (accepted s h + 1) (moment s h) (objects s h) (settled call reply)) i.issuing
    (status_settled call reply (subst IsStatusUpdate (sym at.planned) i.is_status)) has
    (stood (IsRaiseOf i.certificate p.since) s whole h p call reply k (subst (OnSeen (IsRaiseOf i.certificate p.since) p.seen) (sym at.planned) i.status))
good_by s whole h pass p Wrote call reply k steady has at = absurd at
good_by s whole h pass p (Refused entry obstacle) call reply k steady has at = absurd at
good_by s whole h pass p Barred call reply k steady has at = absurd at

good_caller : AreSound → (s : Setting) (whole h : List Entry) (m : ℕ) (call : Call) (reply : Reply) → IsFormed s → IsLegal s whole → IsEarlier s whole h → IsPlayed s h → IsReply s.faults (state s h) call reply → is_accepted reply ≡ true
    → (c : IsCaller s h m call) → IsGoodNow s whole h m c.pass (settled call reply)
good_caller sound s whole h m call reply formed legal below o right ok c =
    good_by s whole h m c.pass c.pass.stage call reply
    (record {
      legal = legal;
      legal_here = o.legal;
      below = below;
      known = c.saw.known;
      well = c.saw.well;
      began = of_open BeganInRun (open_pass s h m) c.pass c.opened (began_in_run s h m formed o.legal o.follows);
      ok = ok;
      founded = accepted_found s.faults (state s h) call reply right ok;
    })
    (of_open (IsUnmoved (writes s h)) (open_pass s h m) c.pass c.opened (in_progress sound s h m o)) c.done c.at

-- the pass that is open there
good_pass : (s : Setting) (whole h : List Entry) (m : ℕ) (call : Call) (reply : Reply) (c : IsCaller s h m call) → IsGoodNow s whole h m c.pass (settled call reply) → IsSafeWrite s whole h (Pass m) (settled call reply)
good_pass s whole h m call reply c good p opened =
    let same : c.pass ≡ p = one_in OpenPass c.pass p (open_pass s h m) c.opened opened in
    (subst (λ (q : OpenPass). IsGoodNow s whole h m q (settled call reply)) same good).write

if_accepted : (b : Bool) (P : Type 0) → (b ≡ true → P) → MatchBool b P (Unit {0})
if_accepted true P holds = holds refl
if_accepted false P holds = tt

-- ---- questions

good_order : (s : Setting) (whole h : List Entry) (p : OpenPass) (order : Order) → IsLegal s whole → IsEarlier s whole h → AreKnown (writes s h) p.seen → IsQuestion p.role p.seen order → AsksWell s whole (Some p) order
good_order s whole h p (orders.Key order) legal below known question = tt
good_order s whole h p (orders.Csr order) legal below known question = tt
good_order s whole h p (orders.Sign order) legal below known question = record {
  sees = question.1;
  approved = question.2;
  never_denied = stays_undenied s whole h order.request legal below (known (Request order.request) (seen_request p.seen order.request question.1)) question.2;
}
good_order s whole h p (orders.Judge order) legal below known question = tt

good_question : AreSound → (s : Setting) (whole h : List Entry) (n : ℕ) (x : Option OpenPass) (order : Order) → IsLegal s whole → IsEarlier s whole h → IfSome x (SawAll (writes s h)) → MayAsk s h x order → AsksWell s whole x order
good_question sound s whole h n None order legal below saw may = absurd may
good_question sound s whole h n (Some p) order legal below saw may = good_order s whole h p order legal below saw.known (question_of sound s h n p order saw may).question

-- ---- entries

version_kept : (b : Bool) (w : Write) (ws : List Write) (key : Key) (o : Object) → IsVersion key o ws → IsVersion key o (if b then w ∷ ws else ws)
version_kept true w ws key o has = inr has
version_kept false w ws key o has = has

below_call : (s : Setting) (whole h : List Entry) (who : Who) (call : Call) (reply : Reply) → IsEarlier s whole (Called who call reply ∷ h) → IsEarlier s whole h
below_call s whole h who call reply below key o has = below key o (version_kept (is_accepted reply) (write_of (moment s h) (state s h) (settled call reply)) (writes s h) key o has)

are_safe : AreSound → (s : Setting) (whole h : List Entry) → IsFormed s → IsLegal s whole → IsEarlier s whole h → IsPlayed s h → AreSafe s whole h
unfolding AreSafe IsLegal IsCaused Follows
are_safe sound s whole [] formed legal below o = tt
are_safe sound s whole (Called User call reply ∷ h) formed legal below o = (
  λ ok. leaves (object_at (objects s h) (key_of_call (settled call reply))) (stored (accepted s h + 1) (moment s h) (objects s h) (settled call reply))
      (users_keep s h call reply o.legal.1 o.follows.0 o.legal.0.0 ok),
  (tt, are_safe sound s whole h formed legal (below_call s whole h User call reply below) (played_below s (Called User call reply) h o)),
)
are_safe sound s whole (Called (Pass m) call reply ∷ h) formed legal below o =
    let here = below_call s whole h (Pass m) call reply below in
    let under = played_below s (Called (Pass m) call reply) h o in
    let c = caller_of sound s h m call o.legal.1 o.caused.1 o.caused.0 in (
      λ ok. good_pass s whole h m call reply c (good_caller sound s whole h m call reply formed legal here under o.legal.0.0 ok c),
      (
        if_accepted (is_accepted reply) (IsRightful s h (settled call reply) (open_pass s h m))
            (λ ok. subst (IsRightful s h (settled call reply)) (sym c.opened) (good_caller sound s whole h m call reply formed legal here under o.legal.0.0 ok c).rights),
        are_safe sound s whole h formed legal here under,
      ),
    )
are_safe sound s whole (Ask pass order ∷ h) formed legal below o = (
  good_question sound s whole h pass (open_pass s h pass) order legal below (saw_all s h pass o.legal.1) o.caused.0,
  (tt, are_safe sound s whole h formed legal below (played_below s (Ask pass order) h o)),
)
are_safe sound s whole (other ∷ h) formed legal below o = (tt, (tt, are_safe sound s whole h formed legal below (played_below s other h o)))

-- a history of a scenario that is legal, caused and follows its script is safe
pub safe : AreSound → (s : Setting) (h : List Entry) → IsFormed s → IsLegal s h → IsCaused s h → Follows s h → IsSafe s h
safe sound s h formed legal caused follows = are_safe sound s h h formed legal (λ key o has. has) (record { legal = legal; caused = caused; follows = follows })
