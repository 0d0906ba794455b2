-- From the live read of an issuance to its status the revision is the one that its pass saw.
use Rattle.std.proofs.Common.{◌≡◌, ◌==◌, ◌⊎◌, ℕ, ℤ, ◌+◌, ◌≤◌, List, [], ◌∷◌, length, Option, Some, None, Bool, true, false, refl, sym, ap, subst, ◌∙◌, inl, inr, option_and_then}
use Rattle.std.proofs.lemmas.Bool.Decides.{Decides-eqb}
use Rattle.std.specs.Prelude.{if◌then◌else◌, IfSome, unwrap_or}
use Rattle.cmc_meta.specs.declared.key.Key.{Key}
use Rattle.cmc_meta.specs.declared.key.Kind.{Kind}
use Rattle.cmc_meta.specs.declared.key.Kind.TheVariants as kinds
use Rattle.cmc_objects.specs.declared.certificate.Certificate.{Certificate}
use Rattle.cmc_objects.specs.declared.object.Object.{Object}
use Rattle.cmc_objects.specs.declared.object.Object.TheVariants.{Cert, Request, Secret}
use Rattle.cmc_objects.specs.declared.call.Call.{Call}
use Rattle.cmc_objects.specs.declared.call.Reply.{Reply}
use Rattle.cmc_objects.specs.declared.call.Reply.TheVariants.{Ok, Unchanged, Found, Conflict, NotFound, AlreadyExists, Invalid, Unavailable}
use Rattle.cmc_objects.specs.declared.role.Role.{Role}
use Rattle.cmc_objects.specs.declared.role.Role.TheVariants as roles
use Rattle.cmc_objects.specs.declared.entry.Who.{Who}
use Rattle.cmc_objects.specs.declared.entry.Who.TheVariants.{User, Pass}
use Rattle.cmc_objects.specs.declared.entry.Entry.{Entry}
use Rattle.cmc_objects.specs.declared.entry.Entry.TheVariants.{Call as Called, Begin, Ask, Made, Signed, Answered, Judged, End, Stop}
use Rattle.cmc_objects.specs.Objects.{key_of, version_of}
use Rattle.cmc_pass.specs.declared.value.Value.{Value}
use Rattle.cmc_pass.specs.declared.value.Value.TheVariants as values
use Rattle.cmc_pass.specs.declared.pass.Views.{Views}
use Rattle.cmc_model.specs.declared.write.Write.{Write}
use Rattle.cmc_model.specs.Objects.{Objects, object_at}
use Rattle.cmc_model.specs.Replies.{IsReply, is_accepted, key_of_call, settled, stored}
use Rattle.cmc_model.specs.Acceptance.{IsFounded}
use Rattle.cmc_model.specs.Histories.{Setting, moment, state, objects, accepted}
use Rattle.cmc_model.specs.Versions.{IsVersion, HasVersion}
use Rattle.cmc_model.specs.Writes.{writes, write_of, contents, last_under}
use Rattle.cmc_model.proofs.Accepting.{accepted_found}
use Rattle.cmc_model.proofs.Versions.{IsLawful, uids_low, one_key}
use Rattle.cmc_model.proofs.Writes.{writes_leave}
use Rattle.cmc_model.proofs.Writing.{IsCallOf}
use Rattle.cmc_rules.specs.declared.progress.OpenPass.{OpenPass}
use Rattle.cmc_rules.specs.declared.progress.Stage.{Stage}
use Rattle.cmc_rules.specs.declared.progress.Stage.TheVariants.{Fresh, Asked, Given, Read, Saved, Wrote, Refused, Barred}
use Rattle.cmc_objects.specs.Informers.{works_on_requests}
use Rattle.cmc_rules.specs.Positions.{cache}
use Rattle.cmc_rules.specs.Views.{certificate_in, certificate_at, views_of, views_in, views}
use Rattle.cmc_rules.specs.Issuance.{issuing}
use Rattle.cmc_rules.specs.Passes.{open_pass, called, gone_on, is_as_seen, is_temporary_act, stage_read, stage_written, stage_by, stage_after, stage_given, new_pass}
use Rattle.cmc_rules.specs.Legality.{IsLegal}
use Rattle.cmc_rules.specs.Causes.{MayCall, IsCaused}
use Rattle.cmc_rules.specs.UserSteps.{Follows}
use Rattle.cmc_rules.specs.Revisions.{revision, stated_in, revision_of_uid, KeepsRevision}
use Rattle.cmc_rules.specs.SeenObjects.{OnSeen}
use Rattle.cmc_rules.specs.Sound.{IsOrdinary, IsWriteAfterValue, WritesTarget, IsSigned, IsMarked, IsRaiseOf}
use Rattle.cmc_rules.proofs.Carrying.{over_call, over_ask, over_given, over_begin, over_end, over_stop}
use Rattle.cmc_rules.proofs.Seen.{seen_is_version}
use Rattle.cmc_rules.proofs.Sighted.{AreKnown, as_seen}
use Rattle.cmc_rules.proofs.Versions.{lawful}
use Rattle.cmc_rules.proofs.WellSeen.{SawAll, saw_all}
use Rattle.cmc_safety.proofs.Alone.{same_pass}
use Rattle.cmc_safety.proofs.LastVersions.{stands_as_last, revision_kept, revision_passed_over}
use Rattle.cmc_safety.proofs.Users.{users_keep}
use Rattle.cmc_safety.proofs.NextCalls.{IsLiveCall, IsCallAt, ReadsObject, found_is_read, on_less}
use Rattle.cmc_safety.proofs.Course.{AreSound, with_equation, over_own_entry, same_number, HasComeTo, has_come, next_call, live_object, live_at}

-- ---- the Certificate that a pass saw stood under the pass's key

abbrev pub SawVersion : List Write → OpenPass → Type 0
SawVersion ws p = (c : Certificate) → p.seen.certificate ≡ Some c → IsVersion p.key (Cert c) ws

certificate_there : (x : Option Object) (c : Certificate) → option_and_then certificate_in x ≡ Some c → x ≡ Some (Cert c)
certificate_there None c is = absurd (cc is)
certificate_there (Some (Cert d)) c is = ap (λ (x : Certificate). Some (Cert x)) (let one : d ≡ c = cc is in one)
certificate_there (Some (Request r)) c is = absurd (cc is)
certificate_there (Some (Secret k)) c is = absurd (cc is)

certificate_seen : (none : Bool) (stored : Objects) (key : Key) (c : Certificate) → (if none then None else certificate_at stored key) ≡ Some c → object_at stored key ≡ Some (Cert c)
certificate_seen true stored key c is = absurd (cc is)
certificate_seen false stored key c is = certificate_there (object_at stored key) c is

views_version : (s : Setting) (h : List Entry) (role : Role) (key : Key) (c : Certificate) → (views s h role key).certificate ≡ Some c → HasVersion s h key (Cert c)
unfolding views_in views_of
views_version s h role key c is =
    seen_is_version s h role kinds.Certificate key (Cert c) (certificate_seen (works_on_requests role) (cache s h role kinds.Certificate) key c is)

more_versions : (b : Bool) (w : Write) (ws : List Write) (p : OpenPass) → SawVersion ws p → SawVersion (if b then w ∷ ws else ws) p
more_versions true w ws p saw c is = inr (saw c is)
more_versions false w ws p saw c is = saw c is

older_versions : (b : Bool) (w : Write) (ws : List Write) (p : Option OpenPass) → IfSome p (SawVersion ws) → IfSome p (SawVersion (if b then w ∷ ws else ws))
older_versions b w ws None saw = tt
older_versions b w ws (Some p) saw = more_versions b w ws p saw

pub saw_version : (s : Setting) (h : List Entry) (n : ℕ) → IfSome (open_pass s h n) (SawVersion (writes s h))
saw_version s [] n = tt
saw_version s (Called who call reply ∷ h) n =
    older_versions (is_accepted reply) (write_of (moment s h) (state s h) (settled call reply)) (writes s h) (called n who (stage_after s h call reply) (open_pass s h n))
    (over_call (SawVersion (writes s h)) n who (stage_after s h call reply) (open_pass s h n) (λ p saw. saw) (saw_version s h n))
saw_version s (Begin pass role key at now ∷ h) n =
    over_begin (SawVersion (writes s h)) (n == pass) (new_pass role key (views s h role key) now) (open_pass s h n) (λ c is. views_version s h role key c is) (saw_version s h n)
saw_version s (Ask pass order ∷ h) n = over_ask (SawVersion (writes s h)) n pass order (open_pass s h n) (λ p saw. saw) (saw_version s h n)
saw_version s (Made pass key ∷ h) n = over_given (SawVersion (writes s h)) n pass (values.Made key) (open_pass s h n) (λ p saw. saw) (saw_version s h n)
saw_version s (Signed pass signature ∷ h) n = over_given (SawVersion (writes s h)) n pass (values.Signed signature) (open_pass s h n) (λ p saw. saw) (saw_version s h n)
saw_version s (Answered pass answer ∷ h) n = over_given (SawVersion (writes s h)) n pass (values.Answered answer) (open_pass s h n) (λ p saw. saw) (saw_version s h n)
saw_version s (Judged pass approved ∷ h) n = over_given (SawVersion (writes s h)) n pass (values.Judged approved) (open_pass s h n) (λ p saw. saw) (saw_version s h n)
saw_version s (End pass cause ∷ h) n = over_end (SawVersion (writes s h)) (n == pass) (open_pass s h n) (saw_version s h n)
saw_version s (Stop role ∷ h) n = over_stop (SawVersion (writes s h)) role (open_pass s h n) (saw_version s h n)
saw_version s (other ∷ h) n = saw_version s h n

-- ---- what a call does to revisions

-- the status that ends an issuance
pub record IsRaiseCall (role : Role) (seen : Views) (since : ℤ) (call : Call) : Type 0 where
  pub issuing : role ≡ roles.Issuing
  pub certificate : Certificate
  pub sees : seen.certificate ≡ Some certificate
  pub on : OnSeen (IsRaiseOf certificate since) seen call

-- each call of a pass keeps revisions, ends an issuance or begins one
abbrev pub IsSortOfCall : Role → Views → ℤ → Call → Type 0
IsSortOfCall role seen since call = OnSeen KeepsRevision seen call ⊎ (IsRaiseCall role seen since call ⊎ IsLiveCall role seen call)

-- the Secret of an issuance, with either certificate
pub secret_keeps : (role : Role) (seen : Views) (since : ℤ) (call : Call) → IsCallAt Read role seen since call → OnSeen KeepsRevision seen call
secret_keeps role seen since call (inl at) =
    let i = at.issues in
    subst (OnSeen KeepsRevision seen) (sym at.planned)
    (on_less (WritesTarget role since (IsSigned i.certificate i.request i.file)) KeepsRevision seen at.plan.secret (λ old new is. is.revision) i.secret)
secret_keeps role seen since call (inr at) =
    let i = at.stands_in in
    subst (OnSeen KeepsRevision seen) (sym at.planned)
    (on_less (WritesTarget role since (IsMarked i.certificate i.request i.file since)) KeepsRevision seen at.plan.secret (λ old new is. is.revision) i.secret)

sort_at : (stage : Stage) (role : Role) (seen : Views) (since : ℤ) (call : Call) → IsCallAt stage role seen since call → IsSortOfCall role seen since call
sort_at Fresh role seen since call (inl on) = inl (on_less (IsOrdinary role since) KeepsRevision seen call (λ old new is. is.revision) on)
sort_at Fresh role seen since call (inr live) = inr (inr live)
sort_at (Asked order) role seen since call at = absurd at
sort_at (Given order value) role seen since call at = inl (on_less (IsWriteAfterValue role seen since value) KeepsRevision seen call (λ old new is. is.revision) at)
sort_at Read role seen since call at = inl (secret_keeps role seen since call at)
sort_at Saved role seen since call at =
    let i = at.issues in
    inr (inl (record { issuing = i.issuing; certificate = i.certificate; sees = i.prepared.sees; on = subst (OnSeen (IsRaiseOf i.certificate since) seen) (sym at.planned) i.status }))
sort_at Wrote role seen since call at = absurd at
sort_at (Refused entry obstacle) role seen since call at = absurd at
sort_at Barred role seen since call at = absurd at

-- ---- an open pass that calls

pub record IsCaller (s : Setting) (h : List Entry) (m : ℕ) (call : Call) : Type 0 where
  pub pass : OpenPass
  pub opened : open_pass s h m ≡ Some pass
  pub saw : SawAll (writes s h) pass
  pub version : SawVersion (writes s h) pass
  pub done : HasComeTo h m pass
  pub at : IsCallAt pass.stage pass.role pass.seen pass.since call

caller_by : AreSound → (s : Setting) (h : List Entry) (m : ℕ) (x : Option OpenPass) (call : Call) → open_pass s h m ≡ x → IfSome x (SawAll (writes s h)) → IfSome x (SawVersion (writes s h)) → IfSome x (HasComeTo h m)
    → MayCall s h x call → IsCaller s h m call
caller_by sound s h m None call opened saw version done may = absurd may
caller_by sound s h m (Some p) call opened saw version done may =
    record { pass = p; opened = opened; saw = saw; version = version; done = done; at = next_call sound s h m p call saw done may }

pub caller_of : AreSound → (s : Setting) (h : List Entry) (m : ℕ) (call : Call) → IsLegal s h → IsCaused s h → MayCall s h (open_pass s h m) call → IsCaller s h m call
caller_of sound s h m call legal caused may =
    caller_by sound s h m (open_pass s h m) call refl (saw_all s h m legal) (saw_version s h m) (has_come sound s h m legal caused) may

-- ---- an issuance in progress

-- issuing works on its Certificate, and the last version of that uid has the revision that it saw
pub record IsInProgress (ws : List Write) (role : Role) (key : Key) (seen : Views) : Type 0 where
  pub issuing : role ≡ roles.Issuing
  pub certificate : Certificate
  pub sees : seen.certificate ≡ Some certificate
  pub stored : IsVersion key (Cert certificate) ws
  pub present : revision_of_uid certificate.meta.uid ws ≡ revision certificate

-- behind the live read, and behind the Secret
abbrev pub HoldsWhileIssuing : Stage → Type 0 → Type 0
HoldsWhileIssuing Read P = P
HoldsWhileIssuing Saved P = P
HoldsWhileIssuing other P = Unit {0}

abbrev pub IsUnmoved : List Write → OpenPass → Type 0
IsUnmoved ws p = HoldsWhileIssuing p.stage (IsInProgress ws p.role p.key p.seen)

held_more : (stage : Stage) (P Q : Type 0) → (P → Q) → HoldsWhileIssuing stage P → HoldsWhileIssuing stage Q
held_more Read P Q gives is = gives is
held_more Saved P Q gives is = gives is
held_more other P Q gives is = tt

-- a write that leaves the revision of the uid
write_more : (b : Bool) (w : Write) (ws : List Write) (role : Role) (key : Key) (seen : Views)
    → ((c : Certificate) → b ≡ true → IsVersion key (Cert c) ws → revision_of_uid c.meta.uid (w ∷ ws) ≡ revision_of_uid c.meta.uid ws)
    → IsInProgress ws role key seen → IsInProgress (if b then w ∷ ws else ws) role key seen
write_more true w ws role key seen leaves is = record {
  issuing = is.issuing;
  certificate = is.certificate;
  sees = is.sees;
  stored = inr is.stored;
  present = leaves is.certificate refl is.stored ∙ is.present;
}
write_more false w ws role key seen leaves is = is

-- ---- a call and the revision of a uid

-- what the call writes, under the name that it has
abbrev newest : Setting → List Entry → Call → Reply → Write
newest s h call reply = write_of (moment s h) (state s h) (settled call reply)

lawful_newest : (s : Setting) (h : List Entry) (who : Who) (call : Call) (reply : Reply) → IsLegal s (Called who call reply ∷ h) → is_accepted reply ≡ true → IsLawful (newest s h call reply ∷ writes s h)
lawful_newest s h who call reply legal ok =
    subst (λ (b : Bool). IsLawful (if b then newest s h call reply ∷ writes s h else writes s h)) ok (lawful s (Called who call reply ∷ h) legal)

uid_given : (s : Setting) (h : List Entry) (key : Key) (c : Certificate) → IsLegal s h → IsVersion key (Cert c) (writes s h) → c.meta.uid ≤ length (writes s h)
uid_given s h key c legal has = uids_low (writes s h) key (Cert c) (lawful s h legal) has

leaves_kept : (s : Setting) (h : List Entry) (call : Call) (reply : Reply) (uid : ℕ) → IsLawful (newest s h call reply ∷ writes s h) → IsCallOf KeepsRevision s h (settled call reply) → uid ≤ length (writes s h)
    → revision_of_uid uid (newest s h call reply ∷ writes s h) ≡ revision_of_uid uid (writes s h)
leaves_kept s h call reply uid law keeps low =
    revision_kept (newest s h call reply) (writes s h) uid law
    (subst (λ (m : Objects). KeepsRevision (object_at m (key_of_call (settled call reply))) (stored (accepted s h + 1) (moment s h) (objects s h) (settled call reply))) (sym (writes_leave s h)) keeps) low

leaves_other : (s : Setting) (h : List Entry) (call : Call) (reply : Reply) (uid : ℕ) (since : ℤ) (c : Certificate) → IsLawful (newest s h call reply ∷ writes s h) → IsCallOf (IsRaiseOf c since) s h (settled call reply)
    → (c.meta.uid ≡ uid → ⊥) → uid ≤ length (writes s h) → revision_of_uid uid (newest s h call reply ∷ writes s h) ≡ revision_of_uid uid (writes s h)
leaves_other s h call reply uid since c law raise other low =
    revision_passed_over (newest s h call reply) (writes s h) uid (Cert c) law (ap (λ (m : Objects). object_at m (key_of_call (settled call reply))) (writes_leave s h) ∙ raise.of_it) other low

-- a live read is not accepted
pub not_accepted : (objects : Objects) (role : Role) (seen : Views) (call : Call) (reply : Reply) → IsLiveCall role seen call → IsFounded objects (settled call reply) → ⊥
unfolding IsFounded settled
not_accepted objects role seen call reply live founded =
    subst (λ (k : Call). IsFounded objects (settled k reply)) live.get founded

-- an accepted call of another pass leaves the revision of an issuance in progress
by_sort : (s : Setting) (h : List Entry) (m n : ℕ) (p : OpenPass) (call : Call) (reply : Reply) (c : Certificate) → IsLegal s h → IsLawful (newest s h call reply ∷ writes s h) → is_accepted reply ≡ true
    → IsFounded (objects s h) (settled call reply) → (k : IsCaller s h m call) → open_pass s h n ≡ Some p → (n == m) ≡ false → p.role ≡ roles.Issuing → IsVersion p.key (Cert c) (writes s h)
    → IsSortOfCall k.pass.role k.pass.seen k.pass.since call → revision_of_uid c.meta.uid (newest s h call reply ∷ writes s h) ≡ revision_of_uid c.meta.uid (writes s h)
by_sort s h m n p call reply c legal law ok founded k opened other issuing stored (inl on) =
    leaves_kept s h call reply c.meta.uid law (as_seen KeepsRevision s h k.pass.seen call reply legal k.saw.known ok founded on) (uid_given s h p.key c legal stored)
by_sort s h m n p call reply c legal law ok founded k opened other issuing stored (inr (inl raise)) =
    let d : Certificate = raise.certificate in
    let its : IsVersion k.pass.key (Cert d) (writes s h) = k.version d raise.sees in
    let apart : d.meta.uid ≡ c.meta.uid → ⊥ = λ same.
    let key : p.key ≡ k.pass.key = one_key (writes s h) p.key k.pass.key (Cert c) (Cert d) (lawful s h legal) stored its (sym same) in
    let one : n ≡ m = same_pass s h n m p k.pass legal opened k.opened (issuing ∙ sym raise.issuing) key in
    absurd (let e : (n == m) ≡ true = (Decides-eqb n m).1 one in cc (e, other))
    in
    leaves_other s h call reply c.meta.uid k.pass.since d law (as_seen (IsRaiseOf d k.pass.since) s h k.pass.seen call reply legal k.saw.known ok founded raise.on) apart (uid_given s h p.key c legal stored)
by_sort s h m n p call reply c legal law ok founded k opened other issuing stored (inr (inr live)) =
    absurd (not_accepted (objects s h) k.pass.role k.pass.seen call reply live founded)

by_other : (s : Setting) (h : List Entry) (m n : ℕ) (p : OpenPass) (call : Call) (reply : Reply) → IsLegal s (Called (Pass m) call reply ∷ h) → IsLegal s h → IsReply s.faults (state s h) call reply → IsCaller s h m call
    → open_pass s h n ≡ Some p → (n == m) ≡ false → IsInProgress (writes s h) p.role p.key p.seen → IsInProgress (writes s (Called (Pass m) call reply ∷ h)) p.role p.key p.seen
by_other s h m n p call reply new legal right k opened other is =
    write_more (is_accepted reply) (newest s h call reply) (writes s h) p.role p.key p.seen
    (λ c ok stored. by_sort s h m n p call reply c legal (lawful_newest s h (Pass m) call reply new ok) ok (accepted_found s.faults (state s h) call reply right ok) k opened other is.issuing stored
    (sort_at k.pass.stage k.pass.role k.pass.seen k.pass.since call k.at)) is

-- ---- the pass's own calls

-- the Secret
by_secret : (s : Setting) (h : List Entry) (m : ℕ) (q : OpenPass) (call : Call) (reply : Reply) → IsLegal s (Called (Pass m) call reply ∷ h) → IsLegal s h → IsReply s.faults (state s h) call reply → AreKnown (writes s h) q.seen
    → OnSeen KeepsRevision q.seen call → IsInProgress (writes s h) q.role q.key q.seen → IsInProgress (writes s (Called (Pass m) call reply ∷ h)) q.role q.key q.seen
by_secret s h m q call reply new legal right known on is =
    write_more (is_accepted reply) (newest s h call reply) (writes s h) q.role q.key q.seen
    (λ c ok stored. leaves_kept s h call reply c.meta.uid (lawful_newest s h (Pass m) call reply new ok)
    (as_seen KeepsRevision s h q.seen call reply legal known ok (accepted_found s.faults (state s h) call reply right ok) on) (uid_given s h q.key c legal stored)) is

-- the live read found what was seen, and so the revision that was seen
read_found : (s : Setting) (h : List Entry) (q : OpenPass) (call : Call) (o : Object) → IsLegal s h → AreKnown (writes s h) q.seen → SawVersion (writes s h) q → ReadsObject (objects s h) call o
    → (live : IsLiveCall q.role q.seen call) → is_as_seen q.seen.certificate o ≡ true → IsInProgress (writes s h) q.role q.key q.seen
read_found s h q call o legal known version is live same =
    let c = live.certificate in
    let one : Cert c ≡ o = live_object s h q.role q.seen call o legal known live is same in
    let stands : object_at (objects s h) (key_of (Cert c)) ≡ Some o = subst (λ (k : Call). ReadsObject (objects s h) k o) live.get is in
    let there : object_at (contents (writes s h)) (key_of (Cert c)) ≡ Some (Cert c) = ap (λ (m : Objects). object_at m (key_of (Cert c))) (writes_leave s h) ∙ stands ∙ ap Some (sym one) in
    record {
      issuing = live.issuing;
      certificate = c;
      sees = live.sees;
      stored = version c live.sees;
      present = ap (λ (x : Option Object). unwrap_or (stated_in x) 0) (stands_as_last (writes s h) (key_of (Cert c)) (Cert c) (lawful s h legal) there);
    }

-- the writes are as they were
still : (b : Bool) (w : Write) (ws : List Write) (role : Role) (key : Key) (seen : Views) → b ≡ false → IsInProgress ws role key seen → IsInProgress (if b then w ∷ ws else ws) role key seen
still true w ws role key seen off is = absurd (cc off)
still false w ws role key seen off is = is

held_written : (stand_in : Bool) (stage : Stage) (P Q : Type 0) → (stage ≡ Read → P → Q) → HoldsWhileIssuing stage P → HoldsWhileIssuing (stage_written stand_in stage) Q
held_written true Read P Q gives is = tt
held_written false Read P Q gives is = gives refl is
held_written stand_in Fresh P Q gives is = tt
held_written stand_in (Asked order) P Q gives is = tt
held_written stand_in (Given order value) P Q gives is = tt
held_written stand_in Saved P Q gives is = tt
held_written stand_in Wrote P Q gives is = tt
held_written stand_in (Refused entry obstacle) P Q gives is = tt
held_written stand_in Barred P Q gives is = tt

held_read : (b : Bool) (entry : ℕ) (kind : Kind) (version : ℕ) (Q : Type 0) → (b ≡ true → Q) → HoldsWhileIssuing (stage_read b entry kind version) Q
held_read true entry kind version Q gives = gives refl
held_read false entry kind version Q gives = tt

by_reply : (c : Option Certificate) (stand_in : Bool) (stage : Stage) (entry : ℕ) (kind : Kind) (last : ℕ) (reply : Reply) (P Q : Type 0)
    → (stage ≡ Read → P → Q) → ((o : Object) → reply ≡ Found o → is_as_seen c o ≡ true → Q) → HoldsWhileIssuing stage P → HoldsWhileIssuing (stage_by c stand_in stage entry kind last reply) Q
by_reply c stand_in stage entry kind last (Ok version name) P Q saves reads is = held_written stand_in stage P Q saves is
by_reply c stand_in stage entry kind last (Unchanged version) P Q saves reads is = held_written stand_in stage P Q saves is
by_reply c stand_in stage entry kind last (Found o) P Q saves reads is = held_read (is_as_seen c o) entry kind (version_of o) Q (λ same. reads o refl same)
by_reply c stand_in stage entry kind last (Conflict named have) P Q saves reads is = tt
by_reply c stand_in stage entry kind last (NotFound at) P Q saves reads is = tt
by_reply c stand_in stage entry kind last (AlreadyExists have) P Q saves reads is = tt
by_reply c stand_in stage entry kind last (Invalid rule) P Q saves reads is = tt
by_reply c stand_in stage entry kind last (Unavailable number) P Q saves reads is = tt

by_itself : (s : Setting) (h : List Entry) (m : ℕ) (q : OpenPass) (call : Call) (reply : Reply) → IsLegal s (Called (Pass m) call reply ∷ h) → IsLegal s h → IsReply s.faults (state s h) call reply → AreKnown (writes s h) q.seen
    → SawVersion (writes s h) q → IsCallAt q.stage q.role q.seen q.since call → IsUnmoved (writes s h) q
    → HoldsWhileIssuing (stage_after s h call reply q) (IsInProgress (writes s (Called (Pass m) call reply ∷ h)) q.role q.key q.seen)
by_itself s h m q call reply new legal right known version at is =
    by_reply q.seen.certificate (is_temporary_act (issuing q.seen q.since)) q.stage (length h + 1) (key_of_call call).kind (last_under (key_of_call call) (writes s h)) reply
    (IsInProgress (writes s h) q.role q.key q.seen) (IsInProgress (writes s (Called (Pass m) call reply ∷ h)) q.role q.key q.seen)
    (λ read was. by_secret s h m q call reply new legal right known
    (secret_keeps q.role q.seen q.since call (subst (λ (t : Stage). IsCallAt t q.role q.seen q.since call) read at)) was)
    (λ o found same.
    let is_read : ReadsObject (objects s h) call o = found_is_read s.faults (state s h) call o (subst (IsReply s.faults (state s h) call) found right) in
    still (is_accepted reply) (newest s h call reply) (writes s h) q.role q.key q.seen (ap is_accepted found)
    (read_found s h q call o legal known version is_read (live_at s h q.role q.seen q.since q.stage call o is_read at) same))
    is

-- ---- histories

pub record IsPlayed (s : Setting) (h : List Entry) : Type 0 where
  pub legal : IsLegal s h
  pub caused : IsCaused s h
  pub follows : Follows s h

pub played_below : (s : Setting) (e : Entry) (h : List Entry) → IsPlayed s (e ∷ h) → IsPlayed s h
unfolding IsLegal IsCaused Follows
played_below s e h o = record { legal = o.legal.1; caused = o.caused.1; follows = o.follows.1 }

by_user : (s : Setting) (h : List Entry) (call : Call) (reply : Reply) (x : Option OpenPass) → IsPlayed s (Called User call reply ∷ h) → IfSome x (IsUnmoved (writes s h))
    → IfSome x (IsUnmoved (writes s (Called User call reply ∷ h)))
unfolding IsLegal Follows
by_user s h call reply None o is = tt
by_user s h call reply (Some p) o is =
    held_more p.stage (IsInProgress (writes s h) p.role p.key p.seen) (IsInProgress (writes s (Called User call reply ∷ h)) p.role p.key p.seen)
    (λ was. write_more (is_accepted reply) (newest s h call reply) (writes s h) p.role p.key p.seen
    (λ c ok stored. leaves_kept s h call reply c.meta.uid (lawful_newest s h User call reply o.legal ok) (users_keep s h call reply o.legal.1 o.follows.0 o.legal.0.0 ok) (uid_given s h p.key c o.legal.1 stored)) was) is

by_pass : AreSound → (s : Setting) (h : List Entry) (m : ℕ) (call : Call) (reply : Reply) (n : ℕ) → IsPlayed s (Called (Pass m) call reply ∷ h) → IfSome (open_pass s h n) (IsUnmoved (writes s h))
    → IfSome (gone_on n m (stage_after s h call reply) (open_pass s h n)) (IsUnmoved (writes s (Called (Pass m) call reply ∷ h)))
unfolding IsLegal IsCaused
by_pass sound s h m call reply n o is =
    let k = caller_of sound s h m call o.legal.1 o.caused.1 o.caused.0 in
    over_own_entry (λ q. (open_pass s h n ≡ Some q) × IsUnmoved (writes s h) q) (IsUnmoved (writes s (Called (Pass m) call reply ∷ h))) n m (stage_after s h call reply) (open_pass s h n)
    (λ here q holds.
    let one : n ≡ m = same_number n m here in
    let some : Some k.pass ≡ Some q = sym k.opened ∙ ap (open_pass s h) (sym one) ∙ holds.0 in
    let same : k.pass ≡ q = cc some in
    by_itself s h m q call reply o.legal o.legal.1 o.legal.0.0 (subst (λ (p : OpenPass). AreKnown (writes s h) p.seen) same k.saw.known) (subst (SawVersion (writes s h)) same k.version)
    (subst (λ (p : OpenPass). IsCallAt p.stage p.role p.seen p.since call) same k.at) holds.1)
    (λ there q holds. held_more q.stage (IsInProgress (writes s h) q.role q.key q.seen) (IsInProgress (writes s (Called (Pass m) call reply ∷ h)) q.role q.key q.seen)
    (λ was. by_other s h m n q call reply o.legal o.legal.1 o.legal.0.0 k holds.0 there was) holds.1)
    (with_equation (IsUnmoved (writes s h)) (open_pass s h n) is)

held_given : (value : Value) (stage : Stage) (P : Type 0) → HoldsWhileIssuing stage P → HoldsWhileIssuing (stage_given value stage) P
held_given value Fresh P is = tt
held_given value (Asked order) P is = tt
held_given value (Given order old) P is = tt
held_given value Read P is = is
held_given value Saved P is = is
held_given value Wrote P is = tt
held_given value (Refused entry obstacle) P is = tt
held_given value Barred P is = tt

with_value : (s : Setting) (h : List Entry) (n pass : ℕ) (value : Value) → IfSome (open_pass s h n) (IsUnmoved (writes s h))
    → IfSome (gone_on n pass (λ (q : OpenPass). stage_given value q.stage) (open_pass s h n)) (IsUnmoved (writes s h))
with_value s h n pass value is =
    over_given (IsUnmoved (writes s h)) n pass value (open_pass s h n) (λ q was. held_given value q.stage (IsInProgress (writes s h) q.role q.key q.seen) was) is

-- the revision of each issuance in progress is the one that its pass saw
pub in_progress : AreSound → (s : Setting) (h : List Entry) (n : ℕ) → IsPlayed s h → IfSome (open_pass s h n) (IsUnmoved (writes s h))
in_progress sound s [] n o = tt
in_progress sound s (Called User call reply ∷ h) n o = by_user s h call reply (open_pass s h n) o (in_progress sound s h n (played_below s (Called User call reply) h o))
in_progress sound s (Called (Pass m) call reply ∷ h) n o = by_pass sound s h m call reply n o (in_progress sound s h n (played_below s (Called (Pass m) call reply) h o))
in_progress sound s (Begin pass role key at now ∷ h) n o =
    over_begin (IsUnmoved (writes s h)) (n == pass) (new_pass role key (views s h role key) now) (open_pass s h n) tt (in_progress sound s h n (played_below s (Begin pass role key at now) h o))
in_progress sound s (Ask pass order ∷ h) n o = over_ask (IsUnmoved (writes s h)) n pass order (open_pass s h n) (λ q was. tt) (in_progress sound s h n (played_below s (Ask pass order) h o))
in_progress sound s (Made pass key ∷ h) n o = with_value s h n pass (values.Made key) (in_progress sound s h n (played_below s (Made pass key) h o))
in_progress sound s (Signed pass signature ∷ h) n o = with_value s h n pass (values.Signed signature) (in_progress sound s h n (played_below s (Signed pass signature) h o))
in_progress sound s (Answered pass answer ∷ h) n o = with_value s h n pass (values.Answered answer) (in_progress sound s h n (played_below s (Answered pass answer) h o))
in_progress sound s (Judged pass approved ∷ h) n o = with_value s h n pass (values.Judged approved) (in_progress sound s h n (played_below s (Judged pass approved) h o))
in_progress sound s (End pass cause ∷ h) n o = over_end (IsUnmoved (writes s h)) (n == pass) (open_pass s h n) (in_progress sound s h n (played_below s (End pass cause) h o))
in_progress sound s (Stop role ∷ h) n o = over_stop (IsUnmoved (writes s h)) role (open_pass s h n) (in_progress sound s h n (played_below s (Stop role) h o))
in_progress sound s (other ∷ h) n o = in_progress sound s h n (played_below s other h o)
