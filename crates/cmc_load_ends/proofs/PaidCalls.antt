-- What a call of the only open pass of a plain run of a load costs.
use Rattle.std.proofs.Common.{◌≡◌, ◌==◌, ℕ, ℤ, ◌+◌, ◌*◌, ◌≤◌, List, [], ◌∷◌, length, Bool, true, false, Option, Some, refl, sym, ap, subst, ◌∙◌, inl, inr, arith}
use Rattle.std.proofs.lemmas.Bool.Decides.{Decides-eqb}
use Rattle.std.specs.Prelude.{if◌then◌else◌}
use Rattle.cmc_meta.specs.declared.key.Kind.{Kind}
use Rattle.cmc_objects.specs.declared.certificate.Certificate.{Certificate}
use Rattle.cmc_objects.specs.declared.object.Object.{Object}
use Rattle.cmc_objects.specs.declared.object.Object.TheVariants.{Cert}
use Rattle.cmc_objects.specs.declared.call.Call.{Call}
use Rattle.cmc_objects.specs.declared.call.Reply.{Reply}
use Rattle.cmc_objects.specs.declared.call.Reply.TheVariants.{Ok, Unchanged, Found, Conflict, NotFound, AlreadyExists, Invalid, Unavailable}
use Rattle.cmc_objects.specs.declared.entry.Who.TheVariants.{Pass}
use Rattle.cmc_objects.specs.declared.entry.Entry.{Entry}
use Rattle.cmc_objects.specs.declared.entry.Entry.TheVariants.{Call as Called}
use Rattle.cmc_objects.specs.declared.orders.Order.{Order}
use Rattle.cmc_objects.specs.declared.role.Role.{Role}
use Rattle.cmc_objects.specs.Objects.{key_of, version_of}
use Rattle.cmc_objects.specs.Requests.{is_run_time}
use Rattle.cmc_pass.specs.declared.pass.Act.{Act}
use Rattle.cmc_pass.specs.declared.pass.Act.TheVariants.{Nothing, Call as Calls, Ask as Asks, Issue, Temporary}
use Rattle.cmc_pass.specs.declared.pass.Views.{Views}
use Rattle.cmc_pass.specs.declared.value.Value.{Value}
use Rattle.cmc_model.specs.Histories.{Setting, objects, state}
use Rattle.cmc_model.specs.Objects.{object_at}
use Rattle.cmc_model.specs.Replies.{IsReply, key_of_call}
use Rattle.cmc_model.specs.Writes.{writes}
use Rattle.cmc_rules.specs.declared.progress.OpenPass.{OpenPass}
use Rattle.cmc_rules.specs.declared.progress.Stage.{Stage}
use Rattle.cmc_rules.specs.declared.progress.Stage.TheVariants.{Fresh, Asked, Given, Read, Saved, Wrote, Refused, Barred}
use Rattle.cmc_rules.specs.Causes.{IsFirstCall, IsNextCall, MayCall, act_of, after_of}
use Rattle.cmc_rules.specs.Issuance.{issuing}
use Rattle.cmc_rules.specs.Legality.{IsLegal}
use Rattle.cmc_rules.specs.Passes.{is_as_seen, is_temporary_act, open_pass, stage_after, stage_read, stage_written, with_stage}
use Rattle.cmc_rules.specs.Positions.{positions}
use Rattle.cmc_rules.specs.Revisions.{KeepsRevision}
use Rattle.cmc_rules.specs.Sound.{IsOrdinary, IsWriteAfterValue}
use Rattle.cmc_rules.specs.Views.{views}
use Rattle.cmc_rules.proofs.Positions.{views_called}
use Rattle.cmc_rules.proofs.Sighted.{views_known}
use Rattle.cmc_moves.proofs.Sounds.{each_sound}
use Rattle.cmc_safety.specs.Formed.{IsFormed}
use Rattle.cmc_safety.proofs.InProgress.{IsCaller, IsPlayed, caller_of, secret_keeps}
use Rattle.cmc_safety.proofs.Moments.{moment_in_run}
use Rattle.cmc_safety.proofs.NextCalls.{IsCallAt, ReadsObject, found_is_read, no_read}
use Rattle.cmc_run_laws.specs.Begins.{count_of}
use Rattle.cmc_run_laws.specs.Calm.{IsCalmReply}
use Rattle.cmc_run_laws.specs.Lengths.{is_begin, is_of_pass}
use Rattle.cmc_run_laws.proofs.CalmViews.{stands_seen}
use Rattle.cmc_run_laws.proofs.InOrder.{all_in_order, sees_in_order}
use Rattle.cmc_run_laws.proofs.NeverIdle.{never_idle}
use Rattle.cmc_run_laws.proofs.RunningAlone.{AreCalm, SeesAt, saw_certificate, unread}
use Rattle.cmc_run_laws.proofs.SinceBegin.{AskedByAct, Begun}
use Rattle.cmc_run_laws.proofs.TablesChange.{SeesInOrder}
use Rattle.cmc_load_laws.specs.Measure.{acts}
use Rattle.cmc_load_ends.specs.LoadLengths.{is_role_write}
use Rattle.cmc_load_ends.proofs.NoFaults.{never_unavailable}
use Rattle.cmc_load_ends.proofs.PaidPasses.{IsGoingOn, IsOnly, entries_of_passes, gone_pays, left_at, one_spent, paid_for}
use Rattle.cmc_load_ends.proofs.BegunWaits.{idle_begins}

-- ---- replies that let it go on

written_on : (stand_in : Bool) (stage : Stage) (does : Act) (after : Order → Value → Option Call) (call : Call) → IsNextCall stage does after call → IsGoingOn (stage_written stand_in stage)
written_on true Read does after call next = tt
written_on false Read does after call next = tt
written_on stand_in Fresh does after call next = tt
written_on stand_in (Given order value) does after call next = tt
written_on stand_in Saved does after call next = tt
written_on stand_in other does after call next = absurd next

written_asked : (role : Role) (seen : Views) (since : ℤ) (stand_in : Bool) (stage : Stage) → AskedByAct role seen since (stage_written stand_in stage)
written_asked role seen since true Read = tt
written_asked role seen since false Read = tt
written_asked role seen since stand_in Fresh = tt
written_asked role seen since stand_in (Asked order) = tt
written_asked role seen since stand_in (Given order value) = tt
written_asked role seen since stand_in Saved = tt
written_asked role seen since stand_in Wrote = tt
written_asked role seen since stand_in (Refused entry obstacle) = tt
written_asked role seen since stand_in Barred = tt

left_low : (stage : Stage) (does : Bool) → left_at stage does ≤ 4
left_low Fresh true = omega arith
left_low Fresh false = omega arith
left_low (Asked order) does = omega arith
left_low (Given order value) does = omega arith
left_low Read does = omega arith
left_low Saved does = omega arith
left_low Wrote does = omega arith
left_low (Refused entry obstacle) does = omega arith
left_low Barred does = omega arith

-- a write pays for the pass that it is of
write_low : (begins rest l m i w : ℕ) → (begins + rest) + l ≤ 2 * i + (5 * w + 3) → m ≤ 4 → (begins + (rest + 1)) + m ≤ 2 * i + (5 * (w + 1) + 3)
write_low begins rest l m i w low few = omega (arith, low, few)

-- what is answered Unchanged is the Secret of an issuance, and its status follows
saved_low : (stand_in : Bool) (stage : Stage) (a b : Bool) (begins rest most : ℕ) → stage_written stand_in stage ≡ Saved → (begins + rest) + left_at stage a ≤ most → (begins + (rest + 1)) + left_at (stage_written stand_in stage) b ≤ most
saved_low true Read a b begins rest most is low = absurd (cc is)
saved_low false Read a b begins rest most is low = omega (arith, low)
saved_low stand_in Fresh a b begins rest most is low = absurd (cc is)
saved_low stand_in (Asked order) a b begins rest most is low = absurd (cc is)
saved_low stand_in (Given order value) a b begins rest most is low = absurd (cc is)
saved_low stand_in Saved a b begins rest most is low = absurd (cc is)
saved_low stand_in Wrote a b begins rest most is low = absurd (cc is)
saved_low stand_in (Refused entry obstacle) a b begins rest most is low = absurd (cc is)
saved_low stand_in Barred a b begins rest most is low = absurd (cc is)

-- ---- the live read

first_acts : (does : Act) (call : Call) → IsFirstCall does call → acts does ≡ true
first_acts Nothing call is = absurd is
first_acts (Calls first) call is = refl
first_acts (Asks order) call is = absurd is
first_acts (Issue plan) call is = refl
first_acts (Temporary plan) call is = refl

as_seen : (c : Certificate) (x : Option Certificate) (o : Object) → x ≡ Some c → o ≡ Cert c → is_as_seen x o ≡ true
as_seen c x o sees is = ap (λ (y : Option Certificate). is_as_seen y o) sees ∙ ap (λ (y : Object). version_of y == c.meta.version) is ∙ (Decides-eqb c.meta.version c.meta.version).1 refl

read_on : (b : Bool) (entry : ℕ) (kind : Kind) (version : ℕ) → b ≡ true → stage_read b entry kind version ≡ Read
read_on true entry kind version is = refl
read_on false entry kind version is = absurd (cc is)

-- the pass had only begun, and what it read is what it saw
record IsLiveRead (stage : Stage) (does : Act) (seen : Views) (o : Object) : Type 0 where
  fresh : left_at stage (acts does) ≡ 2
  same : is_as_seen seen.certificate o ≡ true

live_read : (s : Setting) (h : List Entry) (p : OpenPass) (stage : Stage) (does : Act) (after : Order → Value → Option Call) (call : Call) (o : Object) → IsLegal s h → SeesAt s h p stage → IsNextCall stage does after call
    → IsCallAt stage p.role p.seen p.since call → ReadsObject (objects s h) call o → IsReply s.faults (state s h) call (Found o) → IsLiveRead stage does p.seen o
live_read s h p Fresh does after call o legal sees next (inl on) reads right = absurd (no_read (IsOrdinary p.role p.since) (objects s h) p.seen call o reads on)
live_read s h p Fresh does after call o legal sees next (inr live) reads right =
    let there : object_at (objects s h) (key_of (Cert live.certificate)) ≡ Some (Cert live.certificate) = saw_certificate s h p.seen live.certificate live.sees (stands_seen s h p.role p.key p.seen legal sees) in
    let found : object_at (objects s h) (key_of (Cert live.certificate)) ≡ Some o = subst (λ (c : Call). ReadsObject (objects s h) c o) live.get reads in
    let some : Some o ≡ Some (Cert live.certificate) = sym found ∙ there in
    let is : o ≡ Cert live.certificate = cc some in
    record { fresh = ap (λ (b : Bool). if b then 2 else 4) (first_acts does call next); same = as_seen live.certificate p.seen.certificate o live.sees is }
live_read s h p (Given order value) does after call o legal sees next at reads right = absurd (no_read (IsWriteAfterValue p.role p.seen p.since value) (objects s h) p.seen call o reads at)
live_read s h p Read does after call o legal sees next at reads right = absurd (no_read KeepsRevision (objects s h) p.seen call o reads (secret_keeps p.role p.seen p.since call at))
live_read s h p Saved does after call o legal sees next at reads right = absurd (unread s h p call o at right)
live_read s h p other does after call o legal sees next at reads right = absurd next

-- ---- a call

module _ (s : Setting) (h : List Entry) (n : ℕ) (call : Call) (formed : IsFormed s) (none : s.faults ≡ []) (o : IsPlayed s h) (calm : AreCalm s h) (only : IsOnly s h n) (may : MayCall s h (open_pass s h n) call) where
  abbrev p : OpenPass
  p = only.pass

  next : IsNextCall p.stage (act_of s h p) (after_of p) call
  next = subst (λ (x : Option OpenPass). MayCall s h x call) only.opened may

  at : IsCallAt p.stage p.role p.seen p.since call
  at = by (caller_of each_sound s h n call o.legal o.caused may) where
    by : IsCaller s h n call → IsCallAt p.stage p.role p.seen p.since call
    by c = let some : Some c.pass ≡ Some p = sym c.opened ∙ only.opened in let same : c.pass ≡ p = cc some in subst (λ (q : OpenPass). IsCallAt q.stage q.role q.seen q.since call) same c.at

  calls : (reply : Reply) → AskedByAct p.role p.seen p.since (stage_after s h call reply p) → IsGoingOn (stage_after s h call reply p)
      → entries_of_passes (Called (Pass n) call reply ∷ h) + left_at (stage_after s h call reply p) (acts (act_of s (Called (Pass n) call reply ∷ h) (with_stage (stage_after s h call reply p) p))) ≤ paid_for s (Called (Pass n) call reply ∷ h)
      → IsOnly s (Called (Pass n) call reply ∷ h) n
  calls reply asked on low = gone_pays s h n (Called (Pass n) call reply) (stage_after s h call reply) only (λ m. refl) (views_called s h (Pass n) call reply p.role p.key o.legal) refl asked on low

  abbrev stand_in : Bool
  stand_in = is_temporary_act (issuing p.seen p.since)

  -- whether the act of the pass at this stage, after the reply, has something to do
  abbrev later : Reply → Stage → Bool
  later reply stage = acts (act_of s (Called (Pass n) call reply ∷ h) (with_stage stage p))

  written : (version : ℕ) (name : List ℕ) → IsOnly s (Called (Pass n) call (Ok version name) ∷ h) n
  written version name =
      calls (Ok version name) (written_asked p.role p.seen p.since stand_in p.stage) (written_on stand_in p.stage (act_of s h p) (after_of p) call next)
      (write_low (count_of is_begin h) (count_of is_of_pass h) (left_at p.stage (acts (act_of s h p))) (left_at (stage_written stand_in p.stage) (later (Ok version name) (stage_written stand_in p.stage)))
      (idle_begins s h) (count_of is_role_write h) only.low (left_low (stage_written stand_in p.stage) (later (Ok version name) (stage_written stand_in p.stage))))

  in_run : is_run_time p.since ≡ true
  in_run = subst (λ (t : ℤ). is_run_time t ≡ true) only.present (moment_in_run s h formed o.follows)

  in_order : SeesInOrder p.seen
  in_order = subst SeesInOrder only.sees (sees_in_order (writes s h) (views s h p.role p.key) (all_in_order s h o.caused o.follows) (views_known s h p.role p.key))

  abbrev begun : Begun
  begun = record { pass = n; role = p.role; key = p.key; at = positions h p.role; seen = p.seen; since = p.since }

  unchanged : (version : ℕ) → IsReply s.faults (state s h) call (Unchanged version) → IsOnly s (Called (Pass n) call (Unchanged version) ∷ h) n
  unchanged version right =
      let saved : stage_written stand_in p.stage ≡ Saved = never_idle s begun in_run in_order h p.stage call version o.legal only.present only.sees only.asked next at right in
      calls (Unchanged version) (written_asked p.role p.seen p.since stand_in p.stage) (written_on stand_in p.stage (act_of s h p) (after_of p) call next)
      (saved_low stand_in p.stage (acts (act_of s h p)) (later (Unchanged version) (stage_written stand_in p.stage)) (count_of is_begin h) (count_of is_of_pass h) (paid_for s h) saved only.low)

  found : (object : Object) → IsReply s.faults (state s h) call (Found object) → IsOnly s (Called (Pass n) call (Found object) ∷ h) n
  found object right =
      let live = live_read s h p p.stage (act_of s h p) (after_of p) call object o.legal (calm.passes n p only.opened).sees next at (found_is_read s.faults (state s h) call object right) right in
      let read : stage_after s h call (Found object) p ≡ Read = read_on (is_as_seen p.seen.certificate object) (length h + 1) (key_of_call call).kind (version_of object) live.same in
      calls (Found object) (subst (AskedByAct p.role p.seen p.since) (sym read) tt) (subst IsGoingOn (sym read) tt)
      (subst (λ (t : Stage). (count_of is_begin h + (count_of is_of_pass h + 1)) + left_at t (acts (act_of s (Called (Pass n) call (Found object) ∷ h) (with_stage t p))) ≤ paid_for s h) (sym read)
      (one_spent (count_of is_begin h) (count_of is_of_pass h) (left_at p.stage (acts (act_of s h p))) (paid_for s h) 1 only.low live.fresh))

  pub call_pays : (reply : Reply) → IsCalmReply reply → IsReply s.faults (state s h) call reply → IsOnly s (Called (Pass n) call reply ∷ h) n
  call_pays (Ok version name) is right = written version name
  call_pays (Unchanged version) is right = unchanged version right
  call_pays (Found object) is right = found object right
  call_pays (Unavailable number) is right = absurd (never_unavailable s.faults (state s h) call number none right)
  call_pays (Conflict named have) is right = absurd is
  call_pays (NotFound before) is right = absurd is
  call_pays (AlreadyExists have) is right = absurd is
  call_pays (Invalid rule) is right = absurd is
