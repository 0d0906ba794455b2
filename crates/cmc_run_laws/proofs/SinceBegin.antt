-- What is so since a pass has begun, as long as nothing stands that is a reason for another one.
use Rattle.std.proofs.Common.{◌≡◌, ◌==◌, ◌⊎◌, ℕ, ℤ, ◌+◌, ◌≤◌, ◌++◌, List, [], ◌∷◌, length, Option, Some, None, Bool, true, false, refl, sym, ap, subst, ◌∙◌, inl, inr, arith}
use Rattle.std.proofs.lemmas.Bool.{and_parts, and_from}
use Rattle.std.proofs.lemmas.Bool.Decides.{Decides-eqb, nat_tests}
use Rattle.std.specs.Prelude.{if◌then◌else◌, ◌&&◌, option_map}
use Rattle.cmc_meta.specs.declared.key.Key.{Key}
use Rattle.cmc_meta.specs.declared.key.Kind.{Kind}
use Rattle.cmc_meta.specs.declared.key.Kind.TheVariants as kinds
use Rattle.cmc_meta.specs.Keys.{key_eq}
use Rattle.cmc_objects.specs.declared.role.Role.{Role}
use Rattle.cmc_objects.specs.Roles.{role_rank}
use Rattle.cmc_objects.specs.declared.orders.Order.{Order}
use Rattle.cmc_objects.specs.declared.certificate.Certificate.{Certificate}
use Rattle.cmc_objects.specs.declared.call.Call.{Call}
use Rattle.cmc_objects.specs.declared.call.Reply.{Reply}
use Rattle.cmc_objects.specs.declared.call.Reply.TheVariants.{Ok, Unchanged, Found, Conflict, NotFound, AlreadyExists, Invalid, Unavailable}
use Rattle.cmc_objects.specs.declared.entry.Cause.{Cause}
use Rattle.cmc_objects.specs.declared.entry.Positions.{Positions}
use Rattle.cmc_objects.specs.declared.entry.Who.{Who}
use Rattle.cmc_objects.specs.declared.entry.Who.TheVariants.{User, Pass}
use Rattle.cmc_objects.specs.declared.entry.Entry.{Entry}
use Rattle.cmc_objects.specs.declared.entry.Entry.TheVariants.{Script, Call as Called, Deliver, List as Listed, Begin, Ask, Made, Signed, Answered, Judged, End, Stop, Start, Tick}
use Rattle.cmc_objects.specs.Objects.{version_of}
use Rattle.cmc_objects.specs.Informers.{has_informer}
use Rattle.cmc_pass.specs.declared.pass.Act.{Act}
use Rattle.cmc_pass.specs.declared.pass.Act.TheVariants.{Nothing, Call as Calls, Ask as Asks, Issue, Temporary}
use Rattle.cmc_pass.specs.declared.pass.Desk.{Desk}
use Rattle.cmc_pass.specs.declared.pass.Views.{Views}
use Rattle.cmc_pass.specs.declared.value.Value.{Value}
use Rattle.cmc_pass.specs.declared.value.Value.TheVariants as values
use Rattle.cmc_model.specs.Histories.{Setting, accepted, moment, role_eq, runs, state}
use Rattle.cmc_model.specs.Replies.{IsReply, is_accepted, key_of_call}
use Rattle.cmc_model.specs.Writes.{writes, contents, kind_eq, last_under, of_kind, oldest}
use Rattle.cmc_rules.specs.declared.progress.Ending.{Ending}
use Rattle.cmc_rules.specs.declared.progress.Ending.TheVariants as endings
use Rattle.cmc_rules.specs.declared.progress.LastPass.{LastPass}
use Rattle.cmc_rules.specs.declared.progress.OpenPass.{OpenPass}
use Rattle.cmc_rules.specs.declared.progress.Past.{Past}
use Rattle.cmc_rules.specs.declared.progress.Stage.{Stage}
use Rattle.cmc_rules.specs.declared.progress.Stage.TheVariants.{Fresh, Asked, Given, Read, Saved, Wrote, Refused, Barred}
use Rattle.cmc_rules.specs.Acts.{act, call_after}
use Rattle.cmc_rules.specs.Causes.{act_of, after_of, AsksBy, EndsBy, IsAsked, IsCaused, IsCausedEntry, IsNextCall, MayAsk, MayCall, MayEnd}
use Rattle.cmc_rules.specs.Desks.{desk}
use Rattle.cmc_rules.specs.Issuance.{issuing}
use Rattle.cmc_rules.specs.Legality.{IsLegal, IsLegalEntry}
use Rattle.cmc_rules.specs.Memory.{ending_at, ending_of, no_past, past, with_begin, with_ending, with_own}
use Rattle.cmc_rules.specs.Origins.{begun}
use Rattle.cmc_rules.specs.Passes.{gone_on, is_as_seen, is_pass_of, new_pass, open_pass, stage_after, stage_by, stage_given, stage_read, stage_written, is_temporary_act, unless_of, with_stage}
use Rattle.cmc_rules.specs.Positions.{position, positions}
use Rattle.cmc_rules.specs.Safety.{HasEntry}
use Rattle.cmc_rules.specs.Sound.{IsWithin}
use Rattle.cmc_rules.specs.Sameness.{EndsAlike, IsSame}
use Rattle.cmc_rules.specs.Views.{views, views_in}
use Rattle.cmc_rules.proofs.Positions.{views_called}
use Rattle.cmc_safety.proofs.Course.{within_act}
use Rattle.cmc_safety.proofs.InProgress.{caller_of}
use Rattle.cmc_safety.proofs.NextCalls.{IsCallAt}
use Rattle.cmc_moves.proofs.Sounds.{each_sound}
use Rattle.cmc_kernel.proofs.SameKeys.{key_eq-refl, same_key}
use Rattle.cmc_kernel.proofs.RoleStates.{same_role}
use Rattle.cmc_run_laws.specs.Begins.{IsNewBegin, IsReason, is_accepted_or_failed}
use Rattle.cmc_run_laws.proofs.CalmReplies.{AreFreeNames}
use Rattle.cmc_run_laws.proofs.Refusals.{IsUntold, refused_untold}

-- ---- the pass

-- A pass that has begun: its number, its role and key, the positions and the moment of its begin, and what its role saw.
pub record Begun : Type 0 where
  pub pass : ℕ
  pub role : Role
  pub key : Key
  pub at : Positions
  pub seen : Views
  pub since : ℤ

-- it is open, and has come to this stage
abbrev pub come_to : Begun → Stage → OpenPass
come_to b stage = record { role = b.role; key = b.key; seen = b.seen; since = b.since; stage = stage }

-- it is the last of its role on its key
abbrev pub last_as : Begun → Ending → LastPass
last_as b ending = record { seen = b.seen; since = b.since; ending = ending }

-- a question was what the act asks
abbrev pub AskedByAct : Role → Views → ℤ → Stage → Type 0
AskedByAct role seen since (Asked order) = (d : Desk) × (act role seen since d ≡ Asks order)
AskedByAct role seen since (Given order value) = (d : Desk) × (act role seen since d ≡ Asks order)
AskedByAct role seen since other = Unit {0}

-- what is so of the stage of a pass to which its role has been told nothing new
pub record IsStage (b : Begun) (stage : Stage) : Type 0 where
  pub untold : IsUntold b.at stage
  pub asked : AskedByAct b.role b.seen b.since stage

pub record IsOnItsWay (s : Setting) (h : List Entry) (b : Begun) : Type 0 where
  pub stage : Stage
  pub opened : open_pass s h b.pass ≡ Some (come_to b stage)
  pub so : IsStage b stage
  pub last : (past s h b.role b.key).last ≡ Some (last_as b endings.Open)

pub record IsOver (s : Setting) (h : List Entry) (b : Begun) : Type 0 where
  pub ending : Ending
  pub closed : open_pass s h b.pass ≡ None
  pub alike : EndsAlike ending b.since b.since b.at
  pub last : (past s h b.role b.key).last ≡ Some (last_as b ending)

abbrev pub Course : Setting → List Entry → Begun → Type 0
Course s h b = IsOnItsWay s h b ⊎ IsOver s h b

-- The role has been told nothing since the begin, it is the same moment, and no other pass of the role works on the key.
pub record IsSince (s : Setting) (h : List Entry) (b : Begun) : Type 0 where
  pub told : positions h b.role ≡ b.at
  pub sees : views s h b.role b.key ≡ b.seen
  pub present : moment s h ≡ b.since
  pub begun : b.pass ≤ begun s h
  pub others : (n : ℕ) → (n == b.pass) ≡ false → is_pass_of b.role b.key (open_pass s h n) ≡ false
  pub course : Course s h b

-- or the role has stopped
abbrev pub IsSinceOrStopped : Setting → List Entry → Begun → Type 0
IsSinceOrStopped s h b = (runs s h b.role ≡ false) ⊎ IsSince s h b

-- a reason for another pass, or all is still so
abbrev pub ReasonOr : Begun → Entry → Type 0 → Type 0
ReasonOr b e still = IsReason b.role b.pass e ⊎ still

-- ---- no call of a pass is idle

-- A call of the pass whose role still sees what it saw is not answered Unchanged, but for the Secret of an issuance, which its
-- status follows.
abbrev pub NoneIsIdle : Setting → Begun → Type 0
NoneIsIdle s b =
    (h : List Entry) (stage : Stage) (call : Call) (version : ℕ) → IsLegal s h → moment s h ≡ b.since → views s h b.role b.key ≡ b.seen → AskedByAct b.role b.seen b.since stage
    → IsNextCall stage (act_of s h (come_to b stage)) (after_of (come_to b stage)) call → IsCallAt stage b.role b.seen b.since call
    → IsReply s.faults (state s h) call (Unchanged version) → stage_written (is_temporary_act (issuing b.seen b.since)) stage ≡ Saved

-- ---- what entries leave

kept : (s : Setting) (h : List Entry) (e : Entry) (b : Begun) → positions (e ∷ h) b.role ≡ positions h b.role → views s (e ∷ h) b.role b.key ≡ views s h b.role b.key → moment s (e ∷ h) ≡ moment s h
    → begun s h ≤ begun s (e ∷ h)
    → ((n : ℕ) → (n == b.pass) ≡ false → is_pass_of b.role b.key (open_pass s h n) ≡ false → is_pass_of b.role b.key (open_pass s (e ∷ h) n) ≡ false)
    → (Course s h b → Course s (e ∷ h) b) → IsSince s h b → IsSince s (e ∷ h) b
kept s h e b told sees present more others course i = record {
  told = told ∙ i.told;
  sees = sees ∙ i.sees;
  present = present ∙ i.present;
  begun = let low = i.begun in omega (arith, low, more);
  others = λ n other. others n other (i.others n other);
  course = course i.course;
}

same_course : (s : Setting) (h : List Entry) (e : Entry) (b : Begun) → open_pass s (e ∷ h) b.pass ≡ open_pass s h b.pass → (past s (e ∷ h) b.role b.key).last ≡ (past s h b.role b.key).last
    → Course s h b → Course s (e ∷ h) b
same_course s h e b opened last (inl w) = inl (record { stage = w.stage; opened = opened ∙ w.opened; so = w.so; last = last ∙ w.last })
same_course s h e b opened last (inr o) = inr (record { ending = o.ending; closed = opened ∙ o.closed; alike = o.alike; last = last ∙ o.last })

-- entries of a pass take it on
gone_course : (own : Bool) (s : Setting) (h : List Entry) (e : Entry) (b : Begun) (n : ℕ) (f : OpenPass → Stage) → (b.pass == n) ≡ own
    → open_pass s (e ∷ h) b.pass ≡ (if own then option_map (λ (q : OpenPass). with_stage (f q) q) (open_pass s h b.pass) else open_pass s h b.pass)
    → (past s (e ∷ h) b.role b.key).last ≡ (past s h b.role b.key).last
    → ((b.pass == n) ≡ true → (stage : Stage) → open_pass s h n ≡ Some (come_to b stage) → IsStage b stage → IsStage b (f (come_to b stage))) → Course s h b → Course s (e ∷ h) b
gone_course false s h e b n f own opened last goes c = same_course s h e b opened last c
gone_course true s h e b n f own opened last goes (inl w) =
    let same : b.pass ≡ n = (Decides-eqb b.pass n).0 own in
    inl (record {
      stage = f (come_to b w.stage);
      opened = opened ∙ ap (option_map (λ (q : OpenPass). with_stage (f q) q)) w.opened;
      so = goes own w.stage (subst (λ (i : ℕ). open_pass s h i ≡ Some (come_to b w.stage)) same w.opened) w.so;
      last = last ∙ w.last;
    })
gone_course true s h e b n f own opened last goes (inr o) =
    inr (record { ending = o.ending; closed = opened ∙ ap (option_map (λ (q : OpenPass). with_stage (f q) q)) o.closed; alike = o.alike; last = last ∙ o.last })

gone_others : (own : Bool) (r : Role) (k : Key) (f : OpenPass → Stage) (p : Option OpenPass) → is_pass_of r k p ≡ false → is_pass_of r k (if own then option_map (λ (q : OpenPass). with_stage (f q) q) p else p) ≡ false
gone_others true r k f None off = off
gone_others true r k f (Some p) off = off
gone_others false r k f p off = off

mine_itself : (b : Begun) (stage : Stage) → is_pass_of b.role b.key (Some (come_to b stage)) ≡ true
mine_itself b stage = and_from (role_eq b.role b.role) (key_eq b.key b.key) ((Decides-eqb (role_rank b.role) (role_rank b.role)).1 refl) (key_eq-refl b.key)

-- ---- calls

own_last : (b : Bool) (kind : Kind) (version : ℕ) (p : Past) → (if b then with_own kind version p else p).last ≡ p.last
own_last true kind version p = refl
own_last false kind version p = refl

-- a call leaves no question open
written_asked : (role : Role) (seen : Views) (since : ℤ) (stand_in : Bool) (stage : Stage) → AskedByAct role seen since (stage_written stand_in stage)
written_asked role seen since true Read = tt
written_asked role seen since false Read = tt
written_asked role seen since stand_in Fresh = tt
written_asked role seen since stand_in (Asked order) = tt
written_asked role seen since stand_in (Given order value) = tt
written_asked role seen since stand_in Saved = tt
written_asked role seen since stand_in Wrote = tt
written_asked role seen since stand_in (Refused entry obstacle) = tt
written_asked role seen since stand_in Barred = tt

read_asked : (role : Role) (seen : Views) (since : ℤ) (b : Bool) (entry : ℕ) (kind : Kind) (version : ℕ) → AskedByAct role seen since (stage_read b entry kind version)
read_asked role seen since true entry kind version = tt
read_asked role seen since false entry kind version = tt

after_asked : (role : Role) (seen : Views) (since : ℤ) (c : Option Certificate) (stand_in : Bool) (stage : Stage) (entry : ℕ) (kind : Kind) (last : ℕ) (reply : Reply)
    → AskedByAct role seen since (stage_by c stand_in stage entry kind last reply)
after_asked role seen since c stand_in stage entry kind last (Ok version name) = written_asked role seen since stand_in stage
after_asked role seen since c stand_in stage entry kind last (Unchanged version) = written_asked role seen since stand_in stage
after_asked role seen since c stand_in stage entry kind last (Found o) = read_asked role seen since (is_as_seen c o) entry kind (version_of o)
after_asked role seen since c stand_in stage entry kind last (Conflict named have) = tt
after_asked role seen since c stand_in stage entry kind last (NotFound at) = tt
after_asked role seen since c stand_in stage entry kind last (AlreadyExists have) = tt
after_asked role seen since c stand_in stage entry kind last (Invalid rule) = tt
after_asked role seen since c stand_in stage entry kind last (Unavailable number) = tt

call_stage : (s : Setting) (h : List Entry) (b : Begun) (n : ℕ) (call : Call) (reply : Reply) → IsLegal s h → IsCaused s h → AreFreeNames s h → NoneIsIdle s b → MayCall s h (open_pass s h n) call
    → IsReply s.faults (state s h) call reply → positions h b.role ≡ b.at → views s h b.role b.key ≡ b.seen → moment s h ≡ b.since → (is_accepted_or_failed reply ≡ true → ⊥)
    → (stage : Stage) → open_pass s h n ≡ Some (come_to b stage) → IsStage b stage → IsStage b (stage_after s h call reply (come_to b stage))
call_stage s h b n call reply legal caused free idle may right told sees present none stage opened so =
    let c = caller_of each_sound s h n call legal caused may in
    let some : Some c.pass ≡ Some (come_to b stage) = sym c.opened ∙ opened in
    let same : c.pass ≡ come_to b stage = cc some in
    let next : IsNextCall stage (act_of s h (come_to b stage)) (after_of (come_to b stage)) call = subst (λ (x : Option OpenPass). MayCall s h x call) opened may in
    let at : IsCallAt stage b.role b.seen b.since call = subst (λ (q : OpenPass). IsCallAt q.stage q.role q.seen q.since call) same c.at in
    let within = within_act each_sound s h c.pass c.saw in
    record {
      untold = subst (λ (p : Positions). IsUntold p (stage_after s h call reply (come_to b stage))) told
          (refused_untold s h (come_to b stage) call reply legal free (subst (λ (q : OpenPass). IsWithin q.role (call_after q.role q.seen q.since) q.seen q.since (act_of s h q)) same within) next at (sym sees) right none
          (λ version is.
          subst (IsUntold (positions h b.role)) (sym (idle h stage call version legal present sees so.asked next at (subst (IsReply s.faults (state s h) call) is right))) tt));
      asked = after_asked b.role b.seen b.since b.seen.certificate (is_temporary_act (issuing b.seen b.since)) stage (length h + 1) (key_of_call call).kind (last_under (key_of_call call) (writes s h)) reply;
    }

-- the call is one of the pass and a reason, or it is none
news : (own ok : Bool) (m n : ℕ) (reply : Reply) → (m == n) ≡ own → is_accepted_or_failed reply ≡ ok
    → ((Pass n ≡ Pass m) × (is_accepted_or_failed reply ≡ true)) ⊎ ((m == n) ≡ true → is_accepted_or_failed reply ≡ true → ⊥)
news true true m n reply own is = inl (ap Pass (sym ((Decides-eqb m n).0 own)), is)
news true false m n reply own is = inr (λ same ok. absurd (cc (is, ok)))
news false ok m n reply own is = inr (λ same. absurd (cc (same, own)))

pass_called : (own : Bool) (s : Setting) (h : List Entry) (b : Begun) (n : ℕ) (call : Call) (reply : Reply) → (b.pass == n) ≡ own → IsLegal s h → IsCaused s h → AreFreeNames s h → NoneIsIdle s b → MayCall s h (open_pass s h n) call
    → IsReply s.faults (state s h) call reply → ((b.pass == n) ≡ true → is_accepted_or_failed reply ≡ true → ⊥) → (i : IsSince s h b) → Course s (Called (Pass n) call reply ∷ h) b
pass_called own s h b n call reply is legal caused free idle may right none i =
    gone_course own s h (Called (Pass n) call reply) b n (stage_after s h call reply) is
    (ap (λ (x : Bool). if x then option_map (λ (q : OpenPass). with_stage (stage_after s h call reply q) q) (open_pass s h b.pass) else open_pass s h b.pass) is)
    (own_last (is_accepted reply && is_pass_of b.role b.key (open_pass s h n)) (key_of_call call).kind (accepted s h + 1) (past s h b.role b.key))
    (λ own_call stage opened so. call_stage s h b n call reply legal caused free idle may right i.told i.sees i.present (none own_call) stage opened so) i.course

call_since : (s : Setting) (h : List Entry) (b : Begun) (who : Who) (call : Call) (reply : Reply) → IsLegal s h → IsCaused s h → AreFreeNames s h → NoneIsIdle s b → IsLegalEntry s h (Called who call reply)
    → IsCausedEntry s h (Called who call reply) → IsSince s h b → ReasonOr b (Called who call reply) (IsSince s (Called who call reply ∷ h) b)
call_since s h b User call reply legal caused free idle right may i =
    inr (kept s h (Called User call reply) b refl (views_called s h User call reply b.role b.key legal) refl (omega arith) (λ n other off. off) (same_course s h (Called User call reply) b refl refl) i)
call_since s h b (Pass n) call reply legal caused free idle right may i = by (news (b.pass == n) (is_accepted_or_failed reply) b.pass n reply refl refl) where
  by : ((Pass n ≡ Pass b.pass) × (is_accepted_or_failed reply ≡ true)) ⊎ ((b.pass == n) ≡ true → is_accepted_or_failed reply ≡ true → ⊥) → ReasonOr b (Called (Pass n) call reply) (IsSince s (Called (Pass n) call reply ∷ h) b)
  by (inl reason) = inl reason
  by (inr none) =
      inr (kept s h (Called (Pass n) call reply) b refl (views_called s h (Pass n) call reply b.role b.key legal) refl (omega arith)
      (λ m other off. gone_others (m == n) b.role b.key (stage_after s h call reply) (open_pass s h m) off)
      (λ course. pass_called (b.pass == n) s h b n call reply refl legal caused free idle may right.0 none i) i)

-- ---- questions and values

stage_asked : (s : Setting) (h : List Entry) (b : Begun) (n : ℕ) (order : Order) → MayAsk s h (open_pass s h n) order → (stage : Stage) → open_pass s h n ≡ Some (come_to b stage) → IsStage b stage → IsStage b (Asked order)
stage_asked s h b n order may stage opened so =
    record { untold = tt; asked = by stage (act_of s h (come_to b stage)) refl (subst (λ (x : Option OpenPass). MayAsk s h x order) opened may) } where
      by_act : (does : Act) → act_of s h (come_to b stage) ≡ does → IsAsked does order → (d : Desk) × (act b.role b.seen b.since d ≡ Asks order)
      by_act Nothing is asks = absurd asks
      by_act (Calls first) is asks = absurd asks
      by_act (Asks asked) is asks = (desk s h b.role b.seen, is ∙ ap Asks (sym asks))
      by_act (Issue plan) is asks = absurd asks
      by_act (Temporary plan) is asks = absurd asks

      by : (t : Stage) (does : Act) → act_of s h (come_to b stage) ≡ does → AsksBy t does order → (d : Desk) × (act b.role b.seen b.since d ≡ Asks order)
      by Fresh does is asks = by_act does is asks
      by other does is asks = absurd asks

ask_since : (s : Setting) (h : List Entry) (b : Begun) (n : ℕ) (order : Order) → MayAsk s h (open_pass s h n) order → IsSince s h b → IsSince s (Ask n order ∷ h) b
ask_since s h b n order may i =
    kept s h (Ask n order) b refl refl refl (omega arith) (λ m other off. gone_others (m == n) b.role b.key (λ (q : OpenPass). Asked order) (open_pass s h m) off)
    (λ course. gone_course (b.pass == n) s h (Ask n order) b n (λ (q : OpenPass). Asked order) refl refl refl (λ own stage opened so. stage_asked s h b n order may stage opened so) course) i

stage_valued : (b : Begun) (value : Value) (stage : Stage) → IsStage b stage → IsStage b (stage_given value stage)
stage_valued b value Fresh so = so
stage_valued b value (Asked order) so = record { untold = tt; asked = so.asked }
stage_valued b value (Given order old) so = so
stage_valued b value Read so = so
stage_valued b value Saved so = so
stage_valued b value Wrote so = so
stage_valued b value (Refused entry obstacle) so = so
stage_valued b value Barred so = so

value_since : (s : Setting) (h : List Entry) (e : Entry) (b : Begun) (n : ℕ) (value : Value) → ((m : ℕ) → open_pass s (e ∷ h) m ≡ gone_on m n (λ (q : OpenPass). stage_given value q.stage) (open_pass s h m))
    → positions (e ∷ h) b.role ≡ positions h b.role → views s (e ∷ h) b.role b.key ≡ views s h b.role b.key → moment s (e ∷ h) ≡ moment s h → begun s h ≤ begun s (e ∷ h)
    → (past s (e ∷ h) b.role b.key).last ≡ (past s h b.role b.key).last → IsSince s h b → IsSince s (e ∷ h) b
value_since s h e b n value form told sees present more last i =
    kept s h e b told sees present more
    (λ m other off. ap (is_pass_of b.role b.key) (form m) ∙ gone_others (m == n) b.role b.key (λ (q : OpenPass). stage_given value q.stage) (open_pass s h m) off)
    (λ course. gone_course (b.pass == n) s h e b n (λ (q : OpenPass). stage_given value q.stage) refl (form b.pass) last (λ own stage opened so. stage_valued b value stage so) course) i

-- ---- an end

ended_others : (own : Bool) (r : Role) (k : Key) (p : Option OpenPass) → is_pass_of r k p ≡ false → is_pass_of r k (if own then None else p) ≡ false
ended_others true r k p off = refl
ended_others false r k p off = off

-- it ends as it would again
ends_alike : (b : Begun) (stage : Stage) (does : Act) (cause : Cause) → EndsBy stage does cause → IsUntold b.at stage → EndsAlike (ending_at stage) b.since b.since b.at
ends_alike b Fresh does cause ends untold = refl
ends_alike b (Asked order) does cause ends untold = absurd ends
ends_alike b (Given order value) does cause ends untold = absurd ends
ends_alike b Read does cause ends untold = absurd ends
ends_alike b Saved does cause ends untold = absurd ends
ends_alike b Wrote does cause ends untold = absurd untold
ends_alike b (Refused entry obstacle) does cause ends untold = untold
ends_alike b Barred does cause ends untold = absurd ends

-- an end of another pass is none of the role on the key
not_own : (s : Setting) (h : List Entry) (b : Begun) (n : ℕ) → ((m : ℕ) → (m == b.pass) ≡ false → is_pass_of b.role b.key (open_pass s h m) ≡ false) → (b.pass == n) ≡ false → is_pass_of b.role b.key (open_pass s h n) ≡ false
not_own s h b n others off = others n (grind (arith, nat_tests))

same_last : (x : Bool) (ending : Ending) (p : Past) → x ≡ false → (if x then with_ending ending p else p).last ≡ p.last
same_last true ending p off = absurd (cc off)
same_last false ending p off = refl

ended_last : (x : Bool) (ending : Ending) (p : Past) (b : Begun) → x ≡ true → p.last ≡ Some (last_as b endings.Open) → (if x then with_ending ending p else p).last ≡ Some (last_as b ending)
ended_last true ending p b on is = ap (option_map (λ (l : LastPass). record l { ending = ending })) is
ended_last false ending p b on is = absurd (cc on)

end_course : (own : Bool) (s : Setting) (h : List Entry) (b : Begun) (n : ℕ) (cause : Cause) → (b.pass == n) ≡ own → MayEnd s h (open_pass s h n) cause → IsSince s h b → Course s h b → Course s (End n cause ∷ h) b
end_course false s h b n cause own may i course =
    same_course s h (End n cause) b (ap (λ (x : Bool). if x then None else open_pass s h b.pass) own)
    (same_last (is_pass_of b.role b.key (open_pass s h n)) (ending_of (open_pass s h n)) (past s h b.role b.key) (not_own s h b n i.others own)) course
end_course true s h b n cause own may i (inl w) =
    let same : b.pass ≡ n = (Decides-eqb b.pass n).0 own in
    let opened : open_pass s h n ≡ Some (come_to b w.stage) = subst (λ (m : ℕ). open_pass s h m ≡ Some (come_to b w.stage)) same w.opened in
    let ends : EndsBy w.stage (act_of s h (come_to b w.stage)) cause = subst (λ (x : Option OpenPass). MayEnd s h x cause) opened may in
    inr (record {
      ending = ending_at w.stage;
      closed = ap (λ (x : Bool). if x then None else open_pass s h b.pass) own;
      alike = ends_alike b w.stage (act_of s h (come_to b w.stage)) cause ends w.so.untold;
      last = subst (λ (x : Option OpenPass). (if is_pass_of b.role b.key x then with_ending (ending_of x) (past s h b.role b.key) else past s h b.role b.key).last ≡ Some (last_as b (ending_at w.stage))) (sym opened)
          (ended_last (is_pass_of b.role b.key (Some (come_to b w.stage))) (ending_at w.stage) (past s h b.role b.key) b (mine_itself b w.stage) w.last);
    })
end_course true s h b n cause own may i (inr o) =
    let same : b.pass ≡ n = (Decides-eqb b.pass n).0 own in
    let closed : open_pass s h n ≡ None = subst (λ (m : ℕ). open_pass s h m ≡ None) same o.closed in
    absurd (subst (λ (x : Option OpenPass). MayEnd s h x cause) closed may)

end_since : (s : Setting) (h : List Entry) (b : Begun) (n : ℕ) (cause : Cause) → MayEnd s h (open_pass s h n) cause → IsSince s h b → IsSince s (End n cause ∷ h) b
end_since s h b n cause may i =
    kept s h (End n cause) b refl refl refl (omega arith) (λ m other off. ended_others (m == n) b.role b.key (open_pass s h m) off) (λ course. end_course (b.pass == n) s h b n cause refl may i course) i

-- ---- another pass begins

begun_others : (own : Bool) (r : Role) (k : Key) (new : OpenPass) (p : Option OpenPass) → is_pass_of r k (Some new) ≡ false → is_pass_of r k p ≡ false → is_pass_of r k (if own then Some new else p) ≡ false
begun_others true r k new p one other = one
begun_others false r k new p one other = other

begin_since : (s : Setting) (h : List Entry) (b : Begun) (n : ℕ) (r : Role) (k : Key) (at : Positions) (now : ℤ) → n ≡ begun s h + 1 → (role_eq r b.role && key_eq k b.key) ≡ false → IsSince s h b → IsSince s (Begin n r k at now ∷ h) b
begin_since s h b n r k at now numbered other i =
    let low = i.begun in
    let off : (b.pass == n) ≡ false = grind (arith, nat_tests, low, numbered) in
    kept s h (Begin n r k at now) b refl refl refl (omega arith)
    (λ m apart none. begun_others (m == n) b.role b.key (new_pass r k (views s h r k) now) (open_pass s h m) other none)
    (λ course. same_course s h (Begin n r k at now) b (ap (λ (x : Bool). if x then Some (new_pass r k (views s h r k) now) else open_pass s h b.pass) off)
    (ap (λ (x : Bool). (if x then with_begin (views s h r k) now (past s h b.role b.key) else past s h b.role b.key).last) other) course) i

-- ---- other roles are told, stop and start

-- where no position of the role moves
positions_same : (h k : List Entry) (role : Role) → ((kind : Kind) → position k role kind ≡ position h role kind) → positions k role ≡ positions h role
positions_same h k role same = λ i. record {
  certificates = if has_informer role kinds.Certificate then same kinds.Certificate i else 0;
  requests = if has_informer role kinds.CertificateRequest then same kinds.CertificateRequest i else 0;
  secrets = if has_informer role kinds.Secret then same kinds.Secret i else 0;
}

views_same : (s : Setting) (h k : List Entry) (role : Role) (key : Key) → writes s k ≡ writes s h → ((kind : Kind) → position k role kind ≡ position h role kind) → views s k role key ≡ views s h role key
views_same s h k role key ws same = λ i. views_in role (record {
  certificates = contents (of_kind kinds.Certificate (oldest (same kinds.Certificate i) (ws i)));
  requests = contents (of_kind kinds.CertificateRequest (oldest (same kinds.CertificateRequest i) (ws i)));
  secrets = contents (of_kind kinds.Secret (oldest (same kinds.Secret i) (ws i)));
}) key

other_told : (mine : Bool) (of_kind : Bool) (to p : ℕ) → mine ≡ false → (if mine && of_kind then to else p) ≡ p
other_told true of_kind to p off = absurd (cc off)
other_told false of_kind to p off = refl

other_started : (mine : Bool) (to p : ℕ) → mine ≡ false → (if mine then to else p) ≡ p
other_started true to p off = absurd (cc off)
other_started false to p off = refl

deliver_since : (s : Setting) (h : List Entry) (b : Begun) (r : Role) (kind : Kind) (to : ℕ) → role_eq r b.role ≡ false → IsSince s h b → IsSince s (Deliver r kind to ∷ h) b
deliver_since s h b r kind to other i =
    let same : (k : Kind) → position (Deliver r kind to ∷ h) b.role k ≡ position h b.role k = λ k. other_told (role_eq r b.role) (kind_eq kind k) to (position h b.role k) other in
    kept s h (Deliver r kind to) b (positions_same h (Deliver r kind to ∷ h) b.role same) (views_same s h (Deliver r kind to ∷ h) b.role b.key refl same) refl (omega arith) (λ n off none. none)
    (same_course s h (Deliver r kind to) b refl refl) i

list_since : (s : Setting) (h : List Entry) (b : Begun) (r : Role) (kind : Kind) (to : ℕ) → role_eq r b.role ≡ false → IsSince s h b → IsSince s (Listed r kind to ∷ h) b
list_since s h b r kind to other i =
    let same : (k : Kind) → position (Listed r kind to ∷ h) b.role k ≡ position h b.role k = λ k. other_told (role_eq r b.role) (kind_eq kind k) to (position h b.role k) other in
    kept s h (Listed r kind to) b (positions_same h (Listed r kind to ∷ h) b.role same) (views_same s h (Listed r kind to ∷ h) b.role b.key refl same) refl (omega arith) (λ n off none. none)
    (same_course s h (Listed r kind to) b refl refl) i

start_since : (s : Setting) (h : List Entry) (b : Begun) (r : Role) (at : ℕ) → role_eq r b.role ≡ false → IsSince s h b → IsSince s (Start r at ∷ h) b
start_since s h b r at other i =
    let same : (k : Kind) → position (Start r at ∷ h) b.role k ≡ position h b.role k = λ k. other_started (role_eq r b.role) at (position h b.role k) other in
    kept s h (Start r at) b (positions_same h (Start r at ∷ h) b.role same) (views_same s h (Start r at ∷ h) b.role b.key refl same) refl (omega arith) (λ n off none. none)
    (same_course s h (Start r at) b refl (ap (λ (x : Bool). (if x then no_past else past s h b.role b.key).last) other)) i

stopped_others : (r role : Role) (k : Key) (p : Option OpenPass) → is_pass_of role k p ≡ false → is_pass_of role k (unless_of r p) ≡ false
stopped_others r role k None off = refl
stopped_others r role k (Some p) off = by (role_eq r p.role) where
  by : (own : Bool) → is_pass_of role k (if own then None else Some p) ≡ false
  by true = refl
  by false = off

stop_course : (s : Setting) (h : List Entry) (b : Begun) (r : Role) → role_eq r b.role ≡ false → Course s h b → Course s (Stop r ∷ h) b
stop_course s h b r other (inl w) =
    inl (record {
      stage = w.stage;
      opened = ap (unless_of r) w.opened ∙ ap (λ (x : Bool). if x then None else Some (come_to b w.stage)) other;
      so = w.so;
      last = w.last;
    })
stop_course s h b r other (inr o) = inr (record { ending = o.ending; closed = ap (unless_of r) o.closed; alike = o.alike; last = o.last })

stop_since : (s : Setting) (h : List Entry) (b : Begun) (r : Role) → role_eq r b.role ≡ false → IsSince s h b → IsSince s (Stop r ∷ h) b
stop_since s h b r other i = kept s h (Stop r) b refl refl refl (omega arith) (λ n off none. stopped_others r b.role b.key (open_pass s h n) none) (stop_course s h b r other) i

-- ---- every entry

told_role : (role : Role) (b : Begun) (e : Entry) (still : Type 0) (mine : Bool) → role_eq role b.role ≡ mine → (role ≡ b.role → IsReason b.role b.pass e) → (mine ≡ false → still) → ReasonOr b e still
told_role role b e still true is reason same = inl (reason (same_role role b.role is))
told_role role b e still false is reason same = inr (same refl)

-- one entry more, which is a reason, or leaves all as it was
since_step : (s : Setting) (h : List Entry) (b : Begun) (e : Entry) → IsLegal s h → IsCaused s h → AreFreeNames s h → NoneIsIdle s b → IsLegalEntry s h e → IsCausedEntry s h e → (IsNewBegin b.role b.key e → ⊥) → IsSince s h b
    → ReasonOr b e (IsSinceOrStopped s (e ∷ h) b)
since_step s h b (Script step) legal caused free idle right may none i = inr (inr (kept s h (Script step) b refl refl refl (omega arith) (λ n off none. none) (same_course s h (Script step) b refl refl) i))
since_step s h b (Called who call reply) legal caused free idle right may none i = by (call_since s h b who call reply legal caused free idle right may i) where
  by : ReasonOr b (Called who call reply) (IsSince s (Called who call reply ∷ h) b) → ReasonOr b (Called who call reply) (IsSinceOrStopped s (Called who call reply ∷ h) b)
  by (inl reason) = inl reason
  by (inr same) = inr (inr same)
since_step s h b (Deliver role kind to) legal caused free idle right may none i =
    told_role role b (Deliver role kind to) (IsSinceOrStopped s (Deliver role kind to ∷ h) b) (role_eq role b.role) refl (λ is. is) (λ off. inr (deliver_since s h b role kind to off i))
since_step s h b (Listed role kind to) legal caused free idle right may none i =
    told_role role b (Listed role kind to) (IsSinceOrStopped s (Listed role kind to ∷ h) b) (role_eq role b.role) refl (λ is. is) (λ off. inr (list_since s h b role kind to off i))
since_step s h b (Begin pass role key at now) legal caused free idle right may none i = by (role_eq role b.role && key_eq key b.key) refl where
  by : (mine : Bool) → (role_eq role b.role && key_eq key b.key) ≡ mine → ReasonOr b (Begin pass role key at now) (IsSinceOrStopped s (Begin pass role key at now ∷ h) b)
  by true is =
      let both = and_parts (role_eq role b.role) (key_eq key b.key) is in
      absurd (none (same_role role b.role both.0, same_key key b.key both.1))
  by false is = inr (inr (begin_since s h b pass role key at now right.numbered is i))
since_step s h b (Ask pass order) legal caused free idle right may none i = inr (inr (ask_since s h b pass order may i))
since_step s h b (Made pass key) legal caused free idle right may none i =
    inr (inr (value_since s h (Made pass key) b pass (values.Made key) (λ m. refl) refl refl refl (omega arith) refl i))
since_step s h b (Signed pass signature) legal caused free idle right may none i =
    inr (inr (value_since s h (Signed pass signature) b pass (values.Signed signature) (λ m. refl) refl refl refl (omega arith) refl i))
since_step s h b (Answered pass answer) legal caused free idle right may none i =
    inr (inr (value_since s h (Answered pass answer) b pass (values.Answered answer) (λ m. refl) refl refl refl (omega arith) refl i))
since_step s h b (Judged pass approved) legal caused free idle right may none i =
    inr (inr (value_since s h (Judged pass approved) b pass (values.Judged approved) (λ m. refl) refl refl refl (omega arith) refl i))
since_step s h b (End pass cause) legal caused free idle right may none i = inr (inr (end_since s h b pass cause may i))
since_step s h b (Stop role) legal caused free idle right may none i = by (role_eq role b.role) refl where
  by : (mine : Bool) → role_eq role b.role ≡ mine → ReasonOr b (Stop role) (IsSinceOrStopped s (Stop role ∷ h) b)
  by true is = inr (inl (ap (λ (x : Bool). if x then false else runs s h b.role) is))
  by false is = inr (inr (stop_since s h b role is i))
since_step s h b (Start role at) legal caused free idle right may none i = by (role_eq role b.role) refl where
  by : (mine : Bool) → role_eq role b.role ≡ mine → ReasonOr b (Start role at) (IsSinceOrStopped s (Start role at ∷ h) b)
  by true is = absurd (none (same_role role b.role is))
  by false is = inr (inr (start_since s h b role at is i))
since_step s h b (Tick now) legal caused free idle right may none i = inl tt

-- a role that has stopped runs only once it starts again
stays_stopped : (s : Setting) (h : List Entry) (b : Begun) (e : Entry) → (IsNewBegin b.role b.key e → ⊥) → runs s h b.role ≡ false → runs s (e ∷ h) b.role ≡ false
stays_stopped s h b (Stop role) none off = by (role_eq role b.role) where
  by : (mine : Bool) → (if mine then false else runs s h b.role) ≡ false
  by true = refl
  by false = off
stays_stopped s h b (Start role at) none off = by (role_eq role b.role) refl where
  by : (mine : Bool) → role_eq role b.role ≡ mine → (if mine then true else runs s h b.role) ≡ false
  by true is = absurd (none (same_role role b.role is))
  by false is = off
stays_stopped s h b other none off = off

-- ---- all entries since the begin

-- so many entries leave free names
abbrev pub HasFreeNames : Setting → Type 0
HasFreeNames s = (h : List Entry) → length h ≤ s.events → AreFreeNames s h

entry_more : (s : Setting) (h : List Entry) (b : Begun) (e : Entry) (k : List Entry) → IsLegal s h → IsCaused s h → AreFreeNames s h → NoneIsIdle s b → IsLegalEntry s h e → IsCausedEntry s h e → (IsNewBegin b.role b.key e → ⊥)
    → HasEntry (IsReason b.role b.pass) k ⊎ IsSinceOrStopped s h b → HasEntry (IsReason b.role b.pass) (e ∷ k) ⊎ IsSinceOrStopped s (e ∷ h) b
entry_more s h b e k legal caused free idle right may none (inl stands) = inl (inr stands)
entry_more s h b e k legal caused free idle right may none (inr (inl off)) = inr (inl (stays_stopped s h b e none off))
entry_more s h b e k legal caused free idle right may none (inr (inr i)) = by (since_step s h b e legal caused free idle right may none i) where
  by : ReasonOr b e (IsSinceOrStopped s (e ∷ h) b) → HasEntry (IsReason b.role b.pass) (e ∷ k) ⊎ IsSinceOrStopped s (e ∷ h) b
  by (inl reason) = inl (inl reason)
  by (inr still) = inr still

pub reason_or_still : (s : Setting) (base : List Entry) (b : Begun) (k : List Entry) → HasFreeNames s → NoneIsIdle s b → IsLegal s (k ++ base) → IsCaused s (k ++ base) → length (k ++ base) ≤ s.events
    → (HasEntry (IsNewBegin b.role b.key) k → ⊥) → IsSince s base b → HasEntry (IsReason b.role b.pass) k ⊎ IsSinceOrStopped s (k ++ base) b
unfolding IsLegal IsCaused
reason_or_still s base b [] free idle legal caused short none i = inr (inr i)
reason_or_still s base b (e ∷ k) free idle legal caused short none i =
    let below : length (k ++ base) ≤ s.events = omega (arith, short) in
    entry_more s (k ++ base) b e k legal.1 caused.1 (free (k ++ base) below) idle legal.0 caused.0 (λ new. none (inl new))
    (reason_or_still s base b k free idle legal.1 caused.1 below (λ stands. none (inr stands)) i)

-- ---- the next begin

-- what is so as the pass begins
pub since_begin : (s : Setting) (h : List Entry) (m : ℕ) (role : Role) (key : Key) (was : Positions) (since : ℤ) → IsLegalEntry s h (Begin m role key was since)
    → IsSince s (Begin m role key was since ∷ h) (record { pass = m; role = role; key = key; at = was; seen = views s h role key; since = since })
since_begin s h m role key was since right =
    let b : Begun = record { pass = m; role = role; key = key; at = was; seen = views s h role key; since = since } in
    record {
      told = sym right.told;
      sees = refl;
      present = sym right.present;
      begun = let numbered = right.numbered in omega (arith, numbered);
      others = λ n off. ap (λ (x : Bool). is_pass_of role key (if x then Some (new_pass role key (views s h role key) since) else open_pass s h n)) off ∙ by n (is_pass_of role key (open_pass s h n)) refl;
      course = inl (record {
        stage = Fresh;
        opened = ap (λ (x : Bool). if x then Some (new_pass role key (views s h role key) since) else open_pass s h m) ((Decides-eqb m m).1 refl);
        so = record { untold = tt; asked = tt };
        last = ap (λ (x : Bool). (if x then with_begin (views s h role key) since (past s h role key) else past s h role key).last) (mine_itself b Fresh);
      });
    } where
      by : (n : ℕ) (x : Bool) → is_pass_of role key (open_pass s h n) ≡ x → is_pass_of role key (open_pass s h n) ≡ false
      by n true is = absurd (right.free (n, is))
      by n false is = is

-- a pass that began then would be that before again
pub none_begins : (s : Setting) (h : List Entry) (b : Begun) (n : ℕ) (at : Positions) (now : ℤ) → IsLegalEntry s h (Begin n b.role b.key at now) → IsCausedEntry s h (Begin n b.role b.key at now) → IsSinceOrStopped s h b → ⊥
none_begins s h b n at now right due (inl off) = let running = right.running in cc (off, running)
none_begins s h b n at now right due (inr i) = by i.course where
  by : Course s h b → ⊥
  by (inl w) = right.free (b.pass, ap (is_pass_of b.role b.key) w.opened ∙ mine_itself b w.stage)
  by (inr o) =
      let same_moment : b.since ≡ now = sym (right.present ∙ i.present) in
      let same_positions : b.at ≡ at = sym (right.told ∙ i.told) in
      let alike : EndsAlike o.ending b.since now at = subst (EndsAlike o.ending b.since now) same_positions (subst (λ (t : ℤ). EndsAlike o.ending b.since t b.at) same_moment o.alike) in
      due.other (subst (λ (x : Option LastPass). IsSame x (views s h b.role b.key) now at) (sym o.last) (sym i.sees, alike))
