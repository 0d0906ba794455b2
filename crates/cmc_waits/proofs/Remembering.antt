-- What a role remembers of a key: its own writes, and a last pass that had nothing to do or was refused by what stands.
use Rattle.std.proofs.Common.{◌≡◌, ◌==◌, ◌+◌, ℕ, ℤ, ◌≤◌, List, [], ◌∷◌, length, Option, Some, None, Bool, true, false, refl, sym, ap, subst, ◌∙◌, arith}
use Rattle.std.proofs.lemmas.Bool.{and_parts}
use Rattle.std.proofs.lemmas.Bool.Decides.{Decides-eqb}
use Rattle.std.specs.Prelude.{◌&&◌, if◌then◌else◌, IfSome, option_map}
use Rattle.cmc_meta.specs.declared.key.Key.{Key}
use Rattle.cmc_meta.specs.declared.key.Kind.{Kind}
use Rattle.cmc_meta.specs.declared.key.Kind.TheVariants as kinds
use Rattle.cmc_meta.specs.Keys.{key_eq}
use Rattle.cmc_objects.specs.declared.certificate.Certificate.{Certificate}
use Rattle.cmc_objects.specs.declared.call.Call.{Call}
use Rattle.cmc_objects.specs.declared.call.Reply.{Reply}
use Rattle.cmc_objects.specs.declared.call.Reply.TheVariants.{Ok, Unchanged, Found, Conflict, NotFound, AlreadyExists}
use Rattle.cmc_objects.specs.declared.orders.Rules.{Rules}
use Rattle.cmc_objects.specs.declared.role.Role.{Role}
use Rattle.cmc_objects.specs.declared.entry.Cause.{Cause}
use Rattle.cmc_objects.specs.declared.entry.Positions.{Positions}
use Rattle.cmc_objects.specs.declared.entry.Who.TheVariants.{User, Pass}
use Rattle.cmc_objects.specs.declared.entry.Entry.{Entry}
use Rattle.cmc_objects.specs.declared.entry.Entry.TheVariants.{Call as Called, Begin, Ask, Made, Signed, Answered, Judged, End, Stop, Start}
use Rattle.cmc_objects.specs.Objects.{version_of}
use Rattle.cmc_model.specs.declared.write.Write.{Write}
use Rattle.cmc_pass.specs.declared.value.Value.{Value}
use Rattle.cmc_pass.specs.declared.value.Value.TheVariants as values
use Rattle.cmc_pass.specs.declared.pass.Views.{Views}
use Rattle.cmc_pass.specs.declared.pass.Desk.{Desk}
use Rattle.cmc_pass.specs.declared.pass.Act.TheVariants.{Nothing}
use Rattle.cmc_rules.specs.declared.progress.Obstacle.{Obstacle}
use Rattle.cmc_rules.specs.declared.progress.Obstacle.TheVariants.{Failure, Newer}
use Rattle.cmc_rules.specs.declared.progress.OpenPass.{OpenPass}
use Rattle.cmc_rules.specs.declared.progress.Stage.{Stage}
use Rattle.cmc_rules.specs.declared.progress.Stage.TheVariants.{Fresh, Asked, Read, Wrote, Refused}
use Rattle.cmc_rules.specs.declared.progress.Ending.{Ending}
use Rattle.cmc_rules.specs.declared.progress.Ending.TheVariants as endings
use Rattle.cmc_rules.specs.declared.progress.LastPass.{LastPass}
use Rattle.cmc_rules.specs.declared.progress.Past.{Past}
use Rattle.cmc_model.specs.Replies.{is_accepted, key_of_call, settled}
use Rattle.cmc_model.proofs.Settling.{kind_of-settled}
use Rattle.cmc_model.specs.Histories.{Setting, moment, state, accepted, role_eq}
use Rattle.cmc_model.specs.Writes.{writes, write_of, last_of_kind, last_under}
use Rattle.cmc_objects.specs.Informers.{has_informer}
use Rattle.cmc_rules.specs.Positions.{position_of}
use Rattle.cmc_rules.specs.Views.{views}
use Rattle.cmc_rules.specs.Desks.{desk}
use Rattle.cmc_rules.specs.Acts.{act}
use Rattle.cmc_rules.specs.Issuance.{issuing}
use Rattle.cmc_rules.specs.Passes.{open_pass, called, new_pass, stage_by, stage_after, stage_given, stage_read, stage_written, is_as_seen, is_temporary_act, with_stage, is_pass_of}
use Rattle.cmc_rules.specs.Memory.{past, no_past, with_begin, with_own, with_position, with_ending, ending_at, ending_of}
use Rattle.cmc_rules.specs.Legality.{IsLegal}
use Rattle.cmc_rules.specs.Causes.{IsCaused, EndsBy, MayEnd}
use Rattle.cmc_model.proofs.Writes.{writes_count}
use Rattle.cmc_rules.proofs.Carrying.{over_ask, over_given, over_begin, over_end, over_stop}
use Rattle.cmc_moves.proofs.Sounds.{any_desk}
use Rattle.cmc_waking.proofs.Remembered.{last_called, remembered, IsRemembered, RemembersPass}
use Rattle.cmc_waits.proofs.ToldKinds.{calls_known}
use Rattle.cmc_kernel.proofs.SameKeys.{same_key}
use Rattle.cmc_kernel.proofs.RoleStates.{same_role}
use Rattle.cmc_waits.proofs.Newer.{last_here, under_low, newest_known, known_more, known_grown, known_is, IsLowReply, low_reply}

-- ---- which kinds roles call on

-- what the call of a pass is known to be on
abbrev CallsKnown : Call → OpenPass → Type 0
CallsKnown call p = has_informer p.role (key_of_call call).kind ≡ true

-- a call of a pass of the role is on a kind that it looks at
call_known : (role : Role) (key : Key) (call : Call) (p : Option OpenPass) → is_pass_of role key p ≡ true → IfSome p (CallsKnown call) → has_informer role (key_of_call call).kind ≡ true
call_known role key call None is known = absurd (cc is)
call_known role key call (Some p) is known = ap (λ (r : Role). has_informer r (key_of_call call).kind) (sym (same_role p.role role (and_parts _ _ is).0)) ∙ known

-- ---- own writes

placed_low : (written kind : Kind) (version bound : ℕ) (own : Positions) → (written ≡ kind → version ≤ bound) → position_of kind own ≤ bound
    → position_of kind (with_position written version own) ≤ bound
placed_low kinds.Certificate kinds.Certificate version bound own new old = new refl
placed_low kinds.Certificate kinds.CertificateRequest version bound own new old = old
placed_low kinds.Certificate kinds.Secret version bound own new old = old
placed_low kinds.CertificateRequest kinds.Certificate version bound own new old = old
placed_low kinds.CertificateRequest kinds.CertificateRequest version bound own new old = new refl
placed_low kinds.CertificateRequest kinds.Secret version bound own new old = old
placed_low kinds.Secret kinds.Certificate version bound own new old = old
placed_low kinds.Secret kinds.CertificateRequest version bound own new old = old
placed_low kinds.Secret kinds.Secret version bound own new old = new refl

no_own : (kind : Kind) (bound : ℕ) → position_of kind no_past.own ≤ bound
no_own kinds.Certificate bound = omega arith
no_own other bound = omega arith

own_written : (ok mine : Bool) (role : Role) (kind : Kind) (w : Write) (ws : List Write) (n : ℕ) (p : Past) → length ws ≡ n → (mine ≡ true → has_informer role w.key.kind ≡ true)
    → position_of kind p.own ≤ newest_known role kind ws
    → position_of kind (if ok && mine then with_own w.key.kind (n + 1) p else p).own ≤ newest_known role kind (if ok then w ∷ ws else ws)
own_written false mine role kind w ws n p count known low = low
own_written true false role kind w ws n p count known low = let more = known_more role kind w ws in omega (arith, low, more)
own_written true true role kind w ws n p count known low =
    placed_low w.key.kind kind (n + 1) (newest_known role kind (w ∷ ws)) p.own
    (λ same.
    let last : last_of_kind kind (w ∷ ws) ≡ length (w ∷ ws) = last_here kind w ws same in
    let is : newest_known role kind (w ∷ ws) ≡ last_of_kind kind (w ∷ ws) = known_is role kind (w ∷ ws) (ap (has_informer role) (sym same) ∙ known refl) in
    omega (arith, last, is, count))
    (let more = known_more role kind w ws in omega (arith, low, more))

own_started : (b : Bool) (kind : Kind) (bound : ℕ) (p : Past) → position_of kind p.own ≤ bound → position_of kind (if b then no_past else p).own ≤ bound
own_started true kind bound p low = no_own kind bound
own_started false kind bound p low = low

own_begun : (b : Bool) (kind : Kind) (bound : ℕ) (seen : Views) (since : ℤ) (p : Past) → position_of kind p.own ≤ bound → position_of kind (if b then with_begin seen since p else p).own ≤ bound
own_begun true kind bound seen since p low = low
own_begun false kind bound seen since p low = low

own_ended : (b : Bool) (kind : Kind) (bound : ℕ) (ending : Ending) (p : Past) → position_of kind p.own ≤ bound → position_of kind (if b then with_ending ending p else p).own ≤ bound
own_ended true kind bound ending p low = low
own_ended false kind bound ending p low = low

-- each own write is at most the last write of its kind, which the role looks at
pub own_low : (s : Setting) (h : List Entry) (role : Role) (key : Key) (kind : Kind) → IsLegal s h → IsCaused s h
    → position_of kind (past s h role key).own ≤ newest_known role kind (writes s h)
unfolding IsLegal IsCaused
own_low s [] role key kind legal caused = no_own kind (newest_known role kind [])
own_low s (Called User call reply ∷ h) role key kind legal caused =
    let low = own_low s h role key kind legal.1 caused.1 in
    let more = known_grown (is_accepted reply) role kind (write_of (moment s h) (state s h) (settled call reply)) (writes s h) in
    omega (arith, low, more)
own_low s (Called (Pass pass) call reply ∷ h) role key kind legal caused =
    let own : Bool = is_accepted reply && is_pass_of role key (open_pass s h pass) in
    let same : (key_of_call (settled call reply)).kind ≡ (key_of_call call).kind = kind_of-settled call reply in
    subst (λ (k : Kind). position_of kind (if own then with_own k (accepted s h + 1) (past s h role key) else past s h role key).own ≤ newest_known role kind (writes s (Called (Pass pass) call reply ∷ h))) same
    (own_written (is_accepted reply) (is_pass_of role key (open_pass s h pass)) role kind (write_of (moment s h) (state s h) (settled call reply)) (writes s h) (accepted s h) (past s h role key) (writes_count s h)
    (λ mine. ap (has_informer role) same ∙ call_known role key call (open_pass s h pass) mine (calls_known s h pass call legal.1 caused.1 caused.0)) (own_low s h role key kind legal.1 caused.1))
own_low s (Begin pass who at told now ∷ h) role key kind legal caused =
    own_begun (role_eq who role && key_eq at key) kind (newest_known role kind (writes s h)) (views s h who at) now (past s h role key) (own_low s h role key kind legal.1 caused.1)
own_low s (End pass cause ∷ h) role key kind legal caused =
    own_ended (is_pass_of role key (open_pass s h pass)) kind (newest_known role kind (writes s h)) (ending_of (open_pass s h pass)) (past s h role key) (own_low s h role key kind legal.1 caused.1)
own_low s (Start who at ∷ h) role key kind legal caused =
    own_started (role_eq who role) kind (newest_known role kind (writes s h)) (past s h role key) (own_low s h role key kind legal.1 caused.1)
own_low s (other ∷ h) role key kind legal caused = own_low s h role key kind legal.1 caused.1

-- ---- what refuses calls

-- what refused is at most the last write of a kind that the role looks at
abbrev pub IsLowObstacle : Role → List Write → Obstacle → Type 0
IsLowObstacle role ws Failure = Unit {0}
IsLowObstacle role ws (Newer kind version) = version ≤ newest_known role kind ws

abbrev pub IsLowStage : Role → List Write → Stage → Type 0
IsLowStage role ws Fresh = Unit {0}
IsLowStage role ws Wrote = Unit {0}
IsLowStage role ws (Refused entry obstacle) = IsLowObstacle role ws obstacle
IsLowStage role ws other = Unit {0}

abbrev pub HasLowStage : List Write → OpenPass → Type 0
HasLowStage ws p = IsLowStage p.role ws p.stage

grown_obstacle : (b : Bool) (role : Role) (w : Write) (ws : List Write) (obstacle : Obstacle) → IsLowObstacle role ws obstacle → IsLowObstacle role (if b then w ∷ ws else ws) obstacle
grown_obstacle b role w ws Failure low = tt
grown_obstacle b role w ws (Newer kind version) low = let more = known_grown b role kind w ws in omega (arith, low, more)

grown_stage : (b : Bool) (role : Role) (w : Write) (ws : List Write) (stage : Stage) → IsLowStage role ws stage → IsLowStage role (if b then w ∷ ws else ws) stage
grown_stage b role w ws Fresh low = tt
grown_stage b role w ws Wrote low = tt
grown_stage b role w ws (Refused entry obstacle) low = grown_obstacle b role w ws obstacle low
grown_stage b role w ws other low = tt

grown_pass : (b : Bool) (w : Write) (ws : List Write) (p : Option OpenPass) → IfSome p (HasLowStage ws) → IfSome p (HasLowStage (if b then w ∷ ws else ws))
grown_pass b w ws None low = tt
grown_pass b w ws (Some p) low = grown_stage b p.role w ws p.stage low

written_low : (stand_in : Bool) (role : Role) (ws : List Write) (stage : Stage) → IsLowStage role ws (stage_written stand_in stage)
written_low true role ws Read = tt
written_low false role ws Read = tt
written_low stand_in role ws other = tt

read_low : (as_seen : Bool) (entry version : ℕ) (role : Role) (kind : Kind) (ws : List Write) → version ≤ newest_known role kind ws → IsLowStage role ws (stage_read as_seen entry kind version)
read_low true entry version role kind ws low = tt
read_low false entry version role kind ws low = low

stage_low : (c : Option Certificate) (stand_in : Bool) (stage : Stage) (entry last : ℕ) (role : Role) (kind : Kind) (ws : List Write) (reply : Reply) → has_informer role kind ≡ true
    → last ≤ last_of_kind kind ws → IsLowReply (last_of_kind kind ws) reply → IsLowStage role ws (stage_by c stand_in stage entry kind last reply)
stage_low c stand_in stage entry last role kind ws (Ok version name) known below low = written_low stand_in role ws stage
stage_low c stand_in stage entry last role kind ws (Unchanged version) known below low = written_low stand_in role ws stage
stage_low c stand_in stage entry last role kind ws (Found object) known below low =
    read_low (is_as_seen c object) entry (version_of object) role kind ws (let is = known_is role kind ws known in omega (arith, is, low))
stage_low c stand_in stage entry last role kind ws (Conflict named have) known below low = let is = known_is role kind ws known in omega (arith, is, low)
stage_low c stand_in stage entry last role kind ws (NotFound at) known below low = let is = known_is role kind ws known in omega (arith, is, below)
stage_low c stand_in stage entry last role kind ws (AlreadyExists have) known below low = let is = known_is role kind ws known in omega (arith, is, low)
stage_low c stand_in stage entry last role kind ws other known below low = tt

stage_called : (s : Setting) (h : List Entry) (call : Call) (reply : Reply) (p : Option OpenPass) → IsLowReply (last_of_kind (key_of_call call).kind (writes s h)) reply → IfSome p (CallsKnown call)
    → IfSome (option_map (λ (q : OpenPass). with_stage (stage_after s h call reply q) q) p) (HasLowStage (writes s h))
stage_called s h call reply None low known = tt
stage_called s h call reply (Some p) low known =
    stage_low p.seen.certificate (is_temporary_act (issuing p.seen p.since)) p.stage (length h + 1) (last_under (key_of_call call) (writes s h)) p.role (key_of_call call).kind (writes s h) reply known
    (under_low (key_of_call call) (writes s h)) low

pass_called : (own : Bool) (s : Setting) (h : List Entry) (n pass : ℕ) (call : Call) (reply : Reply) → (n == pass) ≡ own → IsLowReply (last_of_kind (key_of_call call).kind (writes s h)) reply
    → IfSome (open_pass s h pass) (CallsKnown call) → IfSome (open_pass s h n) (HasLowStage (writes s h))
    → IfSome (if own then option_map (λ (q : OpenPass). with_stage (stage_after s h call reply q) q) (open_pass s h n) else open_pass s h n) (HasLowStage (writes s h))
pass_called true s h n pass call reply is low known old =
    let same : pass ≡ n = sym ((Decides-eqb n pass).0 is) in
    stage_called s h call reply (open_pass s h n) low (subst (λ (m : ℕ). IfSome (open_pass s h m) (CallsKnown call)) same known)
pass_called false s h n pass call reply is low known old = old

asked_low : (value : Value) (role : Role) (ws : List Write) (stage : Stage) → IsLowStage role ws stage → IsLowStage role ws (stage_given value stage)
asked_low value role ws (Asked order) low = tt
asked_low value role ws other low = low

-- what refused the call of an open pass
pub refused_low : (s : Setting) (h : List Entry) (n : ℕ) → IsLegal s h → IsCaused s h → IfSome (open_pass s h n) (HasLowStage (writes s h))
unfolding IsLegal IsCaused
refused_low s [] n legal caused = tt
refused_low s (Called User call reply ∷ h) n legal caused =
    grown_pass (is_accepted reply) (write_of (moment s h) (state s h) (settled call reply)) (writes s h) (open_pass s h n) (refused_low s h n legal.1 caused.1)
refused_low s (Called (Pass pass) call reply ∷ h) n legal caused =
    grown_pass (is_accepted reply) (write_of (moment s h) (state s h) (settled call reply)) (writes s h) (called n (Pass pass) (stage_after s h call reply) (open_pass s h n))
    (pass_called (n == pass) s h n pass call reply refl (low_reply s h call reply legal.1 legal.0.0) (calls_known s h pass call legal.1 caused.1 caused.0) (refused_low s h n legal.1 caused.1))
refused_low s (Begin pass role key at now ∷ h) n legal caused =
    over_begin (HasLowStage (writes s h)) (n == pass) (new_pass role key (views s h role key) now) (open_pass s h n) tt (refused_low s h n legal.1 caused.1)
refused_low s (Ask pass order ∷ h) n legal caused = over_ask (HasLowStage (writes s h)) n pass order (open_pass s h n) (λ p low. tt) (refused_low s h n legal.1 caused.1)
refused_low s (Made pass key ∷ h) n legal caused =
    over_given (HasLowStage (writes s h)) n pass (values.Made key) (open_pass s h n) (λ p low. asked_low (values.Made key) p.role (writes s h) p.stage low) (refused_low s h n legal.1 caused.1)
refused_low s (Signed pass signature ∷ h) n legal caused =
    over_given (HasLowStage (writes s h)) n pass (values.Signed signature) (open_pass s h n) (λ p low. asked_low (values.Signed signature) p.role (writes s h) p.stage low) (refused_low s h n legal.1 caused.1)
refused_low s (Answered pass answer ∷ h) n legal caused =
    over_given (HasLowStage (writes s h)) n pass (values.Answered answer) (open_pass s h n) (λ p low. asked_low (values.Answered answer) p.role (writes s h) p.stage low) (refused_low s h n legal.1 caused.1)
refused_low s (Judged pass approved ∷ h) n legal caused =
    over_given (HasLowStage (writes s h)) n pass (values.Judged approved) (open_pass s h n) (λ p low. asked_low (values.Judged approved) p.role (writes s h) p.stage low) (refused_low s h n legal.1 caused.1)
refused_low s (End pass cause ∷ h) n legal caused = over_end (HasLowStage (writes s h)) (n == pass) (open_pass s h n) (refused_low s h n legal.1 caused.1)
refused_low s (Stop role ∷ h) n legal caused = over_stop (HasLowStage (writes s h)) role (open_pass s h n) (refused_low s h n legal.1 caused.1)
refused_low s (other ∷ h) n legal caused = refused_low s h n legal.1 caused.1

-- ---- how the last pass ended

-- a pass that ended with nothing had nothing to do, and one that was refused was so by a write that the role can be told of
abbrev pub IsFairEnding : Role → Rules → List Write → Views → ℤ → Ending → Type 0
IsFairEnding role rules ws seen since endings.Open = Unit {0}
IsFairEnding role rules ws seen since endings.Nothing = (d : Desk) → d.rules ≡ rules → act role seen since d ≡ Nothing
IsFairEnding role rules ws seen since endings.Wrote = Unit {0}
IsFairEnding role rules ws seen since (endings.Refused obstacle) = IsLowObstacle role ws obstacle

abbrev pub IsFairPass : Role → Rules → List Write → LastPass → Type 0
IsFairPass role rules ws l = IsFairEnding role rules ws l.seen l.since l.ending

abbrev pub IsFairLast : Role → Rules → List Write → Option LastPass → Type 0
IsFairLast role rules ws last = IfSome last (IsFairPass role rules ws)

grown_ending : (b : Bool) (role : Role) (rules : Rules) (w : Write) (ws : List Write) (seen : Views) (since : ℤ) (ending : Ending) → IsFairEnding role rules ws seen since ending
    → IsFairEnding role rules (if b then w ∷ ws else ws) seen since ending
grown_ending b role rules w ws seen since endings.Open fair = tt
grown_ending b role rules w ws seen since endings.Nothing fair = fair
grown_ending b role rules w ws seen since endings.Wrote fair = tt
grown_ending b role rules w ws seen since (endings.Refused obstacle) fair = grown_obstacle b role w ws obstacle fair

grown_last : (b : Bool) (role : Role) (rules : Rules) (w : Write) (ws : List Write) (last : Option LastPass) → IsFairLast role rules ws last → IsFairLast role rules (if b then w ∷ ws else ws) last
grown_last b role rules w ws None fair = tt
grown_last b role rules w ws (Some l) fair = grown_ending b role rules w ws l.seen l.since l.ending fair

fair_begun : (b : Bool) (role : Role) (rules : Rules) (ws : List Write) (seen : Views) (since : ℤ) (p : Past) → IsFairLast role rules ws p.last → IsFairLast role rules ws (if b then with_begin seen since p else p).last
fair_begun true role rules ws seen since p fair = tt
fair_begun false role rules ws seen since p fair = fair

fair_started : (b : Bool) (role : Role) (rules : Rules) (ws : List Write) (p : Past) → IsFairLast role rules ws p.last → IsFairLast role rules ws (if b then no_past else p).last
fair_started true role rules ws p fair = tt
fair_started false role rules ws p fair = fair

-- the ending of a pass that may end so
fair_stage : (role : Role) (rules : Rules) (ws : List Write) (seen : Views) (since : ℤ) (by : Desk) → by.rules ≡ rules → (stage : Stage) (cause : Cause) → IsLowStage role ws stage → EndsBy stage (act role seen since by) cause
    → IsFairEnding role rules ws seen since (ending_at stage)
fair_stage role rules ws seen since by told Fresh cause low ends = λ d same. any_desk role seen since by d (told ∙ sym same) ends.0
fair_stage role rules ws seen since by told Wrote cause low ends = tt
fair_stage role rules ws seen since by told (Refused entry obstacle) cause low ends = low
fair_stage role rules ws seen since by told other cause low ends = absurd ends

fair_same : (role : Role) (rules : Rules) (ws : List Write) (l : LastPass) (seen : Views) (since : ℤ) (ending : Ending) → (l.seen ≡ seen) × (l.since ≡ since) → IsFairEnding role rules ws seen since ending
    → IsFairPass role rules ws (record l { ending = ending })
fair_same role rules ws l seen since ending same fair =
    subst (λ (v : Views). IsFairEnding role rules ws v l.since ending) (sym same.0)
    (subst (λ (m : ℤ). IsFairEnding role rules ws seen m ending) (sym same.1) fair)

fair_last_by : (role : Role) (rules : Rules) (ws : List Write) (seen : Views) (since : ℤ) (ending : Ending) (last : Option LastPass) → IsRemembered seen since last → IsFairEnding role rules ws seen since ending
    → IsFairLast role rules ws (option_map (λ (l : LastPass). record l { ending = ending }) last)
fair_last_by role rules ws seen since ending None same fair = tt
fair_last_by role rules ws seen since ending (Some l) same fair = fair_same role rules ws l seen since ending same fair

-- the end of the pass, by which role it is
fair_end_of : (s : Setting) (h : List Entry) (role : Role) (key : Key) (cause : Cause) (p : OpenPass) → p.role ≡ role → p.key ≡ key → MayEnd s h (Some p) cause
    → IsLowStage p.role (writes s h) p.stage → RemembersPass s h p
    → IsFairLast role s.rules (writes s h) (with_ending (ending_at p.stage) (past s h role key)).last
fair_end_of s h role key cause p role_is key_is ends low same =
    subst (λ (r : Role). IsFairLast r s.rules (writes s h) (with_ending (ending_at p.stage) (past s h r key)).last) role_is
    (subst (λ (k : Key). IsFairLast p.role s.rules (writes s h) (with_ending (ending_at p.stage) (past s h p.role k)).last) key_is
    (fair_last_by p.role s.rules (writes s h) p.seen p.since (ending_at p.stage) (past s h p.role p.key).last same
    (fair_stage p.role s.rules (writes s h) p.seen p.since (desk s h p.role p.seen) refl p.stage cause low ends)))

fair_ended : (b : Bool) (s : Setting) (h : List Entry) (role : Role) (key : Key) (cause : Cause) (p : Option OpenPass) → is_pass_of role key p ≡ b → MayEnd s h p cause
    → IfSome p (HasLowStage (writes s h)) → IfSome p (RemembersPass s h) → IsFairLast role s.rules (writes s h) (past s h role key).last
    → IsFairLast role s.rules (writes s h) (if b then with_ending (ending_of p) (past s h role key) else past s h role key).last
fair_ended false s h role key cause p is ends low same fair = fair
fair_ended true s h role key cause None is ends low same fair = absurd ends
fair_ended true s h role key cause (Some p) is ends low same fair =
    fair_end_of s h role key cause p (same_role p.role role (and_parts _ _ is).0) (same_key p.key key (and_parts _ _ is).1) ends low same

-- the last pass of the role on the key ended fairly
pub last_fair : (s : Setting) (h : List Entry) (role : Role) (key : Key) → IsLegal s h → IsCaused s h → IsFairLast role s.rules (writes s h) (past s h role key).last
unfolding IsLegal IsCaused
last_fair s [] role key legal caused = tt
last_fair s (Called who call reply ∷ h) role key legal caused =
    subst (IsFairLast role s.rules (writes s (Called who call reply ∷ h))) (sym (last_called s h role key (past s h role key) who (key_of_call call).kind (is_accepted reply)))
    (grown_last (is_accepted reply) role s.rules (write_of (moment s h) (state s h) (settled call reply)) (writes s h) (past s h role key).last (last_fair s h role key legal.1 caused.1))
last_fair s (Begin pass who at told now ∷ h) role key legal caused =
    fair_begun (role_eq who role && key_eq at key) role s.rules (writes s h) (views s h who at) now (past s h role key) (last_fair s h role key legal.1 caused.1)
last_fair s (End pass cause ∷ h) role key legal caused =
    fair_ended (is_pass_of role key (open_pass s h pass)) s h role key cause (open_pass s h pass) refl caused.0 (refused_low s h pass legal.1 caused.1) (remembered s h pass legal.1)
    (last_fair s h role key legal.1 caused.1)
last_fair s (Start who at ∷ h) role key legal caused =
    fair_started (role_eq who role) role s.rules (writes s h) (past s h role key) (last_fair s h role key legal.1 caused.1)
last_fair s (other ∷ h) role key legal caused = last_fair s h role key legal.1 caused.1
