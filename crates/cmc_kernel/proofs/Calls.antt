-- What a world holds after a pass has made its call, or has ended.
use Rattle.std.proofs.Common.{◌≡◌, Bool, true, false, ℕ, ℤ, ◌+◌, ◌-◌, ◌<◌, ◌≤◌, ◌^◌, List, ◌∷◌, length, Option, Some, None, refl, sym, ap, subst, ◌∙◌, arith}
use Rattle.std.proofs.lemmas.Bool.Decides.{nat_tests}
use Rattle.std.specs.Prelude.{◌==◌, ◌&&◌, if◌then◌else◌, option_map}
use Rattle.cmc_meta.specs.declared.key.Key.{Key}
use Rattle.cmc_meta.specs.declared.key.Kind.{Kind}
use Rattle.cmc_meta.specs.declared.key.Kind.TheVariants as kinds
use Rattle.cmc_meta.specs.Keys.{key_eq}
use Rattle.cmc_objects.specs.declared.role.Role.{Role}
use Rattle.cmc_objects.specs.declared.object.Object.{Object}
use Rattle.cmc_objects.specs.declared.call.Call.{Call}
use Rattle.cmc_objects.specs.declared.call.Reply.{Reply}
use Rattle.cmc_objects.specs.declared.call.Reply.TheVariants.{Ok, Unchanged}
use Rattle.cmc_objects.specs.declared.certificate.Certificate.{Certificate}
use Rattle.cmc_objects.specs.declared.entry.Cause.{Cause}
use Rattle.cmc_objects.specs.declared.entry.Who.TheVariants.{Pass}
use Rattle.cmc_objects.specs.declared.entry.Entry.{Entry}
use Rattle.cmc_objects.specs.declared.entry.Entry.TheVariants.{Call as Called, End}
use Rattle.cmc_model.specs.declared.write.Write.{Write}
use Rattle.cmc_rules.specs.declared.progress.Stage.{Stage}
use Rattle.cmc_rules.specs.declared.progress.Stage.TheVariants.{Read}
use Rattle.cmc_rules.specs.declared.progress.OpenPass.{OpenPass}
use Rattle.cmc_rules.specs.declared.progress.Past.{Past}
use Rattle.cmc_model.specs.Replies.{State, IsReply, is_accepted, key_of_call, key_written, object_written, settled, state_after}
use Rattle.cmc_model.specs.Histories.{Setting, moment, state, accepted, role_eq}
use Rattle.cmc_model.specs.Writes.{write_of, writes, last_under}
use Rattle.cmc_rules.specs.Positions.{position_of}
use Rattle.cmc_rules.specs.Issuance.{issuing}
use Rattle.cmc_rules.specs.Passes.{open_pass, is_temporary_act, writes_temporary, stage_written, stage_by, stage_after, with_stage}
use Rattle.cmc_rules.specs.Runs.{IsPartOfRun}
use Rattle.cmc_rules.specs.Memory.{with_ending}
use Rattle.cmc_rules.specs.Causes.{MayCall, MayEnd}
use Rattle.cmc_rules.specs.UserSteps.{written}
use Rattle.cmc_model.proofs.Writes.{writes_count}
use Rattle.cmc_rules.proofs.Positions.{calls_short, accepted_short}
use Rattle.cmc_rules.proofs.WellSeen.{SawAll, saw_all}
use Rattle.cmc_safety.proofs.Course.{of_open, marked_as_planned}
use Rattle.cmc_moves.proofs.Sounds.{each_sound}
use Rattle.cmc_held.specs.declared.role_states.RoleState.{RoleState}
use Rattle.cmc_kernel.specs.declared.carriers.PendingCall.{PendingCall}
use Rattle.cmc_kernel.specs.declared.carriers.PassEnd.{PassEnd}
use Rattle.cmc_kernel.specs.Advances.{IsCalling, IsClosing}
use Rattle.cmc_kernel.specs.Notes.{logged, own_write_counted, noted, CanCount}
use Rattle.cmc_kernel.specs.Kept.{role_state, Holdings, IsKept}
use Rattle.cmc_kernel.proofs.Counts.{logged_called, counted_called, noted_called, written_short}
use Rattle.cmc_kernel.proofs.Events.{kept_called, kept_ended}

-- ---- sums that fit

pub calls_fit : (s : Setting) (h : List Entry) (w : Holdings) → IsKept s h w → length h ≤ 250000 → w.state.calls < 2 ^ 64 - 1
calls_fit s h w k short =
    let calls : w.state.calls ≤ length h = subst (λ (st : State). st.calls ≤ length h) (sym k.held.state) (calls_short s h) in
    omega (arith, calls, short)

written_is : (s : Setting) (h : List Entry) (role : Role) (kind : Kind) → position_of kind (role_state s h role).written ≡ written s h role kind
written_is s h role kinds.Certificate = refl
written_is s h role other = refl

pub counts_fit : (s : Setting) (h : List Entry) (w : Holdings) (role : Role) → IsKept s h w → length h ≤ 250000 → CanCount (w.role_state role)
counts_fit s h w role k short = λ kind.
    let low : written s h role kind ≤ length h = written_short s h role kind in
    let same : position_of kind (w.role_state role).written ≡ written s h role kind = ap (λ (t : RoleState). position_of kind t.written) (k.held.role_state role) ∙ written_is s h role kind in
    rw same (omega (arith, low, short))

pub log_fits : (s : Setting) (h : List Entry) (w : Holdings) (n : ℕ) → IsKept s h w → length h ≤ 250000 → n ≡ length w.log → n ≤ 250000
log_fits s h w n k short e =
    let count : n ≡ accepted s h = e ∙ ap length k.held.log ∙ writes_count s h in
    let low : accepted s h ≤ length h = accepted_short s h in
    omega (arith, count, low, short)

-- ---- calls

-- the store's reply is right
pub right_reply : (s : Setting) (h : List Entry) (w : Holdings) (call : Call) (reply : Reply) → IsKept s h w → IsReply w.faults w.state call reply → IsReply s.faults (state s h) call reply
right_reply s h w call reply k right =
    subst (λ (x : State). IsReply s.faults x call reply) k.held.state (subst (λ (x : List ℕ). IsReply x w.state call reply) k.held.faults right)

-- the stage of this pass is that of the one under the number
own_stage : (own : Bool) (m n : ℕ) (p : OpenPass) (stage : OpenPass → Stage) (o : Option OpenPass) → (m == n) ≡ own → (m ≡ n → o ≡ Some p)
    → (if own then option_map (with_stage (stage p)) o else o) ≡ (if own then option_map (λ (q : OpenPass). with_stage (stage q) q) o else o)
own_stage true m n p stage o is there = let same : m ≡ n = grind (arith, nat_tests) in rw (there same) refl
own_stage false m n p stage o is there = refl

-- what is written has a mark exactly where the plan of the pass says so, at the one stage that asks
same_written : (a b : Bool) (stage : Stage) → (stage ≡ Read → a ≡ b) → stage_written a stage ≡ stage_written b stage
same_written a b Read same = ap (λ (x : Bool). stage_written x Read) (same refl)
same_written a b other same = refl

same_stage : (a b : Bool) (c : Option Certificate) (stage : Stage) (entry : ℕ) (kind : Kind) (last : ℕ) (reply : Reply) → (stage ≡ Read → a ≡ b) → stage_by c a stage entry kind last reply ≡ stage_by c b stage entry kind last reply
same_stage a b c stage entry kind last (Ok version name) same = same_written a b stage same
same_stage a b c stage entry kind last (Unchanged version) same = same_written a b stage same
same_stage a b c stage entry kind last other same = refl

marked : (s : Setting) (h : List Entry) (n : ℕ) (p : OpenPass) (call : Call) → IsPartOfRun s h → open_pass s h n ≡ Some p → MayCall s h (Some p) call → p.stage ≡ Read → writes_temporary call ≡ is_temporary_act (issuing p.seen p.since)
marked s h n p call run opened may read =
    marked_as_planned each_sound s h p call (of_open (SawAll (writes s h)) (open_pass s h n) p opened (saw_all s h n run.legal)) may read

pub kept_call : (s : Setting) (h : List Entry) (w : Holdings) (n : ℕ) (call : Call) (c : PendingCall) (reply : Reply) (key : Option Key) (object : Option Object) (stage : Stage) (now : ℤ) (version entry : ℕ)
    (fs : List ℕ) (st : State) (log : List Write) (t : Role → RoleState) (opened : ℕ → Option OpenPass) (pasts : Role → Key → Past)
    → IsKept s h w → IsCalling s h n call c → MayCall s h (open_pass s h n) call → length h < s.events → now ≡ w.moment
    → IsReply w.faults w.state call reply → fs ≡ w.faults → st ≡ state_after now w.state call reply → key ≡ key_written call reply → object ≡ object_written now w.state call reply
    → entry ≡ length h + 1 → ((p : OpenPass) → w.opened n ≡ Some p → stage ≡ stage_by p.seen.certificate c.stand_in p.stage entry c.named.kind (last_under c.named w.log) reply) → version ≡ length w.log + 1 → log ≡ logged key object w.log
    → ((r : Role) → t r ≡ own_write_counted (option_map (λ (k : Key). k.kind) key) (role_eq c.role r) (w.role_state c.role) (w.role_state r))
    → ((m : ℕ) → opened m ≡ (if m == n then option_map (with_stage stage) (w.opened m) else w.opened m))
    → ((r : Role) (k : Key) → pasts r k ≡ noted (option_map (λ (q : Key). q.kind) key) version (role_eq c.role r && key_eq c.key k) (w.past r k))
    → IsKept s (Called (Pass n) call reply ∷ h) (record w { faults = fs; state = st; log = log; role_state = t; opened = opened; past = pasts })
kept_call s h w n call c reply key object stage now version entry fs st log t opened pasts k is may room at right f after named stored e staged v logged_is counted_is opened_is noted_is =
    let now_is : now ≡ moment s h = at ∙ k.held.moment in
    let version_is : version ≡ accepted s h + 1 = v ∙ ap (λ (ws : List Write). length ws + 1) k.held.log ∙ ap (λ (m : ℕ). m + 1) (writes_count s h) in
    let stage_is : stage ≡ stage_after s h call reply is.pass =
    staged is.pass (k.held.opened n ∙ is.opened) ∙ ap (λ (m : ℕ). stage_by is.pass.seen.certificate c.stand_in is.pass.stage m c.named.kind (last_under c.named w.log) reply) e
    ∙ ap (λ (ws : List Write). stage_by is.pass.seen.certificate c.stand_in is.pass.stage (length h + 1) c.named.kind (last_under c.named ws) reply) k.held.log
    ∙ ap (λ (q : Key). stage_by is.pass.seen.certificate c.stand_in is.pass.stage (length h + 1) q.kind (last_under q (writes s h)) reply) is.named
    ∙ ap (λ (b : Bool). stage_by is.pass.seen.certificate b is.pass.stage (length h + 1) (key_of_call call).kind (last_under (key_of_call call) (writes s h)) reply) is.stand_in
    ∙ same_stage (writes_temporary call) (is_temporary_act (issuing is.pass.seen is.pass.since)) is.pass.seen.certificate is.pass.stage (length h + 1) (key_of_call call).kind (last_under (key_of_call call) (writes s h)) reply
    (marked s h n is.pass call k.held.run is.opened (subst (λ (o : Option OpenPass). MayCall s h o call) is.opened may)) in
    let right_is = right_reply s h w call reply k right in
    let after_is : st ≡ state_after (moment s h) (state s h) call reply = after ∙ ap (λ (x : ℤ). state_after x w.state call reply) now_is ∙ ap (λ (x : State). state_after (moment s h) x call reply) k.held.state in
    let log_is : log ≡ (if is_accepted reply then write_of (moment s h) (state s h) (settled call reply) ∷ w.log else w.log) =
    logged_is ∙ ap (λ (x : Option Key). logged x object w.log) named ∙ ap (λ (x : Option Object). logged (key_written call reply) x w.log) stored
    ∙ ap (λ (x : ℤ). logged (key_written call reply) (object_written x w.state call reply) w.log) now_is
    ∙ ap (λ (x : State). logged (key_written call reply) (object_written (moment s h) x call reply) w.log) k.held.state
    ∙ logged_called (moment s h) (state s h) call reply w.log in
    subst (λ (x : List ℕ). IsKept s (Called (Pass n) call reply ∷ h) (record w { faults = x; state = st; log = log; role_state = t; opened = opened; past = pasts })) (sym f)
    (kept_called s h w n is.pass call reply st log t opened pasts k is.opened right_is (subst (λ (o : Option OpenPass). MayCall s h o call) is.opened may) room after_is log_is
    (λ r.
    counted_is r
    ∙ ap (λ (x : Option Key). own_write_counted (option_map (λ (q : Key). q.kind) x) (role_eq c.role r) (w.role_state c.role) (w.role_state r)) named
    ∙ ap (λ (x : Role). own_write_counted (option_map (λ (q : Key). q.kind) (key_written call reply)) (role_eq x r) (w.role_state x) (w.role_state r)) is.role
    ∙ counted_called call reply (role_eq is.pass.role r) (w.role_state is.pass.role) (w.role_state r))
    (λ m.
    opened_is m ∙ ap (λ (x : Stage). if m == n then option_map (with_stage x) (w.opened m) else w.opened m) stage_is
    ∙ own_stage (m == n) m n is.pass (stage_after s h call reply) (w.opened m) refl (λ same. ap w.opened same ∙ k.held.opened n ∙ is.opened))
    (λ r q.
    noted_is r q
    ∙ ap (λ (x : Option Key). noted (option_map (λ (y : Key). y.kind) x) version (role_eq c.role r && key_eq c.key q) (w.past r q)) named
    ∙ ap (λ (x : Role). noted (option_map (λ (y : Key). y.kind) (key_written call reply)) version (role_eq x r && key_eq c.key q) (w.past r q)) is.role
    ∙ ap (λ (x : Key). noted (option_map (λ (y : Key). y.kind) (key_written call reply)) version (role_eq is.pass.role r && key_eq x q) (w.past r q)) is.key
    ∙ ap (λ (x : ℕ). noted (option_map (λ (y : Key). y.kind) (key_written call reply)) x (role_eq is.pass.role r && key_eq is.pass.key q) (w.past r q)) version_is
    ∙ noted_called call reply (accepted s h + 1) (role_eq is.pass.role r && key_eq is.pass.key q) (w.past r q)))

pub kept_end : (s : Setting) (h : List Entry) (w : Holdings) (n : ℕ) (cause : Cause) (c : PassEnd) (opened : ℕ → Option OpenPass) (pasts : Role → Key → Past)
    → IsKept s h w → IsClosing s h n c → MayEnd s h (open_pass s h n) cause → length h < s.events
    → ((m : ℕ) → opened m ≡ (if m == n then None else w.opened m))
    → ((r : Role) (k : Key) → pasts r k ≡ (if role_eq c.role r && key_eq c.key k then with_ending c.ending (w.past r k) else w.past r k))
    → IsKept s (End n cause ∷ h) (record w { opened = opened; past = pasts })
kept_end s h w n cause c opened pasts k is may room closed noted_is =
    kept_ended s h w n is.pass cause opened pasts k is.opened (subst (λ (o : Option OpenPass). MayEnd s h o cause) is.opened may) room closed
    (λ r q.
    noted_is r q
    ∙ ap (λ (x : Role). if role_eq x r && key_eq c.key q then with_ending c.ending (w.past r q) else w.past r q) is.role
    ∙ ap (λ (x : Key). if role_eq is.pass.role r && key_eq x q then with_ending c.ending (w.past r q) else w.past r q) is.key
    ∙ ap (λ x. if role_eq is.pass.role r && key_eq is.pass.key q then with_ending x (w.past r q) else w.past r q) is.ending)
