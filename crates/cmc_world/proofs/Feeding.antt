-- Each move of a world keeps the queues right that are changed as it says.
use Rattle.std.proofs.Common.{◌≡◌, ◌⊎◌, inl, inr, ◌+◌, ◌==◌, ℕ, ℤ, List, [], ◌∷◌, Option, Some, None, Bool, true, false, refl, sym, ap, subst, ◌∙◌, int_le}
use Rattle.std.proofs.lemmas.Bool.Decides.{Decides-eqb}
use Rattle.std.proofs.lemmas.Bool.{and_parts}
use Rattle.std.specs.Prelude.{IfOk, IfSome, OnErr, OnOk, Result, Ok, Err, if◌then◌else◌, option_map, nat_le}
use Rattle.std.specs.declared.alloc.AllocError.{AllocError}
use Rattle.cmc_meta.specs.declared.key.Key.{Key}
use Rattle.cmc_meta.specs.declared.key.Kind.{Kind}
use Rattle.cmc_meta.specs.Keys.{key_eq}
use Rattle.cmc_objects.specs.declared.entry.Cause.{Cause}
use Rattle.cmc_objects.specs.declared.entry.Entry.{Entry}
use Rattle.cmc_objects.specs.declared.entry.Entry.TheVariants.{Script, Call as Called, Deliver, List as Listed, Begin, Ask, Made, Signed, Answered, Judged, End, Stop, Start, Tick}
use Rattle.cmc_objects.specs.declared.entry.Who.TheVariants.{User, Pass}
use Rattle.cmc_objects.specs.declared.orders.Order.{Order}
use Rattle.cmc_objects.specs.declared.role.Role.{Role}
use Rattle.cmc_objects.specs.Informers.{kind_of_work}
use Rattle.cmc_pass.specs.declared.value.Value.{Value}
use Rattle.cmc_pass.specs.declared.value.Value.TheVariants as values
use Rattle.cmc_pass.specs.GivenValues.{value_of}
use Rattle.cmc_queue.specs.Queues.{has_room, row_of, ChangesRow, ChangesRows, KeepsRoom, Work}
use Rattle.cmc_queue.specs.declared.row.Parked.{Parked}
use Rattle.cmc_queue.specs.declared.row.Row.{Row}
use Rattle.cmc_queue.specs.Rows.{is_free, no_row, ticked}
use Rattle.cmc_queue.proofs.OneRow.{same_by_test}
use Rattle.cmc_queue.proofs.Waits.{working_has_row}
use Rattle.cmc_model.specs.declared.write.Write.{Write}
use Rattle.cmc_model.specs.Histories.{Setting, accepted, moment, role_eq, runs}
use Rattle.cmc_model.specs.Writes.{is_known, writes}
use Rattle.cmc_rules.specs.declared.effect.Effect.{Effect}
use Rattle.cmc_rules.specs.declared.effect.Effect.TheVariants as effects
use Rattle.cmc_rules.specs.declared.progress.Ending.{Ending}
use Rattle.cmc_rules.specs.declared.progress.Ending.TheVariants as endings
use Rattle.cmc_rules.specs.declared.progress.OpenPass.{OpenPass}
use Rattle.cmc_rules.specs.declared.progress.Stage.{Stage}
use Rattle.cmc_rules.specs.declared.progress.Stage.TheVariants as stages
use Rattle.cmc_objects.specs.declared.entry.Positions.{Positions}
use Rattle.cmc_rules.specs.Causes.{MayEnd}
use Rattle.cmc_rules.specs.Legality.{IsLegal, IsOpen}
use Rattle.cmc_rules.specs.Memory.{ending_of, past}
use Rattle.cmc_rules.specs.Origins.{begun as numbered}
use Rattle.cmc_rules.specs.Passes.{is_pass_of, new_pass, open_pass, stage_after, stage_given}
use Rattle.cmc_rules.specs.Positions.{position, positions}
use Rattle.cmc_rules.specs.UserSteps.{Follows}
use Rattle.cmc_rules.specs.Runs.{IsRun}
use Rattle.cmc_rules.specs.Scripts.{scripted}
use Rattle.cmc_rules.specs.Views.{views}
use Rattle.cmc_rules.proofs.Carrying.{over_ask, over_begin, over_call, over_end, over_given, over_stop}
use Rattle.cmc_caches.specs.Affected.{is_among}
use Rattle.cmc_moves.specs.Answers.{is_done, beginning, delivered, asked_once, kept_of, next_effect, value_entry, GrowsBy, IsOfPass, Leaves, LeavesAsked}
use Rattle.cmc_moves.specs.declared.moves.Move.{Move}
use Rattle.cmc_moves.specs.declared.moves.Move.TheVariants as moves
use Rattle.cmc_moves.specs.declared.moves.Stepped.{Stepped}
use Rattle.cmc_moves.specs.declared.moves.Stepped.TheVariants as answers
use Rattle.cmc_setup.specs.Setups.{Setup, IsOrderlyFrom}
use Rattle.cmc_waking.specs.Feeds.{row_begun, closed, row_delivered}
use Rattle.cmc_waking.specs.Parked.{waits_for}
use Rattle.cmc_waking.specs.Queues.{queue_in, row_at, HasPlaceFor, KeepsOthers}
use Rattle.cmc_waking.specs.WakeUps.{IsTimed}
use Rattle.cmc_waking.proofs.Owners.{same_role}
use Rattle.cmc_kernel.specs.Kept.{Seen, setting_of, on}
use Rattle.cmc_world.specs.Fed.{AreAffected, HasRoomsFor, HasRow, IsAhead, IsClosingIfOpen, IsClosingOf, IsFed, IsGoing, IsOfStore, IsWrote, IsStarting, IsToClose, IsToTurn, IsDeliveredTo}
use Rattle.cmc_world.specs.declared.fed_passes.Closing.{Closing}
use Rattle.cmc_world.specs.declared.fed_scripts.Ahead.{Ahead}
use Rattle.cmc_world.specs.declared.fed_scripts.Ahead.TheVariants as ahead
use Rattle.cmc_world.proofs.Looking.{row_works}
use Rattle.cmc_world.proofs.Moves.{IsSilent, fed_begun, fed_delivered, fed_ended, fed_first, fed_listed, fed_silent, fed_started, fed_stopped, fed_ticked}
use Rattle.cmc_world.proofs.Starting.{StartsStopped}
use Rattle.cmc_world.proofs.Switches.{starts_stopped}
use Rattle.cmc_world.proofs.Unknown.{sees_none}

-- ---- by the scenario's setting

-- what is so by the old scenario is so by the new one, which is the same
pub on_new : (P : Setting → List Entry → Type 0) (old new : Seen) → new.scenario ≡ old.scenario → P (setting_of old.scenario) new.history → on P new
on_new P old new same is = subst (λ (u : Setup). P (setting_of u) new.history) (sym same) is

-- a run's parts are legal
legal_below : (s : Setting) (e : Entry) (h : List Entry) → IsLegal s (e ∷ h) → IsLegal s h
unfolding IsLegal
legal_below s e h legal = legal.1

-- ---- a move that is not made

asked_fed : (kept : Option Order) (s : Setting) (h : List Entry) (pass : ℕ) (order : Order) (queues : List Work) → IsLegal s h → IsFed s h queues → IsFed s (asked_once kept pass order h) queues
asked_fed None s h pass order queues legal fed = fed_silent s h (Ask pass order) queues legal tt fed
asked_fed (Some kept) s h pass order queues legal fed = fed

asks_fed : (s : Setting) (h k : List Entry) (move : Move) (order : Order) (queues : List Work) → IsLegal s h → LeavesAsked s h move order k → IsFed s h queues → IsFed s k queues
asks_fed s h k (moves.Next pass named) order queues legal is fed = subst (λ (g : List Entry). IsFed s g queues) (sym is) (asked_fed (kept_of (open_pass s h pass)) s h pass order queues legal fed)
asks_fed s h k (moves.Decide pass named d) order queues legal is fed = subst (λ (g : List Entry). IsFed s g queues) (sym is) (asked_fed (kept_of (open_pass s h pass)) s h pass order queues legal fed)
asks_fed s h k moves.Script order queues legal is fed = subst (λ (g : List Entry). IsFed s g queues) (sym is) fed
asks_fed s h k (moves.Deliver role kind to) order queues legal is fed = subst (λ (g : List Entry). IsFed s g queues) (sym is) fed
asks_fed s h k (moves.Begin role key) order queues legal is fed = subst (λ (g : List Entry). IsFed s g queues) (sym is) fed
asks_fed s h k (moves.Give pass named given) order queues legal is fed = subst (λ (g : List Entry). IsFed s g queues) (sym is) fed

not_made : (s : Setting) (h k : List Entry) (move : Move) (answer : Stepped) (queues : List Work) → IsLegal s h → is_done answer ≡ false → Leaves s h move answer k → IsFed s h queues → IsFed s k queues
not_made s h k move answers.Done queues legal off leaves fed = absurd (cc off)
not_made s h k move (answers.Order pass order) queues legal off leaves fed = asks_fed s h k move order queues legal leaves fed
not_made s h k move (answers.NotNow lack) queues legal off leaves fed = subst (λ (g : List Entry). IsFed s g queues) (sym leaves) fed
not_made s h k move (answers.Ended present) queues legal off leaves fed = subst (λ (g : List Entry). IsFed s g queues) (sym leaves) fed
not_made s h k move (answers.NotMine kept given) queues legal off leaves fed = subst (λ (g : List Entry). IsFed s g queues) (sym leaves) fed
not_made s h k move (answers.OtherViews pass) queues legal off leaves fed = subst (λ (g : List Entry). IsFed s g queues) (sym leaves) fed
not_made s h k move (answers.Spent entries) queues legal off leaves fed = subst (λ (g : List Entry). IsFed s g queues) (sym leaves) fed

-- where the move is not made, or its question told, no row changes
pub fed_not_made : (old new : Seen) (move : Move) (answer : Stepped) (queues : List Work) → on IsRun old → is_done answer ≡ false → new.scenario ≡ old.scenario → on Leaves old move answer new.history → on IsFed old queues → on IsFed new queues
fed_not_made old new move answer queues run off same leaves fed =
    on_new (λ s h. IsFed s h queues) old new same (not_made (setting_of old.scenario) old.history new.history move answer queues run.legal off leaves fed)

pub fed_same : (old new : Seen) (queues : List Work) → new ≡ old → on IsFed old queues → on IsFed new queues
fed_same old new queues same fed = subst (λ (w : Seen). on IsFed w queues) (sym same) fed

-- a move that is known to be refused is not made
refused_by : (b : Bool) (P : Stepped → Type 0) (answer : Stepped) → is_done answer ≡ b → P answer → (P answers.Done → ⊥) → is_done answer ≡ false
refused_by false P answer is holds refused = is
refused_by true P answers.Done is holds refused = absurd (refused holds)
refused_by true P (answers.Order pass order) is holds refused = absurd (cc is)
refused_by true P (answers.NotNow lack) is holds refused = absurd (cc is)
refused_by true P (answers.Ended present) is holds refused = absurd (cc is)
refused_by true P (answers.NotMine kept given) is holds refused = absurd (cc is)
refused_by true P (answers.OtherViews pass) is holds refused = absurd (cc is)
refused_by true P (answers.Spent entries) is holds refused = absurd (cc is)

pub fed_refused : (old new : Seen) (move : Move) (P : Stepped → Type 0) (r : Result Stepped AllocError) (queues : List Work) → on IsRun old → (P answers.Done → ⊥) → new.scenario ≡ old.scenario → IfOk r P → IfOk r (λ answer. on Leaves old move answer new.history) → OnErr r (new ≡ old)
    → on IsFed old queues → on IsFed new queues
fed_refused old new move P (Ok answer) queues run refused same answered leaves failed fed =
    fed_not_made old new move answer queues run (refused_by (is_done answer) P answer refl answered refused) same leaves fed
fed_refused old new move P (Err lack) queues run refused same answered leaves failed fed = fed_same old new queues failed fed

-- ---- a delivery

told_done : (b : Bool) (s : Setting) (h : List Entry) (role : Role) (kind : Kind) (to upto : ℕ) (keys : List Key) (old new : List Work) → nat_le (accepted s h) (position h role kind + s.window) ≡ b
    → IsLegal s ((if b then Deliver role kind to else Listed role kind (accepted s h)) ∷ h) → IsDeliveredTo s h role kind to upto
    → ((key : Key) → is_among keys key ≡ true → key.kind ≡ kind_of_work role)
    → ((key : Key) → is_among keys key ≡ false → views s ((if b then Deliver role kind to else Listed role kind (accepted s h)) ∷ h) role key ≡ views s h role key)
    → ((key : Key) → row_at new role key ≡ row_delivered (is_among keys key) kind upto (row_at old role key)) → KeepsOthers role old new → IsFed s h old
    → IsFed s ((if b then Deliver role kind to else Listed role kind (accepted s h)) ∷ h) new
told_done true s h role kind to upto keys old new is legal reach work seen rows others fed =
    fed_delivered s h role kind to keys old new legal work seen (λ key. rows key ∙ ap (λ (n : ℕ). row_delivered (is_among keys key) kind n (row_at old role key)) (reach.told is)) others fed
told_done false s h role kind to upto keys old new is legal reach work seen rows others fed =
    fed_listed s h role kind (accepted s h) keys old new legal work seen (λ key. rows key ∙ ap (λ (n : ℕ). row_delivered (is_among keys key) kind n (row_at old role key)) (reach.listed is)) others fed

pub fed_told : (old new : Seen) (role : Role) (kind : Kind) (to upto : ℕ) (keys : List Key) (before after : List Work) → on IsRun new → new.scenario ≡ old.scenario → on Leaves old (moves.Deliver role kind to) answers.Done new.history
    → on IsDeliveredTo old role kind to upto → on AreAffected old role kind to keys → ((key : Key) → row_at after role key ≡ row_delivered (is_among keys key) kind upto (row_at before role key)) → KeepsOthers role before after
    → on IsFed old before → on IsFed new after
fed_told old new role kind to upto keys before after run same grown reach affected rows others fed =
    let s : Setting = setting_of old.scenario in
    let h : List Entry = old.history in
    let legal : IsLegal s (delivered s h role kind to ∷ h) = subst (λ (g : List Entry). IsLegal s g) grown (subst (λ (u : Setup). IsLegal (setting_of u) new.history) same run.legal) in
    on_new (λ s h. IsFed s h after) old new same
    (subst (λ (g : List Entry). IsFed s g after) (sym grown)
    (told_done (nat_le (accepted s h) (position h role kind + s.window)) s h role kind to upto keys before after refl legal reach affected.work affected.same rows others fed))

-- ---- a begin

pub fed_begins : (old new : Seen) (role : Role) (key : Key) (next : Option ℤ) (before after : List Work) → on IsRun new → new.scenario ≡ old.scenario → on Leaves old (moves.Begin role key) answers.Done new.history → key.kind ≡ kind_of_work role
    → is_free (row_at before role key) ≡ true → IsTimed role (on views old role key) (on moment old) next → ChangesRow (row_begun next) key (queue_in before role) (queue_in after role) → KeepsOthers role before after → on IsFed old before → on IsFed new after
fed_begins old new role key next before after run same grown work free timed rows others fed =
    let s : Setting = setting_of old.scenario in
    let h : List Entry = old.history in
    let legal : IsLegal s (beginning s h role key ∷ h) = subst (λ (g : List Entry). IsLegal s g) grown (subst (λ (u : Setup). IsLegal (setting_of u) new.history) same run.legal) in
    on_new (λ s h. IsFed s h after) old new same
    (subst (λ (g : List Entry). IsFed s g after) (sym grown)
    (fed_begun s h (numbered s h + 1) role key (positions h role) (moment s h) next before after legal work free timed rows others fed))

-- ---- a pass goes on

over_gone : (b : Bool) (stage : OpenPass → Stage) (p : Option OpenPass) → IsOpen p → IsOpen (if b then option_map (λ (q : OpenPass). record q { stage = stage q }) p else p)
over_gone true stage None stands = stands
over_gone true stage (Some p) stands = tt
over_gone false stage p stands = stands

-- an entry that changes no row leaves each pass open
stays_open : (s : Setting) (h : List Entry) (e : Entry) (n : ℕ) → IsSilent e → IsOpen (open_pass s h n) → IsOpen (open_pass s (e ∷ h) n)
stays_open s h (Script step) n silent stands = stands
stays_open s h (Called User call reply) n silent stands = stands
stays_open s h (Called (Pass pass) call reply) n silent stands = over_gone (n == pass) (stage_after s h call reply) (open_pass s h n) stands
stays_open s h (Ask pass order) n silent stands = over_gone (n == pass) (λ q. stages.Asked order) (open_pass s h n) stands
stays_open s h (Made pass file) n silent stands = over_gone (n == pass) (λ q. stage_given (values.Made file) q.stage) (open_pass s h n) stands
stays_open s h (Signed pass signature) n silent stands = over_gone (n == pass) (λ q. stage_given (values.Signed signature) q.stage) (open_pass s h n) stands
stays_open s h (Answered pass answer) n silent stands = over_gone (n == pass) (λ q. stage_given (values.Answered answer) q.stage) (open_pass s h n) stands
stays_open s h (Judged pass approved) n silent stands = over_gone (n == pass) (λ q. stage_given (values.Judged approved) q.stage) (open_pass s h n) stands
stays_open s h other n silent stands = absurd silent

none_by : (b : Bool) (p : Option OpenPass) → b ≡ true → IsOpen (if b then None else p) → ⊥
none_by true p on stands = stands
none_by false p on stands = absurd (cc on)

-- a pass that has ended is not open
ended_closed : (s : Setting) (h : List Entry) (pass : ℕ) (cause : Cause) → IsOpen (open_pass s (End pass cause ∷ h) pass) → ⊥
ended_closed s h pass cause stands = none_by (pass == pass) (open_pass s h pass) ((Decides-eqb pass pass).1 refl) stands

-- each open pass works on a key of its role's work
abbrev IsOnWork : OpenPass → Type 0
IsOnWork p = p.key.kind ≡ kind_of_work p.role

on_work : (s : Setting) (h : List Entry) (n : ℕ) → IsLegal s h → IfSome (open_pass s h n) IsOnWork
unfolding IsLegal
on_work s [] n legal = tt
on_work s (Called who call reply ∷ h) n legal = over_call IsOnWork n who (stage_after s h call reply) (open_pass s h n) (λ p is. is) (on_work s h n legal.1)
on_work s (Begin pass role key at now ∷ h) n legal = over_begin IsOnWork (n == pass) (new_pass role key (views s h role key) now) (open_pass s h n) legal.0.work (on_work s h n legal.1)
on_work s (Ask pass order ∷ h) n legal = over_ask IsOnWork n pass order (open_pass s h n) (λ p is. is) (on_work s h n legal.1)
on_work s (Made pass key ∷ h) n legal = over_given IsOnWork n pass (values.Made key) (open_pass s h n) (λ p is. is) (on_work s h n legal.1)
on_work s (Signed pass signature ∷ h) n legal = over_given IsOnWork n pass (values.Signed signature) (open_pass s h n) (λ p is. is) (on_work s h n legal.1)
on_work s (Answered pass answer ∷ h) n legal = over_given IsOnWork n pass (values.Answered answer) (open_pass s h n) (λ p is. is) (on_work s h n legal.1)
on_work s (Judged pass approved ∷ h) n legal = over_given IsOnWork n pass (values.Judged approved) (open_pass s h n) (λ p is. is) (on_work s h n legal.1)
on_work s (End pass cause ∷ h) n legal = over_end IsOnWork (n == pass) (open_pass s h n) (on_work s h n legal.1)
on_work s (Stop role ∷ h) n legal = over_stop IsOnWork role (open_pass s h n) (on_work s h n legal.1)
on_work s (other ∷ h) n legal = on_work s h n legal.1

-- what a move of the pass leaves: nothing more, an entry that changes no row, or the end of the pass
abbrev IsGrown : Setting → List Entry → ℕ → List Entry → Type 0
IsGrown s h pass k = (k ≡ h) ⊎ (((e : Entry) × IsSilent e × (k ≡ e ∷ h)) ⊎ ((cause : Cause) × MayEnd s h (open_pass s h pass) cause × (k ≡ End pass cause ∷ h)))

grown_asked : (kept : Option Order) (s : Setting) (h k : List Entry) (n pass : ℕ) (order : Order) → k ≡ asked_once kept n order h → IsGrown s h pass k
grown_asked None s h k n pass order is = inr (inl (Ask n order, tt, is))
grown_asked (Some kept) s h k n pass order is = inl is

value_silent : (n : ℕ) (value : Value) → IsSilent (value_entry n value)
value_silent n (values.Made file) = tt
value_silent n (values.Signed signature) = tt
value_silent n (values.Answered answer) = tt
value_silent n (values.Judged approved) = tt

grown_done : (s : Setting) (h k : List Entry) (n pass : ℕ) → n ≡ pass → (e : Entry) → IsOfPass s h n e → k ≡ e ∷ h → IsGrown s h pass k
grown_done s h k n pass same e (inl (call, may, (reply, right, is))) grown = inr (inl (Called (Pass n) call reply, tt, grown ∙ ap (λ (x : Entry). x ∷ h) is))
grown_done s h k n pass same e (inr (cause, may, is)) grown =
    inr (inr (cause, subst (λ (m : ℕ). MayEnd s h (open_pass s h m) cause) same may, grown ∙ ap (λ (x : Entry). x ∷ h) is ∙ ap (λ (m : ℕ). End m cause ∷ h) same))

grown_by : (s : Setting) (h k : List Entry) (pass : ℕ) (move : Move) (answer : Stepped) → IsGoing pass move → Leaves s h move answer k → IsGrown s h pass k
grown_by s h k pass (moves.Next n named) answers.Done going leaves = grown_done s h k n pass going leaves.0 leaves.1 leaves.2
grown_by s h k pass (moves.Decide n named d) answers.Done going leaves = grown_done s h k n pass going leaves.0 leaves.1 leaves.2
grown_by s h k pass (moves.Give n named given) answers.Done going leaves = inr (inl (value_entry n (value_of given), value_silent n (value_of given), leaves))
grown_by s h k pass (moves.Next n named) (answers.Order m order) going leaves = grown_asked (kept_of (open_pass s h n)) s h k n pass order leaves
grown_by s h k pass (moves.Decide n named d) (answers.Order m order) going leaves = grown_asked (kept_of (open_pass s h n)) s h k n pass order leaves
grown_by s h k pass (moves.Give n named given) (answers.Order m order) going leaves = inl leaves
grown_by s h k pass moves.Script answer going leaves = absurd going
grown_by s h k pass (moves.Deliver role kind to) answer going leaves = absurd going
grown_by s h k pass (moves.Begin role key) answer going leaves = absurd going
grown_by s h k pass move (answers.NotNow lack) going leaves = inl leaves
grown_by s h k pass move (answers.Ended present) going leaves = inl leaves
grown_by s h k pass move (answers.NotMine kept given) going leaves = inl leaves
grown_by s h k pass move (answers.OtherViews n) going leaves = inl leaves
grown_by s h k pass move (answers.Spent entries) going leaves = inl leaves

open_by : (role : Role) (key : Key) (p : Option OpenPass) → is_pass_of role key p ≡ true → IsOpen p
open_by role key None mine = absurd (cc mine)
open_by role key (Some p) mine = tt

not_open : (p : Option OpenPass) → p ≡ None → IsOpen p → ⊥
not_open None none stands = stands
not_open (Some p) none stands = absurd (cc none)

work_by : (role : Role) (key : Key) (p : Option OpenPass) → is_pass_of role key p ≡ true → IfSome p IsOnWork → key.kind ≡ kind_of_work role
work_by role key None mine work = absurd (cc mine)
work_by role key (Some p) mine work =
    let parts = and_parts (role_eq p.role role) (key_eq p.key key) mine in
    ap (λ (q : Key). q.kind) (sym (same_by_test p.key key parts.1)) ∙ work ∙ ap kind_of_work (same_role p.role role parts.0)

ends_open : (s : Setting) (h : List Entry) (n : ℕ) (cause : Cause) → IsLegal s (End n cause ∷ h) → IsOpen (open_pass s h n)
unfolding IsLegal
ends_open s h n cause legal = legal.0

stays_fed : (s : Setting) (h k : List Entry) (pass : ℕ) (queues : List Work) → IsLegal s h → IsGrown s h pass k → IsFed s h queues → (IsOpen (open_pass s k pass) ⊎ (open_pass s h pass ≡ None)) → IsLegal s k → IsFed s k queues
stays_fed s h k pass queues legal (inl is) fed still after = subst (λ (g : List Entry). IsFed s g queues) (sym is) fed
stays_fed s h k pass queues legal (inr (inl (e, silent, is))) fed still after = subst (λ (g : List Entry). IsFed s g queues) (sym is) (fed_silent s h e queues legal silent fed)
stays_fed s h k pass queues legal (inr (inr (cause, may, is))) fed (inl stands) after = absurd (ended_closed s h pass cause (subst (λ (g : List Entry). IsOpen (open_pass s g pass)) is stands))
stays_fed s h k pass queues legal (inr (inr (cause, may, is))) fed (inr none) after = absurd (not_open (open_pass s h pass) none (ends_open s h pass cause (subst (IsLegal s) is after)))

-- the role's own writes count after a write alone
closed_same : (ending : Ending) (own other at : Positions) (row : Row) → (IsWrote ending → own ≡ other) → closed ending own at row ≡ closed ending other at row
closed_same endings.Open own other at row same = refl
closed_same endings.Nothing own other at row same = refl
closed_same endings.Wrote own other at row same = ap (λ (p : Positions). closed endings.Wrote p at row) (same tt)
closed_same (endings.Refused obstacle) own other at row same = refl

ends_fed : (s : Setting) (h k : List Entry) (pass : ℕ) (c : Closing) (queues new : List Work) → IsLegal s h → IsGrown s h pass k → IsClosingOf s h pass c → IsFed s h queues → open_pass s k pass ≡ None
    → ChangesRow (closed c.ending c.own c.at) c.key (queue_in queues c.role) (queue_in new c.role) → KeepsOthers c.role queues new → IsFed s k new
ends_fed s h k pass c queues new legal (inl is) closing fed none rows others =
    absurd (not_open (open_pass s h pass) (subst (λ (g : List Entry). open_pass s g pass ≡ None) is none) (open_by c.role c.key (open_pass s h pass) closing.mine))
ends_fed s h k pass c queues new legal (inr (inl (e, silent, is))) closing fed none rows others =
    absurd (not_open (open_pass s (e ∷ h) pass) (subst (λ (g : List Entry). open_pass s g pass ≡ None) is none) (stays_open s h e pass silent (open_by c.role c.key (open_pass s h pass) closing.mine)))
ends_fed s h k pass c queues new legal (inr (inr (cause, may, is))) closing fed none rows others =
    let ending : c.ending ≡ ending_of (open_pass s h pass) = closing.ending in
    let own : (row : Row) → closed c.ending c.own c.at row ≡ closed c.ending (past s h c.role c.key).own c.at row = λ row. closed_same c.ending c.own (past s h c.role c.key).own c.at row closing.own in
    let at : c.at ≡ positions h c.role = closing.at in
    subst (λ (g : List Entry). IsFed s g new) (sym is)
    (fed_ended s h pass cause c.role c.key queues new legal may closing.mine (work_by c.role c.key (open_pass s h pass) closing.mine (on_work s h pass legal))
    (subst (λ (f : Row → Row). ChangesRow f c.key (queue_in queues c.role) (queue_in new c.role)) (λ i row. closed (ending i) (past s h c.role c.key).own (at i) row) (λ k. rows k ∙ ap (λ (r : Row). if key_eq c.key k then r else row_at queues c.role k) (own (row_at queues c.role k)))) others fed)

close_by : (closing : Option Closing) (s : Setting) (h k : List Entry) (pass : ℕ) (queues : List Work) → IsLegal s h → IsLegal s k → IsGrown s h pass k → IsClosingIfOpen s h pass closing → IsFed s h queues → IsToClose s k pass closing queues
close_by None s h k pass queues legal after grown none fed = stays_fed s h k pass queues legal grown fed (inr none) after
close_by (Some c) s h k pass queues legal after grown closing fed = record {
  stays = λ stands. stays_fed s h k pass queues legal grown fed (inl stands) after;
  ends = λ none new rows others. ends_fed s h k pass c queues new legal grown closing fed none rows others;
}

-- what is left to do after a move of the pass
pub to_close : (old new : Seen) (pass : ℕ) (move : Move) (answer : Stepped) (closing : Option Closing) (queues : List Work) → on IsRun old → on IsRun new → new.scenario ≡ old.scenario → IsGoing pass move → on Leaves old move answer new.history
    → on IsClosingIfOpen old pass closing → on IsFed old queues → on IsToClose new pass closing queues
to_close old new pass move answer closing queues run after same going leaves is fed =
    let s : Setting = setting_of old.scenario in
    on_new (λ s h. IsToClose s h pass closing queues) old new same
    (close_by closing s old.history new.history pass queues run.legal (subst (λ (u : Setup). IsLegal (setting_of u) new.history) same after.legal) (grown_by s old.history new.history pass move answer going leaves) is fed)

-- the key of an open pass has a row
pub closing_row : (s : Setting) (h : List Entry) (pass : ℕ) (closing : Option Closing) (queues : List Work) → IsLegal s h → IsFed s h queues → IsClosingIfOpen s h pass closing → HasRow closing queues
closing_row s h pass None queues legal fed is = tt
closing_row s h pass (Some c) queues legal fed is =
    let work = work_by c.role c.key (open_pass s h pass) is.mine (on_work s h pass legal) in
    working_has_row (queue_in queues c.role).rows c.key ((row_works s h c.role c.key queues fed work).1 (pass, is.mine))

-- with a place for the version that it waits for there is room for its end
pub rooms_made : {A : Type 0} (r : Result A AllocError) (c : Closing) (parked : Option Parked) (old new : List Work) → parked ≡ waits_for c.ending c.own c.at → has_room (queue_in old c.role) c.key ≡ true → KeepsRoom (queue_in old c.role) (queue_in new c.role)
    → OnOk r (HasPlaceFor parked c.key (queue_in new c.role)) → OnOk r (HasRoomsFor c new)
rooms_made (Ok x) c parked old new is row keeps place = record { row = keeps.rows c.key row; place = subst (λ (p : Option Parked). HasPlaceFor p c.key (queue_in new c.role)) is place }
rooms_made (Err lack) c parked old new is row keeps place = tt

-- ---- a step of the script

scripted_fed : (s : Setting) (h : List Entry) (n : ℕ) (queues : List Work) → IsLegal s h → IsFed s h queues → IsFed s (Script n ∷ h) queues
scripted_fed s h n queues legal fed = fed_silent s h (Script n) queues legal tt fed

stored_fed : (effect : Option Effect) (s : Setting) (h k : List Entry) (n : ℕ) (queues : List Work) → IsLegal s h → IsLegal s (Script n ∷ h) → IsOfStore effect → GrowsBy s (Script n ∷ h) effect k → IsFed s h queues → IsFed s k queues
stored_fed None s h k n queues legal after store grown fed = subst (λ (g : List Entry). IsFed s g queues) (sym grown) (scripted_fed s h n queues legal fed)
stored_fed (Some (effects.Call call)) s h k n queues legal after store (e, (reply, right, is), grown) fed =
    subst (λ (g : List Entry). IsFed s g queues) (sym (grown ∙ ap (λ (x : Entry). x ∷ Script n ∷ h) is)) (fed_silent s (Script n ∷ h) (Called User call reply) queues after tt (scripted_fed s h n queues legal fed))
stored_fed (Some (effects.Tick now)) s h k n queues legal after store grown fed = absurd store
stored_fed (Some (effects.Stop role)) s h k n queues legal after store grown fed = absurd store
stored_fed (Some (effects.Start role at)) s h k n queues legal after store grown fed = absurd store

legal_script : (s : Setting) (h : List Entry) (n : ℕ) → IsLegal s h → IsLegal s (Script n ∷ h)
unfolding IsLegal
legal_script s h n legal = (tt, legal)

-- the one entry of an effect
abbrev GrewBy : Setting → List Entry → ℕ → Option Effect → List Entry → Type 0
GrewBy s h n effect k = GrowsBy s (Script n ∷ h) effect k

ticked_fed : (s : Setting) (h k : List Entry) (n : ℕ) (now : ℤ) (queues new : List Work) → IsLegal s h → int_le (moment s h) now ≡ true → GrewBy s h n (Some (effects.Tick now)) k → ((role : Role) → ChangesRows (ticked (moment s k)) (queue_in queues role) (queue_in new role))
    → IsFed s h queues → IsFed s k new
ticked_fed s h k n now queues new legal later (e, is, grown) rows fed =
    let whole : k ≡ Tick now ∷ Script n ∷ h = grown ∙ ap (λ (x : Entry). x ∷ Script n ∷ h) is in
    subst (λ (g : List Entry). IsFed s g new) (sym whole)
    (fed_ticked s (Script n ∷ h) now queues new later (subst (λ (g : List Entry). (role : Role) → ChangesRows (ticked (moment s g)) (queue_in queues role) (queue_in new role)) whole rows) (scripted_fed s h n queues legal fed))

stopped_fed : (s : Setting) (h k : List Entry) (n : ℕ) (role : Role) (queues new : List Work) → IsLegal s h → GrewBy s h n (Some (effects.Stop role)) k → ((key : Key) → row_at new role key ≡ no_row) → KeepsOthers role queues new → IsFed s h queues → IsFed s k new
stopped_fed s h k n role queues new legal (e, is, grown) rows others fed =
    subst (λ (g : List Entry). IsFed s g new) (sym (grown ∙ ap (λ (x : Entry). x ∷ Script n ∷ h) is)) (fed_stopped s (Script n ∷ h) role queues new rows others (scripted_fed s h n queues legal fed))

starts_off : (s : Setting) (h : List Entry) (role : Role) (at : ℕ) → StartsStopped s (Start role at ∷ h) → runs s h role ≡ false
unfolding StartsStopped
starts_off s h role at off = off.0

unknown_by : (b : Bool) (keys : List Key) (key : Key) (ws : List Write) → is_known key ws ≡ b → (is_known key ws ≡ true → is_among keys key ≡ true) → is_among keys key ≡ false → is_known key ws ≡ false
unknown_by false keys key ws is all off = is
unknown_by true keys key ws is all off = absurd (let on = all is in cc (on, off))

started_fed : (s : Setting) (h k : List Entry) (n : ℕ) (role : Role) (at : ℕ) (queue : Work) (queues new : List Work) → IsLegal s h → IsStarting s h role queue → GrewBy s h n (Some (effects.Start role at)) k → StartsStopped s k → queue_in new role ≡ queue
    → KeepsOthers role queues new → IsFed s h queues → IsFed s k new
started_fed s h k n role at queue queues new legal (keys, known, rows) (e, is, grown) stopped own others fed =
    let whole : k ≡ Start role at ∷ Script n ∷ h = grown ∙ ap (λ (x : Entry). x ∷ Script n ∷ h) is in
    subst (λ (g : List Entry). IsFed s g new) (sym whole)
    (fed_started s (Script n ∷ h) role at keys queues new (legal_script s h n legal) (starts_off s (Script n ∷ h) role at (subst (StartsStopped s) whole stopped)) known.work
    (λ key work off. sees_none s (Start role at ∷ Script n ∷ h) role key (unknown_by (is_known key (writes s h)) keys key (writes s h) refl (known.all key work) off))
    (λ key. ap (λ (q : Work). row_of q key) own ∙ rows key) others (scripted_fed s h n queues legal fed))

turn_by : (a : Ahead) (s : Setting) (h k : List Entry) (n : ℕ) (queues : List Work) → IsLegal s h → StartsStopped s k → IsAhead s h a → GrowsBy s (Script n ∷ h) (next_effect s h) k → IsFed s h queues → IsToTurn s k a queues
turn_by ahead.Same s h k n queues legal stopped is grown fed = stored_fed (next_effect s h) s h k n queues legal (legal_script s h n legal) is grown fed
turn_by ahead.Tick s h k n queues legal stopped (now, is, later) grown fed = λ new rows. ticked_fed s h k n now queues new legal later (subst (λ (o : Option Effect). GrowsBy s (Script n ∷ h) o k) is grown) rows fed
turn_by (ahead.Stop role) s h k n queues legal stopped is grown fed = λ new rows others. stopped_fed s h k n role queues new legal (subst (λ (o : Option Effect). GrowsBy s (Script n ∷ h) o k) is grown) rows others fed
turn_by (ahead.Start role queue) s h k n queues legal stopped (at, is, starting) grown fed = λ new own others. started_fed s h k n role at queue queues new legal starting (subst (λ (o : Option Effect). GrowsBy s (Script n ∷ h) o k) is grown) stopped own others fed

-- what is left to do after a step of the script that was made
pub to_turn : (old new : Seen) (a : Ahead) (queues : List Work) → IsOrderlyFrom old.scenario.roles old.scenario.script → on IsRun old → on IsRun new → new.scenario ≡ old.scenario → on Leaves old moves.Script answers.Done new.history → on IsAhead old a
    → on IsFed old queues → on IsToTurn new a queues
to_turn old new a queues orderly run after same grown is fed =
    let s : Setting = setting_of old.scenario in
    on_new (λ s h. IsToTurn s h a queues) old new same
    (turn_by a s old.history new.history (scripted old.history + 1) queues run.legal (starts_stopped old.scenario new.history orderly (subst (λ (u : Setup). Follows (setting_of u) new.history) same after.follows)) is grown fed)

-- ---- at the beginning

-- nothing was done, and nothing is to be done
pub fed_new : (u : Setup) (world : Seen) (queues : List Work) → world ≡ record { scenario = u; history = [] } → ((role : Role) (key : Key) → row_at queues role key ≡ no_row) → on IsFed world queues
fed_new u world queues is none = subst (λ (w : Seen). on IsFed w queues) (sym is) (fed_first (setting_of u) queues (λ role key. sees_none (setting_of u) [] role key refl) none)
