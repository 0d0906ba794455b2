-- What is kept of the next moves stays so over the moves that do not change it.
use Rattle.std.proofs.Common.{◌≡◌, ◌⊎◌, ◌<◌, ◌≤◌, ℕ, List, [], ◌∷◌, Option, Some, None, Bool, true, false, inl, inr, refl, sym, subst, ◌∙◌, arith}
use Rattle.std.proofs.lemmas.Bool.Decides.{nat_tests}
use Rattle.std.proofs.lemmas.List.Elements.{All-nil, All-push, All-weaker}
use Rattle.std.specs.declared.alloc.AllocError.{AllocError}
use Rattle.std.specs.Prelude.{◌+◌, ◌++◌, ◌==◌, ◌&&◌, IfOk, IfSome, IsSome, OnErr, Result, Ok, Err, if◌then◌else◌, nat_le}
use Rattle.cmc_meta.specs.declared.key.Key.{Key}
use Rattle.cmc_meta.specs.declared.key.Kind.{Kind}
use Rattle.cmc_objects.specs.Roles.{role_rank}
use Rattle.cmc_objects.specs.declared.call.Call.{Call}
use Rattle.cmc_objects.specs.declared.call.Reply.{Reply}
use Rattle.cmc_objects.specs.declared.entry.Cause.{Cause}
use Rattle.cmc_objects.specs.declared.entry.Entry.{Entry}
use Rattle.cmc_objects.specs.declared.entry.Entry.TheVariants.{Call as Called, Deliver, List as Listed, Ask, End}
use Rattle.cmc_objects.specs.declared.entry.Who.TheVariants.{Pass}
use Rattle.cmc_objects.specs.declared.orders.Order.{Order}
use Rattle.cmc_objects.specs.declared.role.Role.{Role}
use Rattle.cmc_objects.specs.declared.role.Role.TheVariants.{Trigger, KeyManager, RequestManager, Approver, Issuer, Issuing, Readiness, Revision}
use Rattle.cmc_pass.specs.declared.pass.Act.{Act}
use Rattle.cmc_pass.specs.declared.pass.Act.TheVariants as acts
use Rattle.cmc_pass.specs.declared.pass.Views.{Views}
use Rattle.cmc_pass.specs.declared.value.Value.{Value}
use Rattle.cmc_model.specs.Histories.{Setting, accepted, moment, role_eq}
use Rattle.cmc_model.specs.Writes.{kind_eq, last_of_kind, writes}
use Rattle.cmc_rules.specs.declared.progress.OpenPass.{OpenPass}
use Rattle.cmc_rules.specs.declared.progress.Stage.{Stage}
use Rattle.cmc_rules.specs.declared.progress.Stage.TheVariants.{Fresh}
use Rattle.cmc_rules.specs.Acts.{act}
use Rattle.cmc_rules.specs.Causes.{act_of, after_of, IsNextCall, MayCall}
use Rattle.cmc_rules.specs.Desks.{asked, asked_with, asks_issuer, asks_key, desk}
use Rattle.cmc_rules.specs.Legality.{IsLegal}
use Rattle.cmc_rules.specs.Origins.{begun}
use Rattle.cmc_rules.specs.Passes.{open_pass}
use Rattle.cmc_rules.specs.Positions.{position}
use Rattle.cmc_rules.specs.Runs.{IsRun}
use Rattle.cmc_rules.specs.Views.{views}
use Rattle.cmc_rules.proofs.Positions.{views_called}
use Rattle.cmc_moves.specs.Answers.{beginning, delivered, told_order, IsOfPass, Leaves}
use Rattle.cmc_moves.specs.Prospects.{IsFirstAct}
use Rattle.cmc_moves.specs.declared.moves.Move.TheVariants as moves
use Rattle.cmc_moves.specs.declared.moves.Stepped.{Stepped}
use Rattle.cmc_moves.specs.declared.moves.Stepped.TheVariants as answers
use Rattle.cmc_kernel.specs.Kept.{Seen, setting_of, on}
use Rattle.cmc_world.specs.KeptLooks.{AreCurrent, IsActOn, IsCurrent, IsKeptRight}
use Rattle.cmc_world.specs.Next.{IsNewestPass}
use Rattle.cmc_kernel.specs.Plain.{IsBehind}
use Rattle.cmc_world.specs.Searches.{HasNoneBefore, IsBehindInSome}
use Rattle.cmc_world.specs.declared.deliveries.Delivery.{Delivery}
use Rattle.cmc_world.specs.declared.kept.Kept.{Kept}
use Rattle.cmc_world.specs.declared.openings.Opening.{Opening}
use Rattle.cmc_world.proofs.Feeding.{on_new}

-- ---- one entry more: the passes that were found

-- it is no question
abbrev IsNoAsk : Entry → Type 0
IsNoAsk (Ask pass order) = ⊥
IsNoAsk other = Unit {0}

asked_over : (counts : Order → Bool) (n : ℕ) (e : Entry) → IsNoAsk e → asked_with counts n e ≡ n
asked_over counts n (Ask pass order) silent = absurd silent
asked_over counts n other silent = refl

desk_over : (s : Setting) (h : List Entry) (e : Entry) (role : Role) (seen : Views) → IsNoAsk e → desk s (e ∷ h) role seen ≡ desk s h role seen
desk_over s h e KeyManager seen silent = let same = asked_over (asks_key seen.certificate) (asked (asks_key seen.certificate) h) e silent in λ i. record { material = s.material; asked = same i; rules = s.rules }
desk_over s h e Issuer seen silent = let same = asked_over (asks_issuer seen.request) (asked (asks_issuer seen.request) h) e silent in λ i. record { material = s.material; asked = same i; rules = s.rules }
desk_over s h e Trigger seen silent = refl
desk_over s h e RequestManager seen silent = refl
desk_over s h e Approver seen silent = refl
desk_over s h e Issuing seen silent = refl
desk_over s h e Readiness seen silent = refl
desk_over s h e Revision seen silent = refl

does_over : (s : Setting) (h : List Entry) (e : Entry) (role : Role) (seen : Views) (does : Option Act) → IsNoAsk e → moment s (e ∷ h) ≡ moment s h → IsActOn s h role seen does → IsActOn s (e ∷ h) role seen does
does_over s h e role seen None silent now is = is
does_over s h e role seen (Some does) silent now is = let same = desk_over s h e role seen silent in is ∙ (λ i. act role seen ((sym now) i) ((sym same) i))

found_over : (s : Setting) (h : List Entry) (e : Entry) (o : Opening) → IsNoAsk e → moment s (e ∷ h) ≡ moment s h → views s (e ∷ h) o.role o.key ≡ views s h o.role o.key → IsCurrent s h o → IsCurrent s (e ∷ h) o
found_over s h e o silent now sees is = record {
  seen = is.seen ∙ sym sees;
  does = subst (λ (v : Views). IsActOn s (e ∷ h) o.role v o.does) (sym sees) (does_over s h e o.role (views s h o.role o.key) o.does silent now is.does);
}

are_over : (s : Setting) (h : List Entry) (e : Entry) (l : List Opening) → IsNoAsk e → moment s (e ∷ h) ≡ moment s h → ((role : Role) (key : Key) → views s (e ∷ h) role key ≡ views s h role key) → AreCurrent s h l → AreCurrent s (e ∷ h) l
are_over s h e l silent now sees all = All-weaker (IsCurrent s h) (IsCurrent s (e ∷ h)) (λ o is. found_over s h e o silent now (sees o.role o.key) is) l all

-- ---- one entry more: the roles that are not behind

none_over : (s : Setting) (h : List Entry) (e : Entry) (n : ℕ) → ((role : Role) (kind : Kind) → role_rank role < n → IsBehind s (e ∷ h) role kind → IsBehind s h role kind) → HasNoneBefore (IsBehindInSome s h) n → HasNoneBefore (IsBehindInSome s (e ∷ h)) n
none_over s h e n back none role low b = none role low (b.0, back role b.0 low b.1)

none_at_first : (P : Role → Type 0) (n : ℕ) → n ≡ 0 → HasNoneBefore P n
none_at_first P n first role low p = absurd (omega (arith, first, low))

pub none_fewer : (P : Role → Type 0) (m n : ℕ) → m ≤ n → HasNoneBefore P n → HasNoneBefore P m
none_fewer P m n le none role low p = none role (omega (arith, le, low)) p

begun_behind : (s : Setting) (h : List Entry) (who role : Role) (key : Key) (kind : Kind) → IsBehind s (beginning s h who key ∷ h) role kind → IsBehind s h role kind
begun_behind s h who role key kind b = record { running = b.running; informed = b.informed; free = b.free; behind = b.behind }

ended_behind : (s : Setting) (h : List Entry) (pass : ℕ) (cause : Cause) (role : Role) (kind : Kind) → IsBehind s (End pass cause ∷ h) role kind → IsBehind s h role kind
ended_behind s h pass cause role kind b = record { running = b.running; informed = b.informed; free = b.free; behind = b.behind }

roles_apart : (m n : ℕ) → n < m → (m == n) ≡ false
roles_apart m n low = grind (arith, nat_tests)

other_told : (b c : Bool) (to p : ℕ) → b ≡ false → (if b && c then to else p) ≡ p
other_told true c to p other = absurd (cc other)
other_told false c to p other = refl

told_behind : (b : Bool) (s : Setting) (h : List Entry) (told role : Role) (kind k : Kind) (to at : ℕ) → role_eq told role ≡ false → IsBehind s ((if b then Deliver told kind to else Listed told kind at) ∷ h) role k → IsBehind s h role k
told_behind true s h told role kind k to at other b = record {
  running = b.running;
  informed = b.informed;
  free = b.free;
  behind = subst (λ (p : ℕ). p < last_of_kind k (writes s h)) (other_told (role_eq told role) (kind_eq kind k) to (position h role k) other) b.behind;
}
told_behind false s h told role kind k to at other b = record {
  running = b.running;
  informed = b.informed;
  free = b.free;
  behind = subst (λ (p : ℕ). p < last_of_kind k (writes s h)) (other_told (role_eq told role) (kind_eq kind k) at (position h role k) other) b.behind;
}

-- ---- nothing that is kept is wrong

pub nothing_kept : (w : Seen) (k : Kept) → k.told ≡ 0 → k.act ≡ None → k.looked.items ≡ [] → on IsKeptRight w k
nothing_kept w k told does looked = record {
  told = none_at_first (on IsBehindInSome w) k.told told;
  act = subst (λ (a : Option Act). IfSome a (on IsFirstAct w (on begun w))) (sym does) tt;
  looked = subst (λ (l : List Opening). on AreCurrent w l) (sym looked) (All-nil (on IsCurrent w));
}

-- ---- a begin

begin_leaves : (s : Setting) (h k : List Entry) (role : Role) (key : Key) (answer : Stepped) → Leaves s h (moves.Begin role key) answer k → (k ≡ h) ⊎ (k ≡ beginning s h role key ∷ h)
begin_leaves s h k role key answers.Done leaves = inr leaves
begin_leaves s h k role key (answers.Order pass order) leaves = inl leaves
begin_leaves s h k role key (answers.NotNow lack) leaves = inl leaves
begin_leaves s h k role key (answers.Ended present) leaves = inl leaves
begin_leaves s h k role key (answers.NotMine kept given) leaves = inl leaves
begin_leaves s h k role key (answers.OtherViews pass) leaves = inl leaves
begin_leaves s h k role key (answers.Spent entries) leaves = inl leaves

begin_keeps : (s : Setting) (h k : List Entry) (role : Role) (key : Key) (n : ℕ) (l : List Opening) → (k ≡ h) ⊎ (k ≡ beginning s h role key ∷ h) → HasNoneBefore (IsBehindInSome s h) n → AreCurrent s h l → HasNoneBefore (IsBehindInSome s k) n × AreCurrent s k l
begin_keeps s h k role key n l (inl same) told looked = subst (λ (g : List Entry). HasNoneBefore (IsBehindInSome s g) n × AreCurrent s g l) (sym same) (told, looked)
begin_keeps s h k role key n l (inr grown) told looked =
    subst (λ (g : List Entry). HasNoneBefore (IsBehindInSome s g) n × AreCurrent s g l) (sym grown) (
      none_over s h (beginning s h role key) n (λ r kind low b. begun_behind s h role r key kind b) told,
      are_over s h (beginning s h role key) l tt refl (λ r q. refl) looked,
    )

pub kept_begun : (old new : Seen) (role : Role) (key : Key) (answer : Stepped) (before after : Kept) → new.scenario ≡ old.scenario → on Leaves old (moves.Begin role key) answer new.history → on IsKeptRight old before → after.told ≡ before.told
    → ((s : Setting) (h : List Entry) → AreCurrent s h before.looked.items → AreCurrent s h after.looked.items) → IfSome after.act (on IsFirstAct new (on begun new)) → on IsKeptRight new after
kept_begun old new role key answer before after same leaves right told looked does =
    let s = setting_of old.scenario in
    let both = begin_keeps s old.history new.history role key before.told before.looked.items (begin_leaves s old.history new.history role key answer leaves) right.told right.looked in
    record {
      told = on_new (λ s h. HasNoneBefore (IsBehindInSome s h) after.told) old new same (subst (λ (n : ℕ). HasNoneBefore (IsBehindInSome s new.history) n) (sym told) both.0);
      act = does;
      looked = on_new (λ s h. AreCurrent s h after.looked.items) old new same (looked s new.history both.1);
    }

-- ---- a delivery

told_leaves : (s : Setting) (h k : List Entry) (role : Role) (kind : Kind) (to : ℕ) (answer : Stepped) → Leaves s h (moves.Deliver role kind to) answer k → (k ≡ h) ⊎ (k ≡ delivered s h role kind to ∷ h)
told_leaves s h k role kind to answers.Done leaves = inr leaves
told_leaves s h k role kind to (answers.Order pass order) leaves = inl leaves
told_leaves s h k role kind to (answers.NotNow lack) leaves = inl leaves
told_leaves s h k role kind to (answers.Ended present) leaves = inl leaves
told_leaves s h k role kind to (answers.NotMine kept given) leaves = inl leaves
told_leaves s h k role kind to (answers.OtherViews pass) leaves = inl leaves
told_leaves s h k role kind to (answers.Spent entries) leaves = inl leaves

told_keeps : (s : Setting) (h k : List Entry) (role : Role) (kind : Kind) (to n : ℕ) → (k ≡ h) ⊎ (k ≡ delivered s h role kind to ∷ h) → n ≤ role_rank role → HasNoneBefore (IsBehindInSome s h) n → HasNoneBefore (IsBehindInSome s k) n
told_keeps s h k role kind to n (inl same) up told = subst (λ (g : List Entry). HasNoneBefore (IsBehindInSome s g) n) (sym same) told
told_keeps s h k role kind to n (inr grown) up told =
    subst (λ (g : List Entry). HasNoneBefore (IsBehindInSome s g) n) (sym grown)
    (none_over s h (delivered s h role kind to) n
    (λ r q low b. told_behind (nat_le (accepted s h) (position h role kind + s.window)) s h role r kind q to (accepted s h) (roles_apart (role_rank role) (role_rank r) (omega (arith, up, low))) b) told)

pub kept_told : (old new : Seen) (role : Role) (kind : Kind) (to : ℕ) (answer : Stepped) (before after : Kept) → new.scenario ≡ old.scenario → on Leaves old (moves.Deliver role kind to) answer new.history → on IsKeptRight old before
    → after.told ≤ before.told → after.told ≤ role_rank role → after.act ≡ None → after.looked.items ≡ [] → on IsKeptRight new after
kept_told old new role kind to answer before after same leaves right below up does looked =
    let s = setting_of old.scenario in
    let none = none_fewer (on IsBehindInSome old) after.told before.told below right.told in
    record {
      told = on_new (λ s h. HasNoneBefore (IsBehindInSome s h) after.told) old new same (told_keeps s old.history new.history role kind to after.told (told_leaves s old.history new.history role kind to answer leaves) up none);
      act = subst (λ (a : Option Act). IfSome a (on IsFirstAct new (on begun new))) (sym does) tt;
      looked = subst (λ (l : List Opening). on AreCurrent new l) (sym looked) (All-nil (on IsCurrent new));
    }

-- ---- a pass that goes on

-- what it leaves: nothing more, a question that is told, or its call or its end
gone_leaves : (s : Setting) (h k : List Entry) (pass named : ℕ) (answer : Stepped) → Leaves s h (moves.Next pass named) answer k → (k ≡ h) ⊎ (IsSome (told_order answer) ⊎ ((e : Entry) × IsOfPass s h pass e × (k ≡ e ∷ h)))
gone_leaves s h k pass named answers.Done leaves = inr (inr leaves)
gone_leaves s h k pass named (answers.Order n order) leaves = inr (inl refl)
gone_leaves s h k pass named (answers.NotNow lack) leaves = inl leaves
gone_leaves s h k pass named (answers.Ended present) leaves = inl leaves
gone_leaves s h k pass named (answers.NotMine kept given) leaves = inl leaves
gone_leaves s h k pass named (answers.OtherViews n) leaves = inl leaves
gone_leaves s h k pass named (answers.Spent entries) leaves = inl leaves

-- neither a call nor an end changes what was found
of_pass_found : (s : Setting) (h : List Entry) (pass : ℕ) (e : Entry) (l : List Opening) → IsLegal s h → IsOfPass s h pass e → AreCurrent s h l → AreCurrent s (e ∷ h) l
of_pass_found s h pass e l legal (inl called) all =
    let reply : Reply = called.2.0 in
    subst (λ (d : Entry). AreCurrent s (d ∷ h) l) (sym called.2.2) (are_over s h (Called (Pass pass) called.0 reply) l tt refl (λ role key. views_called s h (Pass pass) called.0 reply role key legal) all)
of_pass_found s h pass e l legal (inr ended) all = subst (λ (d : Entry). AreCurrent s (d ∷ h) l) (sym ended.2) (are_over s h (End pass ended.0) l tt refl (λ role key. refl) all)

gone_found : (s : Setting) (h k : List Entry) (pass : ℕ) (answer : Stepped) (l m : List Opening) → IsLegal s h → (k ≡ h) ⊎ (IsSome (told_order answer) ⊎ ((e : Entry) × IsOfPass s h pass e × (k ≡ e ∷ h))) → (IsSome (told_order answer) → m ≡ [])
    → ((s : Setting) (h : List Entry) → AreCurrent s h l → AreCurrent s h m) → AreCurrent s h l → AreCurrent s k m
gone_found s h k pass answer l m legal (inl same) forgets fewer all = fewer s k (subst (λ (g : List Entry). AreCurrent s g l) (sym same) all)
gone_found s h k pass answer l m legal (inr (inl asks)) forgets fewer all = subst (λ (x : List Opening). AreCurrent s k x) (sym (forgets asks)) (All-nil (IsCurrent s k))
gone_found s h k pass answer l m legal (inr (inr grown)) forgets fewer all = fewer s k (subst (λ (g : List Entry). AreCurrent s g l) (sym grown.2) (of_pass_found s h pass grown.0 l legal grown.1 all))

-- a pass that has nothing to do makes no call
calls_by : (stage : Stage) (does : Act) (after : Order → Value → Option Call) (call : Call) → stage ≡ Fresh → acts.Nothing ≡ does → IsNextCall stage does after call → ⊥
calls_by stage does after call fresh idle may = subst (λ (t : Stage). IsNextCall t acts.Nothing after call) fresh (subst (λ (a : Act). IsNextCall stage a after call) (sym idle) may)

never_calls : (s : Setting) (h : List Entry) (pass : ℕ) (call : Call) → IsFirstAct s h pass acts.Nothing → MayCall s h (open_pass s h pass) call → ⊥
never_calls s h pass call first may =
    let p : OpenPass = first.0 in
    calls_by p.stage (act_of s h p) (after_of p) call first.1.fresh first.1.acts (subst (λ (o : Option OpenPass). MayCall s h o call) first.1.opened may)

idle_ends : (s : Setting) (h : List Entry) (pass n : ℕ) (e : Entry) → IsFirstAct s h pass acts.Nothing → IsOfPass s h pass e → HasNoneBefore (IsBehindInSome s h) n → HasNoneBefore (IsBehindInSome s (e ∷ h)) n
idle_ends s h pass n e first (inl called) told = absurd (never_calls s h pass called.0 first called.1)
idle_ends s h pass n e first (inr ended) told =
    subst (λ (d : Entry). HasNoneBefore (IsBehindInSome s (d ∷ h)) n) (sym ended.2) (none_over s h (End pass ended.0) n (λ role kind low b. ended_behind s h pass ended.0 role kind b) told)

gone_told : (s : Setting) (h k : List Entry) (pass : ℕ) (answer : Stepped) (n : ℕ) → (k ≡ h) ⊎ (IsSome (told_order answer) ⊎ ((e : Entry) × IsOfPass s h pass e × (k ≡ e ∷ h))) → (IsSome (told_order answer) → n ≡ 0)
    → IsFirstAct s h pass acts.Nothing → HasNoneBefore (IsBehindInSome s h) n → HasNoneBefore (IsBehindInSome s k) n
gone_told s h k pass answer n (inl same) forgets first told = subst (λ (g : List Entry). HasNoneBefore (IsBehindInSome s g) n) (sym same) told
gone_told s h k pass answer n (inr (inl asks)) forgets first told = none_at_first (IsBehindInSome s k) n (forgets asks)
gone_told s h k pass answer n (inr (inr grown)) forgets first told = subst (λ (g : List Entry). HasNoneBefore (IsBehindInSome s g) n) (sym grown.2) (idle_ends s h pass n grown.0 first grown.1 told)

-- the act of the newest pass is that of this one
nothing_first : (s : Setting) (h : List Entry) (pass named : ℕ) (does : Option Act) → does ≡ Some acts.Nothing → (IsSome does → IsNewestPass s h pass named) → IfSome does (IsFirstAct s h (begun s h)) → IsFirstAct s h pass acts.Nothing
nothing_first s h pass named does is newest first =
    let here : IsNewestPass s h pass named = newest (subst (λ (o : Option Act). IsSome o) (sym is) refl) in
    subst (λ (n : ℕ). IsFirstAct s h n acts.Nothing) (sym here.newest) (subst (λ (o : Option Act). IfSome o (IsFirstAct s h (begun s h))) is first)

gone_place : (s : Setting) (h k : List Entry) (pass named : ℕ) (answer : Stepped) (does : Option Act) (idle : Bool) (m n : ℕ) → (k ≡ h) ⊎ (IsSome (told_order answer) ⊎ ((e : Entry) × IsOfPass s h pass e × (k ≡ e ∷ h))) → (IsSome (told_order answer) → n ≡ 0)
    → (idle ≡ true → does ≡ Some acts.Nothing) → (IsSome does → IsNewestPass s h pass named) → IfSome does (IsFirstAct s h (begun s h)) → (n ≡ 0) ⊎ ((idle ≡ true) × (n ≡ m)) → HasNoneBefore (IsBehindInSome s h) m → HasNoneBefore (IsBehindInSome s k) n
gone_place s h k pass named answer does idle m n grown forgets is newest first (inl none) told = none_at_first (IsBehindInSome s k) n none
gone_place s h k pass named answer does idle m n grown forgets is newest first (inr kept) told =
    gone_told s h k pass answer n grown forgets (nothing_first s h pass named does (is kept.0) newest first) (subst (λ (x : ℕ). HasNoneBefore (IsBehindInSome s h) x) (sym kept.1) told)

pub kept_gone : (old new : Seen) (pass named : ℕ) (answer : Stepped) (does : Option Act) (idle : Bool) (before after : Kept) → on IsRun old → new.scenario ≡ old.scenario → on Leaves old (moves.Next pass named) answer new.history → on IsKeptRight old before
    → (idle ≡ true → does ≡ Some acts.Nothing) → (IsSome does → on IsNewestPass old pass named) → IfSome does (on IsFirstAct old (on begun old)) → (after.told ≡ 0) ⊎ ((idle ≡ true) × (after.told ≡ before.told)) → after.act ≡ None
    → (IsSome (told_order answer) → (after.told ≡ 0) × (after.looked.items ≡ [])) → ((s : Setting) (h : List Entry) → AreCurrent s h before.looked.items → AreCurrent s h after.looked.items) → on IsKeptRight new after
kept_gone old new pass named answer does idle before after run same leaves right is newest first place none forgets fewer =
    let s = setting_of old.scenario in
    let grown = gone_leaves s old.history new.history pass named answer leaves in
    record {
      told = on_new (λ s h. HasNoneBefore (IsBehindInSome s h) after.told) old new same
          (gone_place s old.history new.history pass named answer does idle before.told after.told grown (λ asks. (forgets asks).0) is newest first place right.told);
      act = subst (λ (a : Option Act). IfSome a (on IsFirstAct new (on begun new))) (sym none) tt;
      looked = on_new (λ s h. AreCurrent s h after.looked.items) old new same
          (gone_found s old.history new.history pass answer before.looked.items after.looked.items run.legal grown (λ asks. (forgets asks).1) fewer right.looked);
    }

-- ---- a move that is not made

pub kept_same : (old new : Seen) (before after : Kept) → new ≡ old → on IsKeptRight old before → after.told ≡ before.told → after.act ≡ None → ((s : Setting) (h : List Entry) → AreCurrent s h before.looked.items → AreCurrent s h after.looked.items) → on IsKeptRight new after
kept_same old new before after same right told none fewer = record {
  told = subst (λ (w : Seen). HasNoneBefore (on IsBehindInSome w) after.told) (sym same) (subst (λ (n : ℕ). HasNoneBefore (on IsBehindInSome old) n) (sym told) right.told);
  act = subst (λ (a : Option Act). IfSome a (on IsFirstAct new (on begun new))) (sym none) tt;
  looked = subst (λ (w : Seen). on AreCurrent w after.looked.items) (sym same) (fewer (setting_of old.scenario) old.history right.looked);
}

-- ---- what searches note

pub kept_noted : (w : Seen) (before after : Kept) (o : Opening) → after.told ≡ before.told → after.act ≡ before.act → ((s : Setting) (h : List Entry) → AreCurrent s h before.looked.items → IsCurrent s h o → AreCurrent s h after.looked.items) → on IsCurrent w o → on IsKeptRight w before → on IsKeptRight w after
kept_noted w before after o told does more found right = record {
  told = subst (λ (n : ℕ). HasNoneBefore (on IsBehindInSome w) n) (sym told) right.told;
  act = subst (λ (a : Option Act). IfSome a (on IsFirstAct w (on begun w))) (sym does) right.act;
  looked = more (setting_of w.scenario) w.history right.looked found;
}

pub kept_taken : (w : Seen) (before after : Kept) → after.told ≡ before.told → after.act ≡ before.act → ((s : Setting) (h : List Entry) → AreCurrent s h before.looked.items → AreCurrent s h after.looked.items) → on IsKeptRight w before → on IsKeptRight w after
kept_taken w before after told does fewer right = record {
  told = subst (λ (n : ℕ). HasNoneBefore (on IsBehindInSome w) n) (sym told) right.told;
  act = subst (λ (a : Option Act). IfSome a (on IsFirstAct w (on begun w))) (sym does) right.act;
  looked = fewer (setting_of w.scenario) w.history right.looked;
}

-- the place of the first role that is behind
abbrev pub place_of : Option Delivery → ℕ
place_of None = 8
place_of (Some d) = role_rank d.role

pub found_pushed : (s : Setting) (h : List Entry) (b : Bool) (l m : List Opening) (o : Opening) → m ≡ (if b then l ++ o ∷ [] else l) → AreCurrent s h l → IsCurrent s h o → AreCurrent s h m
found_pushed s h true l m o same all one = subst (λ (x : List Opening). AreCurrent s h x) (sym same) (All-push (IsCurrent s h) l o all one)
found_pushed s h false l m o same all one = subst (λ (x : List Opening). AreCurrent s h x) (sym same) all

-- ---- by the answer

pub told_by_answer : (old new : Seen) (role : Role) (kind : Kind) (to : ℕ) (r : Result Stepped AllocError) (before after : Kept) → new.scenario ≡ old.scenario → IfOk r (λ answer. on Leaves old (moves.Deliver role kind to) answer new.history) → OnErr r (new ≡ old) → on IsKeptRight old before
    → after.told ≤ before.told → after.told ≤ role_rank role → after.act ≡ None → after.looked.items ≡ [] → on IsKeptRight new after
told_by_answer old new role kind to (Ok answer) before after same leaves failed right below up does looked = kept_told old new role kind to answer before after same leaves right below up does looked
told_by_answer old new role kind to (Err lack) before after same leaves failed right below up does looked = record {
  told = subst (λ (w : Seen). HasNoneBefore (on IsBehindInSome w) after.told) (sym failed) (none_fewer (on IsBehindInSome old) after.told before.told below right.told);
  act = subst (λ (a : Option Act). IfSome a (on IsFirstAct new (on begun new))) (sym does) tt;
  looked = subst (λ (l : List Opening). on AreCurrent new l) (sym looked) (All-nil (on IsCurrent new));
}

-- an act is known only of the newest pass
pub some_only_if : (b : Bool) (does o : Option Act) → o ≡ (if b then does else None) → IsSome o → b ≡ true
some_only_if true does o is some = refl
some_only_if false does o is some = absurd (let none : IsSome {T = Act} None = subst (λ (x : Option Act). IsSome x) is some in cc none)

pub first_only_if : (P : Act → Type 0) (b : Bool) (does o : Option Act) → o ≡ (if b then does else None) → IfSome does P → IfSome o P
first_only_if P true does o is first = subst (λ (x : Option Act). IfSome x P) (sym is) first
first_only_if P false does o is first = subst (λ (x : Option Act). IfSome x P) (sym is) tt
