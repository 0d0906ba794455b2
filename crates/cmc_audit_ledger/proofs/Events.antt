-- What is kept goes on with each kind of entry.
use Rattle.std.proofs.Common.{◌≡◌, ◌==◌, ℕ, ℤ, ◌+◌, ◌≤◌, ◌<◌, List, ◌∷◌, length, Bool, true, false, Option, Some, None, refl, sym, ap, subst, ◌∙◌, arith}
use Rattle.std.proofs.lemmas.Bool.Decides.{nat_tests}
use Rattle.std.specs.Prelude.{if◌then◌else◌, option_map, ◌||◌, ◌&&◌, nat_le}
use Rattle.cmc_meta.specs.declared.key.Key.{Key}
use Rattle.cmc_meta.specs.declared.key.Kind.{Kind}
use Rattle.cmc_meta.specs.declared.key.Kind.TheVariants as kinds
use Rattle.cmc_objects.specs.declared.role.Role.{Role}
use Rattle.cmc_objects.specs.declared.orders.Order.{Order}
use Rattle.cmc_objects.specs.declared.entry.Cause.{Cause}
use Rattle.cmc_objects.specs.declared.entry.Positions.{Positions}
use Rattle.cmc_objects.specs.declared.orders.Signing.{Signing}
use Rattle.cmc_objects.specs.declared.entry.Who.{Who}
use Rattle.cmc_objects.specs.declared.entry.Who.TheVariants.{User, Pass}
use Rattle.cmc_objects.specs.declared.call.Call.{Call}
use Rattle.cmc_objects.specs.declared.call.Reply.{Reply}
use Rattle.cmc_objects.specs.declared.entry.Entry.{Entry}
use Rattle.cmc_objects.specs.declared.entry.Entry.TheVariants as entries
use Rattle.cmc_objects.specs.Requests.{is_run_time}
use Rattle.cmc_pass.specs.declared.value.Value.TheVariants as values
use Rattle.cmc_model.specs.declared.write.Write.{Write}
use Rattle.cmc_model.specs.Replies.{State, is_accepted, settled, state_after}
use Rattle.cmc_model.specs.Histories.{Setting, role_eq, moment, state}
use Rattle.cmc_model.specs.Objects.{Objects}
use Rattle.cmc_model.specs.Writes.{writes, write_of, contents, of_kind, oldest}
use Rattle.cmc_model.proofs.Writes.{oldest-all, oldest-beyond}
use Rattle.cmc_store.specs.Kept.{Kept}
use Rattle.cmc_rules.specs.declared.progress.OpenPass.{OpenPass}
use Rattle.cmc_rules.specs.Positions.{position, position_of, is_informer}
use Rattle.cmc_rules.specs.Views.{Caches, views, views_in}
use Rattle.cmc_rules.specs.Passes.{called, new_pass, stage_after, stage_given}
use Rattle.cmc_rules.specs.declared.progress.Stage.{Stage}
use Rattle.cmc_rules.specs.declared.progress.Stage.TheVariants.{Asked}
use Rattle.cmc_audit_state.specs.declared.row.Row.{Row}
use Rattle.cmc_audit_state.specs.declared.row.Version.{Version}
use Rattle.cmc_audit_state.specs.declared.standings.Standing.{Standing}
use Rattle.cmc_audit_state.specs.Standings.{standing_of}
use Rattle.cmc_audit_state.specs.Heard.{is_by, finds, writes_lasting, is_served, judged_version, is_about}
use Rattle.cmc_audit_state.specs.Journaled.{cached}
use Rattle.cmc_audit_state.specs.OpenRows.{Opened, open_row_at, unless_role, with_asked, IsToldAt}
use Rattle.cmc_audit_ledger.specs.declared.ledger.Ledger.{Ledger}
use Rattle.cmc_audit_ledger.specs.EntryCounts.{entry_counted}
use Rattle.cmc_audit_ledger.specs.Starts.{MovesPosition, Starts, Stops, IsFirst}
use Rattle.cmc_audit_ledger.specs.CallRows.{HasBegun, ReadsSeen, ReadsBy, RowsAfter, saved_if, read_if}
use Rattle.cmc_audit_ledger.specs.Ledgers.{said, IsRow, IsRowOf, reached, IsLedgerOf}
use Rattle.cmc_audit_ledger.proofs.Rows.{gone_on, closed, stopped, asked_at, told_at, grown, saved_at, read_at, FindsWhat}

-- ---- entries that change nothing that is kept, but their count

pub scripted : (s : Setting) (h : List Entry) (l : Ledger) (step : ℕ) → IsLedgerOf s h l → IsLedgerOf s (entries.Script step ∷ h) (entry_counted l)
scripted s h l step is = record {
  faults = is.faults;
  state = is.state;
  writes = is.writes;
  moment = is.moment;
  in_run = is.in_run;
  window = is.window;
  runs = is.runs;
  told = is.told;
  begun = is.begun;
  rows = is.rows;
  unheard = is.unheard;
  calls_low = omega (arith, is.calls_low);
  begun_low = omega (arith, is.begun_low);
}

pub made : (s : Setting) (h : List Entry) (l : Ledger) (pass : ℕ) (key : List ℕ) → IsLedgerOf s h l → IsLedgerOf s (entries.Made pass key ∷ h) (entry_counted l)
made s h l pass key is = record {
  faults = is.faults;
  state = is.state;
  writes = is.writes;
  moment = is.moment;
  in_run = is.in_run;
  window = is.window;
  runs = is.runs;
  told = is.told;
  begun = is.begun;
  rows = λ n. gone_on (n == pass) (writes s h) (λ v. (said s h).found n v) ((said s h).saved n) ((said s h).asked n) (λ v. (said s h).approved n v) (λ q. stage_given (values.Made key) q.stage) (open_row_at l.passes n) ((said s h).opened n) (is.rows n);
  unheard = is.unheard;
  calls_low = omega (arith, is.calls_low);
  begun_low = omega (arith, is.begun_low);
}

pub signed : (s : Setting) (h : List Entry) (l : Ledger) (pass : ℕ) (signature : List ℕ) → IsLedgerOf s h l → IsLedgerOf s (entries.Signed pass signature ∷ h) (entry_counted l)
signed s h l pass signature is = record {
  faults = is.faults;
  state = is.state;
  writes = is.writes;
  moment = is.moment;
  in_run = is.in_run;
  window = is.window;
  runs = is.runs;
  told = is.told;
  begun = is.begun;
  rows = λ n. gone_on (n == pass) (writes s h) (λ v. (said s h).found n v) ((said s h).saved n) ((said s h).asked n) (λ v. (said s h).approved n v) (λ q. stage_given (values.Signed signature) q.stage) (open_row_at l.passes n) ((said s h).opened n) (is.rows n);
  unheard = is.unheard;
  calls_low = omega (arith, is.calls_low);
  begun_low = omega (arith, is.begun_low);
}

pub answered : (s : Setting) (h : List Entry) (l : Ledger) (pass : ℕ) (answer : Signing) → IsLedgerOf s h l → IsLedgerOf s (entries.Answered pass answer ∷ h) (entry_counted l)
answered s h l pass answer is = record {
  faults = is.faults;
  state = is.state;
  writes = is.writes;
  moment = is.moment;
  in_run = is.in_run;
  window = is.window;
  runs = is.runs;
  told = is.told;
  begun = is.begun;
  rows = λ n. gone_on (n == pass) (writes s h) (λ v. (said s h).found n v) ((said s h).saved n) ((said s h).asked n) (λ v. (said s h).approved n v) (λ q. stage_given (values.Answered answer) q.stage) (open_row_at l.passes n) ((said s h).opened n) (is.rows n);
  unheard = is.unheard;
  calls_low = omega (arith, is.calls_low);
  begun_low = omega (arith, is.begun_low);
}

-- ---- moments, and what roles are told

pub ticked : (s : Setting) (h : List Entry) (l : Ledger) (now : ℤ) → is_run_time now ≡ true → IsLedgerOf s h l → IsLedgerOf s (entries.Tick now ∷ h) (record (entry_counted l) { moment = now })
ticked s h l now run is = record {
  faults = is.faults;
  state = is.state;
  writes = is.writes;
  moment = refl;
  in_run = run;
  window = is.window;
  runs = is.runs;
  told = is.told;
  begun = is.begun;
  rows = is.rows;
  unheard = is.unheard;
  calls_low = omega (arith, is.calls_low);
  begun_low = omega (arith, is.begun_low);
}

told_as : (b : Bool) (to old p : ℕ) → old ≡ p → (if b then to else old) ≡ (if b then to else p)
told_as true to old p same = refl
told_as false to old p same = same

pub delivered : (s : Setting) (h : List Entry) (l : Ledger) (new : List Standing) (role : Role) (kind : Kind) (to : ℕ) → MovesPosition role kind to l.standings new → IsLedgerOf s h l
    → IsLedgerOf s (entries.Deliver role kind to ∷ h) (record (entry_counted l) { standings = new })
delivered s h l new role kind to tells is = record {
  faults = is.faults;
  state = is.state;
  writes = is.writes;
  moment = is.moment;
  in_run = is.in_run;
  window = is.window;
  runs = λ r. (tells r).0 ∙ is.runs r;
  told = λ r k. (tells r).1 k ∙ told_as (is_informer role kind r k) to (position_of k (standing_of l.standings r).told) (position h r k) (is.told r k);
  begun = is.begun;
  rows = is.rows;
  unheard = is.unheard;
  calls_low = omega (arith, is.calls_low);
  begun_low = omega (arith, is.begun_low);
}

pub listed : (s : Setting) (h : List Entry) (l : Ledger) (new : List Standing) (role : Role) (kind : Kind) (to : ℕ) → MovesPosition role kind to l.standings new → IsLedgerOf s h l
    → IsLedgerOf s (entries.List role kind to ∷ h) (record (entry_counted l) { standings = new })
listed s h l new role kind to tells is = record {
  faults = is.faults;
  state = is.state;
  writes = is.writes;
  moment = is.moment;
  in_run = is.in_run;
  window = is.window;
  runs = λ r. (tells r).0 ∙ is.runs r;
  told = λ r k. (tells r).1 k ∙ told_as (is_informer role kind r k) to (position_of k (standing_of l.standings r).told) (position h r k) (is.told r k);
  begun = is.begun;
  rows = is.rows;
  unheard = is.unheard;
  calls_low = omega (arith, is.calls_low);
  begun_low = omega (arith, is.begun_low);
}

run_as : (b : Bool) (to old p : Bool) → old ≡ p → (if b then to else old) ≡ (if b then to else p)
run_as true to old p same = refl
run_as false to old p same = same

pub started : (s : Setting) (h : List Entry) (l : Ledger) (new : List Standing) (role : Role) (at : ℕ) → Starts role at l.standings new → IsLedgerOf s h l
    → IsLedgerOf s (entries.Start role at ∷ h) (record (entry_counted l) { standings = new })
started s h l new role at starts is = record {
  faults = is.faults;
  state = is.state;
  writes = is.writes;
  moment = is.moment;
  in_run = is.in_run;
  window = is.window;
  runs = λ r. (starts r).0 ∙ run_as (role_eq role r) true (standing_of l.standings r).running ((said s h).runs r) (is.runs r);
  told = λ r k. (starts r).1 k ∙ told_as (role_eq role r) at (position_of k (standing_of l.standings r).told) (position h r k) (is.told r k);
  begun = is.begun;
  rows = is.rows;
  unheard = is.unheard;
  calls_low = omega (arith, is.calls_low);
  begun_low = omega (arith, is.begun_low);
}

pub halted : (s : Setting) (h : List Entry) (l : Ledger) (new : List Standing) (passes : Opened) (role : Role) → Stops role l.standings new
    → passes.begun ≡ l.passes.begun → ((n : ℕ) → open_row_at passes n ≡ unless_role role (open_row_at l.passes n)) → IsLedgerOf s h l
    → IsLedgerOf s (entries.Stop role ∷ h) (record (entry_counted l) { standings = new; passes = passes })
halted s h l new passes role stops begun rows is = record {
  faults = is.faults;
  state = is.state;
  writes = is.writes;
  moment = is.moment;
  in_run = is.in_run;
  window = is.window;
  runs = λ r. (stops r).0 ∙ run_as (role_eq role r) false (standing_of l.standings r).running ((said s h).runs r) (is.runs r);
  told = λ r k. (stops r).1 k ∙ is.told r k;
  begun = begun ∙ is.begun;
  rows = λ n. subst (λ (x : Option Row). IsRowOf (writes s h) (λ v. (said s h).found n v) ((said s h).saved n) ((said s h).asked n) (λ v. (said s h).approved n v) x ((said s (entries.Stop role ∷ h)).opened n)) (sym (rows n)) (stopped role (writes s h) (λ v. (said s h).found n v) ((said s h).saved n) ((said s h).asked n) (λ v. (said s h).approved n v) (open_row_at l.passes n) ((said s h).opened n) (is.rows n));
  unheard = is.unheard;
  calls_low = omega (arith, is.calls_low);
  begun_low = omega (arith, is.begun_low);
}

-- ---- passes

pub ended : (s : Setting) (h : List Entry) (l : Ledger) (passes : Opened) (pass : ℕ) (cause : Cause) → passes.begun ≡ l.passes.begun
    → ((n : ℕ) → open_row_at passes n ≡ (if n == pass then None else open_row_at l.passes n)) → IsLedgerOf s h l → IsLedgerOf s (entries.End pass cause ∷ h) (record (entry_counted l) { passes = passes })
ended s h l passes pass cause begun rows is = record {
  faults = is.faults;
  state = is.state;
  writes = is.writes;
  moment = is.moment;
  in_run = is.in_run;
  window = is.window;
  runs = is.runs;
  told = is.told;
  begun = begun ∙ is.begun;
  rows = λ n. subst (λ (x : Option Row). IsRowOf (writes s h) (λ v. (said s (entries.End pass cause ∷ h)).found n v) ((said s (entries.End pass cause ∷ h)).saved n) ((said s (entries.End pass cause ∷ h)).asked n) (λ v. (said s (entries.End pass cause ∷ h)).approved n v) x ((said s (entries.End pass cause ∷ h)).opened n)) (sym (rows n)) (closed (n == pass) (writes s h) (λ v. (said s h).found n v) ((said s h).saved n) ((said s h).asked n) (λ v. (said s h).approved n v) (open_row_at l.passes n) ((said s h).opened n) (is.rows n));
  unheard = is.unheard;
  calls_low = omega (arith, is.calls_low);
  begun_low = omega (arith, is.begun_low);
}

-- a pass that has begun is none of those to come
apart : (n pass begun : ℕ) → pass ≤ begun → begun < n → (n == pass) ≡ false
apart n pass begun low high = grind (arith, nat_tests)

unasked : (b : Bool) (x y : Option Version) → b ≡ false → y ≡ None → (if b then x else y) ≡ None
unasked true x y off none = absurd (cc off)
unasked false x y off none = none

pub asked_on : (s : Setting) (h : List Entry) (l : Ledger) (passes : Opened) (pass : ℕ) (order : Order) → pass ≤ l.passes.begun → passes.begun ≡ l.passes.begun
    → ((n : ℕ) → open_row_at passes n ≡ (if n == pass then option_map (with_asked (judged_version order)) (open_row_at l.passes n) else open_row_at l.passes n)) → IsLedgerOf s h l
    → IsLedgerOf s (entries.Ask pass order ∷ h) (record (entry_counted l) { passes = passes })
asked_on s h l passes pass order low begun rows is = record {
  faults = is.faults;
  state = is.state;
  writes = is.writes;
  moment = is.moment;
  in_run = is.in_run;
  window = is.window;
  runs = is.runs;
  told = is.told;
  begun = begun ∙ is.begun;
  rows = λ n. subst (λ (x : Option Row). IsRowOf (writes s h) (λ v. (said s (entries.Ask pass order ∷ h)).found n v) ((said s (entries.Ask pass order ∷ h)).saved n) ((said s (entries.Ask pass order ∷ h)).asked n) (λ v. (said s (entries.Ask pass order ∷ h)).approved n v) x ((said s (entries.Ask pass order ∷ h)).opened n)) (sym (rows n)) (asked_at (n == pass) (writes s h) (λ v. (said s h).found n v) ((said s h).saved n) ((said s h).asked n) (judged_version order) (λ v. (said s h).approved n v) (open_row_at l.passes n) ((said s (entries.Ask pass order ∷ h)).opened n) (gone_on (n == pass) (writes s h) (λ v. (said s h).found n v) ((said s h).saved n) ((said s h).asked n) (λ v. (said s h).approved n v) (λ q. Asked order) (open_row_at l.passes n) ((said s h).opened n) (is.rows n)));
  unheard = λ n above. let u = is.unheard n above in record { not_found = u.not_found; not_saved = u.not_saved; not_asked = unasked (n == pass) (judged_version order) ((said s h).asked n) (apart n pass (said s h).begun (omega (arith, low, is.begun)) above) u.not_asked; not_approved = u.not_approved };
  calls_low = omega (arith, is.calls_low);
  begun_low = omega (arith, is.begun_low);
}

unapproved : (b c y : Bool) → b ≡ false → y ≡ false → ((b && c) || y) ≡ false
unapproved true c y off none = absurd (cc off)
unapproved false c y off none = none

-- told: the pass is told yes
pub judged_on : (s : Setting) (h : List Entry) (l : Ledger) (passes : Opened) (pass : ℕ) → pass ≤ l.passes.begun → passes.begun ≡ l.passes.begun
    → ((n : ℕ) → IsToldAt (n == pass) (open_row_at l.passes n) (open_row_at passes n)) → IsLedgerOf s h l
    → IsLedgerOf s (entries.Judged pass true ∷ h) (record (entry_counted l) { passes = passes })
judged_on s h l passes pass low begun told is = record {
  faults = is.faults;
  state = is.state;
  writes = is.writes;
  moment = is.moment;
  in_run = is.in_run;
  window = is.window;
  runs = is.runs;
  told = is.told;
  begun = begun ∙ is.begun;
  rows = λ n. told_at (n == pass) (writes s h) (λ v. (said s h).found n v) ((said s h).saved n) ((said s h).asked n) (λ v. (said s h).approved n v) (open_row_at l.passes n) (open_row_at passes n) ((said s (entries.Judged pass true ∷ h)).opened n) (told n) (gone_on (n == pass) (writes s h) (λ v. (said s h).found n v) ((said s h).saved n) ((said s h).asked n) (λ v. (said s h).approved n v) (λ q. stage_given (values.Judged true) q.stage) (open_row_at l.passes n) ((said s h).opened n) (is.rows n));
  unheard = λ n above. let u = is.unheard n above in record { not_found = u.not_found; not_saved = u.not_saved; not_asked = u.not_asked; not_approved = λ v. unapproved (n == pass) (is_about v ((said s h).asked n)) ((said s h).approved n v) (apart n pass (said s h).begun (omega (arith, low, is.begun)) above) (u.not_approved v) };
  calls_low = omega (arith, is.calls_low);
  begun_low = omega (arith, is.begun_low);
}

none_told : (a b y : Bool) → y ≡ ((a && (false && b)) || y)
none_told true b y = refl
none_told false b y = refl

pub refused : (s : Setting) (h : List Entry) (l : Ledger) (pass : ℕ) → IsLedgerOf s h l → IsLedgerOf s (entries.Judged pass false ∷ h) (entry_counted l)
refused s h l pass is = record {
  faults = is.faults;
  state = is.state;
  writes = is.writes;
  moment = is.moment;
  in_run = is.in_run;
  window = is.window;
  runs = is.runs;
  told = is.told;
  begun = is.begun;
  rows = λ n. subst (λ (y : Version → Bool). IsRowOf (writes s h) (λ v. (said s h).found n v) ((said s h).saved n) ((said s h).asked n) y (open_row_at l.passes n) ((said s (entries.Judged pass false ∷ h)).opened n)) (λ i v. none_told (n == pass) (is_about v ((said s h).asked n)) ((said s h).approved n v) i) (gone_on (n == pass) (writes s h) (λ v. (said s h).found n v) ((said s h).saved n) ((said s h).asked n) (λ v. (said s h).approved n v) (λ q. stage_given (values.Judged false) q.stage) (open_row_at l.passes n) ((said s h).opened n) (is.rows n));
  unheard = λ n above. let u = is.unheard n above in record { not_found = u.not_found; not_saved = u.not_saved; not_asked = u.not_asked; not_approved = λ v. sym (none_told (n == pass) (is_about v ((said s h).asked n)) ((said s h).approved n v)) ∙ u.not_approved v };
  calls_low = omega (arith, is.calls_low);
  begun_low = omega (arith, is.begun_low);
}

-- ---- a pass begins

abbrev reach_of : (Kind → ℕ) → Positions
reach_of f = record { certificates = f kinds.Certificate; requests = f kinds.CertificateRequest; secrets = f kinds.Secret }

-- it sees what the writes up to the positions of its role leave, and not more of them than there are
abbrev pub IsReach : ℕ → (Kind → ℕ) → (Kind → ℕ) → Type 0
IsReach count told reach = (kind : Kind) → reach kind ≡ (if nat_le (told kind) count then told kind else count)

low_by : (b : Bool) (p n : ℕ) → nat_le p n ≡ b → (if b then p else n) ≤ n
low_by true p n e = grind (arith, nat_tests)
low_by false p n e = omega arith

same_by : (b : Bool) (p : ℕ) (ws : List Write) → nat_le p (length ws) ≡ b → oldest (if b then p else length ws) ws ≡ oldest p ws
same_by true p ws e = refl
same_by false p ws e = oldest-all ws ∙ sym (oldest-beyond p ws (grind (arith, nat_tests)))

reach_low : (ws : List Write) (told reach : ℕ) → reach ≡ (if nat_le told (length ws) then told else length ws) → reach ≤ length ws
reach_low ws told reach is = let low = low_by (nat_le told (length ws)) told (length ws) refl in omega (arith, low, is)

reach_same : (kind : Kind) (ws : List Write) (told reach p : ℕ) → reach ≡ (if nat_le told (length ws) then told else length ws) → told ≡ p → cached kind ws p ≡ cached kind ws reach
reach_same kind ws told reach p is same =
    ap (λ (l : List Write). contents (of_kind kind l)) (sym (ap (λ n. oldest n ws) is ∙ same_by (nat_le told (length ws)) told ws refl ∙ ap (λ n. oldest n ws) same))

abbrev caches_with : Objects → Objects → Objects → Caches
caches_with a b c = record { certificates = a; requests = b; secrets = c }

caches_by : (a b c x y z : Objects) → a ≡ x → b ≡ y → c ≡ z → caches_with a b c ≡ caches_with x y z
caches_by a b c x y z e f g = λ i. caches_with (e i) (f i) (g i)

-- the row of a pass that begins now
abbrev pub IsFirstRow : Ledger → Role → Key → Row → Type 0
IsFirstRow l role key row = IsFirst (standing_of l.standings role) (length l.journal) l.moment role key row

seen_first : (s : Setting) (h : List Entry) (l : Ledger) (role : Role) (key : Key) (row : Row) → IsFirstRow l role key row → IsLedgerOf s h l → views s h role key ≡ views_in row.role (reached (writes s h) row.reach) row.key
seen_first s h l role key row first is =
    let at : (kind : Kind) → cached kind (writes s h) (position h role kind) ≡ cached kind (writes s h) (position_of kind row.reach) =
    λ kind. reach_same kind (writes s h) (position_of kind (standing_of l.standings role).told) (position_of kind row.reach) (position h role kind)
    (subst (λ (ws : List Write). position_of kind row.reach ≡ (if nat_le (position_of kind (standing_of l.standings role).told) (length ws) then position_of kind (standing_of l.standings role).told else length ws)) is.writes (first.reach_is kind))
    (is.told role kind) in
    ap (λ (c : Caches). views_in role c key) (caches_by _ _ _ _ _ _ (at kinds.Certificate) (at kinds.CertificateRequest) (at kinds.Secret))
    ∙ ap (λ r. views_in r (reached (writes s h) row.reach) key) (sym first.role_is) ∙ ap (views_in row.role (reached (writes s h) row.reach)) (sym first.key_is)

first_low : (s : Setting) (h : List Entry) (l : Ledger) (role : Role) (key : Key) (row : Row) (kind : Kind) → IsFirstRow l role key row → IsLedgerOf s h l → position_of kind row.reach ≤ length (writes s h)
first_low s h l role key row kind first is =
    reach_low (writes s h) (position_of kind (standing_of l.standings role).told) (position_of kind row.reach)
    (subst (λ (ws : List Write). position_of kind row.reach ≡ (if nat_le (position_of kind (standing_of l.standings role).told) (length ws) then position_of kind (standing_of l.standings role).told else length ws)) is.writes (first.reach_is kind))

first_row : (s : Setting) (h : List Entry) (l : Ledger) (n : ℕ) (role : Role) (key : Key) (now : ℤ) (row : Row) → now ≡ moment s h → (said s h).begun < n → IsFirstRow l role key row → IsLedgerOf s h l
    → IsRow (writes s h) (λ v. (said s h).found n v) ((said s h).saved n) ((said s h).asked n) (λ v. (said s h).approved n v) row (new_pass role key (views s h role key) now)
first_row s h l n role key now row present above first is =
    let u = is.unheard n above in
    record {
      role = first.role_is;
      key = first.key_is;
      since = first.since_is ∙ is.moment ∙ sym present;
      in_run = ap is_run_time first.since_is ∙ is.in_run;
      certificates_low = first_low s h l role key row kinds.Certificate first is;
      requests_low = first_low s h l role key row kinds.CertificateRequest first is;
      secrets_low = first_low s h l role key row kinds.Secret first is;
      seen = seen_first s h l role key row first is;
      read = λ c at. first.not_read ∙ sym (u.not_found c.meta.version);
      saved_is = first.not_saved ∙ sym u.not_saved;
      asked_is = first.not_asked ∙ sym u.not_asked;
      approved_is = λ v. first.not_approved v ∙ sym (u.not_approved v);
    }

begun_at : (b : Bool) (ws : List Write) (f : ℕ → Bool) (s : Bool) (a : Option Version) (y : Version → Bool) (row : Row) (p : OpenPass) (x : Option Row) (q : Option OpenPass) → (b ≡ true → IsRow ws f s a y row p) → IsRowOf ws f s a y x q
    → IsRowOf ws f s a y (if b then Some row else x) (if b then Some p else q)
begun_at true ws f s a y row p x q new is = new refl
begun_at false ws f s a y row p x q new is = is

same_number : (n m : ℕ) → (n == m) ≡ true → n ≡ m
same_number n m e = grind (arith, nat_tests)

pub begun_on : (s : Setting) (h : List Entry) (l : Ledger) (passes : Opened) (pass : ℕ) (role : Role) (key : Key) (at : Positions) (now : ℤ) (row : Row)
    → pass ≡ l.passes.begun + 1 → now ≡ l.moment → IsFirstRow l role key row → passes.begun ≡ l.passes.begun + 1
    → ((n : ℕ) → open_row_at passes n ≡ (if n == l.passes.begun + 1 then Some row else open_row_at l.passes n)) → IsLedgerOf s h l
    → IsLedgerOf s (entries.Begin pass role key at now ∷ h) (record (entry_counted l) { passes = passes })
begun_on s h l passes pass role key at now row numbered present first begun rows is = record {
  faults = is.faults;
  state = is.state;
  writes = is.writes;
  moment = is.moment;
  in_run = is.in_run;
  window = is.window;
  runs = is.runs;
  told = is.told;
  begun = let e : l.passes.begun ≡ (said s h).begun = is.begun in omega (arith, begun, e);
  rows = λ n. subst (λ (x : Option Row). IsRowOf (writes s h) (λ v. (said s h).found n v) ((said s h).saved n) ((said s h).asked n) (λ v. (said s h).approved n v) x ((said s (entries.Begin pass role key at now ∷ h)).opened n)) (sym (rows n ∙ ap (λ m. if n == m then Some row else open_row_at l.passes n) (sym numbered))) (begun_at (n == pass) (writes s h) (λ v. (said s h).found n v) ((said s h).saved n) ((said s h).asked n) (λ v. (said s h).approved n v) row (new_pass role key (views s h role key) now) (open_row_at l.passes n) ((said s h).opened n) (λ e. first_row s h l n role key now row (present ∙ is.moment) (let m = same_number n pass e in omega (arith, m, numbered, is.begun)) first is) (is.rows n));
  unheard = λ n above. is.unheard n (omega (arith, above));
  calls_low = omega (arith, is.calls_low);
  begun_low = omega (arith, is.begun_low);
}

-- ---- a call

not_by : (who : Who) (n begun : ℕ) → HasBegun begun who → begun < n → is_by n who ≡ false
not_by User n begun low above = refl
not_by (Pass pass) n begun low above = apart n pass begun low above

unfound : (b c y : Bool) → b ≡ false → y ≡ false → ((b && c) || y) ≡ false
unfound true c y off none = absurd (cc off)
unfound false c y off none = none

reads_by : (own : Bool) (ws : List Write) (f : ℕ → Bool) (x : Option Row) (call : Call) (reply : Reply) (reads : Bool) → (own ≡ true → ReadsSeen ws x call reply reads)
    → FindsWhat ws f (λ v. (own && finds v call reply) || f v) (own && reads) x
reads_by true ws f None call reply reads seen = tt
reads_by true ws f (Some row) call reply reads seen = λ c at. ap (λ b. b || f c.meta.version) (seen refl c at)
reads_by false ws f None call reply reads seen = tt
reads_by false ws f (Some row) call reply reads seen = λ c at. refl

over_who : (n : ℕ) (who : Who) (ws : List Write) (f : ℕ → Bool) (s : Bool) (a : Option Version) (y : Version → Bool) (stage : OpenPass → Stage) (x : Option Row) (p : Option OpenPass) → IsRowOf ws f s a y x p
    → IsRowOf ws f s a y x (called n who stage p)
over_who n User ws f s a y stage x p is = is
over_who n (Pass pass) ws f s a y stage x p is = gone_on (n == pass) ws f s a y stage x p is

reads_own : (l : Ledger) (who : Who) (n : ℕ) (call : Call) (reply : Reply) (reads : Bool) → ReadsBy l.journal l.passes who call reply reads → is_by n who ≡ true → ReadsSeen l.journal (open_row_at l.passes n) call reply reads
reads_own l User n call reply reads seen on = absurd (cc on)
reads_own l (Pass pass) n call reply reads seen on = subst (λ m. ReadsSeen l.journal (open_row_at l.passes m) call reply reads) (sym (same_number n pass on)) seen

abbrev writes_after : ℤ → State → List Write → Call → Reply → List Write
writes_after now st ws call reply = if is_accepted reply then write_of now st (settled call reply) ∷ ws else ws

pub called_on : (s : Setting) (h : List Entry) (l : Ledger) (store : Kept) (ws : List Write) (passes : Opened) (who : Who) (call : Call) (reply : Reply) (reads : Bool)
    → HasBegun l.passes.begun who → ReadsBy l.journal l.passes who call reply reads
    → store ≡ record { faults = l.store.faults; state = state_after l.moment l.store.state call reply }
    → ws ≡ (if is_accepted reply then write_of l.moment l.store.state (settled call reply) ∷ l.journal else l.journal)
    → passes.begun ≡ l.passes.begun → RowsAfter l.passes passes who call reply reads → IsLedgerOf s h l
    → IsLedgerOf s (entries.Call who call reply ∷ h) (record (entry_counted l) { store = store; journal = ws; passes = passes })
called_on s h l store ws passes who call reply reads has seen stored wrote begun rows is = record {
  faults = ap (λ (k : Kept). k.faults) stored ∙ is.faults;
  state = ap (λ (k : Kept). k.state) stored ∙ ap (λ m. state_after m l.store.state call reply) is.moment ∙ ap (λ (x : State). state_after (moment s h) x call reply) is.state;
  writes = wrote ∙ ap (λ m. writes_after m l.store.state l.journal call reply) is.moment ∙ ap (λ (x : State). writes_after (moment s h) x l.journal call reply) is.state ∙ ap (λ (x : List Write). writes_after (moment s h) (state s h) x call reply) is.writes;
  moment = is.moment;
  in_run = is.in_run;
  window = is.window;
  runs = is.runs;
  told = is.told;
  begun = begun ∙ is.begun;
  rows = λ n.
      let own = is_by n who in
      let saves = writes_lasting call && is_served reply in
      let ws' : List Write = writes s h in
      let f : ℕ → Bool = λ v. (said s h).found n v in
      let g : ℕ → Bool = λ v. (own && finds v call reply) || f v in
      let y : Version → Bool = λ v. (said s h).approved n v in
      let x : Option Row = open_row_at l.passes n in
      let here : FindsWhat ws' f g (own && reads) x = subst (λ (q : List Write). FindsWhat q f g (own && reads) x) is.writes (reads_by own l.journal f x call reply reads (reads_own l who n call reply reads seen)) in
      let read = read_at (own && reads) ws' f g ((said s h).saved n) ((said s h).asked n) y x ((said s h).opened n) here (is.rows n) in
      let save = saved_at own saves ws' g ((said s h).saved n) ((said s h).asked n) y (read_if (own && reads) x) ((said s h).opened n) read in
      let grow = grown (is_accepted reply) (write_of (moment s h) (state s h) (settled call reply)) ws' g ((own && saves) || (said s h).saved n) ((said s h).asked n) y (saved_if (own && saves) (read_if (own && reads) x)) ((said s h).opened n) save in
      subst (λ (r : Option Row). IsRowOf (writes s (entries.Call who call reply ∷ h)) g ((own && saves) || (said s h).saved n) ((said s h).asked n) y r ((said s (entries.Call who call reply ∷ h)).opened n)) (sym (rows n))
      (over_who n who (writes s (entries.Call who call reply ∷ h)) g ((own && saves) || (said s h).saved n) ((said s h).asked n) y (stage_after s h call reply) (saved_if (own && saves) (read_if (own && reads) x)) ((said s h).opened n) grow);
  unheard = λ n above.
      let u = is.unheard n above in
      let off = not_by who n (said s h).begun (subst (λ b. HasBegun b who) is.begun has) above in
      record { not_found = λ v. unfound (is_by n who) (finds v call reply) ((said s h).found n v) off (u.not_found v); not_saved = unfound (is_by n who) (writes_lasting call && is_served reply) ((said s h).saved n) off u.not_saved; not_asked = u.not_asked; not_approved = u.not_approved };
  calls_low = omega (arith, is.calls_low);
  begun_low = omega (arith, is.begun_low);
}
