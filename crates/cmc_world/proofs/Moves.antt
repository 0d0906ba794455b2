-- Each entry keeps the queues of all roles.
use Rattle.std.proofs.Common.{◌≡◌, ℕ, ℤ, List, [], ◌∷◌, Option, Some, None, Bool, true, false, refl, ap, subst, ◌∙◌, int_le}
use Rattle.std.specs.Prelude.{◌&&◌}
use Rattle.std.proofs.lemmas.Bool.{and_parts}
use Rattle.cmc_meta.specs.declared.key.Key.{Key}
use Rattle.cmc_meta.specs.declared.key.Kind.{Kind}
use Rattle.cmc_meta.specs.Keys.{key_eq}
use Rattle.cmc_objects.specs.declared.entry.Cause.{Cause}
use Rattle.cmc_objects.specs.declared.entry.Entry.{Entry}
use Rattle.cmc_objects.specs.declared.entry.Entry.TheVariants.{Script, Call as Called, Deliver, List as Listed, Begin, Ask, Made, Signed, Answered, Judged, End, Stop, Start, Tick}
use Rattle.cmc_objects.specs.declared.entry.Positions.{Positions}
use Rattle.cmc_objects.specs.declared.role.Role.{Role}
use Rattle.cmc_objects.specs.Informers.{kind_of_work}
use Rattle.cmc_queue.specs.Queues.{row_of, ChangesRow, ChangesRows, Work}
use Rattle.cmc_queue.specs.declared.row.Row.{Row}
use Rattle.cmc_queue.specs.Rows.{is_free, no_row, ticked}
use Rattle.cmc_model.specs.Histories.{Setting, moment, role_eq, runs}
use Rattle.cmc_rules.specs.declared.progress.OpenPass.{OpenPass}
use Rattle.cmc_rules.specs.Causes.{MayEnd}
use Rattle.cmc_rules.specs.Legality.{IsLegal}
use Rattle.cmc_rules.specs.Memory.{ending_of, past}
use Rattle.cmc_rules.specs.Passes.{is_pass_of, open_pass}
use Rattle.cmc_rules.specs.Positions.{positions}
use Rattle.cmc_rules.specs.Views.{views}
use Rattle.cmc_moves.proofs.Sounds.{each_sound}
use Rattle.cmc_caches.specs.Affected.{is_among}
use Rattle.cmc_moves.specs.Quiet.{no_views}
use Rattle.cmc_waking.specs.Feeds.{row_begun, closed, started, row_delivered}
use Rattle.cmc_waking.specs.Queues.{queue_in, row_at, KeepsOthers}
use Rattle.cmc_waking.specs.WakeUps.{AreTended, IsTended, IsTimed}
use Rattle.cmc_waking.proofs.Entries.{tended_answered, tended_ask, tended_begun_other, tended_call, tended_delivered_other, tended_ended_other, tended_judged, tended_listed_other, tended_made, tended_script, tended_signed, tended_started_other, tended_stopped_other}
use Rattle.cmc_waking.proofs.Owners.{same_role, equal_roles}
use Rattle.cmc_waking.proofs.Rows.{are_same}
use Rattle.cmc_world.specs.Fed.{IsFed}
use Rattle.cmc_world.proofs.Served.{are_begun, are_delivered, are_ended, are_first, are_listed, are_started, are_stopped, are_ticked}

-- ---- no row changes

-- an entry that changes no row of a queue
abbrev pub IsSilent : Entry → Type 0
IsSilent (Script step) = Unit {0}
IsSilent (Called who call reply) = Unit {0}
IsSilent (Ask pass order) = Unit {0}
IsSilent (Made pass key) = Unit {0}
IsSilent (Signed pass signature) = Unit {0}
IsSilent (Answered pass answer) = Unit {0}
IsSilent (Judged pass approved) = Unit {0}
IsSilent other = ⊥

silent_row : (s : Setting) (h : List Entry) (e : Entry) (role : Role) (key : Key) (row : Row) → IsLegal s h → IsSilent e → IsTended s h role key row → IsTended s (e ∷ h) role key row
silent_row s h (Script step) role key row legal silent is = tended_script s h step role key row is
silent_row s h (Called who call reply) role key row legal silent is = tended_call s h who call reply role key row legal is
silent_row s h (Ask pass order) role key row legal silent is = tended_ask s h pass order role key row is
silent_row s h (Made pass file) role key row legal silent is = tended_made s h pass file role key row is
silent_row s h (Signed pass signature) role key row legal silent is = tended_signed s h pass signature role key row is
silent_row s h (Answered pass answer) role key row legal silent is = tended_answered s h pass answer role key row is
silent_row s h (Judged pass approved) role key row legal silent is = tended_judged s h pass approved role key row is
silent_row s h (Deliver role kind to) r key row legal silent is = absurd silent
silent_row s h (Listed role kind to) r key row legal silent is = absurd silent
silent_row s h (Begin pass role at told now) r key row legal silent is = absurd silent
silent_row s h (End pass cause) role key row legal silent is = absurd silent
silent_row s h (Stop role) r key row legal silent is = absurd silent
silent_row s h (Start role at) r key row legal silent is = absurd silent
silent_row s h (Tick now) role key row legal silent is = absurd silent

pub fed_silent : (s : Setting) (h : List Entry) (e : Entry) (queues : List Work) → IsLegal s h → IsSilent e → IsFed s h queues → IsFed s (e ∷ h) queues
unfolding IsFed
fed_silent s h e queues legal silent fed role =
    are_same s h (e ∷ h) role (λ key. row_at queues role key) (λ key. row_at queues role key) (λ key. refl) (λ key is. silent_row s h e role key (row_at queues role key) legal silent is) (fed role)

-- rows that are the same by history or by queues
pub fed_rows : (s : Setting) (h : List Entry) (old new : List Work) → ((role : Role) (key : Key) → row_at new role key ≡ row_at old role key) → IsFed s h old → IsFed s h new
unfolding IsFed
fed_rows s h old new each fed role =
    are_same s h h role (λ key. row_at old role key) (λ key. row_at new role key) (each role) (λ key is. is) (fed role)

-- ---- the queue of one role changes

pub fed_one : (s : Setting) (h g : List Entry) (role : Role) (old new : List Work) → KeepsOthers role old new → AreTended s g role (λ key. row_at new role key)
    → ((r : Role) → role_eq role r ≡ false → (key : Key) (row : Row) → IsTended s h r key row → IsTended s g r key row) → IsFed s h old → IsFed s g new
unfolding IsFed
fed_one s h g role old new others here elsewhere fed r = by (role_eq role r) refl where
  by : (b : Bool) → role_eq role r ≡ b → AreTended s g r (λ key. row_at new r key)
  by true is = subst (λ (x : Role). AreTended s g x (λ key. row_at new x key)) (same_role role r is) here
  by false is =
      are_same s h g r (λ key. row_at old r key) (λ key. row_at new r key) (λ key. ap (λ (q : Work). row_of q key) (others r is)) (λ key kept. elsewhere r is key (row_at old r key) kept) (fed r)

-- its rows
pub fed_of : (s : Setting) (h : List Entry) (role : Role) (queues : List Work) → IsFed s h queues → AreTended s h role (λ key. row_at queues role key)
unfolding IsFed
fed_of s h role queues fed = fed role

-- ---- at the beginning

pub fed_first : (s : Setting) (queues : List Work) → ((role : Role) (key : Key) → views s [] role key ≡ no_views) → ((role : Role) (key : Key) → row_at queues role key ≡ no_row) → IsFed s [] queues
unfolding IsFed
fed_first s queues unseen none role = are_first s role (λ key. row_at queues role key) (each_sound role) (none role) (unseen role)

-- ---- a role is told

pub fed_delivered : (s : Setting) (h : List Entry) (role : Role) (kind : Kind) (to : ℕ) (keys : List Key) (old new : List Work) → IsLegal s (Deliver role kind to ∷ h) → ((key : Key) → is_among keys key ≡ true → key.kind ≡ kind_of_work role)
    → ((key : Key) → is_among keys key ≡ false → views s (Deliver role kind to ∷ h) role key ≡ views s h role key) → ((key : Key) → row_at new role key ≡ row_delivered (is_among keys key) kind to (row_at old role key)) → KeepsOthers role old new
    → IsFed s h old → IsFed s (Deliver role kind to ∷ h) new
fed_delivered s h role kind to keys old new legal work same rows others fed =
    fed_one s h (Deliver role kind to ∷ h) role old new others
    (are_delivered s h role kind to (is_among keys) (λ key. row_at old role key) (λ key. row_at new role key) legal work same rows (fed_of s h role old fed))
    (λ r other key row is. tended_delivered_other s h role r kind to key row other is) fed

pub fed_listed : (s : Setting) (h : List Entry) (role : Role) (kind : Kind) (to : ℕ) (keys : List Key) (old new : List Work) → IsLegal s (Listed role kind to ∷ h) → ((key : Key) → is_among keys key ≡ true → key.kind ≡ kind_of_work role)
    → ((key : Key) → is_among keys key ≡ false → views s (Listed role kind to ∷ h) role key ≡ views s h role key) → ((key : Key) → row_at new role key ≡ row_delivered (is_among keys key) kind to (row_at old role key)) → KeepsOthers role old new
    → IsFed s h old → IsFed s (Listed role kind to ∷ h) new
fed_listed s h role kind to keys old new legal work same rows others fed =
    fed_one s h (Listed role kind to ∷ h) role old new others
    (are_listed s h role kind to (is_among keys) (λ key. row_at old role key) (λ key. row_at new role key) legal work same rows (fed_of s h role old fed))
    (λ r other key row is. tended_listed_other s h role r kind to key row other is) fed

-- ---- a pass begins and ends

neither : (a b : Bool) → a ≡ false → (a && b) ≡ false
neither true b off = absurd (cc off)
neither false b off = refl

pub fed_begun : (s : Setting) (h : List Entry) (pass : ℕ) (role : Role) (key : Key) (at : Positions) (now : ℤ) (next : Option ℤ) (old new : List Work) → IsLegal s (Begin pass role key at now ∷ h) → key.kind ≡ kind_of_work role → is_free (row_at old role key) ≡ true
    → IsTimed role (views s h role key) (moment s h) next → ChangesRow (row_begun next) key (queue_in old role) (queue_in new role) → KeepsOthers role old new → IsFed s h old → IsFed s (Begin pass role key at now ∷ h) new
fed_begun s h pass role key at now next old new legal work free timed rows others fed =
    fed_one s h (Begin pass role key at now ∷ h) role old new others
    (are_begun s h pass role key at now next (λ k. row_at old role k) (λ k. row_at new role k) legal work free timed rows (fed_of s h role old fed))
    (λ r other k row is. tended_begun_other s h pass role r key k at now row legal (neither (role_eq role r) (key_eq key k) other) is) fed

not_of : (role r : Role) (key k : Key) (p : Option OpenPass) → is_pass_of role key p ≡ true → role_eq role r ≡ false → is_pass_of r k p ≡ false
not_of role r key k None mine other = refl
not_of role r key k (Some p) mine other =
    let same : p.role ≡ role = same_role p.role role (and_parts (role_eq p.role role) (key_eq p.key key) mine).0 in
    neither (role_eq p.role r) (key_eq p.key k) (ap (λ (q : Role). role_eq q r) same ∙ other)

pub fed_ended : (s : Setting) (h : List Entry) (pass : ℕ) (cause : Cause) (role : Role) (key : Key) (old new : List Work) → IsLegal s h → MayEnd s h (open_pass s h pass) cause → is_pass_of role key (open_pass s h pass) ≡ true → key.kind ≡ kind_of_work role
    → ChangesRow (closed (ending_of (open_pass s h pass)) (past s h role key).own (positions h role)) key (queue_in old role) (queue_in new role) → KeepsOthers role old new → IsFed s h old → IsFed s (End pass cause ∷ h) new
fed_ended s h pass cause role key old new legal ends mine work rows others fed =
    fed_one s h (End pass cause ∷ h) role old new others
    (are_ended s h pass cause role key (λ k. row_at old role k) (λ k. row_at new role k) each_sound legal ends mine work rows (fed_of s h role old fed))
    (λ r other k row is. tended_ended_other s h pass cause r k row (not_of role r key k (open_pass s h pass) mine other) is) fed

-- ---- the moment

pub fed_ticked : (s : Setting) (h : List Entry) (now : ℤ) (old new : List Work) → int_le (moment s h) now ≡ true → ((role : Role) → ChangesRows (ticked now) (queue_in old role) (queue_in new role)) → IsFed s h old → IsFed s (Tick now ∷ h) new
unfolding IsFed
fed_ticked s h now old new later rows fed role = are_ticked s h now role (λ key. row_at old role key) (λ key. row_at new role key) (each_sound role) later (rows role) (fed role)

-- ---- a role stops and starts

pub fed_stopped : (s : Setting) (h : List Entry) (role : Role) (old new : List Work) → ((key : Key) → row_at new role key ≡ no_row) → KeepsOthers role old new → IsFed s h old → IsFed s (Stop role ∷ h) new
fed_stopped s h role old new rows others fed =
    fed_one s h (Stop role ∷ h) role old new others (are_stopped s h role role (λ key. row_at new role key) (equal_roles role) rows) (λ r other key row is. tended_stopped_other s h role r key row other is) fed

pub fed_started : (s : Setting) (h : List Entry) (role : Role) (at : ℕ) (keys : List Key) (old new : List Work) → IsLegal s h → runs s h role ≡ false → ((key : Key) → is_among keys key ≡ true → key.kind ≡ kind_of_work role)
    → ((key : Key) → key.kind ≡ kind_of_work role → is_among keys key ≡ false → views s (Start role at ∷ h) role key ≡ no_views) → ((key : Key) → row_at new role key ≡ started (is_among keys key)) → KeepsOthers role old new
    → IsFed s h old → IsFed s (Start role at ∷ h) new
fed_started s h role at keys old new legal off work unseen rows others fed =
    fed_one s h (Start role at ∷ h) role old new others
    (are_started s h role at (is_among keys) (λ key. row_at new role key) (each_sound role) legal off work unseen rows)
    (λ r other key row is. tended_started_other s h role r at key row other is) fed
