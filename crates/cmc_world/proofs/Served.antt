-- Each move of a queue keeps what is kept of all keys of its role.
use Rattle.std.proofs.Common.{◌≡◌, ◌⊎◌, ◌<◌, ◌≤◌, ℕ, ℤ, List, [], ◌∷◌, Option, Some, None, Bool, true, false, refl, sym, ap, subst, ◌∙◌, int_le}
use Rattle.std.specs.Prelude.{◌&&◌, if◌then◌else◌}
use Rattle.std.proofs.lemmas.Bool.{and_parts}
use Rattle.cmc_meta.specs.declared.key.Key.{Key}
use Rattle.cmc_meta.specs.declared.key.Kind.{Kind}
use Rattle.cmc_meta.specs.Keys.{key_eq}
use Rattle.cmc_objects.specs.declared.entry.Cause.{Cause}
use Rattle.cmc_objects.specs.declared.entry.Entry.{Entry}
use Rattle.cmc_objects.specs.declared.entry.Entry.TheVariants.{Deliver, List as Listed, Begin, End, Stop, Start, Tick}
use Rattle.cmc_objects.specs.declared.entry.Positions.{Positions}
use Rattle.cmc_objects.specs.declared.role.Role.{Role}
use Rattle.cmc_objects.specs.Informers.{kind_of_work}
use Rattle.cmc_queue.specs.declared.row.Parked.{Parked}
use Rattle.cmc_queue.specs.declared.row.Row.{Row}
use Rattle.cmc_queue.specs.Rows.{is_free, moved, no_row, ticked}
use Rattle.cmc_queue.proofs.OneRow.{same_by_test}
use Rattle.cmc_model.specs.Histories.{Setting, moment, role_eq, runs}
use Rattle.cmc_rules.specs.declared.progress.OpenPass.{OpenPass}
use Rattle.cmc_rules.specs.Causes.{MayEnd}
use Rattle.cmc_rules.specs.Legality.{IsLegal}
use Rattle.cmc_rules.specs.Memory.{ending_of, past}
use Rattle.cmc_rules.specs.Passes.{is_pass_of, open_pass}
use Rattle.cmc_rules.specs.Positions.{position_of, positions}
use Rattle.cmc_rules.specs.Rest.{IsIdle}
use Rattle.cmc_rules.specs.Sound as sound
use Rattle.cmc_rules.specs.Views.{views}
use Rattle.cmc_moves.specs.Quiet.{no_views, seen_last, IsQuiet}
use Rattle.cmc_waking.specs.Feeds.{row_begun, closed, found_busy, found_parked, found_idle, found_quiet, started, row_delivered}
use Rattle.cmc_waking.specs.WakeUps.{AreTended, IsDueNow, IsStoppedFor, IsTended, IsTimed}
use Rattle.cmc_waking.proofs.Entries.{tended_begun, tended_begun_other, tended_delivered, tended_ended, tended_ended_other, tended_first, tended_listed, tended_started, tended_stopped, tended_ticked}
use Rattle.cmc_waking.proofs.Looks.{tended_busy, tended_held, tended_idle, tended_quiet}
use Rattle.cmc_waking.proofs.Rows.{are_changed, are_changed_one}

-- one row becomes f of what it was
abbrev ChangesOne : (Row → Row) → Key → (Key → Row) → (Key → Row) → Type 0
ChangesOne f key old new = (k : Key) → new k ≡ (if key_eq key k then f (old k) else old k)

-- ---- at the beginning

pub are_first : (s : Setting) (role : Role) (row : Key → Row) → sound.IsSound role → ((key : Key) → row key ≡ no_row) → ((key : Key) → views s [] role key ≡ no_views) → AreTended s [] role row
are_first s role row laws none unseen = record {
  tended = λ key work. subst (IsTended s [] role key) (sym (none key)) (tended_first s role key laws (unseen key));
  others = λ key other. none key;
}

-- ---- the role is told

moved_none : (kind : Kind) (to : ℕ) → moved kind to no_row ≡ no_row
unfolding moved
moved_none kind to = refl

told_none : (listed : Bool) (kind : Kind) (to : ℕ) → (listed ≡ true → ⊥) → row_delivered listed kind to no_row ≡ no_row
told_none true kind to off = absurd (off refl)
told_none false kind to off = moved_none kind to

pub are_delivered : (s : Setting) (h : List Entry) (role : Role) (kind : Kind) (to : ℕ) (listed : Key → Bool) (old new : Key → Row) → IsLegal s (Deliver role kind to ∷ h) → ((key : Key) → listed key ≡ true → key.kind ≡ kind_of_work role)
    → ((key : Key) → listed key ≡ false → views s (Deliver role kind to ∷ h) role key ≡ views s h role key) → ((key : Key) → new key ≡ row_delivered (listed key) kind to (old key)) → AreTended s h role old → AreTended s (Deliver role kind to ∷ h) role new
are_delivered s h role kind to listed old new legal work same each =
    are_changed s h (Deliver role kind to ∷ h) role old new (λ key row. row_delivered (listed key) kind to row) each (λ key of is. tended_delivered s h role kind to key (old key) (listed key) legal (same key) is)
    (λ key other. told_none (listed key) kind to (λ on. other (work key on)))

pub are_listed : (s : Setting) (h : List Entry) (role : Role) (kind : Kind) (to : ℕ) (listed : Key → Bool) (old new : Key → Row) → IsLegal s (Listed role kind to ∷ h) → ((key : Key) → listed key ≡ true → key.kind ≡ kind_of_work role)
    → ((key : Key) → listed key ≡ false → views s (Listed role kind to ∷ h) role key ≡ views s h role key) → ((key : Key) → new key ≡ row_delivered (listed key) kind to (old key)) → AreTended s h role old → AreTended s (Listed role kind to ∷ h) role new
are_listed s h role kind to listed old new legal work same each =
    are_changed s h (Listed role kind to ∷ h) role old new (λ key row. row_delivered (listed key) kind to row) each (λ key of is. tended_listed s h role kind to key (old key) (listed key) legal (same key) is)
    (λ key other. told_none (listed key) kind to (λ on. other (work key on)))

-- ---- a pass begins and ends

neither : (a b : Bool) → b ≡ false → (a && b) ≡ false
neither true b off = off
neither false b off = refl

pub are_begun : (s : Setting) (h : List Entry) (pass : ℕ) (role : Role) (key : Key) (at : Positions) (now : ℤ) (next : Option ℤ) (old new : Key → Row) → IsLegal s (Begin pass role key at now ∷ h) → key.kind ≡ kind_of_work role → is_free (old key) ≡ true
    → IsTimed role (views s h role key) (moment s h) next → ChangesOne (row_begun next) key old new → AreTended s h role old → AreTended s (Begin pass role key at now ∷ h) role new
are_begun s h pass role key at now next old new legal work free timed each =
    are_changed_one s h (Begin pass role key at now ∷ h) role key old new (row_begun next) work each (λ is. tended_begun s h pass role key at now (old key) next legal free timed is)
    (λ k other is. tended_begun_other s h pass role role key k at now (old k) legal (neither (role_eq role role) (key_eq key k) other) is)

not_its : (role : Role) (key k : Key) (p : Option OpenPass) → is_pass_of role key p ≡ true → key_eq key k ≡ false → is_pass_of role k p ≡ false
not_its role key k None mine other = absurd (cc mine)
not_its role key k (Some p) mine other =
    let same : p.key ≡ key = same_by_test p.key key (and_parts (role_eq p.role role) (key_eq p.key key) mine).1 in
    neither (role_eq p.role role) (key_eq p.key k) (ap (λ (q : Key). key_eq q k) same ∙ other)

pub are_ended : (s : Setting) (h : List Entry) (pass : ℕ) (cause : Cause) (role : Role) (key : Key) (old new : Key → Row) → ((r : Role) → sound.IsSound r) → IsLegal s h → MayEnd s h (open_pass s h pass) cause → is_pass_of role key (open_pass s h pass) ≡ true → key.kind ≡ kind_of_work role
    → ChangesOne (closed (ending_of (open_pass s h pass)) (past s h role key).own (positions h role)) key old new → AreTended s h role old → AreTended s (End pass cause ∷ h) role new
are_ended s h pass cause role key old new laws legal ends mine work each =
    are_changed_one s h (End pass cause ∷ h) role key old new (closed (ending_of (open_pass s h pass)) (past s h role key).own (positions h role)) work each
    (λ is. tended_ended s h pass cause role key (old key) laws legal ends mine is)
    (λ k other is. tended_ended_other s h pass cause role k (old k) (not_its role key k (open_pass s h pass) mine other) is)

-- ---- the moment

ticked_none : (now : ℤ) → ticked now no_row ≡ no_row
unfolding ticked
ticked_none now = refl

pub are_ticked : (s : Setting) (h : List Entry) (now : ℤ) (role : Role) (old new : Key → Row) → sound.IsSound role → int_le (moment s h) now ≡ true → ((key : Key) → new key ≡ ticked now (old key)) → AreTended s h role old → AreTended s (Tick now ∷ h) role new
are_ticked s h now role old new laws le each =
    are_changed s h (Tick now ∷ h) role old new (λ key row. ticked now row) each (λ key of is. tended_ticked s h now role key (old key) laws le is) (λ key other. ticked_none now)

-- ---- the role stops and starts

pub are_stopped : (s : Setting) (h : List Entry) (role r : Role) (new : Key → Row) → role_eq role r ≡ true → ((key : Key) → new key ≡ no_row) → AreTended s (Stop role ∷ h) r new
are_stopped s h role r new mine each = record {
  tended = λ key work. subst (IsTended s (Stop role ∷ h) r key) (sym (each key)) (tended_stopped s h role r key mine);
  others = λ key other. each key;
}

started_none : (listed : Bool) → (listed ≡ true → ⊥) → started listed ≡ no_row
started_none true off = absurd (off refl)
started_none false off = refl

-- each key of its work that a write named is listed
pub are_started : (s : Setting) (h : List Entry) (role : Role) (at : ℕ) (listed : Key → Bool) (new : Key → Row) → sound.IsSound role → IsLegal s h → runs s h role ≡ false → ((key : Key) → listed key ≡ true → key.kind ≡ kind_of_work role)
    → ((key : Key) → key.kind ≡ kind_of_work role → listed key ≡ false → views s (Start role at ∷ h) role key ≡ no_views) → ((key : Key) → new key ≡ started (listed key)) → AreTended s (Start role at ∷ h) role new
are_started s h role at listed new laws legal off work unseen each = record {
  tended = λ key of. subst (IsTended s (Start role at ∷ h) role key) (sym (each key)) (tended_started s h role at key (listed key) laws legal off (unseen key of));
  others = λ key other. each key ∙ started_none (listed key) (λ on. other (work key on));
}

-- ---- looks

pub are_busy : (s : Setting) (h : List Entry) (role : Role) (key : Key) (old new : Key → Row) → key.kind ≡ kind_of_work role → (old key).ready ≡ true → (old key).working ≡ false → (IsIdle s h role (views s h role key) → ⊥) → IsDueNow s h role key
    → ChangesOne found_busy key old new → AreTended s h role old → AreTended s h role new
are_busy s h role key old new work ready free busy due each =
    are_changed_one s h h role key old new found_busy work each (λ is. tended_busy s h role key (old key) ready free busy due is) (λ k other is. is)

pub are_idle : (s : Setting) (h : List Entry) (role : Role) (key : Key) (next : Option ℤ) (old new : Key → Row) → sound.IsSound role → key.kind ≡ kind_of_work role → (old key).ready ≡ true → (old key).working ≡ false → IsTimed role (views s h role key) (moment s h) next
    → IsIdle s h role (views s h role key) → (views s h role key ≡ seen_last (past s h role key).last → ⊥) → IsDueNow s h role key → ChangesOne (found_idle next) key old new → AreTended s h role old → AreTended s h role new
are_idle s h role key next old new laws work ready free timed idle news due each =
    are_changed_one s h h role key old new (found_idle next) work each (λ is. tended_idle s h role key (old key) next laws ready free timed idle news due is) (λ k other is. is)

pub are_quiet : (s : Setting) (h : List Entry) (role : Role) (key : Key) (next : Option ℤ) (old new : Key → Row) → sound.IsSound role → key.kind ≡ kind_of_work role → (old key).working ≡ false → IsTimed role (views s h role key) (moment s h) next → IsQuiet s h role key
    → ChangesOne (found_quiet next) key old new → AreTended s h role old → AreTended s h role new
are_quiet s h role key next old new laws work free timed quiet each =
    are_changed_one s h h role key old new (found_quiet next) work each (λ is. tended_quiet s h role key (old key) next laws free timed quiet is) (λ k other is. is)

pub are_held : (s : Setting) (h : List Entry) (role : Role) (key : Key) (parked : Parked) (old new : Key → Row) → key.kind ≡ kind_of_work role → (old key).working ≡ false → position_of parked.kind (positions h role) < parked.version
    → (parked.version ≤ position_of parked.kind (past s h role key).own) ⊎ IsStoppedFor (past s h role key).last (views s h role key) parked → ChangesOne (found_parked parked) key old new → AreTended s h role old → AreTended s h role new
are_held s h role key parked old new work free behind cause each =
    are_changed_one s h h role key old new (found_parked parked) work each (λ is. tended_held s h role key (old key) parked free behind cause is) (λ k other is. is)
