-- Keys are made ready before what makes them so happens.
use Rattle.std.proofs.Common.{◌≡◌, ◌⊎◌, ℕ, ℤ, List, None, Bool, true, false, inl, inr, refl, sym, ap, subst, ◌∙◌}
use Rattle.std.specs.Prelude.{if◌then◌else◌}
use Rattle.cmc_meta.specs.declared.key.Key.{Key}
use Rattle.cmc_meta.specs.declared.key.Kind.{Kind}
use Rattle.cmc_objects.specs.declared.entry.Entry.{Entry}
use Rattle.cmc_objects.specs.declared.entry.Positions.{Positions}
use Rattle.cmc_objects.specs.declared.orders.Rules.{Rules}
use Rattle.cmc_objects.specs.declared.role.Role.{Role}
use Rattle.cmc_objects.specs.Informers.{kind_of_work}
use Rattle.cmc_pass.specs.declared.pass.Views.{Views}
use Rattle.cmc_queue.specs.declared.row.Found.TheVariants as found
use Rattle.cmc_queue.specs.declared.row.Row.{Row}
use Rattle.cmc_queue.specs.Queues.{Work}
use Rattle.cmc_queue.specs.Rows.{added, is_reached, moved}
use Rattle.cmc_caches.specs.Affected.{is_among}
use Rattle.cmc_model.specs.Histories.{Setting}
use Rattle.cmc_rules.specs.declared.progress.Past.{Past}
use Rattle.cmc_waking.specs.Feeds.{added_if, row_delivered}
use Rattle.cmc_waking.specs.Queues.{queue_in, row_at, KeepsOthers, WakesSome}
use Rattle.cmc_waking.specs.WakeUps.{IsRowKept, IsTended}
use Rattle.cmc_kernel.specs.Kept.{Seen, setting_of, on}
use Rattle.cmc_world.specs.Fed.{IsFed}
use Rattle.cmc_world.proofs.Moves.{fed_of, fed_one}

added_kept : (b : Bool) (role : Role) (rules : Rules) (past : Past) (seen : Views) (now : ℤ) (at : Positions) (row : Row) → IsRowKept b role rules past seen now at (added row)
added_kept true role rules past seen now at row = record { unknown = refl; unchanged = λ off. absurd (cc off) }
added_kept false role rules past seen now at row = tt

-- a key that is ready, whatever is so of it, is looked at
tended_added : (s : Setting) (h : List Entry) (role : Role) (key : Key) (row : Row) → IsTended s h role key row → IsTended s h role key (added row)
unfolding IsTended
tended_added s h role key row is = record { working = is.working; kept = λ up. added_kept row.working role s.rules _ _ _ _ row }

woken_row : (s : Setting) (h : List Entry) (role : Role) (key : Key) (keys : List Key) (old new : Row) → (new ≡ old) ⊎ ((is_among keys key ≡ true) × (new ≡ added old)) → IsTended s h role key old → IsTended s h role key new
woken_row s h role key keys old new (inl same) is = subst (IsTended s h role key) (sym same) is
woken_row s h role key keys old new (inr woken) is = subst (IsTended s h role key) (sym woken.1) (tended_added s h role key old is)

woken_other : (keys : List Key) (key : Key) (old new none : Row) → (is_among keys key ≡ true → ⊥) → (new ≡ old) ⊎ ((is_among keys key ≡ true) × (new ≡ added old)) → old ≡ none → new ≡ none
woken_other keys key old new none off (inl same) is = same ∙ is
woken_other keys key old new none off (inr woken) is = absurd (off woken.0)

-- the queues are right, whichever keys of the role's work were woken
pub fed_woken : (w : Seen) (role : Role) (keys : List Key) (before after : List Work) → ((key : Key) → is_among keys key ≡ true → key.kind ≡ kind_of_work role) → WakesSome keys (queue_in before role) (queue_in after role) → KeepsOthers role before after
    → on IsFed w before → on IsFed w after
fed_woken w role keys before after work some others fed =
    let s = setting_of w.scenario in
    let h = w.history in
    let old = fed_of s h role before fed in
    fed_one s h h role before after others
    (record {
      tended = λ key of. woken_row s h role key keys (row_at before role key) (row_at after role key) (some key) (old.tended key of);
      others = λ key other. woken_other keys key (row_at before role key) (row_at after role key) _ (λ among. other (work key among)) (some key) (old.others key other);
    })
    (λ r other key row is. is) fed

moved_ready : (b : Bool) (row : Row) → (if b then record (added row) { ready = true; work = found.Unknown; parked = None } else added row) ≡ added (if b then record row { ready = true; work = found.Unknown; parked = None } else row)
moved_ready true row = refl
moved_ready false row = refl

moved_added : (kind : Kind) (to : ℕ) (row : Row) → moved kind to (added row) ≡ added (moved kind to row)
unfolding moved
moved_added kind to row = moved_ready (is_reached kind to row.parked) row

-- a key that was woken before its role is told is as one that is woken then
told_woken : (b : Bool) (kind : Kind) (to : ℕ) (row : Row) → moved kind to (added_if b row) ≡ row_delivered b kind to row
told_woken true kind to row = moved_added kind to row
told_woken false kind to row = refl

-- and the rows of a role that is told once its keys are woken are those of one that is told of them
pub told_rows : (role : Role) (kind : Kind) (to : ℕ) (keys : List Key) (before mid after : List Work) → ((key : Key) → row_at mid role key ≡ added_if (is_among keys key) (row_at before role key)) → ((key : Key) → row_at after role key ≡ row_delivered false kind to (row_at mid role key))
    → (key : Key) → row_at after role key ≡ row_delivered (is_among keys key) kind to (row_at before role key)
told_rows role kind to keys before mid after woken rows key = rows key ∙ ap (moved kind to) (woken key) ∙ told_woken (is_among keys key) kind to (row_at before role key)

pub others_twice : (role : Role) (a b c : List Work) → KeepsOthers role a b → KeepsOthers role b c → KeepsOthers role a c
others_twice role a b c one two r other = two r other ∙ one r other
