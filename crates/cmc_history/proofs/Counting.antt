-- Counting the accepted writes in order of time comes to what the run says.
use Rattle.std.proofs.Common.{◌≡◌, ℕ, ◌+◌, List, [], ◌∷◌, reverse, Bool, true, false, cond, refl, sym, ap, ◌∙◌, arith}
use Rattle.std.specs.Prelude.{count_by, if◌then◌else◌}
use Rattle.std.proofs.lemmas.List.{reverse-append}
use Rattle.std.proofs.lemmas.List.Recursion.{is_count_by, is_sum_by}
use Rattle.std.proofs.lemmas.List.Sums.{sum_by_push}
use Rattle.cmc_objects.specs.declared.entry.Entry.{Entry}
use Rattle.cmc_objects.specs.declared.entry.Entry.TheVariants.{Call as Called}
use Rattle.cmc_model.specs.Replies.{is_accepted}
use Rattle.cmc_model.specs.Histories.{Setting, accepted}
use Rattle.cmc_history.specs.Replays.{is_written}

-- a count does not depend on the order
reversed_step : (p : Entry → Bool) (e : Entry) (es : List Entry) → count_by p (reverse (e ∷ es)) ≡ cond (p e) 1 0 + count_by p (reverse es)
reversed_step p e es =
    let pushed = sum_by_push (λ x. cond (p x) 1 0) (reverse es) e in
    ap (count_by p) (reverse-append (e ∷ []) es) ∙ omega (arith, pushed)

reversed : (p : Entry → Bool) (es : List Entry) → count_by p (reverse es) ≡ count_by p es
reversed p = is_sum_by (λ es. count_by p (reverse es)) (λ x. cond (p x) 1 0) refl (reversed_step p)

more : (b : Bool) (a : ℕ) → (if b then a + 1 else a) ≡ cond b (1 + a) a
more true a = omega arith
more false a = refl

accepted_step : (s : Setting) (e : Entry) (h : List Entry) → accepted s (e ∷ h) ≡ cond (is_written e) (1 + accepted s h) (accepted s h)
accepted_step s (Called who call reply) h = more (is_accepted reply) (accepted s h)
accepted_step s other h = refl

-- the entries with the oldest first
pub counted_in_order : (s : Setting) (items h : List Entry) → reverse items ≡ h → count_by is_written items ≡ accepted s h
counted_in_order s items h same =
    sym (reversed is_written items) ∙ ap (count_by is_written) same ∙ sym (is_count_by (accepted s) is_written refl (accepted_step s) h)
