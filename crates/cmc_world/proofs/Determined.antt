-- Plain histories of one setting agree: the one begins the other, unless a question has a free row.
use Rattle.std.proofs.Common.{◌≡◌, ◌∙◌, ◌⊎◌, ◌+◌, ◌<◌, length, arith, List, [], ◌∷◌, Option, Some, None, inl, inr, refl, sym, ap, subst}
use Rattle.cmc_objects.specs.declared.entry.Entry.{Entry}
use Rattle.cmc_objects.specs.declared.entry.Entry.TheVariants.{Script}
use Rattle.cmc_rules.specs.declared.effect.Effect.{Effect}
use Rattle.cmc_model.specs.Histories.{Setting}
use Rattle.cmc_rules.specs.Causes.{IsCaused}
use Rattle.cmc_rules.specs.UserSteps.{Follows}
use Rattle.cmc_rules.specs.Legality.{IsLegal}
use Rattle.cmc_rules.specs.Scripts.{scripted}
use Rattle.cmc_rules.specs.Runs.{IsRun, IsFinished}
use Rattle.cmc_moves.specs.declared.moves.Move.{Move}
use Rattle.cmc_moves.specs.declared.moves.Move.TheVariants as moves
use Rattle.cmc_moves.specs.Answers.{entries_of, GrowsBy, next_effect}
use Rattle.cmc_kernel.proofs.Leading.{extends_by, extends_on}
use Rattle.cmc_kernel.specs.Leads.{Extends}
use Rattle.cmc_world.specs.Histories.{entries_for, IsFull, IsEnd, GrowsPlainly, HasNoFree, IsPlainStep, LeadsPlainly, IsPlain}
use Rattle.cmc_world.proofs.OneMove.{one_move}
use Rattle.cmc_world.proofs.OneGrowth.{one_growth}
use Rattle.cmc_world.proofs.OneValue.{none_free_below}

-- ---- the old history stands below

extends_grown : (s : Setting) (h : List Entry) (move : Move) (k : List Entry) → GrowsPlainly s h move k → Extends h k
extends_grown s h (moves.Next pass named) k (e, right, is) = (e ∷ [], is)
extends_grown s h moves.Script k grown = extends_by s h moves.Script k grown
extends_grown s h (moves.Deliver role kind to) k grown = extends_by s h (moves.Deliver role kind to) k grown
extends_grown s h (moves.Begin role key) k grown = extends_by s h (moves.Begin role key) k grown
extends_grown s h (moves.Give pass named given) k grown = extends_by s h (moves.Give pass named given) k grown
extends_grown s h (moves.Decide pass named d) k grown = extends_by s h (moves.Decide pass named d) k grown

-- where plain moves lead, what they led from stands below
pub extends_plainly : (s : Setting) (ms : List Move) (h k : List Entry) → LeadsPlainly s ms h k → Extends h k
extends_plainly s [] h k same = ([], same)
extends_plainly s (move ∷ ms) h k (g, step, rest) = extends_on h g k (extends_grown s h move g step.grows) (extends_plainly s ms g k rest)

-- ---- the law

one_step : (s : Setting) (h : List Entry) (m n : Move) (g k : List Entry) → IsRun s h → HasNoFree h → IsPlainStep s h m g → IsPlainStep s h n k → g ≡ k
one_step s h m n g k run none x y =
    let same = one_move s h m n x.plain y.plain in
    one_growth s h n g k run none (subst (λ (move : Move). GrowsPlainly s h move g) same x.grows) y.grows

agree : (s : Setting) (ms ns : List Move) (g h k : List Entry) → IsRun s g → HasNoFree h → LeadsPlainly s ms g h → LeadsPlainly s ns g k → Extends h k ⊎ Extends k h
agree s [] ns g h k run none same led = inl (subst (λ (l : List Entry). Extends l k) (sym same) (extends_plainly s ns g k led))
agree s (m ∷ ms) [] g h k run none led same = inr (subst (λ (l : List Entry). Extends l h) (sym same) (extends_plainly s (m ∷ ms) g h led))
agree s (m ∷ ms) (n ∷ ns) g h k run none (a, x, rest) (b, y, others) =
    let below : HasNoFree g = none_free_below g h (extends_plainly s (m ∷ ms) g h (a, x, rest)) none in
    agree s ms ns a h k x.run none rest (subst (λ (l : List Entry). LeadsPlainly s ns l k) (sym (one_step s g m n a b run below x y)) others)

empty_run : (s : Setting) → IsRun s []
unfolding IsLegal IsCaused Follows
empty_run s = record { legal = tt; caused = tt; follows = tt; short = omega arith; settled = refl }

plain_run : (s : Setting) (ms : List Move) (g h : List Entry) → IsRun s g → LeadsPlainly s ms g h → IsRun s h
plain_run s [] g h run same = subst (IsRun s) (sym same) run
plain_run s (m ∷ ms) g h run (a, x, rest) = plain_run s ms a h x.run rest

-- a plain history is that of a run
pub is_run : (s : Setting) (h : List Entry) → IsPlain s h → IsRun s h
is_run s h (ms, led) = plain_run s ms [] h (empty_run s) led

-- of two plain histories of one setting the one begins the other
pub plain_agree : (s : Setting) (h k : List Entry) → IsPlain s h → IsPlain s k → HasNoFree h → Extends h k ⊎ Extends k h
plain_agree s h k (ms, x) (ns, y) none = agree s ms ns [] h k (empty_run s) none x y

-- ---- ends

by_effect : (s : Setting) (h : List Entry) (o : Option Effect) (n : Entry) (k : List Entry) → GrowsBy s (n ∷ h) o k → length k ≡ length h + entries_of o
by_effect s h None n k is = ap length is ∙ omega arith
by_effect s h (Some effect) n k (e, right, is) = ap length is ∙ omega arith

pub grown_length : (s : Setting) (h : List Entry) (move : Move) (k : List Entry) → GrowsPlainly s h move k → length k ≡ length h + entries_for s h move
grown_length s h moves.Script k grown = by_effect s h (next_effect s h) (Script (scripted h + 1)) k grown
grown_length s h (moves.Deliver role kind to) k grown = ap length grown ∙ omega arith
grown_length s h (moves.Begin role key) k grown = ap length grown ∙ omega arith
grown_length s h (moves.Next pass named) k (e, right, is) = ap length is ∙ omega arith
grown_length s h (moves.Give pass named given) k grown = ap length grown ∙ omega arith
grown_length s h (moves.Decide pass named d) k (e, right, is) = ap length is ∙ omega arith

-- behind the end of a run no plain step is made
no_more : (s : Setting) (h : List Entry) (move : Move) (k : List Entry) → IsEnd s h → IsPlainStep s h move k → ⊥
no_more s h move k (inl finished) step = step.plain.0 finished
no_more s h move k (inr full) step =
    let same = one_move s h full.move move full.plain step.plain in
    let over : s.events < length h + entries_for s h move = subst (λ (m : Move). s.events < length h + entries_for s h m) same full.spent in
    let long = grown_length s h move k step.grows in
    let short = step.run.short in
    absurd (omega (arith, over, long, short))

ends_by : (s : Setting) (ms ns : List Move) (g h k : List Entry) → IsRun s g → HasNoFree h → IsEnd s h → IsEnd s k → LeadsPlainly s ms g h → LeadsPlainly s ns g k → h ≡ k
ends_by s [] [] g h k run none one other x y = x ∙ sym y
ends_by s [] (n ∷ ns) g h k run none one other x (b, step, rest) = absurd (no_more s g n b (subst (IsEnd s) x one) step)
ends_by s (m ∷ ms) [] g h k run none one other (a, step, rest) y = absurd (no_more s g m a (subst (IsEnd s) y other) step)
ends_by s (m ∷ ms) (n ∷ ns) g h k run none one other (a, x, rest) (b, y, others) =
    let below : HasNoFree g = none_free_below g h (extends_plainly s (m ∷ ms) g h (a, x, rest)) none in
    ends_by s ms ns a h k x.run none one other rest (subst (λ (l : List Entry). LeadsPlainly s ns l k) (sym (one_step s g m n a b run below x y)) others)

-- a plain run has one end
pub ends_agree : (s : Setting) (h k : List Entry) → IsPlain s h → IsEnd s h → IsPlain s k → IsEnd s k → HasNoFree h → h ≡ k
ends_agree s h k (ms, x) one (ns, y) other none = ends_by s ms ns [] h k (empty_run s) none one other x y

-- and it is not both finished and full
pub one_end : (s : Setting) (h k : List Entry) → IsPlain s h → IsFinished s h → IsPlain s k → IsFull s k → HasNoFree h → ⊥
one_end s h k plain finished other full none =
    let same = ends_agree s h k plain (inl finished) other (inr full) none in
    full.plain.0 (subst (IsFinished s) same finished)
