-- Moves that are made one after another.
use Rattle.std.proofs.Common.{◌≡◌, ℕ, ◌<◌, ◌≤◌, List, [], ◌∷◌, ◌++◌, length, take, get_or, sym, subst}
use Rattle.std.proofs.lemmas.List.{take_more, take_all, length_push}
use Rattle.cmc_objects.specs.declared.entry.Entry.{Entry}
use Rattle.cmc_model.specs.Histories.{Setting}
use Rattle.cmc_moves.specs.declared.moves.Move.{Move}
use Rattle.cmc_kernel.specs.Leads.{IsStep, Lead, LeadsSome}
use Rattle.cmc_kernel.proofs.Leading.{led_on}

-- the next of the moves is made
pub led_more : (s : Setting) (ms ys : List Move) (x : Move) (h g k : List Entry) → (length ys < length ms) × (x ≡ get_or ms (length ys) x) → Lead s (take (length ys) ms) h g → IsStep s g x k
    → Lead s (take (length (ys ++ x ∷ [])) ms) h k
led_more s ms ys x h g k at led step =
    subst (λ (n : ℕ). Lead s (take n ms) h k) (sym (length_push ys x))
    (subst (λ (l : List Move). Lead s l h k) (sym (take_more ms (length ys) x at.0))
    (led_on s (take (length ys) ms) h g k (get_or ms (length ys) x) led (subst (λ (m : Move). IsStep s g m k) at.1 step)))

-- all of them are made
pub led_all : (s : Setting) (ms : List Move) (n : ℕ) (h k : List Entry) → length ms ≤ n → Lead s (take n ms) h k → Lead s ms h k
led_all s ms n h k long led = subst (λ (l : List Move). Lead s l h k) (take_all n ms long) led

-- the first of them were
pub led_some : (s : Setting) (ms : List Move) (n : ℕ) (h g k : List Entry) → Lead s (take n ms) h g → k ≡ g → LeadsSome s ms h k
led_some s ms n h g k led same = (n, subst (λ (l : List Entry). Lead s (take n ms) h l) (sym same) led)
