-- A question has one right value, unless its row is free.
use Rattle.std.proofs.Common.{◌≡◌, ◌∙◌, ℕ, List, [], ◌∷◌, ◌++◌, sym, ap, subst, inl, inr}
use Rattle.cmc_objects.specs.declared.entry.Entry.{Entry}
use Rattle.cmc_objects.specs.declared.entry.Entry.TheVariants.{Ask}
use Rattle.cmc_objects.specs.declared.orders.Order.{Order}
use Rattle.cmc_objects.specs.declared.orders.Order.TheVariants.{Key, Csr, Sign, Judge}
use Rattle.cmc_keys.proofs.ScriptedLaws.{one_value as one_key}
use Rattle.cmc_pass.specs.declared.value.Value.{Value}
use Rattle.cmc_pass.specs.declared.value.Value.TheVariants as values
use Rattle.cmc_pass.specs.Values.{IsValue}
use Rattle.cmc_rules.specs.Safety.{LastAsks}
use Rattle.cmc_kernel.specs.Leads.{Extends}
use Rattle.cmc_world.specs.Histories.{IsBound, HasNoFree}

pub one_value : (order : Order) (v w : Value) → IsBound order → IsValue order v → IsValue order w → v ≡ w
one_value (Key order) (values.Made a) (values.Made b) bound x y = ap values.Made (one_key order a b bound x y)
one_value (Key order) (values.Made a) other bound x y = absurd y
one_value (Key order) other w bound x y = absurd x
one_value (Csr order) (values.Signed a) (values.Signed b) bound x y = ap values.Signed (x ∙ sym y)
one_value (Csr order) (values.Signed a) other bound x y = absurd y
one_value (Csr order) other w bound x y = absurd x
one_value (Sign order) (values.Answered a) (values.Answered b) bound x y = ap values.Answered (x bound ∙ sym (y bound))
one_value (Sign order) (values.Answered a) other bound x y = absurd y
one_value (Sign order) other w bound x y = absurd x
one_value (Judge order) (values.Judged a) (values.Judged b) bound x y = ap values.Judged (x ∙ sym y)
one_value (Judge order) (values.Judged a) other bound x y = absurd y
one_value (Judge order) other w bound x y = absurd x

-- ---- questions of a history

-- the last question of a pass has no free row
pub bound_in : (h : List Entry) (n : ℕ) (order : Order) → HasNoFree h → LastAsks n (λ o. o ≡ order) h → IsBound order
bound_in [] n order none last = absurd last
bound_in (Ask m asked ∷ h) n order none (inl here) = subst IsBound here.1 none.0
bound_in (Ask m asked ∷ h) n order none (inr there) = bound_in h n order none.1 there.1
bound_in (e ∷ h) n order none last = bound_in h n order none.1 last

-- what stands below has none where there is none above
none_below : (es h : List Entry) → HasNoFree (es ++ h) → HasNoFree h
none_below [] h none = none
none_below (e ∷ es) h none = none_below es h none.1

pub none_free_below : (h k : List Entry) → Extends h k → HasNoFree k → HasNoFree h
none_free_below h k (es, is) none = none_below es h (subst HasNoFree is none)
