-- The measure of all Certificates falls where that of one falls and what is seen of the others stays.
use Rattle.std.proofs.Common.{◌≡◌, ◌≤◌, ◌<◌, inl, inr, ℕ, ℤ, Bool, true, false, List, [], ◌∷◌, Option, refl, sym, ap, subst, arith, Ordering, Less, Equal, Greater}
use Rattle.std.proofs.lemmas.Bool.{or_cases}
use Rattle.std.specs.BTreeMap.{is_at}
use Rattle.std.specs.List.{list_any}
use Rattle.std.specs.Ordering.{is_eq}
use Rattle.cmc_meta.specs.declared.key.Key.{Key}
use Rattle.cmc_meta.specs.Keys.{key_cmp}
use Rattle.cmc_meta.proofs.KeyOrder.{key_cmp-IsAntisymmetric}
use Rattle.cmc_objects.specs.declared.object.Object.{Object}
use Rattle.cmc_model.specs.Objects.{Objects}
use Rattle.cmc_model.specs.Replies.{put_at}
use Rattle.cmc_pass.specs.declared.pass.Desk.{Desk}
use Rattle.cmc_load_laws.specs.Measure.{measure}
use Rattle.cmc_load_laws.specs.Frame.{seen_of, IsElsewhere}
use Rattle.cmc_run_laws.specs.Lengths.{Each}
use Rattle.cmc_load_laws.specs.Totals.{HasCertificate, total, total_measure}
use Rattle.cmc_load_laws.proofs.Elsewhere.{seen_kept}

pub one_key : (a b : Key) → is_at (key_cmp a) b ≡ true → a ≡ b
one_key a b is = key_cmp-IsAntisymmetric a b (tied (key_cmp a b) is) where
  tied : (o : Ordering) → is_eq o ≡ true → o ≡ Equal
  tied Less e = absurd (cc e)
  tied Equal e = refl
  tied Greater e = absurd (cc e)

-- ---- sums

pub total_within : (P : Key → Type 0) (f g : Key → ℕ) (keys : List Key) → Each P keys → ((key : Key) → P key → g key ≤ f key) → total g keys ≤ total f keys
total_within P f g [] are each = omega arith
total_within P f g (key ∷ keys) are each = omega (arith, each key are.0, total_within P f g keys are.1 each)

-- where one term falls and none rises, the sum falls
pub total_falls : (P : Key → Type 0) (f g : Key → ℕ) (own : Key) (keys : List Key) → Each P keys → ((key : Key) → P key → g key ≤ f key) → g own < f own → list_any (is_at (key_cmp own)) keys ≡ true → total g keys < total f keys
total_falls P f g own [] are each falls among = absurd (cc among)
total_falls P f g own (key ∷ keys) are each falls among =
    elim (or_cases (is_at (key_cmp own) key) (list_any (is_at (key_cmp own)) keys) among) [
      | inl here ↦ let first : g key < f key = subst (λ (k : Key). g k < f k) (one_key own key here) falls in omega (arith, first, total_within P f g keys are.1 each)
      | inr there ↦ omega (arith, each key are.0, total_falls P f g own keys are.1 each falls there)
    ]

-- ---- the measure of all

within_by : (b : Bool) (desk : Desk) (due : ℕ) (now : ℤ) (m : Objects) (own at : Key) (new : Option Object) (key : Key) → is_at (key_cmp key) own ≡ b → HasCertificate m key
    → ((other : Key) → HasCertificate m other → is_at (key_cmp other) own ≡ false → IsElsewhere m at new other) → measure desk due now (seen_of (put_at m at new) own) < measure desk due now (seen_of m own)
    → measure desk due now (seen_of (put_at m at new) key) ≤ measure desk due now (seen_of m key)
within_by true desk due now m own at new key is has others falls =
    let below : measure desk due now (seen_of (put_at m at new) key) < measure desk due now (seen_of m key) =
    subst (λ (k : Key). measure desk due now (seen_of (put_at m at new) k) < measure desk due now (seen_of m k)) (sym (one_key key own is)) falls in
    omega (arith, below)
within_by false desk due now m own at new key is has others falls = omega (arith, ap (measure desk due now) (seen_kept m at new key (others key has is)))

-- Where the measure of one Certificate falls at a write, and what the write finds and leaves is of no other Certificate, the measure of all falls.
pub total_measure_falls : (desk : Desk) (due : ℕ) (now : ℤ) (keys : List Key) (m : Objects) (own at : Key) (new : Option Object) → Each (HasCertificate m) keys → list_any (is_at (key_cmp own)) keys ≡ true
    → ((other : Key) → HasCertificate m other → is_at (key_cmp other) own ≡ false → IsElsewhere m at new other) → measure desk due now (seen_of (put_at m at new) own) < measure desk due now (seen_of m own)
    → total_measure desk due now keys (put_at m at new) < total_measure desk due now keys m
total_measure_falls desk due now keys m own at new are among others falls =
    total_falls (HasCertificate m) (λ key. measure desk due now (seen_of m key)) (λ key. measure desk due now (seen_of (put_at m at new) key)) own keys are
    (λ key has. within_by (is_at (key_cmp key) own) desk due now m own at new key refl has others falls) falls among
