-- A search over keys, in their order.
use Rattle.std.proofs.Common.{◌≡◌, List, [], ◌∷◌, Some, None, Bool, true, false, refl, sym, subst, ap, ◌∙◌, Less}
use Rattle.std.proofs.lemmas.Bool.Decides.{same_from_decides}
use Rattle.std.proofs.lemmas.Map.Keys.{sorted_head}
use Rattle.std.specs.Prelude.{◌||◌}
use Rattle.std.specs.Bool.{Decides}
use Rattle.std.specs.BTreeMap.{is_at}
use Rattle.std.specs.Cmp.{Equal-is, tied_itself}
use Rattle.std.specs.List.{AllByRecursion, list_any}
use Rattle.std.specs.List.Sorted.{IsStrictlySortedBy}
use Rattle.std.specs.Ordering.{is_eq}
use Rattle.cmc_meta.specs.declared.key.Key.{Key}
use Rattle.cmc_meta.specs.Keys.{key_cmp, key_eq}
use Rattle.cmc_meta.proofs.KeyOrder.{key_cmp-total, key_cmp-IsAntisymmetric}
use Rattle.cmc_kernel.proofs.SameKeys.{key_eq-Decides}
use Rattle.cmc_world.specs.Searches.{FindsFirstKey}

pub tied_is_same : (a b : Key) → is_eq (key_cmp a b) ≡ true → a ≡ b
tied_is_same a b e = key_cmp-IsAntisymmetric a b ((Equal-is (key_cmp a b)).0 e)

tied-Decides : (a b : Key) → Decides (is_at (key_cmp a) b) (a ≡ b)
tied-Decides a b = (tied_is_same a b, λ same. subst (λ (k : Key). is_eq (key_cmp a k) ≡ true) same (ap is_eq (tied_itself key_cmp-total a)))

-- two tests of one fact agree
pub one_test : (a b : Key) → is_at (key_cmp a) b ≡ key_eq a b
one_test a b = same_from_decides _ _ (tied-Decides a b) (key_eq-Decides a b)

pub turned_test : (a b : Key) → is_at (key_cmp a) b ≡ key_eq b a
turned_test a b = same_from_decides _ _ (tied-Decides a b) ((λ e. sym ((key_eq-Decides b a).0 e)), (λ same. (key_eq-Decides b a).1 (sym same)))

-- the keys that are left to look at, after keys of which it is not so
pub record KeysLeft (P : Key → Type 0) (rest : List Key) : Type 0 where
  pub ordered : IsStrictlySortedBy key_cmp rest
  pub left : (k : Key) → P k → list_any (is_at (key_cmp k)) rest ≡ true

among : (b : Bool) (A : Type 0) → (b ≡ false → A → ⊥) → A → b ≡ true
among true A other is = refl
among false A other is = absurd (other refl is)

left_beyond : (b : Bool) (k key : Key) (rest : List Key) → is_eq (key_cmp k key) ≡ b → (k ≡ key → ⊥) → (b || list_any (is_at (key_cmp k)) rest) ≡ true → list_any (is_at (key_cmp k)) rest ≡ true
left_beyond true k key rest e apart any = absurd (apart (tied_is_same k key e))
left_beyond false k key rest e apart any = any

none_at : (k key : Key) (rest : List Key) → key_cmp k key ≡ Less → AllByRecursion (λ y. key_cmp key y ≡ Less) rest → list_any (is_at (key_cmp k)) rest ≡ false
none_at k key [] low above = refl
none_at k key (y ∷ rest) low above =
    ap (λ r. is_eq r || list_any (is_at (key_cmp k)) rest) (key_cmp-total.trans k key y low above.0) ∙ none_at k key rest low above.1

-- the first one of which it is so
pub key_found : (P : Key → Type 0) (key : Key) (rest : List Key) → P key → KeysLeft P (key ∷ rest) → FindsFirstKey P (Some key)
key_found P key rest is l = (is, below) where
  below : (k : Key) → key_cmp k key ≡ Less → P k → ⊥
  below k low f =
      let some : (is_eq (key_cmp k key) || list_any (is_at (key_cmp k)) rest) ≡ true = l.left k f in
      let none : (is_eq (key_cmp k key) || list_any (is_at (key_cmp k)) rest) ≡ false =
      ap (λ r. is_eq r || list_any (is_at (key_cmp k)) rest) low ∙ none_at k key rest low (sorted_head key_cmp key rest l.ordered) in
      absurd (cc (some, none))

-- there is none
pub none_found : (P : Key → Type 0) → KeysLeft P [] → FindsFirstKey P None
none_found P l = λ k is. let some = l.left k is in absurd (cc some)
