-- An index where one key moves from some rows to others.
use Rattle.std.proofs.Common.{◌≡◌, Bool, true, false, refl, sym, ap, ◌∙◌}
use Rattle.std.specs.Prelude.{◌&&◌, if◌then◌else◌}
use Rattle.cmc_meta.specs.declared.key.Key.{Key}
use Rattle.cmc_meta.specs.Keys.{key_eq}
use Rattle.cmc_informer.proofs.OneMark.{equal_key}

on : (a b : Bool) → (if a && true then true else (if b && true then false else b)) ≡ a
on true b = refl
on false true = refl
on false false = refl

off : (a b : Bool) (r : Bool) → (if a && false then true else (if b && false then false else r)) ≡ r
off true true r = refl
off true false r = refl
off false true r = refl
off false false r = refl

reindexed_by : {U : Type 0} (b : Bool) (index cleared new : U → Key → Bool) (was is : U → Bool) (key k : Key) (u : U) → key_eq key k ≡ b → index u key ≡ was u
    → cleared u k ≡ (if was u && b then false else index u k) → new u k ≡ (if is u && b then true else cleared u k) → new u k ≡ (if b then is u else index u k)
reindexed_by true index cleared new was is key k u e stood first then_put =
    let here : index u k ≡ was u = ap (index u) (sym (equal_key key k e)) ∙ stood in
    then_put ∙ ap (λ r. if is u && true then true else r) (first ∙ ap (λ r. if was u && true then false else r) here) ∙ on (is u) (was u)
reindexed_by false index cleared new was is key k u e stood first then_put =
    then_put ∙ ap (λ r. if is u && false then true else r) first ∙ off (is u) (was u) (index u k)

-- the key is taken from the rows where it stood, and then put into others
pub reindexed : {U : Type 0} (index cleared new : U → Key → Bool) (was is : U → Bool) (key : Key) → ((u : U) → index u key ≡ was u)
    → ((u : U) (k : Key) → cleared u k ≡ (if was u && key_eq key k then false else index u k))
    → ((u : U) (k : Key) → new u k ≡ (if is u && key_eq key k then true else cleared u k))
    → (u : U) (k : Key) → new u k ≡ (if key_eq key k then is u else index u k)
reindexed index cleared new was is key stood first then_put u k =
    reindexed_by (key_eq key k) index cleared new was is key k u refl (stood u) (first u k) (then_put u k)

alike_by : {U : Type 0} (b : Bool) (index : U → Key → Bool) (was is : U → Bool) (key k : Key) (u : U) → key_eq key k ≡ b → index u key ≡ was u → is u ≡ was u → index u k ≡ (if b then is u else index u k)
alike_by true index was is key k u e stood same = ap (index u) (sym (equal_key key k e)) ∙ stood ∙ sym same
alike_by false index was is key k u e stood same = refl

-- where the key is to stand in the rows in which it stood, nothing has to be changed
pub stands_alike : {U : Type 0} (index : U → Key → Bool) (was is : U → Bool) (key : Key) → ((u : U) → index u key ≡ was u) → ((u : U) → is u ≡ was u)
    → (u : U) (k : Key) → index u k ≡ (if key_eq key k then is u else index u k)
stands_alike index was is key stood same u k = alike_by (key_eq key k) index was is key k u refl (stood u) (same u)
