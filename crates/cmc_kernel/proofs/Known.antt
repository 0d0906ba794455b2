-- No object stands under a key that no accepted write named.
use Rattle.std.proofs.Common.{◌≡◌, List, [], ◌∷◌, None, Bool, true, false, cond, refl, sym, ap, subst, ◌∙◌}
use Rattle.std.specs.Prelude.{◌||◌}
use Rattle.std.specs.FinMap.{get-empty}
use Rattle.std.specs.Ordering.{eq_by_cmp}
use Rattle.std.proofs.lemmas.Bool.{or_parts}
use Rattle.cmc_meta.specs.declared.key.Key.{Key}
use Rattle.cmc_meta.specs.Keys.{key_cmp, key_eq}
use Rattle.cmc_model.specs.declared.write.Write.{Write}
use Rattle.cmc_model.specs.Objects.{object_at}
use Rattle.cmc_model.specs.Writes.{contents, is_known}
use Rattle.cmc_model.proofs.Versions.{object_at-put}
use Rattle.cmc_kernel.proofs.OneKind.{same_at}
use Rattle.cmc_kernel.proofs.SameKeys.{key_eq-refl}

-- the two tests on keys
unequal : (q k : Key) (b : Bool) → eq_by_cmp key_cmp q k ≡ b → key_eq k q ≡ false → b ≡ false
unequal q k true is apart =
    let same : q ≡ k = same_at q k is in
    let on : key_eq k q ≡ true = subst (λ (x : Key). key_eq k x ≡ true) (sym same) (key_eq-refl k) in
    absurd (cc (on, apart))
unequal q k false is apart = refl

pub none_under : (key : Key) (ws : List Write) → is_known key ws ≡ false → object_at (contents ws) key ≡ None
unfolding contents
none_under key [] none = get-empty key_cmp key
none_under key (w ∷ ws) none =
    let parts = or_parts (key_eq w.key key) (is_known key ws) none in
    object_at-put (contents ws) w.key w.object key
    ∙ ap (λ (b : Bool). cond b w.object (object_at (contents ws) key)) (unequal key w.key (eq_by_cmp key_cmp key w.key) refl parts.0)
    ∙ none_under key ws parts.1
