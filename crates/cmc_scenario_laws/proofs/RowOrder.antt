-- The rows of a map stand in order of key.
use Rattle.std.proofs.Common.{◌≡◌, List, [], ◌∷◌}
use Rattle.std.specs.List.{AllByRecursion}
use Rattle.std.specs.List.Sorted.{IsStrictlySortedBy}
use Rattle.std.specs.Map.{keys_of}
use Rattle.std.specs.declared.cmp.Ordering.TheVariants.{Less}
use Rattle.cmc_meta.specs.Keys.{key_cmp}
use Rattle.cmc_meta.specs.declared.key.Key.{Key}
use Rattle.cmc_objects.specs.declared.rows.Rows.{Rows}
use Rattle.cmc_scenario_laws.specs.Rows.{AreInOrder}

below : (key : Key) (es : List (Key × Rows)) → AllByRecursion (λ k. key_cmp key k ≡ Less) (keys_of es) → AllByRecursion (λ (f : Key × Rows). key_cmp key f.0 ≡ Less) es
below key [] h = tt
below key (e ∷ es) h = (h.0, below key es h.1)

pub in_order : (es : List (Key × Rows)) → IsStrictlySortedBy key_cmp (keys_of es) → AreInOrder es
unfolding IsStrictlySortedBy
in_order [] h = tt
in_order (e ∷ es) h = (below e.0 es h.0, in_order es h.1)
