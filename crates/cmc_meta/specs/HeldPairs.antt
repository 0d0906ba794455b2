-- The pairs of labels and annotations, whether they are held alone or shared.
use Rattle.std.specs.Prelude.{ℕ, List}
use Rattle.std.specs.Arc.{arc_value}
use Rattle.cmc_meta.specs.declared.pairs.Held.{Held}
use Rattle.cmc_meta.specs.declared.pairs.Held.TheVariants.{Own, Shared}

abbrev pub pairs_of : Held → List (List ℕ × List ℕ)
pairs_of (Own map) = map.entries
pairs_of (Shared map) = (arc_value map).entries
