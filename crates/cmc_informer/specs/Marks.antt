-- How keys that count are kept: none, one, or a map of more.
use Rattle.std.specs.Prelude.{[], ◌∷◌}
use Rattle.cmc_informer.specs.declared.marks.Held.{Held}
use Rattle.cmc_informer.specs.declared.marks.Held.TheVariants.{Nothing, One, More}
use Rattle.cmc_informer.specs.declared.marks.Mark.{Mark}
use Rattle.cmc_informer.specs.Indexes.{Marked}

abbrev pub marked_by : Mark → Marked
marked_by mark = (mark.key, mark.on) ∷ []

abbrev pub marked : Held → Marked
marked Nothing = []
marked (One mark) = marked_by mark
marked (More map) = map
