-- What a look for the next pass comes to.
use Rattle.cmc_kernel.specs.Kept.{Seen, on}
use Rattle.cmc_world.specs.Searches.{IsWork}
use Rattle.cmc_world.specs.declared.openings.Opening.{Opening}
use Rattle.cmc_workers.specs.declared.rounds.Found.{Found}
use Rattle.cmc_workers.specs.declared.rounds.Found.TheVariants.{Work}

-- the pass may begin, and has something to do
abbrev pub IsWorkOpening : Seen → Opening → Type 0
IsWorkOpening world o = on IsWork world o.role o.key o

abbrev pub IsFound : Seen → Found → Type 0
IsFound world (Work o) = IsWorkOpening world o
IsFound world other = Unit {0}
