-- What a collection keeps of its parts.
use Rattle.std.specs.Prelude.{◌≡◌, ◌≤◌, true, length}
use Rattle.cmc_meta.specs.declared.key.Key.{Key}
use Rattle.cmc_meta.specs.declared.key.Kind.{Kind}
use Rattle.cmc_model.specs.Histories.{state}
use Rattle.cmc_model.specs.Writes.{writes}
use Rattle.cmc_collector.specs.Caches.{AreCachesAt, Informers, position_in}
use Rattle.cmc_collector.specs.CachePositions.{cached_object, has_any_owner, position}
use Rattle.cmc_collector.specs.Examinations.{examination}
use Rattle.cmc_collector.specs.Moves.{IsCollected}
use Rattle.cmc_collector.specs.Replays.{Collecting, on, played, setting}
use Rattle.cmc_collector.specs.Rows.{Rowed, has_examine_row, examination_under}
use Rattle.cmc_collector.specs.Watched.{Served}

-- the parts are what the moments say
pub record IsCollectorOf (c : Collecting) (server : Served) (caches : Informers) (rows : Rowed) : Type 0 where
  pub state_is : server.state ≡ state (setting c) (played c.moments)
  pub writes_are : server.writes ≡ writes (setting c) (played c.moments)
  pub told : AreCachesAt caches server.writes
  pub position_is : (kind : Kind) → position_in kind caches ≡ position kind c.moments
  pub row_is : (key : Key) → examination_under rows key ≡ on examination c key
  -- no object of a cache that has owners is without a row
  pub covered : (key : Key) → has_any_owner (on cached_object c key) ≡ true → has_examine_row rows key ≡ true
  pub collected : on IsCollected c
  pub fits : length c.moments ≤ c.events
