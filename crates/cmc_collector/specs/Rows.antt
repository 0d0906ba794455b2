-- What contracts see of the rows.
use Rattle.std.specs.Prelude.{◌≡◌, Bool, true, List, Option, Some, None, is_some}
use Rattle.std.specs.BTreeMap.{is_at}
use Rattle.std.specs.Map.{lookup}
use Rattle.cmc_meta.specs.declared.key.Key.{Key}
use Rattle.cmc_meta.specs.Keys.{key_cmp}
use Rattle.cmc_collector.specs.declared.examination.Examination.{Examination}
use Rattle.cmc_collector.specs.Caches.{Informers, informer_object}
use Rattle.cmc_collector.specs.CachePositions.{has_any_owner}
use Rattle.cmc_collector.specs.declared.rows.Row.{Row}

-- keys, in order, each with its row; one without an examination is room alone
abbrev pub Rowed : Type 0
Rowed = List (Key × Row)

abbrev pub examination_of : Option Row → Option Examination
examination_of None = None
examination_of (Some row) = row.examination

unfoldable pub examination_under : Rowed → Key → Option Examination
examination_under rows key = examination_of (lookup (is_at (key_cmp key)) rows)

unfoldable pub has_examine_row : Rowed → Key → Bool
has_examine_row rows key = is_some (lookup (is_at (key_cmp key)) rows)

-- no object of a cache that has owners is without a row
abbrev pub AreCovered : Informers → Rowed → Type 0
AreCovered i rows = (key : Key) → has_any_owner (informer_object i key) ≡ true → has_examine_row rows key ≡ true
