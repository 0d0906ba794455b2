-- A role that was told so far sees what the history says that it sees: of a kind that it is not told of, it looks at nothing.
use Rattle.std.proofs.Common.{◌≡◌, List, refl}
use Rattle.cmc_meta.specs.declared.key.Key.{Key}
use Rattle.cmc_objects.specs.declared.role.Role.{Role}
use Rattle.cmc_objects.specs.declared.role.Role.TheVariants.{Trigger}
use Rattle.cmc_objects.specs.declared.entry.Entry.{Entry}
use Rattle.cmc_model.specs.Histories.{Setting}
use Rattle.cmc_model.specs.Writes.{writes}
use Rattle.cmc_rules.specs.Positions.{positions}
use Rattle.cmc_rules.specs.Views.{views_in, views_of, views}
use Rattle.cmc_caches.specs.Told.{caches_at}

pub views-told : (s : Setting) (h : List Entry) (role : Role) (key : Key) → views_in role (caches_at (writes s h) (positions h role)) key ≡ views s h role key
unfolding views_in views_of
views-told s h Trigger key = refl
views-told s h other key = refl
