-- That no Certificate is left without a name for what it waits for.
use Rattle.std.specs.Prelude.{◌≡◌, ◌+◌, true, List, length, Some, IsSome}
use Rattle.std.specs.List.{list_any}
use Rattle.cmc_meta.specs.declared.key.Key.{Key}
use Rattle.cmc_meta.specs.Keys.{key_eq}
use Rattle.cmc_objects.specs.declared.object.Object.{Object}
use Rattle.cmc_objects.specs.declared.entry.Entry.{Entry}
use Rattle.cmc_summary.specs.declared.summary.Summary.{Summary}
use Rattle.cmc_model.specs.Objects.{object_at}
use Rattle.cmc_model.specs.Histories.{Setting, objects}
use Rattle.cmc_model.specs.Summaries.{is_waiting}
use Rattle.cmc_waits.specs.Waits.{wait_at}

-- each Certificate that exists and is not Ready waits for something that has a name
abbrev pub NamesEachWait : Setting → List Entry → Type 0
NamesEachWait s h = (key : Key) (o : Object) → object_at (objects s h) key ≡ Some o → is_waiting o ≡ true → IsSome (wait_at s h key)

-- The summary leaves none out: each Certificate that exists and is not Ready has an item, and there are just so many items.
pub record IsWhole (s : Setting) (h : List Entry) (summary : Summary) : Type 0 where
  pub each : (key : Key) (o : Object) → object_at (objects s h) key ≡ Some o → is_waiting o ≡ true → list_any (λ w. key_eq w.certificate key) summary.waiting ≡ true
  pub all : summary.certificates ≡ summary.ready + length summary.waiting
