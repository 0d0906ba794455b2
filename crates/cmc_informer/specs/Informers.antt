-- What contracts see of an informer.
use Rattle.std.specs.Prelude.{◌≡◌, ℕ, List}
use Rattle.cmc_meta.specs.declared.key.Kind.{Kind}
use Rattle.cmc_model.specs.declared.write.Write.{Write}
use Rattle.cmc_model.specs.Objects.{Objects}
use Rattle.cmc_model.specs.Writes.{contents, of_kind, oldest}

pub record Informed : Type 0 where
  pub kind : Kind
  -- how many of the accepted writes it was told
  pub position : ℕ
  pub objects : Objects

-- it holds the objects of its kind as they stood after the first `position` of these writes
abbrev pub IsCacheAt : Informed → List Write → Type 0
IsCacheAt informer writes = informer.objects ≡ contents (of_kind informer.kind (oldest informer.position writes))
