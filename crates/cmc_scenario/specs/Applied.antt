-- The step that applies an object.
use Rattle.std.specs.Prelude.{Ok}
use Rattle.serde_json.specs.Data.{Data}
use Rattle.cmc_objects.specs.declared.entry.Step.{Step}
use Rattle.cmc_objects.specs.declared.entry.Step.TheVariants.{Apply}
use Rattle.cmc_cursor.specs.Members.{Read, ◌>>=◌}
use Rattle.cmc_codec.specs.ObjectForm as objects

-- The object, at the resource version that it names.
abbrev pub apply_step_at : Data → Read Step
apply_step_at d = objects.applied_at d >>= (λ applied. Ok (Apply applied.object applied.version))
