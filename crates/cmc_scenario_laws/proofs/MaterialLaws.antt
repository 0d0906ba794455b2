-- The law of the rows of all Certificates, of what is so of each reading.
use Rattle.std.proofs.Common.{List}
use Rattle.std.specs.List.{AllByRecursion}
use Rattle.cmc_meta.specs.declared.key.Key.{Key}
use Rattle.cmc_objects.specs.declared.rows.Rows.{Rows}
use Rattle.cmc_scenario_laws.specs.Rows.{AreInOrder, HasEntryBytes, IsMaterialReadAgain}
use Rattle.cmc_scenario_laws.proofs.MaterialAgain.{material_again, material_listed}

pub whole_again : (material : List (Key × Rows)) → AreInOrder material → AllByRecursion HasEntryBytes material → IsMaterialReadAgain material
whole_again material order bytes d read = material_again material order ((material_listed d).each material read) bytes
