use Rattle.std.proofs.Common.{◌≡◌, []}
use Rattle.serde_json.specs.View.{members_view}
use Rattle.cmc_material.specs.MaterialRows.{material_with}
use Rattle.cmc_material.proofs.materials.entries.Given as goal

abbrev pub invariant-loop-name : goal.invariant-loop-name
invariant-loop-name l = material_with l.material (members_view l.name-iterator) ≡ material_with [] (members_view l.members.entries)
