use Rattle.std.proofs.Common.{◌≡◌, map, take}
use Rattle.serde_json.specs.Data.{string}
use Rattle.cmc_print.specs.Trees.{items_in}
use Rattle.cmc_print.proofs.puts.texts_tree.Given as goal

abbrev pub invariant-loop-text : goal.invariant-loop-text
invariant-loop-text l = items_in l.trees ≡ map string (take l.text-index l.texts)
