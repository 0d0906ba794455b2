use Rattle.std.proofs.Common.{◌≡◌, ◌++◌, drop, string_bytes}
use Rattle.cmc_cursor.specs.Members.{dotted}
use Rattle.cmc_cursor.proofs.paths.joined.Given as goal

abbrev pub invariant-loop-name : goal.invariant-loop-name
invariant-loop-name l = string_bytes l.joined ++ dotted (drop l.name-index l.names) ≡ string_bytes l.initial.joined ++ dotted l.names
