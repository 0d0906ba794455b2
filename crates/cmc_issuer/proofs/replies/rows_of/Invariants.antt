use Rattle.std.proofs.Common.{◌≡◌}
use Rattle.cmc_meta.specs.declared.key.Kind.TheVariants.{Certificate}
use Rattle.cmc_objects.specs.Materials.{rows_under}
use Rattle.cmc_issuer.proofs.replies.rows_of.Given as goal

abbrev pub invariant-loop-key : goal.invariant-loop-key
invariant-loop-key l =
    rows_under l.key-iterator (record { kind = Certificate; namespace = l.namespace; name = l.name }) ≡ rows_under l.material (record { kind = Certificate; namespace = l.namespace; name = l.name })
