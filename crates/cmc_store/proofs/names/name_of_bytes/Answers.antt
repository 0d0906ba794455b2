use Rattle.cmc_store.proofs.Labels.{name_utf8}
use Rattle.cmc_store.proofs.names.name_of_bytes.Goals as goal

pub unreachable-requires : goal.unreachable-requires
unreachable-requires c = c.in_default.ensures.cases.0 (name_utf8 c.args.bytes.now c.requires)
