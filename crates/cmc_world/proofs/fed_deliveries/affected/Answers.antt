use Rattle.std.proofs.Common.{ap, subst, sym}
use Rattle.cmc_rules.specs.Positions.{position_of}
use Rattle.cmc_caches.specs.Board.{AreBornWhereNumbered}
use Rattle.cmc_caches.specs.Posted.{told_of}
use Rattle.cmc_caches.proofs.Births.{legal_births}
use Rattle.cmc_kernel.specs.Kept.{setting_of}
use Rattle.cmc_world.proofs.Affecting.{are_affected, both_ok, from_low, upto_within}
use Rattle.cmc_world.proofs.fed_deliveries.affected.Goals as goal

pub affected-requires-clause-above : goal.affected-requires-clause-above
affected-requires-clause-above c =
    from_low (setting_of c.args.kernel.now.scenario) c.args.kernel.now.history c.args.role c.args.kind c.args.to (position_of c.args.kind (told_of c.caches.result.now.told c.args.role)) c.args.upto
    (ap (position_of c.args.kind) (c.caches.ensures.told c.args.role)) c.requires

pub affected-requires-clause-within : goal.affected-requires-clause-within
affected-requires-clause-within c =
    upto_within (setting_of c.args.kernel.now.scenario) c.args.kernel.now.history c.args.role c.args.kind c.args.to c.args.upto c.caches.result.now.writes c.caches.ensures.writes c.requires

pub affected-requires-clause-born : goal.affected-requires-clause-born
affected-requires-clause-born c = subst AreBornWhereNumbered (sym c.caches.ensures.writes) (legal_births (setting_of c.args.kernel.now.scenario) c.args.kernel.now.history c.is_run.ensures.run.legal)

pub returns : goal.returns
returns c =
    both_ok c.affected.result _ _ _
    (λ keys named same.
    are_affected (setting_of c.args.kernel.now.scenario) c.args.kernel.now.history c.args.role c.args.kind c.args.to c.args.upto c.caches.result.now keys.items c.requires
    c.caches.ensures.writes (c.caches.ensures.told c.args.role) named same)
    c.affected.ensures.work c.affected.ensures.sees
