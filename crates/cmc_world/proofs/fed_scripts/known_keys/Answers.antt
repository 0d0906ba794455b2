use Rattle.cmc_kernel.specs.Kept.{setting_of}
use Rattle.cmc_world.proofs.KnownKeys.{known_both}
use Rattle.cmc_world.proofs.fed_scripts.known_keys.Goals as goal

pub returns : goal.returns
returns c =
    known_both (setting_of c.args.kernel.now.scenario) c.args.kernel.now.history c.args.role c.as_slice.result.now c.log.result.now.writes c.objects.result.now.entries c.in_ok-keys.keys.items c.add_present.new.keys.items
    c.as_slice.ensures c.log.ensures c.objects.ensures c.in_ok-keys.ensures c.in_ok-add_present.ensures
