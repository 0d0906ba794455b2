use Rattle.cmc_meta.specs.declared.key.Kind.TheVariants as kinds
use Rattle.cmc_caches.specs.Affected.{left_by}
use Rattle.cmc_caches.proofs.Seeing.{sees_secrets}
use Rattle.cmc_caches.specs.Board.{shown_by}
use Rattle.cmc_caches.proofs.affected.by_secrets.Goals as goal

pub returns-clause-sees : goal.returns-clause-sees
returns-clause-sees c requests =
    sees_secrets c.args.role (shown_by c.args.certificates.now) requests (left_by c.args.writes.now kinds.Secret c.args.from) (left_by c.args.writes.now kinds.Secret c.args.to) c.in_ok-keys.keys.items c.add_by_targets.new.keys.items
    c.in_ok-keys.ensures.sees c.in_ok-add_by_targets.ensures.keeps c.in_ok-add_by_targets.ensures.sees
