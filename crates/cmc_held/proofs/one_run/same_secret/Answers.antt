use Rattle.cmc_objects.specs.declared.secret.Secret.{Secret as SecretObject}
use Rattle.cmc_held.proofs.OneRun.{by_version}
use Rattle.cmc_held.proofs.one_run.same_secret.Goals as goal

pub returns-in-Some-Some : goal.returns-in-Some-Some
returns-in-Some-Some c =
    by_version (λ (k : SecretObject). k.meta.version) c.args.left.now c.args.right.now c.in-Some-Some.left c.in-Some-Some.right c.deref.result.now c.deref-in-Some-Some.result.now
    c.requires c.in-Some-Some.is-0 c.in-Some-Some.is-1 c.deref.ensures c.deref-in-Some-Some.ensures
