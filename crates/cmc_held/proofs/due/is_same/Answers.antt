use Rattle.std.proofs.Common.{subst, sym}
use Rattle.cmc_pass.specs.declared.pass.Views.{Views}
use Rattle.cmc_held.specs.OneRun.{IsOfOneRun, AreOfOneRun}
use Rattle.cmc_held.proofs.due.is_same.Goals as goal

pub same_seen-requires : goal.same_seen-requires
same_seen-requires c =
    let told = subst (λ last. IsOfOneRun last c.args.seen.now) c.in-Some.is c.requires in
    subst (λ (v : Views). AreOfOneRun v c.args.seen.now) (sym c.deref.ensures) told
