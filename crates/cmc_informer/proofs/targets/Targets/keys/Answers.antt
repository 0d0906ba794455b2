use Rattle.std.proofs.Common.{sym, ap, ◌∙◌}
use Rattle.std.specs.Option.{option_copied}
use Rattle.cmc_informer.specs.Indexes.{points, mark_of}
use Rattle.cmc_informer.proofs.OneMark.{no_keys}
use Rattle.cmc_informer.proofs.targets.Targets.keys.Goals as goal

pub returns-in-None : goal.returns-in-None
unfolding points
returns-in-None c =
    rw c.new.ensures (no_keys (λ k. points c.args.self.now c.args.secret.now k) (λ k. rw (← c.self.view_is) (ap (λ o. mark_of o k) (sym c.get.ensures.value ∙ ap option_copied c.in-None.is))))
