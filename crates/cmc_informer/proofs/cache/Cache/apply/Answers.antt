use Rattle.std.proofs.Common.{ap, ◌∙◌}
use Rattle.cmc_model.specs.Objects.{Objects}
use Rattle.cmc_informer.specs.Caches.{after_writes}
use Rattle.cmc_informer.specs.Superseded.{writes_of}
use Rattle.cmc_informer.proofs.cache.Cache.apply.Goals as goal

pub returns-clause-ok : goal.returns-clause-ok
returns-clause-ok c =
    c.make.ensures.objects
    ∙ ap (λ (m : Objects). after_writes m (writes_of c.in_ok-changes.changes.items)) (c.in_ok-changes.ensures.same ∙ c.self.view_is ∙ c.requires.holds) ∙ c.in_ok-changes.ensures.changes
