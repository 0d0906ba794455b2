use Rattle.std.proofs.Common.{sym, ap, ◌∙◌}
use Rattle.cmc_model.specs.Objects.{Objects, object_at}
use Rattle.cmc_store.specs.Claims as spec
use Rattle.cmc_store.proofs.ClaimLaws.{kept_as, by_put}
use Rattle.cmc_store.proofs.catalogue.Catalogue.put.Goals as goal

pub invariant_of-self : goal.invariant_of-self
invariant_of-self c =
    by_put (λ m. spec.IsIndex m c.self.inside.claims) c.put.result c.self.inside.shelf _ c.put.new.self c.put.ensures.ok c.put.ensures.err
    (λ stored. kept_as _ _ _ _ _ _ _ c.self.invariant c.requires.key (c.requires.old ∙ ap (λ (m : Objects). spec.secret_named_in (object_at m c.args.key)) (sym c.self.view_is)) c.in_ok-new.ensures (c.is_same_secret.ensures.0 c.if-is_same_secret.true) stored)
    (λ same. rw same c.self.invariant)
