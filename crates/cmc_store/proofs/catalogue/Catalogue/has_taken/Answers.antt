use Rattle.std.proofs.Common.{sym, ◌∙◌}
use Rattle.cmc_store.proofs.ClaimLaws.{taken_by_claim}
use Rattle.cmc_store.proofs.catalogue.Catalogue.has_taken.Goals as goal

pub returns-in-Some : goal.returns-in-Some
returns-in-Some c =
    rw (← c.self.view_is) (c.is_of_another.ensures ∙ rw (c.meta.ensures, c.get.ensures) (sym (taken_by_claim c.self.inside.shelf c.self.inside.claims c.args.object.now c.in-Some.secret c.self.invariant (sym (rw c.in-Some.is at c.in_ok-secret_of.ensures)))))
