use Rattle.std.proofs.Common.{◌≡◌, ◌∙◌, refl, subst, sym, true}
use Rattle.cmc_moves.specs.Decisions.{BegunPass, decides_alone}
use Rattle.cmc_moves.proofs.Decisions.{decided_by}
use Rattle.cmc_moves.proofs.decision.decide.Goals as goal

pub invariant_of-result : goal.invariant_of-result
invariant_of-result c =
    decided_by c.args.begun c.in_ok-act.act (subst (λ (b : BegunPass). decides_alone b.role ≡ true) c.begun.view_is (sym c.decides_alone.ensures ∙ c.if-not-decides_alone.false)) c.in_ok-act.ensures

pub returns : goal.returns
returns c =
    record {
      role = refl;
      views = refl;
      since = refl;
      decided = decided_by c.args.begun c.in_ok-act.act (subst (λ (b : BegunPass). decides_alone b.role ≡ true) c.begun.view_is (sym c.decides_alone.ensures ∙ c.if-not-decides_alone.false)) c.in_ok-act.ensures;
    }
