use Rattle.std.proofs.Common.{◌≡◌, ◌∙◌, ap, sym, subst}
use Rattle.std.specs.FinMap as finite
use Rattle.cmc_model.specs.Replies.{State}
use Rattle.cmc_model.specs.Histories.{objects}
use Rattle.cmc_kernel.specs.Kept.{Seen, on}
use Rattle.cmc_kernel.proofs.kernel.Kernel.objects.Goals as goal

pub returns : goal.returns
returns c =
    subst (λ (v : Seen). finite.entries (on objects v) ≡ c.objects.result.now.entries) c.self.view_is
    (ap (λ (st : State). finite.entries st.objects) (sym c.self.invariant.held.state) ∙ c.objects.ensures)
