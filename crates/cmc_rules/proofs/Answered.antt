-- In a legal history each call has the store's reply.
use Rattle.std.proofs.Common.{List, [], ◌∷◌}
use Rattle.cmc_objects.specs.declared.entry.Entry.{Entry}
use Rattle.cmc_objects.specs.declared.entry.Entry.TheVariants.{Call as Called}
use Rattle.cmc_model.specs.Histories.{Setting}
use Rattle.cmc_model.specs.Verdicts.{IsAnswered, AreFinal}
use Rattle.cmc_model.proofs.Verdicts.{verdicts_final}
use Rattle.cmc_rules.specs.Legality.{IsLegal}

pub answered : (s : Setting) (h : List Entry) → IsLegal s h → IsAnswered s h
unfolding IsLegal
answered s [] legal = tt
answered s (Called who call reply ∷ h) legal = (legal.0.0, answered s h legal.1)
answered s (other ∷ h) legal = answered s h legal.1

pub verdicts_stay_in : (s : Setting) (h : List Entry) → IsLegal s h → AreFinal s h
verdicts_stay_in s h legal = verdicts_final s h (answered s h legal)
