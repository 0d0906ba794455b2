-- What was read of the line of a scenario is what it says, and else it is no such line.
use Rattle.std.proofs.Common.{◌≡◌, ◌≢◌, ℕ, List, ◌++◌, Ok, Err, ap, sym, subst, ◌∙◌, codes}
use Rattle.std.proofs.lemmas.List.{append_cancel_left, append_cancel_right}
use Rattle.serde_json.specs.Data.{Data}
use Rattle.serde_json.specs.Written.{compact_text}
use Rattle.cmc_setup.specs.declared.scenario.Scenario.{Scenario}
use Rattle.cmc_scenario.specs.Scenarios.{scenario_at}
use Rattle.cmc_line_reading.specs.Histories.{IsJson, IsScenario, IsScenarioOf}
use Rattle.cmc_line_reading.specs.Scenarios.{IsInside, IsInsideOf}
use Rattle.cmc_line_reading.proofs.Compared.{one_value}

pub no_name : (line : List ℕ) → ((rest : List ℕ) → line ≢ codes "{\"scenario\":" ++ rest) → IsInside line → ⊥
no_name line none is = none (is.0 ++ codes "}") is.1

pub no_bracket : (line rest : List ℕ) → line ≡ codes "{\"scenario\":" ++ rest → ((front : List ℕ) → rest ≢ front ++ codes "}") → IsInside line → ⊥
no_bracket line rest named none is = none is.0 (append_cancel_left (codes "{\"scenario\":") rest (is.0 ++ codes "}") (sym named ∙ is.1))

pub between : (line rest text : List ℕ) → line ≡ codes "{\"scenario\":" ++ rest → rest ≡ text ++ codes "}" → IsInsideOf line text
between line rest text named ends = named ∙ ap (λ t. codes "{\"scenario\":" ++ t) ends

-- one text stands inside
cancel_end : (a b : List ℕ) → a ++ codes "}" ≡ b ++ codes "}" → a ≡ b
cancel_end a b e = append_cancel_right a b (codes "}") e

pub one_text : (line a b : List ℕ) → IsInsideOf line a → IsInsideOf line b → a ≡ b
one_text line a b first second = cancel_end a b (append_cancel_left (codes "{\"scenario\":") (a ++ codes "}") (b ++ codes "}") (sym first ∙ second))

pub not_inside : (line : List ℕ) → (IsInside line → ⊥) → IsScenario line → ⊥
not_inside line none is = none (is.1.text, is.1.around)

pub no_json : (line text : List ℕ) → IsInsideOf line text → ((d : Data) → IsJson text d → ⊥) → IsScenario line → ⊥
no_json line text inside never is = never is.1.value (subst (λ (t : List ℕ). IsJson t is.1.value) (one_text line is.1.text text is.1.around inside) is.1.is.0)

same_value : (line text : List ℕ) (d : Data) → IsInsideOf line text → IsJson text d → (is : IsScenario line) → d ≡ is.1.value
same_value line text d inside value is = one_value text d is.1.value value (subst (λ (t : List ℕ). IsJson t is.1.value) (one_text line is.1.text text is.1.around inside) is.1.is.0)

pub not_read : (line text path : List ℕ) (d : Data) → IsInsideOf line text → IsJson text d → scenario_at d ≡ Err path → IsScenario line → ⊥
not_read line text path d inside value fails is = cc (ap scenario_at (same_value line text d inside value is), is.1.read, fails)

pub not_compact : (line text : List ℕ) (d : Data) → IsInsideOf line text → IsJson text d → (text ≡ compact_text d → ⊥) → IsScenario line → ⊥
not_compact line text d inside value differs is =
    differs (one_text line text is.1.text inside is.1.around ∙ is.1.is.1 ∙ ap compact_text (sym (same_value line text d inside value is)))

pub compact : (line text : List ℕ) (d : Data) (scenario : Scenario) → IsInsideOf line text → IsJson text d → scenario_at d ≡ Ok scenario → text ≡ compact_text d → IsScenarioOf line scenario
compact line text d scenario inside value reads same = record { text = text; value = d; around = inside; is = (value, same); read = reads }
