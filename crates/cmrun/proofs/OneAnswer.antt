-- With 0 workers what is written is a function of what is read, or of the count of a load.
use Rattle.std.proofs.Common.{◌≡◌, ◌∙◌, ℕ, ◌≤◌, Bool, List, Some, Ok, refl, sym, ap, subst, inl}
use Rattle.serde_json.specs.Data.{Data}
use Rattle.cmc_objects.specs.declared.entry.Entry.{Entry}
use Rattle.cmc_setup.specs.declared.scenario.Scenario.{Scenario}
use Rattle.cmc_setup.specs.Setups.{LeavesNothingFree}
use Rattle.cmc_report.specs.Text.{joined}
use Rattle.cmc_scenario.specs.Scenarios.{scenario_at}
use Rattle.cmc_scenario.specs.Loads.{load_setup}
use Rattle.cmc_scenario_print.specs.ScenarioTree.{scenario_tree}
use Rattle.cmc_scenario_laws.proofs.BoundRows.{what_is_read, what_is_made}
use Rattle.cmc_kernel.specs.Kept.{setting_of}
use Rattle.cmc_waits.specs.Waits.{summary_at}
use Rattle.cmc_world.proofs.Determined.{ends_agree, one_end}
use Rattle.cmc_world.proofs.FreeRows.{none_free}
use Rattle.cmrun.specs.Headline.{Reads, printed_lines, RunsOn, AnswersRun, IsRunOf, IsLoadOf, Spends, SpendsValue, SpendsAll}

-- of one scenario there is one text
one_text : (alone : Bool) (value : Data) (scenario : Scenario) (t u : List ℕ) → LeavesNothingFree scenario → RunsOn 0 alone value scenario t → RunsOn 0 alone value scenario u → t ≡ u
one_text alone value scenario t u bound a b =
    let same : a.history ≡ b.history =
    ends_agree (setting_of scenario) a.history b.history (a.plain refl) (inl a.finished) (b.plain refl) (inl b.finished) (none_free (setting_of scenario) a.history bound.material a.run.legal a.run.caused) in
    a.is ∙ ap (λ (h : List Entry). joined (printed_lines alone value h (summary_at (setting_of scenario) h))) same ∙ sym b.is

-- and none where its plain history comes to be full
not_both : (alone : Bool) (value : Data) (scenario : Scenario) (t : List ℕ) → LeavesNothingFree scenario → RunsOn 0 alone value scenario t → Spends scenario → ⊥
not_both alone value scenario t bound a spent =
    one_end (setting_of scenario) a.history spent.history (a.plain refl) a.finished spent.plain spent.full (none_free (setting_of scenario) a.history bound.material a.run.legal a.run.caused)

one_value : (bytes : List ℕ) (v w : Data) → Reads bytes v → Reads bytes w → v ≡ w
one_value bytes v w a b = let some : Some v ≡ Some w = sym a.json ∙ b.json in cc some

one_scenario : (v : Data) (a b : Scenario) → scenario_at v ≡ Ok a → scenario_at v ≡ Ok b → a ≡ b
one_scenario v a b x y = let ok : Ok a ≡ Ok b = sym x ∙ y in cc ok

pub one_run : (alone : Bool) (bytes t u : List ℕ) → IsRunOf 0 alone bytes t → IsRunOf 0 alone bytes u → t ≡ u
one_run alone bytes t u a b =
    let value : b.value ≡ a.value = one_value bytes b.value a.value b.reads a.reads in
    let other : AnswersRun 0 alone a.value u = subst (λ (v : Data). AnswersRun 0 alone v u) value b.answer in
    let scenario : other.scenario ≡ a.answer.scenario = one_scenario a.value other.scenario a.answer.scenario other.form a.answer.form in
    one_text alone a.value a.answer.scenario t u (what_is_read a.value a.answer.scenario a.answer.form) a.answer.runs (subst (λ (s : Scenario). RunsOn 0 alone a.value s u) scenario other.runs)

pub run_or_spent : (alone : Bool) (bytes t : List ℕ) → IsRunOf 0 alone bytes t → SpendsAll bytes → ⊥
run_or_spent alone bytes t a spent =
    let value : spent.value ≡ a.value = one_value bytes spent.value a.value spent.reads a.reads in
    let other : SpendsValue a.value = subst SpendsValue value spent.spends in
    let scenario : other.scenario ≡ a.answer.scenario = one_scenario a.value other.scenario a.answer.scenario other.form a.answer.form in
    not_both alone a.value a.answer.scenario t (what_is_read a.value a.answer.scenario a.answer.form) a.answer.runs (subst Spends scenario other.spends)

pub one_load : (alone : Bool) (count : ℕ) (t u : List ℕ) → 1 ≤ count → count ≤ 200 → IsLoadOf 0 alone count t → IsLoadOf 0 alone count u → t ≡ u
one_load alone count t u some few a b = one_text alone (scenario_tree (load_setup count)) (load_setup count) t u (what_is_made count some few) a b

pub load_or_spent : (alone : Bool) (count : ℕ) (t : List ℕ) → 1 ≤ count → count ≤ 200 → IsLoadOf 0 alone count t → Spends (load_setup count) → ⊥
load_or_spent alone count t some few a spent = not_both alone (scenario_tree (load_setup count)) (load_setup count) t (what_is_made count some few) a spent
