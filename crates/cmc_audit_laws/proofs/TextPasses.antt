-- The text that is printed of a run is read as that of a history, and is audited yes.
use Rattle.std.proofs.Common.{◌≡◌, ◌<◌, ◌≤◌, ◌+◌, ◌^◌, ℕ, List, length, map, reverse, Ok, Err, refl, ap, sym, subst, ◌∙◌, arith}
use Rattle.std.proofs.lemmas.List.{reverse-reverse}
use Rattle.std.specs.List.{AllByRecursion}
use Rattle.std.specs.Str.{IsUtf8}
use Rattle.std.specs.declared.result.Result.{Result}
use Rattle.serde_json.specs.Data.{Data}
use Rattle.cmc_objects.specs.declared.entry.Entry.{Entry}
use Rattle.cmc_model.specs.Histories.{objects}
use Rattle.cmc_rules.specs.Runs.{IsRun}
use Rattle.cmc_setup.specs.Setups.{Setup, IsSetup}
use Rattle.cmc_safety.specs.Formed.{IsFormed}
use Rattle.cmc_safety.proofs.Course.{AreSound}
use Rattle.cmc_kernel.proofs.Starting.{formed}
use Rattle.cmc_summary.specs.declared.summary.Summary.{Summary}
use Rattle.cmc_waits.specs.Waits.{summary_at}
use Rattle.cmc_report.specs.Text.{joined, history_lines}
use Rattle.cmc_lines.specs.declared.line.PrintedLine.{PrintedLine}
use Rattle.cmc_lines.specs.declared.printed.Printed.{Printed}
use Rattle.cmc_lines.specs.Shown.{line_of_entry}
use Rattle.cmc_line_reading.specs.declared.history.BadHistory.{BadHistory}
use Rattle.cmc_line_reading.specs.declared.history.BadHistory.TheVariants as bad
use Rattle.cmc_line_reading.specs.Histories.{IsHistoryOf, IsReading, counts_of}
use Rattle.cmc_line_reading.proofs.OneHistory.{IsOneHistory, one_history}
use Rattle.cmc_audit_ledger.specs.Ledgers.{setting_of}
use Rattle.cmc_audit_clauses.specs.declared.clause.Verdict.{Verdict}
use Rattle.cmc_audit_clauses.specs.declared.clause.Verdict.TheVariants.{Yes}
use Rattle.cmc_audit.specs.Verdicts.{IsVerdict, counted}
use Rattle.cmc_audit_laws.specs.Counted.{EachCounted}
use Rattle.cmc_audit_laws.specs.AuditedYes.{NameTheirKeys, IsAuditedYes}
use Rattle.cmc_audit_laws.specs.Printed.{IsValueOf, ArePrintableEntries, IsPrintedOf, IsTypedSummary, IsRunPrinted, ReadsYes, IsTextAuditedYes}
use Rattle.cmc_audit_laws.specs.Typed.{AreTyped}
use Rattle.cmc_audit_laws.proofs.EntriesFormed.{are_formed}
use Rattle.cmc_audit_laws.proofs.Given.{are_given}
use Rattle.cmc_audit_laws.proofs.RunPasses.{have_seconds, run_passes}
use Rattle.cmc_audit_laws.proofs.RunText.{AreUtf8, text_is}
use Rattle.cmc_audit_laws.proofs.ScriptsBare.{applies_bare}
use Rattle.cmc_audit_laws.proofs.SummaryFormed.{summary_formed, summary_counts}
use Rattle.cmc_audit_laws.proofs.Utf8Lines.{parts_utf8}

-- what types say of the entries and of the summary
pub record AreOfTypes (h : List Entry) (summary : Summary) : Type 0 where
  pub names : NameTheirKeys h
  pub types : AreTyped h
  pub numbers : EachCounted h
  pub summary_types : IsTypedSummary summary

-- ---- the text is that of a history

entries_are : AreSound → (value : Data) (u : Setup) (h : List Entry) (summary : Summary) (lines : List (List ℕ)) → IsSetup u → AreOfTypes h summary → IsRunPrinted value u h summary lines → ArePrintableEntries h
entries_are sound value u h summary lines setup types printed =
    let given = are_given sound (setting_of u) h (formed u setup) (applies_bare value u printed.value_is.is) (record { legal = printed.run.legal; caused = printed.run.caused; follows = printed.run.follows }) in
    record { formed = are_formed h types.types given; typed = types.types; counted = types.numbers; few = omega (arith, printed.run.short, setup.most_events) }

pub is_printed : AreSound → (value : Data) (u : Setup) (h : List Entry) (summary : Summary) (lines : List (List ℕ)) → IsSetup u → AreOfTypes h summary → AreUtf8 lines → IsRunPrinted value u h summary lines
    → IsPrintedOf (joined lines) u h summary
is_printed sound value u h summary lines setup types utf8 printed =
    let parts = parts_utf8 value h summary (subst AreUtf8 printed.lines_are utf8) in
    let is_summary = summary_formed (setting_of u) h summary printed.run.legal printed.summary_is types.summary_types in
    subst (λ (ls : List (List ℕ)). IsPrintedOf (joined ls) u h summary) (sym printed.lines_are)
    (text_is value u h summary printed.value_is (entries_are sound value u h summary lines setup types printed) is_summary parts.value parts.rest)

-- ---- and whatever is read of it

read_yes : (u : Setup) (h : List Entry) (summary : Summary) (printed : Printed) → IsAuditedYes (setting_of u) h → counts_of summary ≡ counted (objects (setting_of u) h) → IsOneHistory u printed.scenario (reverse (map line_of_entry h)) printed.entries (counts_of summary) printed.counts
    → ReadsYes (length h) (Ok printed)
read_yes u h summary printed passes right one verdict is =
    let lines : reverse printed.entries ≡ map line_of_entry h = ap reverse (sym one.entries) ∙ reverse-reverse (map line_of_entry h) in
    let at_scenario = subst (λ (v : Setup). IsVerdict (setting_of v) (reverse printed.entries) printed.counts verdict) (sym one.scenario) is in
    let at_lines = subst (λ (ls : List PrintedLine). IsVerdict (setting_of u) ls printed.counts verdict) lines at_scenario in
    passes printed.counts verdict (sym one.counts ∙ right) at_lines

pub text_passes : AreSound → (value : Data) (u : Setup) (h : List Entry) (summary : Summary) (lines : List (List ℕ)) → IsSetup u → AreOfTypes h summary → AreUtf8 lines → IsRunPrinted value u h summary lines
    → IsTextAuditedYes (joined lines) (length h)
text_passes sound value u h summary lines setup types utf8 printed r reading = by r reading where
  text : List ℕ
  text = joined lines

  history : IsPrintedOf text u h summary
  history = is_printed sound value u h summary lines setup types utf8 printed

  passes : IsAuditedYes (setting_of u) h
  passes = run_passes sound (setting_of u) h (formed u setup) (have_seconds u.script setup.ticks) printed.run types.names

  by : (r : Result Printed BadHistory) → IsReading text r → ReadsYes (length h) r
  by (Ok given) is =
      read_yes u h summary given passes (summary_counts (setting_of u) h summary printed.summary_is) (one_history text u given.scenario (reverse (map line_of_entry h)) given.entries (counts_of summary) given.counts history is)
  by (Err (bad.Line number)) is = is.0 (u, reverse (map line_of_entry h), counts_of summary, history)
  by (Err bad.NoMemory) is = tt

-- ---- of a world, whose scenario and history are these

abbrev Passes : Setup → List Entry → Summary → List (List ℕ) → Type 0
Passes u h summary lines = (value : Data) → IsRunPrinted value u h summary lines → IsTextAuditedYes (joined lines) (length h)

pub of_world : (u v : Setup) (h k : List Entry) (summary : Summary) (lines : List (List ℕ)) (value : Data) → v ≡ u → k ≡ h → Passes v k summary lines → IsValueOf value u → IsRun (setting_of u) h
    → summary ≡ summary_at (setting_of u) h → lines ≡ history_lines value h summary → IsTextAuditedYes (joined lines) (length h)
of_world u v h k summary lines value same_scenario same_history passes value_is run summary_is lines_are =
    let here : Passes u h summary lines = subst (λ (w : Setup). Passes w h summary lines) same_scenario (subst (λ (e : List Entry). Passes v e summary lines) same_history passes) in
    here value (record { value_is = value_is; run = run; summary_is = summary_is; lines_are = lines_are })
