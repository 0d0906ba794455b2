-- The verdict on the lines of a run is yes.
use Rattle.std.proofs.Common.{ℕ, ◌-◌, List, refl, subst}
use Rattle.std.proofs.lemmas.Option.{get_or_from_slice_get, slice_get_within}
use Rattle.std.specs.Prelude.{All}
use Rattle.cmc_objects.specs.declared.entry.Entry.{Entry}
use Rattle.cmc_objects.specs.declared.entry.Step.{Step}
use Rattle.cmc_objects.specs.declared.entry.Step.TheVariants as steps
use Rattle.cmc_model.specs.Histories.{Setting}
use Rattle.cmc_rules.specs.Runs.{IsRun}
use Rattle.cmc_safety.specs.Formed.{IsFormed}
use Rattle.cmc_safety.proofs.Course.{AreSound}
use Rattle.cmc_safety.proofs.Safe.{safe}
use Rattle.cmc_setup.specs.Setups.{IsTickForm}
use Rattle.cmc_audit_laws.specs.AuditedYes.{NameTheirKeys, IsAuditedYes}
use Rattle.cmc_audit_laws.proofs.Placed.{HaveSeconds}
use Rattle.cmc_audit_laws.proofs.Clean.{clean}
use Rattle.cmc_audit_laws.proofs.Named.{are_named}
use Rattle.cmc_audit_laws.proofs.Verdict.{audited_yes}

-- ---- the ticks of a scenario

pub have_seconds : (script : List Step) → All IsTickForm script → HaveSeconds script
have_seconds script all number seconds at =
    let there = slice_get_within script (number - 1) (steps.Tick seconds) at in
    let form = subst IsTickForm (get_or_from_slice_get script (number - 1) (steps.Tick seconds) (steps.Tick seconds) at) (all (number - 1) (steps.Tick seconds) there) in
    form.least refl

-- ---- the law

pub run_passes : AreSound → (s : Setting) (h : List Entry) → IsFormed s → HaveSeconds s.script → IsRun s h → NameTheirKeys h → IsAuditedYes s h
run_passes sound s h formed have run names =
    audited_yes s h (are_named sound s h run.legal run.caused names)
    (clean s h h formed have run.follows run.legal (safe sound s h formed run.legal run.caused run.follows) (λ key o has. has))
