use Rattle.cmc_moves.proofs.Sounds.{each_sound}
use Rattle.cmc_kernel.proofs.Starting.{formed}
use Rattle.cmc_audit_ledger.specs.Ledgers.{setting_of}
use Rattle.cmc_audit_laws.proofs.RunPasses.{have_seconds, run_passes}
use Rattle.cmc_audit_laws.proofs.passing.each_run_is_audited_yes.Goals as goal

pub returns : goal.returns
returns c = λ run.
    let u = c.args.scenario.now in
    let setup = c.events-events.ensures.setup in
    run_passes each_sound (setting_of u) c.args.history.now.entries (formed u setup) (have_seconds u.script setup.ticks) run c.entries_name_their_keys.ensures
