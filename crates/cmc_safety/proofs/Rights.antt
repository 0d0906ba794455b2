-- In a run each accepted write of a pass changes what its role may change, and nothing else.
use Rattle.std.proofs.Common.{List, [], ◌∷◌}
use Rattle.cmc_objects.specs.declared.entry.Entry.{Entry}
use Rattle.cmc_model.specs.Histories.{Setting}
use Rattle.cmc_rules.specs.Rights.{KeepsRights}
use Rattle.cmc_rules.specs.Runs.{IsRun}
use Rattle.cmc_rules.specs.Safety.{AreSafe}
use Rattle.cmc_safety.specs.Formed.{IsFormed}
use Rattle.cmc_safety.proofs.Course.{AreSound}
use Rattle.cmc_safety.proofs.Safe.{safe}

-- it is a part of what is safe
rights_in : (s : Setting) (whole h : List Entry) → AreSafe s whole h → KeepsRights s h
unfolding AreSafe KeepsRights
rights_in s whole [] is = tt
rights_in s whole (e ∷ h) is = (is.1.0, rights_in s whole h is.1.1)

pub keeps_rights : AreSound → (s : Setting) (h : List Entry) → IsFormed s → IsRun s h → KeepsRights s h
keeps_rights sound s h formed run = rights_in s h h (safe sound s h formed run.legal run.caused run.follows)
