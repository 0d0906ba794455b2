-- Approvals and denials over one call: an object keeps what it was given, and none has both.
use Rattle.std.specs.Prelude.{◌≡◌, ◌≤◌, ℕ, Some}
use Rattle.cmc_meta.specs.declared.key.Key.{Key}
use Rattle.cmc_objects.specs.declared.object.Object.{Object}
use Rattle.cmc_model.specs.Objects.{Objects, object_at}
use Rattle.cmc_model.specs.Verdicts.{HasOneVerdict, KeepsVerdicts}

-- no object that exists is approved and denied
abbrev pub HaveOneVerdict : Objects → Type 0
HaveOneVerdict objects = (key : Key) (o : Object) → object_at objects key ≡ Some o → HasOneVerdict o

-- what exists under a key keeps the verdicts of what was there
abbrev pub KeepVerdicts : Objects → Objects → Type 0
KeepVerdicts before after = (key : Key) (older newer : Object) → object_at before key ≡ Some older → object_at after key ≡ Some newer → KeepsVerdicts older newer

pub record KeepFinalVerdicts (before after : Objects) : Type 0 where
  pub one : HaveOneVerdict after
  pub kept : KeepVerdicts before after

-- what is so of each store
pub record IsStore (objects : Objects) (accepted calls : ℕ) : Type 0 where
  pub few : accepted ≤ calls
  pub one : HaveOneVerdict objects
