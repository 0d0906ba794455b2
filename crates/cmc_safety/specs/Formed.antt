-- What is true of the setting of each scenario.
use Rattle.std.specs.Prelude.{◌≡◌, ◌≤◌, ◌≤ℤ◌, ◌+ℤ◌, ℤ, pos, true}
use Rattle.std.specs.List.{list_all}
use Rattle.cmc_objects.specs.Requests.{is_run_time}
use Rattle.cmc_model.specs.Histories.{Setting}
use Rattle.cmc_setup.specs.Forms.{is_material_form, is_step_form}
use Rattle.cmc_setup.specs.Setups.{seconds_ticked}

pub record IsFormed (s : Setting) : Type 0 where
  -- a history has at most 250,000 entries
  pub short : s.events ≤ 250000
  -- from the first moment on, all that the ticks of the script may come to lies in the time of a run
  pub times : (at : ℤ) → s.now ≤ℤ at → at ≤ℤ (s.now +ℤ pos (seconds_ticked s.script)) → is_run_time at ≡ true
  -- what is said of keys and issuers has its form
  pub material : is_material_form s.material ≡ true
  -- and so has each step, with the object that it applies
  pub steps : list_all is_step_form s.script ≡ true
