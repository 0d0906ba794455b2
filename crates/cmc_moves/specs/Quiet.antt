-- On which keys a role has nothing to do.
use Rattle.std.specs.Prelude.{◌≡◌, List, [], Option, Some, None}
use Rattle.cmc_meta.specs.declared.key.Key.{Key}
use Rattle.cmc_objects.specs.declared.role.Role.{Role}
use Rattle.cmc_objects.specs.declared.entry.Entry.{Entry}
use Rattle.cmc_pass.specs.declared.pass.Views.{Views}
use Rattle.cmc_model.specs.Histories.{Setting}
use Rattle.cmc_rules.specs.declared.progress.LastPass.{LastPass}
use Rattle.cmc_rules.specs.Memory.{past}
use Rattle.cmc_rules.specs.Rest.{IsIdle}
use Rattle.cmc_rules.specs.Views.{views}

-- views of no object
abbrev pub no_views : Views
no_views = record { certificate = None; secret = None; next = []; requests = []; request = None }

abbrev pub seen_last : Option LastPass → Views
seen_last None = no_views
seen_last (Some last) = last.seen

-- the role has nothing to do on the key, and sees what it saw as it last began a pass on it
pub record IsQuiet (s : Setting) (h : List Entry) (role : Role) (key : Key) : Type 0 where
  pub idle : IsIdle s h role (views s h role key)
  pub same : views s h role key ≡ seen_last (past s h role key).last
