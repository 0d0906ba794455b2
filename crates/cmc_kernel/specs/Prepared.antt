-- What has to be ready before a pass begins.
use Rattle.std.specs.Prelude.{◌≡◌, ◌+◌, List}
use Rattle.cmc_meta.specs.declared.key.Key.{Key}
use Rattle.cmc_objects.specs.declared.role.Role.{Role}
use Rattle.cmc_objects.specs.declared.entry.Entry.{Entry}
use Rattle.cmc_model.specs.Histories.{Setting, moment, incarnation}
use Rattle.cmc_rules.specs.Positions.{positions}
use Rattle.cmc_rules.specs.Views.{views}
use Rattle.cmc_rules.specs.Origins.{begun}
use Rattle.cmc_rules.specs.Passes.{new_pass}
use Rattle.cmc_kernel.specs.declared.begin.Prepared.{Prepared}

-- the next pass of the role on the key, with what its entry and its role's memory take
pub record IsPrepared (s : Setting) (h : List Entry) (role : Role) (named : Key) (p : Prepared) : Type 0 where
  pub number : p.number ≡ begun s h + 1
  pub origin : p.origin ≡ record { role = role; incarnation = incarnation s h role }
  pub pass : p.pass ≡ new_pass role named (views s h role named) (moment s h)
  pub seen : p.seen ≡ views s h role named
  pub key : p.key ≡ named
  pub at : p.at ≡ positions h role
