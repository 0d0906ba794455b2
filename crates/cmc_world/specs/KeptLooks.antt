-- What is kept of the next passes as long as it is so.
use Rattle.std.specs.Prelude.{◌≡◌, true, All, IfSome, List, Option, None, Some}
use Rattle.cmc_meta.specs.declared.key.Key.{Key}
use Rattle.cmc_objects.specs.declared.entry.Entry.{Entry}
use Rattle.cmc_objects.specs.declared.role.Role.{Role}
use Rattle.cmc_model.specs.Histories.{Setting, moment}
use Rattle.cmc_pass.specs.declared.pass.Act.{Act}
use Rattle.cmc_pass.specs.declared.pass.Views.{Views}
use Rattle.cmc_rules.specs.Acts.{act}
use Rattle.cmc_rules.specs.Desks.{desk}
use Rattle.cmc_rules.specs.Origins.{begun}
use Rattle.cmc_rules.specs.Views.{views}
use Rattle.cmc_moves.specs.Decisions.{decides_alone}
use Rattle.cmc_moves.specs.Prospects.{IsFirstAct}
use Rattle.cmc_world.specs.declared.kept.Kept.{Kept}
use Rattle.cmc_world.specs.declared.openings.Opening.{Opening}
use Rattle.cmc_world.specs.Searches.{HasNoneBefore, IsBehindInSome}

-- the pass is one of the role on the key
pub record IsMine (r : Role) (k : Key) (o : Opening) : Type 0 where
  pub role : o.role ≡ r
  pub key : o.key ≡ k

-- this is what the role does where it sees this; of a role that decides by its views alone it can wait
abbrev pub IsActOn : Setting → List Entry → Role → Views → Option Act → Type 0
IsActOn s h role seen None = decides_alone role ≡ true
IsActOn s h role seen (Some does) = does ≡ act role seen (moment s h) (desk s h role seen)

abbrev pub DoesOn : Setting → List Entry → Role → Key → Act → Type 0
DoesOn s h role key does = does ≡ act role (views s h role key) (moment s h) (desk s h role (views s h role key))

-- the role sees this of the key, and does this
pub record IsCurrent (s : Setting) (h : List Entry) (o : Opening) : Type 0 where
  pub seen : o.seen ≡ views s h o.role o.key
  pub does : IsActOn s h o.role (views s h o.role o.key) o.does

abbrev pub AreCurrent : Setting → List Entry → List Opening → Type 0
AreCurrent s h openings = All (IsCurrent s h) openings

-- what is kept is so: no role before the place is behind, the newest pass has only begun and does this, if it is known, and the passes are
-- as looks found them
pub record IsKeptRight (s : Setting) (h : List Entry) (k : Kept) : Type 0 where
  pub told : HasNoneBefore (IsBehindInSome s h) k.told
  pub act : IfSome k.act (IsFirstAct s h (begun s h))
  pub looked : AreCurrent s h k.looked.items
