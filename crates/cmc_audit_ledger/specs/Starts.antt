-- How the standings of roles change, and the row of a pass that begins.
use Rattle.std.specs.Prelude.{◌≡◌, ℕ, ℤ, true, false, List, nat_le, None, if◌then◌else◌}
use Rattle.cmc_meta.specs.declared.key.Key.{Key}
use Rattle.cmc_meta.specs.declared.key.Kind.{Kind}
use Rattle.cmc_objects.specs.declared.role.Role.{Role}
use Rattle.cmc_model.specs.Histories.{role_eq}
use Rattle.cmc_rules.specs.Positions.{position_of, is_informer}
use Rattle.cmc_audit_state.specs.declared.row.Row.{Row}
use Rattle.cmc_audit_state.specs.declared.row.Version.{Version}
use Rattle.cmc_audit_state.specs.declared.standings.Standing.{Standing}
use Rattle.cmc_audit_state.specs.Standings.{standing_of}
use Rattle.cmc_audit_state.specs.Heard.{has_yes_on}

-- the role's standing with this position for the kind, and no other changed
abbrev pub MovesPosition : Role → Kind → ℕ → List Standing → List Standing → Type 0
MovesPosition role kind to old new =
    (r : Role) → ((standing_of new r).running ≡ (standing_of old r).running)
    × ((k : Kind) → position_of k (standing_of new r).told ≡ (if is_informer role kind r k then to else position_of k (standing_of old r).told))

-- the role runs, told of all kinds up to there
abbrev pub Starts : Role → ℕ → List Standing → List Standing → Type 0
Starts role at old new =
    (r : Role) → ((standing_of new r).running ≡ (if role_eq role r then true else (standing_of old r).running))
    × ((k : Kind) → position_of k (standing_of new r).told ≡ (if role_eq role r then at else position_of k (standing_of old r).told))

-- the role no longer runs
abbrev pub Stops : Role → List Standing → List Standing → Type 0
Stops role old new =
    (r : Role) → ((standing_of new r).running ≡ (if role_eq role r then false else (standing_of old r).running))
    × ((k : Kind) → position_of k (standing_of new r).told ≡ position_of k (standing_of old r).told)

-- The row of a pass that begins: it sees what the writes up to the positions of its role leave, and not more of them than there are.
pub record IsFirst (standing : Standing) (accepted : ℕ) (moment : ℤ) (role : Role) (key : Key) (row : Row) : Type 0 where
  pub role_is : row.role ≡ role
  pub key_is : row.key ≡ key
  pub since_is : row.since ≡ moment
  pub reach_is : (kind : Kind) → position_of kind row.reach ≡ (if nat_le (position_of kind standing.told) accepted then position_of kind standing.told else accepted)
  pub not_read : row.read ≡ false
  pub not_saved : row.saved ≡ false
  pub not_asked : row.asked ≡ None
  pub not_approved : (v : Version) → has_yes_on row.yeses v ≡ false
