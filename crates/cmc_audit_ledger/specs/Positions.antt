-- Where entries may stand, by what is kept.
use Rattle.std.specs.Prelude.{◌≡◌, ℕ, ℤ, pos, ◌+◌, ◌-◌, ◌<◌, ◌≤◌, ◌+ℤ◌, ◌≤ℤ◌, true, List, length, if◌then◌else◌}
use Rattle.cmc_meta.specs.declared.key.Key.{Key}
use Rattle.cmc_meta.specs.declared.key.Kind.{Kind}
use Rattle.cmc_meta.specs.declared.key.Kind.TheVariants.{Certificate, CertificateRequest, Secret}
use Rattle.cmc_objects.specs.declared.role.Role.{Role}
use Rattle.cmc_objects.specs.declared.entry.Entry.{Entry}
use Rattle.cmc_objects.specs.declared.entry.Positions.{Positions}
use Rattle.cmc_objects.specs.Requests.{is_run_time}
use Rattle.cmc_objects.specs.Informers.{has_informer, kind_of_work}
use Rattle.cmc_model.specs.Histories.{Setting, moment}
use Rattle.cmc_model.specs.Writes.{is_known, write_at}
use Rattle.cmc_rules.specs.Legality.{IsOfKind}
use Rattle.cmc_rules.specs.Positions.{position_of}
use Rattle.cmc_audit_state.specs.Standings.{standing_of}
use Rattle.cmc_audit_ledger.specs.declared.ledger.Ledger.{Ledger}

-- A tick is at least a second above the moment, and a moment of a run.
pub record IsTick (s : Setting) (h : List Entry) (now : ℤ) : Type 0 where
  pub rises : (moment s h +ℤ pos 1) ≤ℤ now
  pub in_run : is_run_time now ≡ true

-- the role runs, and is told of the kind
pub record HasRunningInformer (l : Ledger) (role : Role) (kind : Kind) : Type 0 where
  pub running : (standing_of l.standings role).running ≡ true
  pub informed : has_informer role kind ≡ true

-- how many writes there are beyond the position of the role
abbrev pub writes_beyond : Ledger → Role → Kind → ℕ
writes_beyond l role kind = length l.journal - position_of kind (standing_of l.standings role).told

-- the version is one of the kind above the position, and the watch reaches back to the position
pub record IsInWindow (l : Ledger) (role : Role) (kind : Kind) (to : ℕ) : Type 0 where
  pub further : position_of kind (standing_of l.standings role).told < to
  pub written : IsOfKind kind (write_at to l.journal)
  pub within : writes_beyond l role kind ≤ l.window

-- the watch no longer reaches back to the position, and the version is the newest
pub record IsBeyond (l : Ledger) (role : Role) (kind : Kind) (to : ℕ) : Type 0 where
  pub beyond : l.window < writes_beyond l role kind
  pub newest : to ≡ length l.journal

-- the positions of the kinds that the role is told of, and 0 of each other kind
abbrev pub shown_told : Role → Positions → Positions
shown_told role told = record {
  certificates = if has_informer role Certificate then told.certificates else 0;
  requests = if has_informer role CertificateRequest then told.requests else 0;
  secrets = if has_informer role Secret then told.secrets else 0;
}

-- the pass would be the next one, of a role that runs, on a key of its work that is known, as far as the role was told and at the moment
pub record IsNext (l : Ledger) (pass : ℕ) (role : Role) (key : Key) (at : Positions) (now : ℤ) : Type 0 where
  pub running : (standing_of l.standings role).running ≡ true
  pub numbered : pass ≡ l.passes.begun + 1
  pub work : key.kind ≡ kind_of_work role
  pub known : is_known key l.journal ≡ true
  pub told : at ≡ shown_told role (standing_of l.standings role).told
  pub present : now ≡ l.moment
