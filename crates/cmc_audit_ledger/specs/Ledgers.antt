-- What is kept of a history is what the history says.
use Rattle.std.specs.Prelude.{◌≡◌, ℕ, ℤ, ◌≤◌, ◌<◌, Bool, true, false, List, length, Option, Some, None}
use Rattle.cmc_meta.specs.declared.key.Kind.{Kind}
use Rattle.cmc_meta.specs.declared.key.Kind.TheVariants as kinds
use Rattle.cmc_objects.specs.declared.certificate.Certificate.{Certificate}
use Rattle.cmc_objects.specs.declared.role.Role.{Role}
use Rattle.cmc_objects.specs.declared.entry.Entry.{Entry}
use Rattle.cmc_objects.specs.declared.entry.Positions.{Positions}
use Rattle.cmc_objects.specs.Requests.{is_run_time}
use Rattle.cmc_model.specs.declared.write.Write.{Write}
use Rattle.cmc_model.specs.Replies.{State}
use Rattle.cmc_model.specs.Histories.{Setting, moment, state, runs}
use Rattle.cmc_model.specs.Writes.{writes}
use Rattle.cmc_setup.specs.Setups.{Setup}
use Rattle.cmc_rules.specs.declared.progress.OpenPass.{OpenPass}
use Rattle.cmc_rules.specs.Positions.{position, position_of}
use Rattle.cmc_rules.specs.Origins.{begun}
use Rattle.cmc_rules.specs.Passes.{open_pass}
use Rattle.cmc_rules.specs.Views.{Caches, certificate_at, views_in}
use Rattle.cmc_audit_ledger.specs.declared.ledger.Ledger.{Ledger}
use Rattle.cmc_audit_state.specs.declared.row.Row.{Row}
use Rattle.cmc_audit_state.specs.declared.row.Version.{Version}
use Rattle.cmc_audit_state.specs.Standings.{standing_of}
use Rattle.cmc_audit_state.specs.Heard.{has_found, saved, last_judged, approved, has_yes_on}
use Rattle.cmc_audit_state.specs.Journaled.{cached}
use Rattle.cmc_audit_state.specs.OpenRows.{open_row_at}

-- what the scenario gives a run to begin with
abbrev pub setting_of : Setup → Setting
setting_of u = record {
  now = u.moment;
  faults = u.faults;
  script = u.script;
  roles = u.roles;
  window = u.window;
  events = u.events;
  material = u.material;
  rules = u.approver;
}

-- ---- what a history says

pub record Said : Type 0 where
  pub state : State
  pub writes : List Write
  pub moment : ℤ
  pub runs : Role → Bool
  pub position : Role → Kind → ℕ
  pub begun : ℕ
  pub opened : ℕ → Option OpenPass
  -- what the entries of a pass say of it
  pub found : ℕ → ℕ → Bool
  pub saved : ℕ → Bool
  pub asked : ℕ → Option Version
  pub approved : ℕ → Version → Bool

abbrev pub said : Setting → List Entry → Said
said s h = record {
  state = state s h;
  writes = writes s h;
  moment = moment s h;
  runs = λ role. runs s h role;
  position = λ role kind. position h role kind;
  begun = begun s h;
  opened = λ n. open_pass s h n;
  found = λ n version. has_found n version h;
  saved = λ n. saved n h;
  asked = λ n. last_judged n h;
  approved = λ n v. approved n v h;
}

-- ---- what is kept

-- what the first writes leave, so many for each kind
abbrev pub reached : List Write → Positions → Caches
reached ws at = record { certificates = cached kinds.Certificate ws at.certificates; requests = cached kinds.CertificateRequest ws at.requests; secrets = cached kinds.Secret ws at.secrets }

-- A row is that of the open pass: it saw what the writes up to its reach leave, and its entries say the rest.
pub record IsRow (ws : List Write) (found : ℕ → Bool) (saved : Bool) (asked : Option Version) (approved : Version → Bool) (row : Row) (p : OpenPass) : Type 0 where
  pub role : row.role ≡ p.role
  pub key : row.key ≡ p.key
  pub since : row.since ≡ p.since
  pub in_run : is_run_time row.since ≡ true
  pub certificates_low : row.reach.certificates ≤ length ws
  pub requests_low : row.reach.requests ≤ length ws
  pub secrets_low : row.reach.secrets ≤ length ws
  pub seen : p.seen ≡ views_in row.role (reached ws row.reach) row.key
  pub read : (c : Certificate) → certificate_at (cached kinds.Certificate ws row.reach.certificates) row.key ≡ Some c → row.read ≡ found c.meta.version
  pub saved_is : row.saved ≡ saved
  pub asked_is : row.asked ≡ asked
  pub approved_is : (v : Version) → has_yes_on row.yeses v ≡ approved v

abbrev pub IsRowOf : List Write → (ℕ → Bool) → Bool → Option Version → (Version → Bool) → Option Row → Option OpenPass → Type 0
IsRowOf ws found saved asked approved None None = Unit {0}
IsRowOf ws found saved asked approved None (Some p) = ⊥
IsRowOf ws found saved asked approved (Some row) None = ⊥
IsRowOf ws found saved asked approved (Some row) (Some p) = IsRow ws found saved asked approved row p

-- no entry of a pass of this number was seen
pub record IsUnheard (found : ℕ → Bool) (saved : Bool) (asked : Option Version) (approved : Version → Bool) : Type 0 where
  pub not_found : (version : ℕ) → found version ≡ false
  pub not_saved : saved ≡ false
  pub not_asked : asked ≡ None
  pub not_approved : (v : Version) → approved v ≡ false

-- each part is what is said
pub record IsLedgerOfSaid (s : Setting) (t : Said) (l : Ledger) : Type 0 where
  pub faults : l.store.faults ≡ s.faults
  pub state : l.store.state ≡ t.state
  pub writes : l.journal ≡ t.writes
  pub moment : l.moment ≡ t.moment
  pub in_run : is_run_time l.moment ≡ true
  pub window : l.window ≡ s.window
  pub runs : (role : Role) → (standing_of l.standings role).running ≡ t.runs role
  pub told : (role : Role) (kind : Kind) → position_of kind (standing_of l.standings role).told ≡ t.position role kind
  pub begun : l.passes.begun ≡ t.begun
  pub rows : (n : ℕ) → IsRowOf t.writes (t.found n) (t.saved n) (t.asked n) (t.approved n) (open_row_at l.passes n) (t.opened n)
  pub unheard : (n : ℕ) → t.begun < n → IsUnheard (t.found n) (t.saved n) (t.asked n) (t.approved n)
  pub calls_low : t.state.calls ≤ l.entries
  pub begun_low : t.begun ≤ l.entries

-- what is kept is what the history says
abbrev pub IsLedgerOf : Setting → List Entry → Ledger → Type 0
IsLedgerOf s h l = IsLedgerOfSaid s (said s h) l
