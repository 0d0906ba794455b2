-- What a world holds beside its history, and that it is what its history says.
use Rattle.std.specs.Prelude.{◌≡◌, ℕ, ℤ, List, None, Option}
use Rattle.cmc_meta.specs.declared.key.Key.{Key}
use Rattle.cmc_meta.specs.declared.key.Kind.TheVariants as kinds
use Rattle.cmc_objects.specs.declared.role.Role.{Role}
use Rattle.cmc_objects.specs.declared.entry.Entry.{Entry}
use Rattle.cmc_objects.specs.declared.entry.Positions.{Positions}
use Rattle.cmc_pass.specs.declared.pass.Desk.{Desk}
use Rattle.cmc_model.specs.declared.write.Write.{Write}
use Rattle.cmc_rules.specs.declared.progress.OpenPass.{OpenPass}
use Rattle.cmc_rules.specs.declared.progress.Origin.{Origin}
use Rattle.cmc_rules.specs.declared.progress.Past.{Past}
use Rattle.cmc_model.specs.Replies.{State}
use Rattle.cmc_model.specs.Histories.{Setting, moment, state, runs, incarnation}
use Rattle.cmc_model.specs.Writes.{writes}
use Rattle.cmc_rules.specs.Positions.{position, positions}
use Rattle.cmc_rules.specs.Passes.{open_pass}
use Rattle.cmc_rules.specs.Origins.{origins}
use Rattle.cmc_rules.specs.Memory.{past}
use Rattle.cmc_rules.specs.Scripts.{scripted, held}
use Rattle.cmc_rules.specs.UserSteps.{owed, written}
use Rattle.cmc_rules.specs.Runs.{IsPartOfRun}
use Rattle.cmc_rules.specs.Desks.{asked}
use Rattle.cmc_setup.specs.Setups.{Setup}
use Rattle.cmc_safety.specs.Formed.{IsFormed}
use Rattle.cmc_held.specs.declared.role_states.RoleState.{RoleState}
use Rattle.cmc_held.specs.declared.questions.Subject.{Subject}
use Rattle.cmc_held.specs.Questioned.{asks_key_at, asks_issuer_at}

-- what contracts see of a world
pub record Seen : Type 0 where
  pub scenario : Setup
  -- the entries of the history, the newest first
  pub history : List Entry

-- what the scenario gives a run to begin with
abbrev pub setting_of : Setup → Setting
setting_of u = record {
  now = u.moment;
  faults = u.faults;
  script = u.script;
  roles = u.roles;
  window = u.window;
  events = u.events;
  material = u.material;
  rules = u.approver;
}

-- a word on a setting and a history, said of a world
abbrev pub on {ℓ} : {A : Type ℓ} → (Setting → List Entry → A) → Seen → A
on said world = said (setting_of world.scenario) world.history

-- how the role stands after the history
abbrev pub role_state : Setting → List Entry → Role → RoleState
role_state s h role = record {
  running = runs s h role;
  incarnation = incarnation s h role;
  told = record { certificates = position h role kinds.Certificate; requests = position h role kinds.CertificateRequest; secrets = position h role kinds.Secret };
  held = record { certificates = held s h role kinds.Certificate; requests = held s h role kinds.CertificateRequest; secrets = held s h role kinds.Secret };
  written = record { certificates = written s h role kinds.Certificate; requests = written s h role kinds.CertificateRequest; secrets = written s h role kinds.Secret };
}

-- what is held: the store, the log of accepted writes, the moment, the steps that were made, how each role stands,
-- how far it was told of each kind, where passes come from, which are open, what each role remembers of each key, how many questions
-- were asked, and what roles decide by
pub record Holdings : Type 0 where
  pub faults : List ℕ
  pub state : State
  pub log : List Write
  pub moment : ℤ
  pub made : ℕ
  pub role_state : Role → RoleState
  pub told : Role → Positions
  pub origins : List Origin
  pub opened : ℕ → Option OpenPass
  pub past : Role → Key → Past
  pub keys_asked : Subject → ℕ
  pub answers_asked : Subject → ℕ
  pub desk : Desk

-- a desk before any question
abbrev pub first_desk : Setting → Desk
first_desk s = record { material = s.material; asked = 0; rules = s.rules }

-- each is what the history says, and the history is a part of one of a run
pub record IsHoldingsOf (s : Setting) (h : List Entry) (w : Holdings) : Type 0 where
  pub faults : w.faults ≡ s.faults
  pub state : w.state ≡ state s h
  pub log : w.log ≡ writes s h
  pub moment : w.moment ≡ moment s h
  pub made : w.made ≡ scripted h
  pub role_state : (role : Role) → w.role_state role ≡ role_state s h role
  pub told : (role : Role) → w.told role ≡ positions h role
  pub origins : w.origins ≡ origins s h
  pub opened : (n : ℕ) → w.opened n ≡ open_pass s h n
  pub past : (role : Role) (key : Key) → w.past role key ≡ past s h role key
  pub keys_asked : (subject : Subject) → w.keys_asked subject ≡ asked (asks_key_at subject) h
  pub answers_asked : (subject : Subject) → w.answers_asked subject ≡ asked (asks_issuer_at subject) h
  pub desk : w.desk ≡ first_desk s
  pub run : IsPartOfRun s h
  pub formed : IsFormed s

-- and nothing is owed to the script
pub record IsKept (s : Setting) (h : List Entry) (w : Holdings) : Type 0 where
  pub held : IsHoldingsOf s h w
  pub settled : owed s h ≡ None
