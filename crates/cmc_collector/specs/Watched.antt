-- What contracts see of a store with its watch.
use Rattle.std.specs.Prelude.{◌≡◌, ℕ, ℤ, List, ◌∷◌, length, if◌then◌else◌}
use Rattle.cmc_meta.specs.declared.key.Kind.{Kind}
use Rattle.cmc_meta.specs.declared.key.Kind.TheVariants.{Certificate, CertificateRequest, Secret}
use Rattle.cmc_objects.specs.declared.call.Call.{Call}
use Rattle.cmc_objects.specs.declared.call.Reply.{Reply}
use Rattle.cmc_objects.specs.declared.entry.Positions.{Positions}
use Rattle.cmc_model.specs.declared.write.Write.{Write}
use Rattle.cmc_model.specs.Replies.{State, is_accepted, settled, state_after}
use Rattle.cmc_model.specs.Writes.{last_of_kind, write_of}

pub record Served : Type 0 where
  -- the numbers of the calls that fail
  pub faults : List ℕ
  pub window : ℕ
  pub state : State
  -- the accepted writes, the newest first
  pub writes : List Write

-- after a call that is answered so
abbrev pub after_call : ℤ → Call → Reply → Served → Served
after_call now call reply s = record s {
  state = state_after now s.state call reply;
  writes = if is_accepted reply then write_of now s.state (settled call reply) ∷ s.writes else s.writes;
}

abbrev pub position_of : Kind → Positions → ℕ
position_of Certificate at = at.certificates
position_of CertificateRequest at = at.requests
position_of Secret at = at.secrets

-- there are as many writes as were accepted, and of each kind the newest is known
pub record AreTied (newest : Positions) (state : State) (writes : List Write) : Type 0 where
  pub count : length writes ≡ state.accepted
  pub last : (kind : Kind) → position_of kind newest ≡ last_of_kind kind writes
