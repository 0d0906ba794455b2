-- What a key waits for bars a pass on it.
use Rattle.std.proofs.Common.{◌≡◌, ◌<◌, ◌≤◌, ℕ, Option, Some, None, Bool, true, false, refl, arith}
use Rattle.std.proofs.lemmas.Bool.{ltb-true}
use Rattle.std.specs.Prelude.{IfSome, nat_lt, if◌then◌else◌}
use Rattle.cmc_meta.specs.declared.key.Kind.{Kind}
use Rattle.cmc_meta.specs.declared.key.Kind.TheVariants as kinds
use Rattle.cmc_objects.specs.declared.entry.Positions.{Positions}
use Rattle.cmc_queue.specs.declared.row.Parked.{Parked}
use Rattle.cmc_rules.specs.declared.progress.Ending.TheVariants as endings
use Rattle.cmc_rules.specs.declared.progress.Obstacle.TheVariants.{Newer}
use Rattle.cmc_rules.specs.Positions.{position_of}
use Rattle.cmc_waking.specs.Parked.{ahead, own_ahead}
use Rattle.cmc_waking.specs.WakeUps.{IsStoppedAt}

-- the role is not yet told of it
abbrev pub IsBehind : Positions → Option Parked → Type 0
IsBehind at o = IfSome o (λ p. position_of p.kind at < p.version)

abbrev pub IsOwn : Positions → Option Parked → Type 0
IsOwn own o = IfSome o (λ p. p.version ≤ position_of p.kind own)

behind_by : (b : Bool) (kind : Kind) (version : ℕ) (at : Positions) (rest : Option Parked) → nat_lt (position_of kind at) version ≡ b → IsBehind at rest → IsBehind at (if b then Some (record { kind = kind; version = version }) else rest)
behind_by true kind version at rest test others = ltb-true (position_of kind at) version test
behind_by false kind version at rest test others = others

own_by : (b : Bool) (own : Positions) (kind : Kind) (version : ℕ) (rest : Option Parked) → version ≤ position_of kind own → IsOwn own rest → IsOwn own (if b then Some (record { kind = kind; version = version }) else rest)
own_by true own kind version rest low others = low
own_by false own kind version rest low others = others

itself : (n : ℕ) → n ≤ n
itself n = omega arith

pub own_is : (own at : Positions) → IsOwn own (own_ahead own at)
own_is own at =
    own_by (nat_lt at.certificates own.certificates) own kinds.Certificate own.certificates (ahead kinds.CertificateRequest own.requests at (ahead kinds.Secret own.secrets at None)) (itself own.certificates)
    (own_by (nat_lt at.requests own.requests) own kinds.CertificateRequest own.requests (ahead kinds.Secret own.secrets at None) (itself own.requests)
    (own_by (nat_lt at.secrets own.secrets) own kinds.Secret own.secrets None (itself own.secrets) tt))

stopped_by : (b : Bool) (kind : Kind) (version : ℕ) → IfSome (if b then Some (record { kind = kind; version = version }) else None) (IsStoppedAt (endings.Refused (Newer kind version)))
stopped_by true kind version = (refl, refl)
stopped_by false kind version = tt
