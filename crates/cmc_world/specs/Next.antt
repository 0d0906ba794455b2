-- The next move of each sort, for many hands: each takes the sort of moves that is its own.
use Rattle.std.specs.Prelude.{◌≡◌, ℕ, List, Option, Some, None}
use Rattle.cmc_objects.specs.declared.entry.Entry.{Entry}
use Rattle.cmc_model.specs.Histories.{Setting}
use Rattle.cmc_model.specs.Writes.{writes, last_of_kind}
use Rattle.cmc_moves.specs.declared.moves.Move.{Move}
use Rattle.cmc_moves.specs.declared.moves.Move.TheVariants.{Script, Deliver}
use Rattle.cmc_rules.specs.Legality.{IsOpen}
use Rattle.cmc_rules.specs.Origins.{begun}
use Rattle.cmc_rules.specs.Passes.{open_pass}
use Rattle.cmc_kernel.specs.Plain.{IsOfPresent, IsStepReady, IsFirstDelivery, HasNoScript, HasNoDelivery}
use Rattle.cmc_objects.specs.declared.role.Role.{Role}
use Rattle.cmc_world.specs.Searches.{FindsKind}

-- the next step of the script, which does not wait
abbrev pub IsNextScript : Setting → List Entry → Option Move → Type 0
IsNextScript s h None = HasNoScript s h
IsNextScript s h (Some Script) = IsStepReady s h
IsNextScript s h (Some other) = ⊥

-- a delivery of the newest write of a kind, by role, then by kind
abbrev pub IsNextDelivery : Setting → List Entry → Option Move → Type 0
IsNextDelivery s h None = HasNoDelivery s h
IsNextDelivery s h (Some (Deliver role kind to)) = IsFirstDelivery s h role kind × (to ≡ last_of_kind kind (writes s h))
IsNextDelivery s h (Some other) = ⊥

-- a delivery to this role of the newest write of the first kind in which it is behind
abbrev pub IsNextDeliveryTo : Setting → List Entry → Role → Option Move → Type 0
IsNextDeliveryTo s h role None = FindsKind s h role None
IsNextDeliveryTo s h role (Some (Deliver told kind to)) = (told ≡ role) × FindsKind s h role (Some kind) × (to ≡ last_of_kind kind (writes s h))
IsNextDeliveryTo s h role (Some other) = ⊥

-- the pass is the newest one, which is open, and the number that of the present incarnation of its role
pub record IsNewestPass (s : Setting) (h : List Entry) (pass named : ℕ) : Type 0 where
  pub newest : pass ≡ begun s h
  pub stands : IsOpen (open_pass s h pass)
  pub present : IsOfPresent s h named (open_pass s h pass)
