-- When a pass may begin again: by what stands in the history since its role's last start.
use Rattle.std.specs.Prelude.{◌≡◌, ◌⊎◌, ◌↔◌, ◌+◌, ◌++◌, ◌<◌, ◌≤◌, ℕ, ℤ, Bool, true, false, ◌&&◌, List, [], ◌∷◌, length, Option, Some, None}
use Rattle.cmc_meta.specs.declared.key.Key.{Key}
use Rattle.cmc_meta.specs.declared.key.Kind.{Kind}
use Rattle.cmc_meta.specs.Keys.{key_eq}
use Rattle.cmc_objects.specs.declared.role.Role.{Role}
use Rattle.cmc_objects.specs.declared.call.Call.{Call}
use Rattle.cmc_objects.specs.declared.call.Reply.{Reply}
use Rattle.cmc_objects.specs.declared.call.Reply.TheVariants.{Found, Conflict, NotFound, AlreadyExists}
use Rattle.cmc_objects.specs.declared.entry.Cause.TheVariants as causes
use Rattle.cmc_objects.specs.declared.entry.Positions.{Positions}
use Rattle.cmc_objects.specs.declared.entry.Who.TheVariants.{Pass}
use Rattle.cmc_objects.specs.declared.entry.Entry.{Entry}
use Rattle.cmc_objects.specs.declared.entry.Entry.TheVariants.{Call as Called, Begin, End, Start}
use Rattle.cmc_objects.specs.Objects.{version_of}
use Rattle.cmc_pass.specs.declared.pass.Views.{Views}
use Rattle.cmc_model.specs.Replies.{is_accepted, key_of_call}
use Rattle.cmc_model.specs.Histories.{Setting, accepted, role_eq}
use Rattle.cmc_model.specs.Writes.{writes, last_under}
use Rattle.cmc_rules.specs.Positions.{position_of}
use Rattle.cmc_rules.specs.Views.{views}
use Rattle.cmc_rules.specs.Passes.{open_pass, is_pass_of}
use Rattle.cmc_rules.specs.Memory.{past}
use Rattle.cmc_rules.specs.Sameness.{IsDue}
use Rattle.cmc_rules.specs.Safety.{HasEntry}

abbrev pub is_start_of : Role → Entry → Bool
is_start_of role (Start r at) = role_eq r role
is_start_of role other = false

abbrev pub is_begin_on : Role → Key → Entry → Bool
is_begin_on role key (Begin pass r k at now) = role_eq r role && key_eq k key
is_begin_on role key other = false

-- ---- the role was told of its own writes

-- since the role's last start, an entry like this stands on what was before it
abbrev pub Since : Role → (List Entry → Entry → Type 0) → List Entry → Type 0
Since role P [] = ⊥
Since role P (e ∷ h) = P h e ⊎ ((is_start_of role e ≡ false) × Since role P h)

-- an accepted write of this version and kind, by a pass of the role on the key
abbrev pub IsOwnWrite : Setting → Role → Key → Kind → ℕ → List Entry → Entry → Type 0
IsOwnWrite s role key kind version h e =
    (pass : ℕ) × (call : Call) × (reply : Reply) × (e ≡ Called (Pass pass) call reply) × (is_accepted reply ≡ true) × (is_pass_of role key (open_pass s h pass) ≡ true)
    × ((key_of_call call).kind ≡ kind) × (version ≡ accepted s h + 1)

abbrev pub IsToldOfOwn : Setting → List Entry → Role → Key → Positions → Type 0
IsToldOfOwn s h role key at = (kind : Kind) (version : ℕ) → Since role (IsOwnWrite s role key kind version) h → version ≤ position_of kind at

-- ---- the pass would do the same again

-- The last pass of the role on the key since the role's last start: the entries above its Begin have neither a start of the role nor a
-- further Begin there.
pub record IsLastPass (s : Setting) (h : List Entry) (role : Role) (key : Key) : Type 0 where
  pub pass : ℕ
  pub at : Positions
  pub since : ℤ
  pub above : List Entry
  pub before : List Entry
  pub split : h ≡ above ++ (Begin pass role key at since ∷ before)
  pub newest : (e : Entry) → HasEntry (λ x. x ≡ e) above → (is_start_of role e ≡ false) × (is_begin_on role key e ≡ false)

-- the version that a reply names as the one that stopped the pass: of what exists under the key, or of the delete that took it away
abbrev pub stopping_version : Setting → List Entry → Call → Reply → Option ℕ
stopping_version s h call (Conflict named have) = Some have
stopping_version s h call (AlreadyExists have) = Some have
stopping_version s h call (Found object) = Some (version_of object)
stopping_version s h call (NotFound at) = Some (last_under (key_of_call call) (writes s h))
stopping_version s h call other = None

-- the entry of this number is a call of the pass, on an object of the kind, which this version stopped
abbrev pub IsStoppedBy : Setting → List Entry → ℕ → ℕ → Kind → ℕ → Type 0
IsStoppedBy s [] pass number kind version = ⊥
IsStoppedBy s (e ∷ h) pass number kind version =
    ((number ≡ length h + 1) × ((call : Call) × (reply : Reply) × (e ≡ Called (Pass pass) call reply) × ((key_of_call call).kind ≡ kind) × (stopping_version s h call reply ≡ Some version)))
    ⊎ IsStoppedBy s h pass number kind version

-- It found nothing to do, at this very moment; or a version stopped it of which the role is not told.
abbrev pub EndedSo : Setting → List Entry → ℕ → List Entry → ℤ → ℤ → Positions → Type 0
EndedSo s h pass above since now at =
    (HasEntry (λ e. e ≡ End pass causes.Nothing) above × (since ≡ now))
    ⊎ ((number : ℕ) × (kind : Kind) × (version : ℕ) × HasEntry (λ e. e ≡ End pass (causes.Stopper number)) above × IsStoppedBy s h pass number kind version × (position_of kind at < version))

-- the last pass saw the same, and ended so that another would do the same
pub record WouldRepeat (s : Setting) (h : List Entry) (role : Role) (key : Key) (seen : Views) (now : ℤ) (at : Positions) : Type 0 where
  pub last : IsLastPass s h role key
  pub saw : views s last.before role key ≡ seen
  pub ended : EndedSo s h last.pass last.above last.since now at

-- A pass is due exactly where the role was told of its own writes and would not repeat its last pass.
abbrev pub IsDueExactly : Setting → List Entry → Type 0
IsDueExactly s h =
    (role : Role) (key : Key) (seen : Views) (now : ℤ) (at : Positions) → IsDue (past s h role key) seen now at ↔ (IsToldOfOwn s h role key at × (WouldRepeat s h role key seen now at → ⊥))
