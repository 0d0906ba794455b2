-- What counts where a scenario leaves a member out, and members that are left out where they say no more than that.
use Rattle.std.specs.Prelude.{ℕ, ℤ, pos, Bool, true, false, List, [], ◌∷◌, ◌==◌, codes}
use Rattle.std.specs.List.{list_all}
use Rattle.std.specs.Str.{bytes_eq}
use Rattle.std.specs.Ordering.{int_eq}
use Rattle.serde_json.specs.Data.{Data, Members, put}
use Rattle.cmc_objects.specs.declared.role.Role.{Role}
use Rattle.cmc_objects.specs.declared.role.Role.TheVariants.{Trigger, KeyManager, RequestManager, Approver, Issuer, Issuing, Readiness, Revision}
use Rattle.cmc_setup.specs.Setups.{is_among}

-- A member that is left out where what it says is the default.
abbrev pub put_unless : {A : Type 0} → Bool → (A → Data) → List ℕ → A → Members → Members
put_unless true tree name x ms = ms
put_unless false tree name x ms = put name (tree x) ms

-- A history has room for 100,000 entries, and a watch reaches back over 1,000 accepted writes.
abbrev pub usual_events : ℕ
usual_events = 100000

abbrev pub usual_window : ℕ
usual_window = 1000

-- A run begins at 2030-01-01T00:00:00Z.
abbrev pub usual_moment : ℤ
usual_moment = pos 1893456000

abbrev pub is_usual_moment : ℤ → Bool
is_usual_moment moment = int_eq moment usual_moment

-- All roles run.
abbrev pub all_roles : List Role
all_roles = Trigger ∷ KeyManager ∷ RequestManager ∷ Approver ∷ Issuer ∷ Issuing ∷ Readiness ∷ Revision ∷ []

abbrev pub is_every_role : List Role → Bool
is_every_role roles = list_all (λ (role : Role). is_among roles role) all_roles

-- The requests of all issuers are meant.
abbrev pub is_every_issuer : List (List ℕ) → Bool
is_every_issuer [] = false
is_every_issuer (issuer ∷ []) = bytes_eq issuer (codes "*")
is_every_issuer (issuer ∷ other ∷ issuers) = false

-- What an issuer says that refuses.
abbrev pub is_usual_message : List ℕ → Bool
is_usual_message message = bytes_eq message (codes "The issuer refused")
