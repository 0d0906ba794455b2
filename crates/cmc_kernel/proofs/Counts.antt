-- What is counted of a role stays below the length of the history, and a world's counts of an accepted call are what its history says.
use Rattle.std.proofs.Common.{◌≡◌, ℕ, ℤ, ◌+◌, ◌≤◌, Bool, true, false, List, [], ◌∷◌, length, Option, Some, None, refl, ap, ◌∙◌, arith}
use Rattle.std.specs.Prelude.{◌&&◌, if◌then◌else◌, option_map}
use Rattle.std.specs.List.{list_any}
use Rattle.cmc_meta.specs.declared.key.Key.{Key}
use Rattle.cmc_meta.specs.declared.key.Kind.{Kind}
use Rattle.cmc_objects.specs.declared.object.Object.{Object}
use Rattle.cmc_objects.specs.declared.role.Role.{Role}
use Rattle.cmc_objects.specs.declared.call.Call.{Call}
use Rattle.cmc_objects.specs.declared.call.Reply.{Reply}
use Rattle.cmc_objects.specs.declared.entry.Entry.{Entry}
use Rattle.cmc_objects.specs.declared.entry.Entry.TheVariants.{Call as Called, Start}
use Rattle.cmc_model.specs.declared.write.Write.{Write}
use Rattle.cmc_rules.specs.declared.progress.Past.{Past}
use Rattle.cmc_model.specs.Replies.{State, is_accepted, key_of_call, key_written, object_written, settled, stored}
use Rattle.cmc_model.proofs.Settling.{kind_of-settled}
use Rattle.cmc_model.specs.Histories.{Setting, incarnation, role_eq}
use Rattle.cmc_model.specs.Writes.{write_of}
use Rattle.cmc_rules.specs.Memory.{with_own}
use Rattle.cmc_rules.specs.UserSteps.{written, is_write_by}
use Rattle.cmc_held.specs.declared.role_states.RoleState.{RoleState}
use Rattle.cmc_kernel.specs.Changes.{writing}
use Rattle.cmc_kernel.specs.Notes.{own_write_counted, logged, noted}

-- ---- counts that an entry each pays for

one_more : (b : Bool) (m n : ℕ) → m ≤ n → (if b then m + 1 else m) ≤ n + 1
one_more true m n h = omega (arith, h)
one_more false m n h = omega (arith, h)

-- a role's own writes are at most the entries
pub written_short : (s : Setting) (h : List Entry) (r : Role) (k : Kind) → written s h r k ≤ length h
written_short s [] r k = omega arith
written_short s (Called who call reply ∷ h) r k =
    let one : (if is_accepted reply && is_write_by s h r k who call then written s h r k + 1 else written s h r k) ≤ length h + 1 = one_more (is_accepted reply && is_write_by s h r k who call) (written s h r k) (length h) (written_short s h r k) in
    omega (arith, one)
written_short s (other ∷ h) r k = omega (arith, written_short s h r k)

first_one : (b : Bool) → (if b then 1 else 0) ≤ 1
first_one true = omega arith
first_one false = omega arith

-- a role begins at most once for each entry, and once before
pub incarnation_short : (s : Setting) (h : List Entry) (r : Role) → incarnation s h r ≤ length h + 1
incarnation_short s [] r = let one : (if list_any (λ role. role_eq role r) s.roles then 1 else 0) ≤ 1 = first_one (list_any (λ role. role_eq role r) s.roles) in omega (arith, one)
incarnation_short s (Start role at ∷ h) r =
    let one : (if role_eq role r then incarnation s h r + 1 else incarnation s h r) ≤ (length h + 1) + 1 = one_more (role_eq role r) (incarnation s h r) (length h + 1) (incarnation_short s h r) in
    omega (arith, one)
incarnation_short s (other ∷ h) r = omega (arith, incarnation_short s h r)

-- ---- what an accepted call leaves

logged_if : (b : Bool) (key : Key) (object : Option Object) (ws : List Write)
    → logged (if b then Some key else None) (if b then object else None) ws ≡ (if b then record { key = key; object = object } ∷ ws else ws)
logged_if true key object ws = refl
logged_if false key object ws = refl

-- the log takes what the store says that a call wrote
pub logged_called : (now : ℤ) (st : State) (call : Call) (reply : Reply) (ws : List Write)
    → logged (key_written call reply) (object_written now st call reply) ws ≡ (if is_accepted reply then write_of now st (settled call reply) ∷ ws else ws)
logged_called now st call reply ws = logged_if (is_accepted reply) (key_of_call (settled call reply)) (stored (st.accepted + 1) now st.objects (settled call reply)) ws

counted_if : (a b : Bool) (key : Key) (writer other : RoleState)
    → own_write_counted (option_map (λ (k : Key). k.kind) (if a then Some key else None)) b writer other ≡ (if a && b then writing key.kind writer else other)
counted_if true b key writer other = refl
counted_if false b key writer other = refl

-- an accepted call counts for its writer alone
pub counted_called : (call : Call) (reply : Reply) (own : Bool) (writer other : RoleState)
    → own_write_counted (option_map (λ (k : Key). k.kind) (key_written call reply)) own writer other ≡ (if is_accepted reply && own then writing (key_of_call call).kind writer else other)
counted_called call reply own writer other =
    counted_if (is_accepted reply) own (key_of_call (settled call reply)) writer other
    ∙ ap (λ (k : Kind). if is_accepted reply && own then writing k writer else other) (kind_of-settled call reply)

noted_if : (a b : Bool) (key : Key) (version : ℕ) (past : Past)
    → noted (option_map (λ (k : Key). k.kind) (if a then Some key else None)) version b past ≡ (if a && b then with_own key.kind version past else past)
noted_if true b key version past = refl
noted_if false b key version past = refl

-- an accepted call is remembered as its writer's own
pub noted_called : (call : Call) (reply : Reply) (version : ℕ) (own : Bool) (past : Past)
    → noted (option_map (λ (k : Key). k.kind) (key_written call reply)) version own past ≡ (if is_accepted reply && own then with_own (key_of_call call).kind version past else past)
noted_called call reply version own past =
    noted_if (is_accepted reply) own (key_of_call (settled call reply)) version past
    ∙ ap (λ (k : Kind). if is_accepted reply && own then with_own k version past else past) (kind_of-settled call reply)
