-- What the store says of other writes is at most the last write of the kind.
use Rattle.std.proofs.Common.{◌≡◌, ◌==◌, ◌+◌, ℕ, ◌≤◌, List, [], ◌∷◌, length, Option, Some, None, Bool, true, false, refl, sym, ap, subst, ◌∙◌, inl, inr, arith}
use Rattle.std.proofs.lemmas.Bool.{and_parts}
use Rattle.std.proofs.lemmas.Bool.Decides.{Decides-eqb}
use Rattle.std.specs.Prelude.{if◌then◌else◌, MatchBool}
use Rattle.std.specs.List.{list_any}
use Rattle.cmc_meta.specs.declared.key.Key.{Key}
use Rattle.cmc_meta.specs.declared.key.Kind.{Kind}
use Rattle.cmc_meta.specs.Keys.{kind_rank, key_eq}
use Rattle.cmc_objects.specs.declared.object.Object.{Object}
use Rattle.cmc_objects.specs.declared.call.Call.{Call}
use Rattle.cmc_objects.specs.declared.call.Call.TheVariants.{Create, Update, UpdateStatus, Delete, Get}
use Rattle.cmc_objects.specs.declared.call.Reply.{Reply}
use Rattle.cmc_objects.specs.declared.call.Reply.TheVariants.{Ok, Unchanged, Found, Conflict, NotFound, AlreadyExists, Invalid, Unavailable}
use Rattle.cmc_objects.specs.declared.entry.Entry.{Entry}
use Rattle.cmc_objects.specs.declared.role.Role.{Role}
use Rattle.cmc_objects.specs.Objects.{key_of, kind_of, name_of, version_of}
use Rattle.cmc_model.specs.declared.write.Write.{Write}
use Rattle.cmc_model.specs.Objects.{Objects, object_at}
use Rattle.cmc_model.specs.Stored.{updated, with_status}
use Rattle.cmc_model.specs.Admission.{is_taken, refusing_rule}
use Rattle.cmc_model.specs.Generated.{free_named}
use Rattle.cmc_model.specs.Replies.{State, IsReply, IsServed, IsCreated, IsUpdated, IsRestated, IsDeleted, IsGot, IsChange, IsAdmitted, IsCreatedIn, key_of_call}
use Rattle.cmc_model.specs.Histories.{Setting, state, objects}
use Rattle.cmc_model.specs.Writes.{writes, kind_eq, last_of_kind, last_under}
use Rattle.cmc_objects.specs.Informers.{has_informer}
use Rattle.cmc_rules.specs.Legality.{IsLegal}
use Rattle.cmc_model.specs.Versions.{IsVersion}
use Rattle.cmc_model.proofs.Settling.{kind_of-named}
use Rattle.cmc_model.proofs.Versions.{IsLawful, lawful_object}
use Rattle.cmc_rules.proofs.Versions.{lawful, stands_is_version}
use Rattle.cmc_kernel.proofs.OneKind.{last_low}

-- ---- the last write of a kind

pub kind_eq-same : (a b : Kind) → a ≡ b → kind_eq a b ≡ true
kind_eq-same a b same = (Decides-eqb (kind_rank a) (kind_rank b)).1 (ap kind_rank same)

-- a further write of the kind is the last one
pub last_here : (kind : Kind) (w : Write) (ws : List Write) → w.key.kind ≡ kind → last_of_kind kind (w ∷ ws) ≡ length (w ∷ ws)
unfolding last_of_kind
last_here kind w ws same = ap (λ (b : Bool). if b then length (w ∷ ws) else last_of_kind kind ws) (kind_eq-same w.key.kind kind same)

more_by : (b : Bool) (n m : ℕ) → n ≤ m → n ≤ (if b then m else n)
more_by true n m le = le
more_by false n m le = omega arith

-- and no further write puts it back
pub last_more : (kind : Kind) (w : Write) (ws : List Write) → last_of_kind kind ws ≤ last_of_kind kind (w ∷ ws)
unfolding last_of_kind
last_more kind w ws =
    let low = last_low kind ws in
    more_by (kind_eq w.key.kind kind) (last_of_kind kind ws) (length (w ∷ ws)) (omega (arith, low))

under_at : (b : Bool) (key : Key) (w : Write) (ws : List Write) → key_eq w.key key ≡ b → last_under key ws ≤ last_of_kind key.kind ws
    → (if b then length (w ∷ ws) else last_under key ws) ≤ last_of_kind key.kind (w ∷ ws)
unfolding last_of_kind
under_at true key w ws same below =
    let kind = (and_parts _ _ same).0 in
    let here : (if kind_eq w.key.kind key.kind then length (w ∷ ws) else last_of_kind key.kind ws) ≡ length (w ∷ ws) = ap (λ (b : Bool). if b then length (w ∷ ws) else last_of_kind key.kind ws) kind in
    omega (arith, here)
under_at false key w ws other below = let more = last_more key.kind w ws in omega (arith, below, more)

-- the last write under a key is one of the key's kind
pub under_low : (key : Key) (ws : List Write) → last_under key ws ≤ last_of_kind key.kind ws
unfolding last_under last_of_kind
under_low key [] = omega arith
under_low key (w ∷ ws) = under_at (key_eq w.key key) key w ws refl (under_low key ws)

-- and so is each version under the key
pub version_low : (ws : List Write) (key : Key) (o : Object) → IsLawful ws → IsVersion key o ws → version_of o ≤ last_of_kind key.kind ws
version_low [] key o law has = absurd has
version_low (w ∷ ws) key o law (inl is) =
    let here = last_here key.kind w ws (ap (λ (k : Key). k.kind) is.0) in
    let version = (lawful_object w ws o law is.1).0 in
    omega (arith, here, version)
version_low (w ∷ ws) key o law (inr has) = let below = version_low ws key o law.1 has in let more = last_more key.kind w ws in omega (arith, below, more)

-- ---- what a role can be told of

-- the last write of the kind, if the role looks at the kind
abbrev pub newest_known : Role → Kind → List Write → ℕ
newest_known role kind ws = if has_informer role kind then last_of_kind kind ws else 0

known_by : (b : Bool) (n m : ℕ) → n ≤ m → (if b then n else 0) ≤ (if b then m else 0)
known_by true n m le = le
known_by false n m le = omega arith

pub known_more : (role : Role) (kind : Kind) (w : Write) (ws : List Write) → newest_known role kind ws ≤ newest_known role kind (w ∷ ws)
known_more role kind w ws = known_by (has_informer role kind) (last_of_kind kind ws) (last_of_kind kind (w ∷ ws)) (last_more kind w ws)

pub known_grown : (b : Bool) (role : Role) (kind : Kind) (w : Write) (ws : List Write) → newest_known role kind ws ≤ newest_known role kind (if b then w ∷ ws else ws)
known_grown true role kind w ws = known_more role kind w ws
known_grown false role kind w ws = omega arith

-- of a kind that it looks at, it is the last write
pub known_is : (role : Role) (kind : Kind) (ws : List Write) → has_informer role kind ≡ true → newest_known role kind ws ≡ last_of_kind kind ws
known_is role kind ws informed = ap (λ (b : Bool). if b then last_of_kind kind ws else 0) informed

-- ---- right replies

-- the version that the reply names of what stands, if any, is at most this
abbrev pub IsLowReply : ℕ → Reply → Type 0
IsLowReply n (Ok version name) = Unit {0}
IsLowReply n (Unchanged version) = Unit {0}
IsLowReply n (Found object) = version_of object ≤ n
IsLowReply n (Conflict named have) = have ≤ n
IsLowReply n (NotFound at) = Unit {0}
IsLowReply n (AlreadyExists have) = have ≤ n
IsLowReply n (Invalid rule) = Unit {0}
IsLowReply n (Unavailable number) = Unit {0}

abbrev pub IsLowObject : ℕ → Option Object → Type 0
IsLowObject n None = Unit {0}
IsLowObject n (Some old) = version_of old ≤ n

replied : (n : ℕ) (reply right : Reply) → IsLowReply n right → reply ≡ right → IsLowReply n reply
replied n reply right low is = subst (IsLowReply n) (sym is) low

-- a rule that refuses names no version
low_admitted : (n : ℕ) (rule : Option ℕ) (served : Type 0) (reply : Reply) → (served → IsLowReply n reply) → IsAdmitted rule served reply → IsLowReply n reply
low_admitted n None served reply low right = low right
low_admitted n (Some rule) served reply low right = replied n reply (Invalid rule) tt right

low_created : (n m : ℕ) (taken : Bool) (object : Object) (old : Option Object) (reply : Reply) → IsLowObject n old → IsCreated m taken object old reply → IsLowReply n reply
low_created n m taken object (Some old) reply low right = replied n reply (AlreadyExists (version_of old)) low right
low_created n m taken object None reply low right =
    low_admitted n (refusing_rule None object false taken) (reply ≡ Ok (m + 1) (name_of object)) reply (λ ok. replied n reply (Ok (m + 1) (name_of object)) tt ok) right

low_change : (n m : ℕ) (name : List ℕ) (old new : Object) (reply : Reply) → IsChange m name old new reply → IsLowReply n reply
low_change n m name old new reply (inl same) = replied n reply (Unchanged (version_of old)) tt same.1
low_change n m name old new reply (inr other) = replied n reply (Ok (m + 1) name) tt other.1

low_at : (at : Bool) (n m named : ℕ) (name : List ℕ) (old new : Object) (rule : Option ℕ) (reply : Reply) → version_of old ≤ n
    → MatchBool at (IsAdmitted rule (IsChange m name old new reply) reply) (reply ≡ Conflict named (version_of old)) → IsLowReply n reply
low_at true n m named name old new rule reply low right = low_admitted n rule (IsChange m name old new reply) reply (low_change n m name old new reply) right
low_at false n m named name old new rule reply low right = replied n reply (Conflict named (version_of old)) low right

low_updated : (n m : ℕ) (taken : Bool) (object : Object) (named : ℕ) (old : Option Object) (reply : Reply) → IsLowObject n old → IsUpdated m taken object named old reply → IsLowReply n reply
low_updated n m taken object named None reply low right = replied n reply (NotFound m) tt right
low_updated n m taken object named (Some old) reply low right = low_at (named == version_of old) n m named (name_of object) old (updated old object) (refusing_rule (Some old) object false taken) reply low right

low_restated : (n m : ℕ) (object : Object) (named : ℕ) (old : Option Object) (reply : Reply) → IsLowObject n old → IsRestated m object named old reply → IsLowReply n reply
low_restated n m object named None reply low right = replied n reply (NotFound m) tt right
low_restated n m object named (Some old) reply low right = low_at (named == version_of old) n m named (name_of object) old (with_status old object) (refusing_rule (Some old) object true false) reply low right

low_delete_at : (at : Bool) (n m named : ℕ) (name : List ℕ) (old : Object) (reply : Reply) → version_of old ≤ n
    → MatchBool at (reply ≡ Ok (m + 1) name) (reply ≡ Conflict named (version_of old)) → IsLowReply n reply
low_delete_at true n m named name old reply low right = replied n reply (Ok (m + 1) name) tt right
low_delete_at false n m named name old reply low right = replied n reply (Conflict named (version_of old)) low right

low_deleted : (n m : ℕ) (named : Option ℕ) (name : List ℕ) (old : Option Object) (reply : Reply) → IsLowObject n old → IsDeleted m named name old reply → IsLowReply n reply
low_deleted n m None name None reply low right = replied n reply (NotFound m) tt right
low_deleted n m (Some named) name None reply low right = replied n reply (NotFound m) tt right
low_deleted n m None name (Some old) reply low right = replied n reply (Ok (m + 1) name) tt right
low_deleted n m (Some named) name (Some old) reply low right = low_delete_at (named == version_of old) n m named name old reply low right

low_got : (n m : ℕ) (old : Option Object) (reply : Reply) → IsLowObject n old → IsGot m old reply → IsLowReply n reply
low_got n m None reply low right = replied n reply (NotFound m) tt right
low_got n m (Some old) reply low right = replied n reply (Found old) low right

-- what stands under each key of the kind is low
abbrev IsLowKind : ℕ → Objects → Kind → Type 0
IsLowKind n stored kind = (key : Key) → key.kind ≡ kind → IsLowObject n (object_at stored key)

low_made : (n m : ℕ) (stored : Objects) (object : Object) (reply : Reply) → IsLowKind n stored (kind_of object) → IsCreatedIn m stored object reply → IsLowReply n reply
low_made n m stored object reply low right = low_created n m (is_taken stored object) object (object_at stored (key_of object)) reply (low (key_of object) refl) right

low_served : (n m : ℕ) (stored : Objects) (call : Call) (reply : Reply) → IsLowKind n stored (key_of_call call).kind → IsServed m stored call reply → IsLowReply n reply
unfolding free_named
low_served n m stored (Create object false) reply low right = low_made n m stored object reply low right
low_served n m stored (Create object true) reply low right =
    let made : Object = free_named (m + 1) stored object in
    low_made n m stored made reply (λ key same. low key (same ∙ kind_of-named _ object)) right
low_served n m stored (Update object named) reply low right = low_updated n m (is_taken stored object) object named (object_at stored (key_of object)) reply (low (key_of object) refl) right
low_served n m stored (UpdateStatus object named) reply low right = low_restated n m object named (object_at stored (key_of object)) reply (low (key_of object) refl) right
low_served n m stored (Delete key named) reply low right = low_deleted n m named key.name (object_at stored key) reply (low key refl) right
low_served n m stored (Get key) reply low right = low_got n m (object_at stored key) reply (low key refl) right

low_by : (fails : Bool) (n : ℕ) (st : State) (call : Call) (reply : Reply) → IsLowKind n st.objects (key_of_call call).kind
    → MatchBool fails (reply ≡ Unavailable (st.calls + 1)) (IsServed st.accepted st.objects call reply) → IsLowReply n reply
low_by true n st call reply low right = replied n reply (Unavailable (st.calls + 1)) tt right
low_by false n st call reply low right = low_served n st.accepted st.objects call reply low right

low_object : (s : Setting) (h : List Entry) (key : Key) (old : Option Object) → IsLegal s h → object_at (objects s h) key ≡ old → IsLowObject (last_of_kind key.kind (writes s h)) old
low_object s h key None legal is = tt
low_object s h key (Some o) legal is = version_low (writes s h) key o (lawful s h legal) (stands_is_version s h key o is)

-- a right reply names no version above the last write of the key's kind
pub low_reply : (s : Setting) (h : List Entry) (call : Call) (reply : Reply) → IsLegal s h → IsReply s.faults (state s h) call reply
    → IsLowReply (last_of_kind (key_of_call call).kind (writes s h)) reply
low_reply s h call reply legal right =
    low_by (list_any (λ n. n == (state s h).calls + 1) s.faults) (last_of_kind (key_of_call call).kind (writes s h)) (state s h) call reply
    (λ key same. subst (λ (kind : Kind). IsLowObject (last_of_kind kind (writes s h)) (object_at (objects s h) key)) same (low_object s h key (object_at (objects s h) key) legal refl)) right
