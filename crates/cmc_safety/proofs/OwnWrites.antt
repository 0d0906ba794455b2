-- What a role remembers of its own writes on a key is the newest of each kind since its last start.
use Rattle.std.proofs.Common.{◌≡◌, ◌⊎◌, ℕ, ◌+◌, ◌≤◌, List, [], ◌∷◌, Option, Some, None, Bool, true, false, refl, sym, ap, subst, ◌∙◌, inl, inr, arith}
use Rattle.std.proofs.lemmas.Bool.Decides.{nat_tests}
use Rattle.std.specs.Prelude.{◌&&◌, nat_lt, if◌then◌else◌}
use Rattle.cmc_meta.specs.declared.key.Key.{Key}
use Rattle.cmc_meta.specs.declared.key.Kind.{Kind}
use Rattle.cmc_meta.specs.declared.key.Kind.TheVariants as kinds
use Rattle.cmc_meta.specs.Keys.{key_eq}
use Rattle.cmc_objects.specs.declared.role.Role.{Role}
use Rattle.cmc_objects.specs.declared.entry.Positions.{Positions}
use Rattle.cmc_objects.specs.declared.entry.Who.TheVariants.{User, Pass}
use Rattle.cmc_objects.specs.declared.entry.Entry.{Entry}
use Rattle.cmc_objects.specs.declared.entry.Entry.TheVariants.{Call as Called, Begin, End, Start}
use Rattle.cmc_model.specs.Replies.{is_accepted, key_of_call}
use Rattle.cmc_model.specs.Histories.{Setting, accepted, role_eq}
use Rattle.cmc_rules.specs.declared.progress.Past.{Past}
use Rattle.cmc_rules.specs.Positions.{position_of}
use Rattle.cmc_rules.specs.Views.{views}
use Rattle.cmc_rules.specs.Passes.{open_pass, is_pass_of}
use Rattle.cmc_rules.specs.Memory.{past, with_own, with_begin, with_ending, ending_of, no_past}
use Rattle.cmc_rules.specs.Sameness.{if_above, own_above}
use Rattle.cmc_safety.specs.Begins.{is_start_of, Since, IsOwnWrite, IsToldOfOwn}

abbrev own_of : Setting → List Entry → Role → Key → Kind → ℕ
own_of s h role key kind = position_of kind (past s h role key).own

abbrev in_past : Kind → Past → ℕ
in_past kind p = position_of kind p.own

-- ---- one place of three

placed : (k kind : Kind) (n : ℕ) (p : Past) → ((k ≡ kind) × (in_past kind (with_own k n p) ≡ n)) ⊎ (in_past kind (with_own k n p) ≡ in_past kind p)
placed kinds.Certificate kinds.Certificate n p = inl (refl, refl)
placed kinds.Certificate kinds.CertificateRequest n p = inr refl
placed kinds.Certificate kinds.Secret n p = inr refl
placed kinds.CertificateRequest kinds.Certificate n p = inr refl
placed kinds.CertificateRequest kinds.CertificateRequest n p = inl (refl, refl)
placed kinds.CertificateRequest kinds.Secret n p = inr refl
placed kinds.Secret kinds.Certificate n p = inr refl
placed kinds.Secret kinds.CertificateRequest n p = inr refl
placed kinds.Secret kinds.Secret n p = inl (refl, refl)

placed_there : (kind : Kind) (n : ℕ) (p : Past) → in_past kind (with_own kind n p) ≡ n
placed_there kinds.Certificate n p = refl
placed_there kinds.CertificateRequest n p = refl
placed_there kinds.Secret n p = refl

none_yet : (kind : Kind) → in_past kind no_past ≡ 0
none_yet kinds.Certificate = refl
none_yet kinds.CertificateRequest = refl
none_yet kinds.Secret = refl

-- ---- entries that are no own write

begun_same : (b : Bool) (kind : Kind) (p q : Past) → in_past kind q ≡ in_past kind p → in_past kind (if b then q else p) ≡ in_past kind p
begun_same true kind p q same = same
begun_same false kind p q same = refl

-- what an own write leaves
abbrev after_call : Bool → Bool → Kind → ℕ → Past → Past
after_call ok mine k n p = if ok && mine then with_own k (n + 1) p else p

call_leaves : (ok mine : Bool) (k kind : Kind) (n : ℕ) (p : Past) → (((ok ≡ true) × (mine ≡ true) × (k ≡ kind)) × (in_past kind (after_call ok mine k n p) ≡ n + 1)) ⊎ (in_past kind (after_call ok mine k n p) ≡ in_past kind p)
call_leaves true true k kind n p = by (placed k kind (n + 1) p) where
  by : ((k ≡ kind) × (in_past kind (with_own k (n + 1) p) ≡ n + 1)) ⊎ (in_past kind (with_own k (n + 1) p) ≡ in_past kind p)
      → (((true ≡ true) × (true ≡ true) × (k ≡ kind)) × (in_past kind (with_own k (n + 1) p) ≡ n + 1)) ⊎ (in_past kind (with_own k (n + 1) p) ≡ in_past kind p)
  by (inl (one, is)) = inl ((refl, refl, one), is)
  by (inr same) = inr same
call_leaves true false k kind n p = inr refl
call_leaves false mine k kind n p = inr refl

-- ---- none is newer than the accepted writes

grown : (ok : Bool) (n m : ℕ) → n ≤ m → n ≤ (if ok then m + 1 else m)
grown true n m low = omega (arith, low)
grown false n m low = low

low_after : (ok mine : Bool) (k kind : Kind) (n : ℕ) (p : Past) → in_past kind p ≤ n → in_past kind (after_call ok mine k n p) ≤ (if ok then n + 1 else n)
low_after ok mine k kind n p low = by (call_leaves ok mine k kind n p) where
  by : (((ok ≡ true) × (mine ≡ true) × (k ≡ kind)) × (in_past kind (after_call ok mine k n p) ≡ n + 1)) ⊎ (in_past kind (after_call ok mine k n p) ≡ in_past kind p) → in_past kind (after_call ok mine k n p) ≤ (if ok then n + 1 else n)
  by (inl (own, is)) = subst (λ (b : Bool). in_past kind (after_call ok mine k n p) ≤ (if b then n + 1 else n)) (sym own.0) (omega (arith, is))
  by (inr same) = grown ok (in_past kind (after_call ok mine k n p)) n (omega (arith, same, low))

own_low : (s : Setting) (h : List Entry) (role : Role) (key : Key) (kind : Kind) → own_of s h role key kind ≤ accepted s h
own_low s [] role key kind = let none = none_yet kind in omega (arith, none)
own_low s (Called User call reply ∷ h) role key kind = grown (is_accepted reply) (own_of s h role key kind) (accepted s h) (own_low s h role key kind)
own_low s (Called (Pass pass) call reply ∷ h) role key kind =
    low_after (is_accepted reply) (is_pass_of role key (open_pass s h pass)) (key_of_call call).kind kind (accepted s h) (past s h role key) (own_low s h role key kind)
own_low s (Begin pass r k at now ∷ h) role key kind =
    let same = begun_same (role_eq r role && key_eq k key) kind (past s h role key) (with_begin (views s h r k) now (past s h role key)) refl in
    let low = own_low s h role key kind in
    omega (arith, same, low)
own_low s (End pass cause ∷ h) role key kind =
    let same = begun_same (is_pass_of role key (open_pass s h pass)) kind (past s h role key) (with_ending (ending_of (open_pass s h pass)) (past s h role key)) refl in
    let low = own_low s h role key kind in
    omega (arith, same, low)
own_low s (Start r at ∷ h) role key kind = by (role_eq r role) (own_low s h role key kind) where
  by : (b : Bool) → own_of s h role key kind ≤ accepted s h → in_past kind (if b then no_past else past s h role key) ≤ accepted s h
  by true low = let none = none_yet kind in omega (arith, none)
  by false low = low
own_low s (other ∷ h) role key kind = own_low s h role key kind

-- ---- each own write is at most what is remembered

not_less : (ok mine : Bool) (k kind : Kind) (n : ℕ) (p : Past) → in_past kind p ≤ n → in_past kind p ≤ in_past kind (after_call ok mine k n p)
not_less ok mine k kind n p low = by (call_leaves ok mine k kind n p) where
  by : (((ok ≡ true) × (mine ≡ true) × (k ≡ kind)) × (in_past kind (after_call ok mine k n p) ≡ n + 1)) ⊎ (in_past kind (after_call ok mine k n p) ≡ in_past kind p) → in_past kind p ≤ in_past kind (after_call ok mine k n p)
  by (inl (own, is)) = omega (arith, is, low)
  by (inr same) = omega (arith, same)

own_grows : (s : Setting) (e : Entry) (h : List Entry) (role : Role) (key : Key) (kind : Kind) → is_start_of role e ≡ false → own_of s h role key kind ≤ own_of s (e ∷ h) role key kind
own_grows s (Called User call reply) h role key kind off = omega arith
own_grows s (Called (Pass pass) call reply) h role key kind off =
    not_less (is_accepted reply) (is_pass_of role key (open_pass s h pass)) (key_of_call call).kind kind (accepted s h) (past s h role key) (own_low s h role key kind)
own_grows s (Begin pass r k at now) h role key kind off =
    let same = begun_same (role_eq r role && key_eq k key) kind (past s h role key) (with_begin (views s h r k) now (past s h role key)) refl in omega (arith, same)
own_grows s (End pass cause) h role key kind off =
    let same = begun_same (is_pass_of role key (open_pass s h pass)) kind (past s h role key) (with_ending (ending_of (open_pass s h pass)) (past s h role key)) refl in omega (arith, same)
own_grows s (Start r at) h role key kind off = subst (λ (b : Bool). own_of s h role key kind ≤ in_past kind (if b then no_past else past s h role key)) (sym off) (omega arith)
own_grows s other h role key kind off = omega arith

taken : (ok mine : Bool) (k kind : Kind) (n : ℕ) (p : Past) → ok ≡ true → mine ≡ true → k ≡ kind → in_past kind (after_call ok mine k n p) ≡ n + 1
taken ok mine k kind n p is_ok is_mine same =
    ap (λ (b : Bool). in_past kind (after_call b mine k n p)) is_ok ∙ ap (λ (b : Bool). in_past kind (after_call true b k n p)) is_mine
    ∙ ap (λ (x : Kind). in_past kind (with_own x (n + 1) p)) same ∙ placed_there kind (n + 1) p

own_newest : (s : Setting) (h : List Entry) (role : Role) (key : Key) (kind : Kind) (version : ℕ) → Since role (IsOwnWrite s role key kind version) h → version ≤ own_of s h role key kind
own_newest s [] role key kind version none = absurd none
own_newest s (e ∷ h) role key kind version (inl (pass, call, reply, is, ok, mine, same, at)) =
    subst (λ (x : Entry). version ≤ own_of s (x ∷ h) role key kind) (sym is)
    (let here = taken (is_accepted reply) (is_pass_of role key (open_pass s h pass)) (key_of_call call).kind kind (accepted s h) (past s h role key) ok mine same in omega (arith, here, at))
own_newest s (e ∷ h) role key kind version (inr (off, there)) =
    let low = own_newest s h role key kind version there in
    let more = own_grows s e h role key kind off in
    omega (arith, low, more)

-- ---- and what is remembered is one

abbrev IsOne : Setting → List Entry → Role → Key → Kind → ℕ → Type 0
IsOne s h role key kind n = (n ≡ 0) ⊎ Since role (IsOwnWrite s role key kind n) h

still_one : (s : Setting) (e : Entry) (h : List Entry) (role : Role) (key : Key) (kind : Kind) (n m : ℕ) → is_start_of role e ≡ false → n ≡ m → IsOne s h role key kind m → IsOne s (e ∷ h) role key kind n
still_one s e h role key kind n m off same (inl none) = inl (same ∙ none)
still_one s e h role key kind n m off same (inr one) = inr (inr (off, subst (λ (v : ℕ). Since role (IsOwnWrite s role key kind v) h) (sym same) one))

own_is_one : (s : Setting) (h : List Entry) (role : Role) (key : Key) (kind : Kind) → IsOne s h role key kind (own_of s h role key kind)
own_is_one s [] role key kind = inl (none_yet kind)
own_is_one s (Called User call reply ∷ h) role key kind = still_one s (Called User call reply) h role key kind (own_of s h role key kind) (own_of s h role key kind) refl refl (own_is_one s h role key kind)
own_is_one s (Called (Pass pass) call reply ∷ h) role key kind =
    by (call_leaves (is_accepted reply) (is_pass_of role key (open_pass s h pass)) (key_of_call call).kind kind (accepted s h) (past s h role key)) (own_is_one s h role key kind) where
      new : ℕ
      new = own_of s (Called (Pass pass) call reply ∷ h) role key kind

      by : (((is_accepted reply ≡ true) × (is_pass_of role key (open_pass s h pass) ≡ true) × ((key_of_call call).kind ≡ kind)) × (new ≡ accepted s h + 1)) ⊎ (new ≡ own_of s h role key kind)
          → IsOne s h role key kind (own_of s h role key kind) → IsOne s (Called (Pass pass) call reply ∷ h) role key kind new
      by (inl (own, is)) old = inr (inl (pass, call, reply, refl, own.0, own.1, own.2, is))
      by (inr same) old = still_one s (Called (Pass pass) call reply) h role key kind new (own_of s h role key kind) refl same old
own_is_one s (Begin pass r k at now ∷ h) role key kind =
    still_one s (Begin pass r k at now) h role key kind (own_of s (Begin pass r k at now ∷ h) role key kind) (own_of s h role key kind) refl
    (begun_same (role_eq r role && key_eq k key) kind (past s h role key) (with_begin (views s h r k) now (past s h role key)) refl) (own_is_one s h role key kind)
own_is_one s (End pass cause ∷ h) role key kind =
    still_one s (End pass cause) h role key kind (own_of s (End pass cause ∷ h) role key kind) (own_of s h role key kind) refl
    (begun_same (is_pass_of role key (open_pass s h pass)) kind (past s h role key) (with_ending (ending_of (open_pass s h pass)) (past s h role key)) refl) (own_is_one s h role key kind)
own_is_one s (Start r at ∷ h) role key kind = by (role_eq r role) refl (own_is_one s h role key kind) where
  by : (b : Bool) → role_eq r role ≡ b → IsOne s h role key kind (own_of s h role key kind) → IsOne s (Start r at ∷ h) role key kind (in_past kind (if b then no_past else past s h role key))
  by true on old = inl (none_yet kind)
  by false off old = still_one s (Start r at) h role key kind (own_of s h role key kind) (own_of s h role key kind) off refl old
own_is_one s (other ∷ h) role key kind = still_one s other h role key kind (own_of s h role key kind) (own_of s h role key kind) refl refl (own_is_one s h role key kind)

-- ---- the role was told of all

not_above : (own at : ℕ) (rest : Option ℕ) → if_above own at rest ≡ None → (own ≤ at) × (rest ≡ None)
not_above own at rest is = by (nat_lt at own) refl is where
  by : (b : Bool) → nat_lt at own ≡ b → (if b then Some own else rest) ≡ None → (own ≤ at) × (rest ≡ None)
  by true on none = absurd (cc none)
  by false off none = (grind (arith, nat_tests), none)

none_above : (own at : ℕ) (rest : Option ℕ) → own ≤ at → rest ≡ None → if_above own at rest ≡ None
none_above own at rest low none = by (nat_lt at own) refl where
  by : (b : Bool) → nat_lt at own ≡ b → (if b then Some own else rest) ≡ None
  by true on = absurd (grind (arith, nat_tests))
  by false off = none

all_told : (own at : Positions) → own_above own at ≡ None → (kind : Kind) → position_of kind own ≤ position_of kind at
unfolding own_above
all_told own at none kinds.Certificate = (not_above own.certificates at.certificates _ none).0
all_told own at none kinds.CertificateRequest = (not_above own.requests at.requests _ (not_above own.certificates at.certificates _ none).1).0
all_told own at none kinds.Secret = (not_above own.secrets at.secrets None (not_above own.requests at.requests _ (not_above own.certificates at.certificates _ none).1).1).0

told_all : (own at : Positions) → ((kind : Kind) → position_of kind own ≤ position_of kind at) → own_above own at ≡ None
unfolding own_above
told_all own at low =
    none_above own.certificates at.certificates _ (low kinds.Certificate) (none_above own.requests at.requests _ (low kinds.CertificateRequest) (none_above own.secrets at.secrets None (low kinds.Secret) refl))

pub told_of_own : (s : Setting) (h : List Entry) (role : Role) (key : Key) (at : Positions) → own_above (past s h role key).own at ≡ None → IsToldOfOwn s h role key at
told_of_own s h role key at none kind version since =
    let low = own_newest s h role key kind version since in
    let told = all_told (past s h role key).own at none kind in
    omega (arith, low, told)

pub own_is_told : (s : Setting) (h : List Entry) (role : Role) (key : Key) (at : Positions) → IsToldOfOwn s h role key at → own_above (past s h role key).own at ≡ None
own_is_told s h role key at told = told_all (past s h role key).own at (λ kind. by kind (own_is_one s h role key kind)) where
  by : (kind : Kind) → IsOne s h role key kind (own_of s h role key kind) → own_of s h role key kind ≤ position_of kind at
  by kind (inl none) = omega (arith, none)
  by kind (inr one) = told kind (own_of s h role key kind) one
