-- Telling a role is a new position of it.
use Rattle.std.proofs.Common.{◌≡◌, ◌∙◌, ℕ, ◌<◌, ◌≤◌, Bool, true, false, List, [], ◌∷◌, length, get_or, zero, suc, ap, refl, subst, sym, arith}
use Rattle.std.specs.Prelude.{◌==◌, if◌then◌else◌, slice_index_or, slice_set}
use Rattle.std.proofs.lemmas.Bool.{eqb-true, eq-eqb, true≢false}
use Rattle.std.proofs.lemmas.Grind.{get_or-set_at}
use Rattle.std.proofs.lemmas.List.{get_or-set_other, get_or_default}
use Rattle.cmc_meta.specs.declared.key.Kind.{Kind}
use Rattle.cmc_meta.specs.declared.key.Kind.TheVariants.{Certificate, CertificateRequest, Secret}
use Rattle.cmc_objects.specs.declared.entry.Positions.{Positions}
use Rattle.cmc_objects.specs.declared.role.Role.{Role}
use Rattle.cmc_objects.specs.Roles.{role_rank}
use Rattle.cmc_objects.proofs.Ranks.{rank_low}
use Rattle.cmc_model.specs.declared.write.Write.{Write}
use Rattle.cmc_model.specs.Histories.{role_eq}
use Rattle.cmc_caches.specs.Told.{caches_at}
use Rattle.cmc_rules.specs.Memory.{with_position}
use Rattle.cmc_rules.specs.Positions.{position_of}
use Rattle.cmc_rules.specs.Views.{Caches}
use Rattle.cmc_caches.specs.Board.{ShownKind, shown_by}
use Rattle.cmc_caches.specs.Posted.{AreUntold, AreWithin, told_of, untold}

pub position_put : (rows : List Positions) (r : Role) (i : ℕ) (new : Positions) (b : Bool) → (i == role_rank r) ≡ b → i < length rows → told_of (slice_set rows i new) r ≡ (if b then new else told_of rows r)
unfolding told_of
position_put rows r i new true is low = get_or-set_at rows i (role_rank r) new untold (sym (eqb-true i (role_rank r) is)) low
position_put rows r i new false off low = get_or-set_other rows i (role_rank r) new untold (λ e. true≢false (sym (eq-eqb i (role_rank r) (sym e)) ∙ off))

told_one : (m to : ℕ) (a b : Kind) (p : Positions) → to ≤ m → position_of b p ≤ m → position_of b (with_position a to p) ≤ m
told_one m to Certificate Certificate p fits was = fits
told_one m to Certificate CertificateRequest p fits was = was
told_one m to Certificate Secret p fits was = was
told_one m to CertificateRequest Certificate p fits was = was
told_one m to CertificateRequest CertificateRequest p fits was = fits
told_one m to CertificateRequest Secret p fits was = was
told_one m to Secret Certificate p fits was = was
told_one m to Secret CertificateRequest p fits was = was
told_one m to Secret Secret p fits was = fits

pub within_more : (n m : ℕ) (rows : List Positions) → n ≤ m → AreWithin n rows → AreWithin m rows
within_more n m rows more within place kind = let low : position_of kind (slice_index_or rows place untold) ≤ n = within place kind in omega (arith, low, more)

-- one row is put in the place of another
pub within_set : (m i : ℕ) (rows : List Positions) (new : Positions) → i < length rows → ((kind : Kind) → position_of kind new ≤ m) → AreWithin m rows → AreWithin m (slice_set rows i new)
within_set m i rows new low fits within j kind = one (i == j) refl where
  one : (b : Bool) → (i == j) ≡ b → position_of kind (slice_index_or (slice_set rows i new) j untold) ≤ m
  one true is = subst (λ (p : Positions). position_of kind p ≤ m) (sym (get_or-set_at rows i j new untold (sym (eqb-true i j is)) low)) (fits kind)
  one false off = subst (λ (p : Positions). position_of kind p ≤ m) (sym (get_or-set_other rows i j new untold (λ e. true≢false (sym (eq-eqb i j (sym e)) ∙ off)))) (within j kind)

pub within_told : (m i : ℕ) (kind : Kind) (to : ℕ) (rows : List Positions) (old new : Positions) → to ≤ m → i < length rows → old ≡ slice_index_or rows i untold → new ≡ with_position kind to old → AreWithin m rows
    → AreWithin m (slice_set rows i new)
within_told m i kind to rows old new fits low at so within =
    within_set m i rows new low
    (λ other. subst (λ (p : Positions). position_of other p ≤ m) (sym (so ∙ ap (with_position kind to) at)) (told_one m to kind other (slice_index_or rows i untold) fits (within i other))) within

-- ---- no role was told of anything

told_none : (kind : Kind) → position_of kind untold ≡ 0
told_none Certificate = refl
told_none CertificateRequest = refl
told_none Secret = refl

pub untold_within : (n : ℕ) (rows : List Positions) → AreUntold rows → AreWithin n rows
untold_within n [] none place kind = omega (arith, told_none kind)
untold_within n (r ∷ rs) none zero kind = let is : position_of kind r ≡ 0 = ap (position_of kind) none.0 ∙ told_none kind in omega (arith, is)
untold_within n (r ∷ rs) none (suc place) kind = untold_within n rs none.1 place kind

untold_at : (rows : List Positions) (i : ℕ) → AreUntold rows → slice_index_or rows i untold ≡ untold
untold_at [] i none = refl
untold_at (r ∷ rs) zero none = none.0
untold_at (r ∷ rs) (suc i) none = untold_at rs i none.1

pub all_untold : (rows : List Positions) (role : Role) → AreUntold rows → told_of rows role ≡ untold
unfolding told_of
all_untold rows role none = untold_at rows (role_rank role) none

-- ---- the row of a role

pub row_at : (rows : List Positions) (role : Role) (i : ℕ) (row : Positions) → length rows ≡ 8 → i ≡ role_rank role → row ≡ get_or rows i row → told_of rows role ≡ row
unfolding told_of
row_at rows role i row eight is at =
    let low : role_rank role < length rows = omega (arith, rank_low role, eight) in
    get_or_default rows (role_rank role) untold row low ∙ ap (λ (n : ℕ). get_or rows n row) (sym is) ∙ sym at

pub row_within : (kind : Kind) (n : ℕ) (rows : List Positions) (i : ℕ) (row : Positions) → AreWithin n rows → i < length rows → row ≡ get_or rows i row → position_of kind row ≤ n
row_within kind n rows i row within low at = subst (λ (p : Positions). position_of kind p ≤ n) (sym (at ∙ get_or_default rows i row untold low)) (within i kind)

pub row_put : (rows : List Positions) (role r : Role) (i : ℕ) (new : Positions) → i < length rows → i ≡ role_rank role → told_of (slice_set rows i new) r ≡ (if role_eq role r then new else told_of rows r)
row_put rows role r i new low is = position_put rows r i new (i == role_rank r) refl low ∙ ap (λ (n : ℕ). if n == role_rank r then new else told_of rows r) is

pub tell_put : (rows : List Positions) (role r : Role) (i : ℕ) (kind : Kind) (to : ℕ) (old new : Positions) → i < length rows → i ≡ role_rank role → told_of rows role ≡ old → new ≡ with_position kind to old
    → told_of (slice_set rows i new) r ≡ (if role_eq role r then with_position kind to (told_of rows role) else told_of rows r)
tell_put rows role r i kind to old new low is at so =
    row_put rows role r i new low is ∙ ap (λ (p : Positions). if role_eq role r then p else told_of rows r) (so ∙ ap (with_position kind to) (sym at))

-- what is shown at the positions of a row
abbrev pub shown_in : ShownKind → ShownKind → ShownKind → Caches
shown_in c r s = record { certificates = shown_by c; requests = shown_by r; secrets = shown_by s }

pub shown_caches : (ws : List Write) (at : Positions) (c r s : ShownKind) → c ≡ record { writes = ws; kind = Certificate; position = at.certificates } → r ≡ record { writes = ws; kind = CertificateRequest; position = at.requests }
    → s ≡ record { writes = ws; kind = Secret; position = at.secrets } → shown_in c r s ≡ caches_at ws at
shown_caches ws at c r s one two three = λ i. record { certificates = shown_by (one i); requests = shown_by (two i); secrets = shown_by (three i) }
