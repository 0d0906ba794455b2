-- Going over rows finds those that are looked up, and the last one is the last.
use Rattle.std.proofs.Common.{◌≡◌, ℕ, suc, arith, Bool, true, false, cond, List, [], ◌∷◌, Some, refl, sym, ap, ◌∙◌}
use Rattle.std.specs.Prelude.{◌-◌, length, slice_get, unwrap_or}
use Rattle.std.specs.BTreeMap.{is_at}
use Rattle.cmc_meta.specs.Keys.{key_cmp}
use Rattle.cmc_meta.specs.declared.key.Key.{Key}
use Rattle.cmc_objects.specs.declared.rows.Rows.{Rows}
use Rattle.cmc_objects.specs.declared.rows.SignRow.{SignRow}
use Rattle.cmc_objects.specs.Materials.{rows_under}
use Rattle.cmc_rules.specs.Orders.{last_or}

first : (b : Bool) (sought key : Key) (rows : Rows) (rest : List (Key × Rows)) → is_at (key_cmp sought) key ≡ b → rows_under ((key, rows) ∷ rest) sought ≡ cond b (Some rows) (rows_under rest sought)
first b sought key rows rest is = ap (λ (x : Bool). cond x (Some rows) (rows_under rest sought)) is

-- the next rows are those of the Certificate
pub found_here : (sought key : Key) (rows : Rows) (left rest whole : List (Key × Rows)) → is_at (key_cmp sought) key ≡ true → left ≡ (key, rows) ∷ rest → rows_under left sought ≡ rows_under whole sought → Some rows ≡ rows_under whole sought
found_here sought key rows left rest whole is steps kept =
    sym (first true sought key rows rest is) ∙ ap (λ (l : List (Key × Rows)). rows_under l sought) (sym steps) ∙ kept

-- and where they are not, later ones are, or none
pub found_later : (sought key : Key) (rows : Rows) (left rest whole : List (Key × Rows)) → is_at (key_cmp sought) key ≡ false → left ≡ (key, rows) ∷ rest → rows_under left sought ≡ rows_under whole sought → rows_under rest sought ≡ rows_under whole sought
found_later sought key rows left rest whole is steps kept =
    sym (first false sought key rows rest is) ∙ ap (λ (l : List (Key × Rows)). rows_under l sought) (sym steps) ∙ kept

-- ---- the last row

pub last_is : (row : SignRow) (rows : List SignRow) → unwrap_or (slice_get rows (length rows - 1)) row ≡ last_or row rows
last_is row [] = refl
last_is row (x ∷ []) = refl
last_is row (x ∷ y ∷ rows) =
    let all : length (x ∷ y ∷ rows) - 1 ≡ suc (length rows) = omega arith in
    let later : length (y ∷ rows) - 1 ≡ length rows = omega arith in
    ap (λ (n : ℕ). unwrap_or (slice_get (x ∷ y ∷ rows) n) row) all ∙ ap (λ (n : ℕ). unwrap_or (slice_get (y ∷ rows) n) row) (sym later) ∙ last_is row (y ∷ rows)
