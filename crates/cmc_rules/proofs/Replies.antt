-- What all rows that are set out pass, and the default one, the row for a question passes.
use Rattle.std.proofs.Common.{◌≡◌, ◌&&◌, ℕ, zero, suc, Bool, true, false, cond, List, [], ◌∷◌, Option, Some, None}
use Rattle.std.specs.Prelude.{IfSome, slice_get, unwrap_or}
use Rattle.std.specs.BTreeMap.{is_at}
use Rattle.std.specs.List.{list_all}
use Rattle.std.proofs.lemmas.Bool.{and_parts}
use Rattle.cmc_meta.specs.declared.key.Key.{Key}
use Rattle.cmc_meta.specs.Keys.{key_cmp}
use Rattle.cmc_objects.specs.declared.rows.Rows.{Rows}
use Rattle.cmc_objects.specs.declared.rows.KeyRow.{KeyRow}
use Rattle.cmc_objects.specs.declared.rows.KeyRow.TheVariants.{Default}
use Rattle.cmc_objects.specs.declared.rows.SignRow.{SignRow}
use Rattle.cmc_objects.specs.Materials.{rows_under}
use Rattle.cmc_rules.specs.Orders.{default_row, last_or, key_row_for, key_row, reply_row_for, reply_row}

last_fits : (fits : SignRow → Bool) (rows : List SignRow) (row : SignRow) → fits row ≡ true → list_all fits rows ≡ true → fits (last_or row rows) ≡ true
last_fits fits [] row is all = is
last_fits fits (x ∷ xs) row is all = let parts = and_parts (fits x) (list_all fits xs) all in last_fits fits xs x parts.0 parts.1

place_fits : {A : Type 0} (fits : A → Bool) (rows : List A) (place : ℕ) (other : A) → fits other ≡ true → list_all fits rows ≡ true → fits (unwrap_or (slice_get rows place) other) ≡ true
place_fits fits [] place other is all = is
place_fits fits (x ∷ xs) zero other is all = (and_parts (fits x) (list_all fits xs) all).0
place_fits fits (x ∷ xs) (suc place) other is all = place_fits fits xs place other is (and_parts (fits x) (list_all fits xs) all).1

by_key : (P : Rows → Type 0) (b : Bool) (rows : Rows) (later : Option Rows) → P rows → IfSome later P → IfSome (cond b (Some rows) later) P
by_key P true rows later here there = here
by_key P false rows later here there = there

found_fits : (P : Rows → Type 0) (test : Key × Rows → Bool) (material : List (Key × Rows)) (sought : Key) → ((e : Key × Rows) → test e ≡ true → P e.1) → list_all test material ≡ true → IfSome (rows_under material sought) P
found_fits P test [] sought gives all = tt
found_fits P test (e ∷ es) sought gives all =
    let parts = and_parts (test e) (list_all test es) all in by_key P (is_at (key_cmp sought) e.0) e.1 (rows_under es sought) (gives e parts.0) (found_fits P test es sought gives parts.1)

reply_in : (fits : SignRow → Bool) (rows : Option Rows) (asked : ℕ) → fits default_row ≡ true → IfSome rows (λ r. list_all fits r.replies ≡ true) → fits (reply_row_for rows asked) ≡ true
reply_in fits None asked usual all = usual
reply_in fits (Some rows) asked usual all = place_fits fits rows.replies asked (last_or default_row rows.replies) (last_fits fits rows.replies default_row usual all) all

-- whatever test the entries pass, if it gives this of their rows
pub reply_row_fits : (fits : SignRow → Bool) (test : Key × Rows → Bool) (material : List (Key × Rows)) (certificate : Key) (asked : ℕ) → fits default_row ≡ true → ((e : Key × Rows) → test e ≡ true → list_all fits e.1.replies ≡ true)
    → list_all test material ≡ true → fits (reply_row material certificate asked) ≡ true
unfolding reply_row
reply_row_fits fits test material certificate asked usual gives all =
    reply_in fits (rows_under material certificate) asked usual (found_fits (λ r. list_all fits r.replies ≡ true) test material certificate gives all)

key_in : (fits : KeyRow → Bool) (rows : Option Rows) (asked : ℕ) → fits Default ≡ true → IfSome rows (λ r. list_all fits r.keys ≡ true) → fits (key_row_for rows asked) ≡ true
key_in fits None asked usual all = usual
key_in fits (Some rows) asked usual all = place_fits fits rows.keys asked Default usual all

pub key_row_fits : (fits : KeyRow → Bool) (test : Key × Rows → Bool) (material : List (Key × Rows)) (certificate : Key) (asked : ℕ) → fits Default ≡ true → ((e : Key × Rows) → test e ≡ true → list_all fits e.1.keys ≡ true)
    → list_all test material ≡ true → fits (key_row material certificate asked) ≡ true
unfolding key_row
key_row_fits fits test material certificate asked usual gives all =
    key_in fits (rows_under material certificate) asked usual (found_fits (λ r. list_all fits r.keys ≡ true) test material certificate gives all)
