-- Members that are put in any order are those of the rows in byte order of their names.
use Rattle.std.proofs.Common.{◌≡◌, ℕ, List, [], ◌∷◌, Bool, true, false, Some, None, refl, ap, ◌∙◌}
use Rattle.std.specs.declared.option.Option.{Option}
use Rattle.std.specs.declared.cmp.Ordering.{Ordering}
use Rattle.std.specs.declared.cmp.Ordering.TheVariants.{Less, Equal, Greater}
use Rattle.std.specs.Ordering.{match_ordering, nat_cmp}
use Rattle.std.specs.Cmp.Lexicographic.{slice_cmp}
use Rattle.serde_json.specs.Data.{Data, Members, no_members, member, put}
use Rattle.cmc_writer.specs.Additions.{Row}
use Rattle.cmc_writer.specs.Rows.{built_row, built}

-- A row at its place among others.
abbrev pub placed : List ℕ → Option Data → List Row → List Row
placed name x [] = (name, x) ∷ []
placed name x (r ∷ rs) = match_ordering (slice_cmp nat_cmp name r.0) ((name, x) ∷ r ∷ rs) ((name, x) ∷ r ∷ rs) (r ∷ placed name x rs)

-- The name stands before those of all these rows.
abbrev pub is_before : List ℕ → List Row → Bool
is_before name [] = true
is_before name (r ∷ rs) = match_ordering (slice_cmp nat_cmp name r.0) (is_before name rs) false false

-- The name is none of theirs, and they are in order around it.
abbrev pub has_place : List ℕ → List Row → Bool
has_place name [] = true
has_place name (r ∷ rs) = match_ordering (slice_cmp nat_cmp name r.0) (is_before name rs) false (has_place name rs)

put_head : (o : Ordering) (name other : List ℕ) (d e : Data) (ms rest : Members) (b : Bool) → match_ordering o b false false ≡ true
    → match_ordering o (member name d (member other e ms)) (member other d ms) rest ≡ member name d (member other e ms)
put_head Less name other d e ms rest b h = refl
put_head Equal name other d e ms rest b h = cc
put_head Greater name other d e ms rest b h = cc

less_rest : (o : Ordering) (b : Bool) → match_ordering o b false false ≡ true → b ≡ true
less_rest Less b h = h
less_rest Equal b h = cc
less_rest Greater b h = cc

put_before : (name : List ℕ) (d : Data) (rs : List Row) → is_before name rs ≡ true → put name d (built rs) ≡ member name d (built rs)
put_before name d [] h = refl
put_before name d ((other, None) ∷ rs) h = put_before name d rs (less_rest (slice_cmp nat_cmp name other) (is_before name rs) h)
put_before name d ((other, Some e) ∷ rs) h = put_head (slice_cmp nat_cmp name other) name other d e (built rs) _ (is_before name rs) h

pub put_past : (o : Ordering) (name other : List ℕ) (d e : Data) (ms rest : Members) → o ≡ Greater
    → match_ordering o (member name d (member other e ms)) (member other d ms) (member other e rest) ≡ member other e rest
put_past Less name other d e ms rest h = cc
put_past Equal name other d e ms rest h = cc
put_past Greater name other d e ms rest h = refl

-- Members that are those of rows.
pub record IsBuilt (ms : Members) (rows : List Row) : Type 0 where
  pub same : ms ≡ built rows

-- A value put under a name, or nothing.
abbrev pub put_row : List ℕ → Option Data → Members → Members
put_row name None ms = ms
put_row name (Some d) ms = put name d ms

put_at : (o : Ordering) (name other : List ℕ) (x y : Option Data) (rs : List Row) → slice_cmp nat_cmp name other ≡ o
    → match_ordering o (is_before name rs) false (has_place name rs) ≡ true
    → (has_place name rs ≡ true → put_row name x (built rs) ≡ built (placed name x rs))
    → put_row name x (built_row other y (built rs)) ≡ built (match_ordering o ((name, x) ∷ (other, y) ∷ rs) ((name, x) ∷ (other, y) ∷ rs) ((other, y) ∷ placed name x rs))
put_at Less name other None y rs e h go = refl
put_at Less name other (Some d) y rs e h go = put_before name d ((other, y) ∷ rs) (rw e h)
put_at Equal name other x y rs e h go = cc
put_at Greater name other None y rs e h go = ap (built_row other y) (go h)
put_at Greater name other (Some d) None rs e h go = go h
put_at Greater name other (Some d) (Some b) rs e h go = put_past (slice_cmp nat_cmp name other) name other d b (built rs) (put name d (built rs)) e ∙ ap (member other b) (go h)

pub put_placed : (name : List ℕ) (x : Option Data) (rs : List Row) → has_place name rs ≡ true → put_row name x (built rs) ≡ built (placed name x rs)
put_placed name None [] h = refl
put_placed name (Some d) [] h = refl
put_placed name x (r ∷ rs) h = put_at (slice_cmp nat_cmp name r.0) name r.0 x r.1 rs refl h (put_placed name x rs)

-- No members, and one more.
pub is_none : IsBuilt no_members []
is_none = record { same = refl }

pub is_put : {ms : Members} {rows : List Row} (name : List ℕ) (x : Option Data) → IsBuilt ms rows → has_place name rows ≡ true → IsBuilt (put_row name x ms) (placed name x rows)
is_put name x b h = record { same = ap (put_row name x) b.same ∙ put_placed name x _ h }
