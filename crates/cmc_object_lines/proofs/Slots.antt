-- Members that may be left out, as rows.
use Rattle.std.proofs.Common.{◌≡◌, ℕ, List, [], ◌∷◌, Bool, true, false, Some, None, option_map}
use Rattle.std.specs.declared.option.Option.{Option}
use Rattle.serde_json.specs.Data.{Data, boolean, object, Members, no_members, member}
use Rattle.cmc_print.specs.Puts.{put_option, put_list, put_true, put_object}
use Rattle.cmc_writer.specs.Additions.{Row}
use Rattle.cmc_writer.specs.Rows.{list_row, true_row, object_row}
use Rattle.cmc_writer.proofs.Placed.{placed, has_place, IsBuilt, is_put}

pub is_option : {A : Type 0} {ms : Members} {rows : List Row} (tree : A → Data) (name : List ℕ) (x : Option A) → IsBuilt ms rows → has_place name rows ≡ true
    → IsBuilt (put_option tree name x ms) (placed name (option_map tree x) rows)
is_option tree name None b h = is_put name None b h
is_option tree name (Some x) b h = is_put name (Some (tree x)) b h

pub is_list : {A : Type 0} {ms : Members} {rows : List Row} (tree : List A → Data) (name : List ℕ) (xs : List A) → IsBuilt ms rows → has_place name rows ≡ true
    → IsBuilt (put_list tree name xs ms) (placed name (list_row tree xs) rows)
is_list tree name [] b h = is_put name None b h
is_list tree name (x ∷ xs) b h = is_put name (Some (tree (x ∷ xs))) b h

pub is_true : {ms : Members} {rows : List Row} (name : List ℕ) (flag : Bool) → IsBuilt ms rows → has_place name rows ≡ true
    → IsBuilt (put_true name flag ms) (placed name (true_row flag) rows)
is_true name false b h = is_put name None b h
is_true name true b h = is_put name (Some (boolean true)) b h

pub is_object : {ms : Members} {rows : List Row} (name : List ℕ) (inner : Members) → IsBuilt ms rows → has_place name rows ≡ true
    → IsBuilt (put_object name inner ms) (placed name (object_row inner) rows)
is_object name no_members b h = is_put name None b h
is_object name (member first d rest) b h = is_put name (Some (object (member first d rest))) b h
