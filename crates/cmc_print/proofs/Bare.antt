-- A map without entries is an object without members.
use Rattle.std.proofs.Common.{◌≡◌, ◌≢◌, ◌↔◌, List, [], ◌∷◌, length, Bool, true, false, IsTrue, MatchBool, String, refl, arith}
use Rattle.std.specs.declared.alloc.Global.{Global}
use Rattle.serde_json.specs.Data.{no_members}
use Rattle.serde_json.specs.View.{members_view}
use Rattle.serde_json.specs.declared.value.Value.{Value}

pub bare : (es : List (String Global × Value)) (b : Bool) → (IsTrue b ↔ (length es ≡ 0)) → MatchBool b (members_view es ≡ no_members) (members_view es ≢ no_members)
bare [] true h = refl
bare [] false h = let wrong : false ≡ true = h.1 refl in absurd cc
bare (e ∷ es) true h = let none : length (e ∷ es) ≡ 0 = h.0 refl in absurd (omega arith)
bare (e ∷ es) false h = λ same. cc
