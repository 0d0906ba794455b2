-- The index of Secrets where the row of one changes, and keys of a row that pass a test.
use Rattle.std.proofs.Common.{◌≡◌, Option, Some, Bool, true, false, cond, refl, sym, ap, ◌∙◌, List}
use Rattle.std.specs.BTreeMap.{is_at}
use Rattle.std.specs.HashMap.{HashMap, WritesThrough, get_by}
use Rattle.std.specs.List.{filter}
use Rattle.std.specs.Map.{lookup}
use Rattle.std.specs.Prelude.{IsSome, if◌then◌else◌, ◌&&◌}
use Rattle.std.proofs.lemmas.List.Kept.{IsStrictlySortedBy-filter}
use Rattle.std.proofs.lemmas.Map.Views.{any-filter_same}
use Rattle.cmc_meta.specs.declared.key.Key.{Key}
use Rattle.cmc_meta.specs.Keys.{key_cmp, key_eq}
use Rattle.cmc_informer.specs.Indexes.{AreKeys, Marked, Targeted, mark_in, mark_of, points}
use Rattle.cmc_informer.proofs.OneMark.{equal_key, same_key}

led_by : (b : Bool) (on : Marked) (es new : Targeted) (s k : Key)
    → lookup (key_eq s) new ≡ cond b (Some on) (lookup (key_eq s) es) → points new s k ≡ (if b then mark_in on k else points es s k)
unfolding points
led_by true on es new s k at = ap (λ o. mark_of o k) at
led_by false on es new s k at = ap (λ o. mark_of o k) at

-- an index of which one row is changed
row_changed : (on : Marked) (es new : Targeted) (secret : Key) → ((q : Key) → lookup (key_eq q) new ≡ cond (key_eq secret q) (Some on) (lookup (key_eq q) es))
    → (s k : Key) → points new s k ≡ (if key_eq secret s then mark_in on k else points es s k)
row_changed on es new secret each s k = led_by (key_eq secret s) on es new s k (each s)

row_written : {S : Type 0} (m n : HashMap Key Marked S) (secret : Key) (old on : Marked) → get_by (key_eq secret) m ≡ Some old → WritesThrough key_eq (key_eq secret) m on n
    → (s k : Key) → points n.entries s k ≡ (if key_eq secret s then mark_in on k else points m.entries s k)
row_written m n secret old on found through =
    let some : IsSome (get_by (key_eq secret) m) = rw found refl in
    row_changed on m.entries n.entries secret (through.3 some).0

stood_by : (b : Bool) (row : Option Marked) (es : Targeted) (secret s k : Key) → key_eq secret s ≡ b → lookup (key_eq secret) es ≡ row → (if b then mark_of row k else points es s k) ≡ points es s k
unfolding points
stood_by true row es secret s k e found = sym (ap (λ q. mark_of (lookup (key_eq q) es) k) (sym (equal_key secret s e)) ∙ ap (λ o. mark_of o k) found)
stood_by false row es secret s k e found = refl

-- what stood in the row is what the index had there
stood : (row : Option Marked) (es : Targeted) (secret s k : Key) → lookup (key_eq secret) es ≡ row → (if key_eq secret s then mark_of row k else points es s k) ≡ points es s k
stood row es secret s k found = stood_by (key_eq secret s) row es secret s k refl found

both : (a b old rest : Bool) → (if a then (if b then true else old) else rest) ≡ (if a && b then true else (if a then old else rest))
both true true old rest = refl
both true false old rest = refl
both false b old rest = refl

-- a key is marked in the row
pub mark_led : {S : Type 0} (m n : HashMap Key Marked S) (secret key : Key) (old on : Marked) → get_by (key_eq secret) m ≡ Some old → WritesThrough key_eq (key_eq secret) m on n
    → ((k : Key) → mark_in on k ≡ (if key_eq key k then true else mark_in old k))
    → (s k : Key) → points n.entries s k ≡ (if key_eq secret s && key_eq key k then true else points m.entries s k)
mark_led m n secret key old on found through set s k =
    row_written m n secret old on found through s k ∙ ap (λ (b : Bool). if key_eq secret s then b else points m.entries s k) (set k)
    ∙ both (key_eq secret s) (key_eq key k) (mark_in old k) (points m.entries s k)
    ∙ ap (λ (b : Bool). if key_eq secret s && key_eq key k then true else b) (stood (Some old) m.entries secret s k found)

-- ---- the keys of a row that pass a test

also : (a b : Bool) → (a ≡ true → b ≡ true) → (a && b) ≡ a
also true b implied = implied refl
also false b implied = refl

-- where the test passes none but these keys, those of them that pass it are all that do, in order
pub keys_among : (keys : List Key) (P Q : Key → Bool) → AreKeys keys P → ((k : Key) → Q k ≡ true → P k ≡ true) → AreKeys (filter Q keys) Q
keys_among keys P Q are implied = record {
  ordered = IsStrictlySortedBy-filter key_cmp Q keys are.ordered;
  exact = λ q.
      any-filter_same (is_at (key_cmp q)) Q (Q q) (λ k at. ap Q (sym (same_key q k at))) keys
      ∙ ap (λ (b : Bool). Q q && b) (are.exact q) ∙ also (Q q) (P q) (implied q);
}
