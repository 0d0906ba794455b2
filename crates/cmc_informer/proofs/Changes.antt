-- Which keys the writes between two versions named.
use Rattle.std.proofs.Common.{◌≡◌, ◌+◌, ◌≤◌, ◌<◌, ℕ, suc, List, [], ◌∷◌, length, get_or, reverse, Bool, true, false, refl, sym, ap, ◌∙◌, arith}
use Rattle.std.specs.Prelude.{if◌then◌else◌, ◌&&◌, nat_le, nat_lt}
use Rattle.std.proofs.lemmas.Bool.Decides.{nat_tests}
use Rattle.std.proofs.lemmas.List.{length-reverse}
use Rattle.cmc_meta.specs.declared.key.Key.{Key}
use Rattle.cmc_meta.specs.declared.key.Kind.{Kind}
use Rattle.cmc_meta.specs.Keys.{key_eq}
use Rattle.cmc_model.specs.declared.write.Write.{Write}
use Rattle.cmc_model.specs.Writes.{kind_eq, last_under, oldest}
use Rattle.cmc_model.proofs.Writes.{oldest-replayed}
use Rattle.cmc_informer.specs.Watches.{is_changed}
use Rattle.cmc_informer.proofs.OneMark.{key_tie, same_key}

counted : (b : Bool) (i : ℕ) (w : Write) (ws : List Write) → nat_le (length (w ∷ ws)) i ≡ b → i ≤ length (w ∷ ws) → (i ≤ length ws → length (oldest i ws) ≡ i) → length (if b then w ∷ ws else oldest i ws) ≡ i
counted true i w ws e h below = let le : length (w ∷ ws) ≤ i = grind (arith, nat_tests) in omega (arith, le, h)
counted false i w ws e h below = let gt : i < length (w ∷ ws) = grind (arith, nat_tests) in below (omega (arith, gt))

length-oldest : (i : ℕ) (ws : List Write) → i ≤ length ws → length (oldest i ws) ≡ i
unfolding oldest
length-oldest i [] h = omega (arith, h)
length-oldest i (w ∷ ws) h = counted (nat_le (length (w ∷ ws)) i) i w ws refl h (λ le. length-oldest i ws le)

low_by : (b : Bool) (n m : ℕ) → m ≤ n → (if b then suc n else m) ≤ suc n
low_by true n m h = omega arith
low_by false n m h = omega (arith, h)

last_under-low : (key : Key) (ws : List Write) → last_under key ws ≤ length ws
unfolding last_under
last_under-low key [] = omega arith
last_under-low key (w ∷ ws) = low_by (key_eq w.key key) (length ws) (last_under key ws) (last_under-low key ws)

and_false : (a b : Bool) → b ≡ false → (a && b) ≡ false
and_false true b e = e
and_false false b e = refl

-- writes up to a version name nothing above it
pub none_changed : (kind : Kind) (from to : ℕ) (ws : List Write) (k : Key) → to ≤ length ws → to ≤ from → is_changed kind from to ws k ≡ false
none_changed kind from to ws k within below =
    let low : last_under k (oldest to ws) ≤ length (oldest to ws) = last_under-low k (oldest to ws) in
    let count = length-oldest to ws within in
    let least : last_under k (oldest to ws) ≤ from = omega (arith, low, count, below) in
    and_false (kind_eq k.kind kind) (nat_lt from (last_under k (oldest to ws))) (grind (arith, nat_tests, least))

step_by : (b d ke x y new : Bool) → (b ≡ true → ke ≡ d) → y ≡ true → new ≡ (if d && b then true else (ke && x)) → new ≡ (ke && (if b then y else x))
step_by true true ke x y new kinds above set = set ∙ sym (ap (λ (r : Bool). r && y) (kinds refl) ∙ above)
step_by true false ke x y new kinds above set = set ∙ ap (λ (r : Bool). r && x) (kinds refl) ∙ sym (ap (λ (r : Bool). r && y) (kinds refl))
step_by false true ke x y new kinds above set = set
step_by false false ke x y new kinds above set = set

choice : (b : Bool) (from n m : ℕ) → (if b then nat_lt from n else nat_lt from m) ≡ nat_lt from (if b then n else m)
choice true from n m = refl
choice false from n m = refl

last_under-more : (k : Key) (w : Write) (ws : List Write) → last_under k (w ∷ ws) ≡ (if key_eq w.key k then length (w ∷ ws) else last_under k ws)
unfolding last_under
last_under-more k w ws = refl

-- one more write is marked
pub changed_next : (kind : Kind) (from i : ℕ) (ws : List Write) (w : Write) (k : Key) (old new : Bool) → from ≤ i → i < length ws → get_or ws i w ≡ w
    → new ≡ (if kind_eq w.key.kind kind && key_eq w.key k then true else old) → old ≡ is_changed kind from i (reverse ws) k → new ≡ is_changed kind from (i + 1) (reverse ws) k
changed_next kind from i ws w k old new above within is set was =
    let o : List Write = oldest i (reverse ws) in
    let n : length (reverse ws) ≡ length ws = length-reverse ws in
    let count : length o ≡ i = length-oldest i (reverse ws) (omega (arith, n, within)) in
    let newest : nat_lt from (length (w ∷ o)) ≡ true = let least : from < length (w ∷ o) = omega (arith, count, above) in grind (arith, nat_tests, least) in
    let kinds : key_eq w.key k ≡ true → kind_eq k.kind kind ≡ kind_eq w.key.kind kind = λ e. ap (λ (q : Key). kind_eq q.kind kind) (sym (same_key w.key k (key_tie w.key k ∙ e))) in
    let step = step_by (key_eq w.key k) (kind_eq w.key.kind kind) (kind_eq k.kind kind) (nat_lt from (last_under k o)) (nat_lt from (length (w ∷ o))) new kinds newest
    (set ∙ ap (λ (r : Bool). if kind_eq w.key.kind kind && key_eq w.key k then true else r) was) in
    step ∙ ap (λ (r : Bool). kind_eq k.kind kind && r) (choice (key_eq w.key k) from (length (w ∷ o)) (last_under k o) ∙ ap (nat_lt from) (sym (last_under-more k w o)))
    ∙ ap (λ (l : List Write). kind_eq k.kind kind && nat_lt from (last_under k l)) (sym (oldest-replayed ws i w within ∙ ap (λ (v : Write). v ∷ o) is))

-- the same, where the first writes are the same
pub same_changed : (kind : Kind) (from end to : ℕ) (ws vs : List Write) (k : Key) → oldest end ws ≡ oldest to ws → ws ≡ vs → is_changed kind from end ws k ≡ is_changed kind from to vs k
same_changed kind from end to ws vs k same is =
    ap (λ (l : List Write). kind_eq k.kind kind && nat_lt from (last_under k l)) same ∙ ap (λ (l : List Write). is_changed kind from to l k) is
