-- What stands under a key after the first writes is what the last of them under it left.
use Rattle.std.proofs.Common.{◌≡◌, ◌==◌, ℕ, ◌+◌, ◌<◌, ◌≤◌, List, [], ◌∷◌, length, Bool, true, false, cond, Option, Some, None, rules, refl, sym, ap, subst, ◌∙◌, arith}
use Rattle.std.specs.Prelude.{if◌then◌else◌, ◌||◌, nat_le, find, unwrap_or, not, reverse}
use Rattle.std.specs.Cmp.{Equal-is}
use Rattle.std.proofs.lemmas.List.{length-reverse}
use Rattle.std.specs.Cmp.Rules.{comparing}
use Rattle.std.specs.FinMap.{get-empty}
use Rattle.std.specs.Ordering.{eq_by_cmp}
use Rattle.std.proofs.lemmas.Bool.Decides.{nat_tests}
use Rattle.cmc_meta.specs.declared.key.Key.{Key}
use Rattle.cmc_meta.specs.declared.key.Kind.{Kind}
use Rattle.cmc_meta.specs.declared.key.Kind.TheVariants.{Certificate, CertificateRequest, Secret}
use Rattle.cmc_meta.proofs.KeyOrder.{key_cmp-IsAntisymmetric}
use Rattle.cmc_meta.specs.Keys.{key_cmp, key_eq}
use Rattle.cmc_model.specs.declared.write.Write.{Write}
use Rattle.cmc_model.specs.Objects.{no_objects, object_at}
use Rattle.cmc_model.specs.Writes.{contents, oldest, of_kind, kind_eq, write_at, is_known}
use Rattle.cmc_model.proofs.Versions.{object_at-put}
use Rattle.cmc_model.proofs.Writes.{oldest-beyond}
use Rattle.cmc_audit_state.specs.Journaled.{cached, versions_under, latest_in, has_any_version, FallFrom, object_left}

pub key_test : (a b : Key) → key_eq a b ≡ eq_by_cmp key_cmp b a
key_test a b = search (comparing, rules)

-- ---- versions under a key fall

fall_below : (n m : ℕ) (vs : List ℕ) → n ≤ m → FallFrom n vs → FallFrom m vs
fall_below n m [] low falls = tt
fall_below n m (v ∷ vs) low falls = (omega (arith, low, falls.0), falls.1)

fall_by : (b : Bool) (n : ℕ) (vs : List ℕ) → FallFrom n vs → FallFrom (n + 1) (if b then n ∷ vs else vs)
fall_by true n vs falls = (omega arith, falls)
fall_by false n vs falls = fall_below n (n + 1) vs (omega arith) falls

pub versions_fall : (key : Key) (ws : List Write) → FallFrom (length ws + 1) (versions_under key ws)
unfolding versions_under
versions_fall key [] = tt
versions_fall key (w ∷ ws) =
    let e : length ws + 1 ≡ length (w ∷ ws) = omega arith in
    rw (← e) (fall_by (key_eq w.key key) (length ws + 1) (versions_under key ws) (versions_fall key ws))

-- ---- the last one up to p

found_low : (b : Bool) (p v : ℕ) (o : Option ℕ) (n : ℕ) → v < n → unwrap_or o 0 < n → unwrap_or (if b then Some v else o) 0 < n
found_low true p v o n low rest = low
found_low false p v o n low rest = rest

latest_below : (p n : ℕ) (vs : List ℕ) → 0 < n → FallFrom n vs → latest_in p vs < n
latest_below p n [] some falls = some
latest_below p n (v ∷ vs) some falls =
    found_low (nat_le v p) p v (find (λ v. nat_le v p) vs) n falls.0 (latest_below p n vs some (fall_below v n vs (omega (arith, falls.0)) falls.1))

-- a write that is newer than a version leaves what is found by it
other_write : (b : Bool) (w : Write) (ws : List Write) (v : ℕ) → (length (w ∷ ws) == v) ≡ b → v < length (w ∷ ws) → (if b then Some w else write_at v ws) ≡ write_at v ws
other_write true w ws v e low = absurd (grind (arith, nat_tests))
other_write false w ws v e low = refl

pub write_at-older : (w : Write) (ws : List Write) (v : ℕ) → v < length (w ∷ ws) → write_at v (w ∷ ws) ≡ write_at v ws
unfolding write_at
write_at-older w ws v low = other_write (length (w ∷ ws) == v) w ws v refl low

itself : (b : Bool) (w : Write) (ws : List Write) → (length (w ∷ ws) == length (w ∷ ws)) ≡ b → (if b then Some w else write_at (length (w ∷ ws)) ws) ≡ Some w
itself true w ws e = refl
itself false w ws e = absurd (grind (arith, nat_tests))

write_at-newest : (w : Write) (ws : List Write) → write_at (length (w ∷ ws)) (w ∷ ws) ≡ Some w
unfolding write_at
write_at-newest w ws = itself (length (w ∷ ws) == length (w ∷ ws)) w ws refl

-- ---- what stands

abbrev IsFoundBy : ℕ → Key → List Write → Type 0
IsFoundBy p key ws = object_at (contents (oldest p ws)) key ≡ object_left (write_at (latest_in p (versions_under key ws)) ws)

-- what was found of the older writes is found of one more
still : (p : ℕ) (key : Key) (w : Write) (ws : List Write) → IsFoundBy p key ws → object_at (contents (oldest p ws)) key ≡ object_left (write_at (latest_in p (versions_under key ws)) (w ∷ ws))
still p key w ws below =
    let low = latest_below p (length ws + 1) (versions_under key ws) (omega arith) (versions_fall key ws) in
    below ∙ ap object_left (sym (write_at-older w ws (latest_in p (versions_under key ws)) (omega (arith, low))))

-- b: the write counts; k: it names the key
found_in : (b k : Bool) (p : ℕ) (key : Key) (w : Write) (ws : List Write) → nat_le (length (w ∷ ws)) p ≡ b → key_eq w.key key ≡ k → IsFoundBy p key ws
    → object_at (contents (if b then w ∷ ws else oldest p ws)) key ≡ object_left (write_at (latest_in p (if k then length (w ∷ ws) ∷ versions_under key ws else versions_under key ws)) (w ∷ ws))
unfolding contents
found_in true true p key w ws counts names below =
    object_at-put (contents ws) w.key w.object key ∙ ap (λ t. cond t w.object (object_at (contents ws) key)) (sym (key_test w.key key) ∙ names)
    ∙ ap object_left (sym (write_at-newest w ws) ∙ ap (λ v. write_at (unwrap_or v 0) (w ∷ ws)) (ap (λ t. if t then Some (length (w ∷ ws)) else find (λ v. nat_le v p) (versions_under key ws)) (sym counts)))
found_in true false p key w ws counts names below =
    let all : oldest p ws ≡ ws = oldest-beyond p ws (grind (arith, nat_tests, counts)) in
    object_at-put (contents ws) w.key w.object key ∙ ap (λ t. cond t w.object (object_at (contents ws) key)) (sym (key_test w.key key) ∙ names)
    ∙ ap (λ (l : List Write). object_at (contents l) key) (sym all) ∙ still p key w ws below
found_in false true p key w ws counts names below =
    still p key w ws below ∙ ap (λ t. object_left (write_at (unwrap_or (if t then Some (length (w ∷ ws)) else find (λ v. nat_le v p) (versions_under key ws)) 0) (w ∷ ws))) (sym counts)
found_in false false p key w ws counts names below = still p key w ws below

none_standing : (key : Key) → object_at no_objects key ≡ None
none_standing key = get-empty key_cmp key

pub latest_stands : (p : ℕ) (key : Key) (ws : List Write) → IsFoundBy p key ws
unfolding contents oldest versions_under write_at
latest_stands p key [] = none_standing key
latest_stands p key (w ∷ ws) = found_in (nat_le (length (w ∷ ws)) p) (key_eq w.key key) p key w ws refl refl (latest_stands p key ws)

-- ---- whether a key is known

known_by : (k b : Bool) (n : ℕ) (vs : List ℕ) → b ≡ has_any_version vs → (k || b) ≡ has_any_version (if k then n ∷ vs else vs)
known_by true b n vs same = refl
known_by false b n vs same = same

pub known_listed : (key : Key) (ws : List Write) → is_known key ws ≡ has_any_version (versions_under key ws)
unfolding versions_under
known_listed key [] = refl
known_listed key (w ∷ ws) = known_by (key_eq w.key key) (is_known key ws) (length (w ∷ ws)) (versions_under key ws) (known_listed key ws)

listed_some : (vs : List ℕ) (n : ℕ) → length vs ≡ n + 1 → has_any_version vs ≡ true
listed_some [] n e = absurd (omega (arith, e))
listed_some (v ∷ vs) n e = refl

pub listed_reverse : (vs : List ℕ) → not (length vs == 0) ≡ has_any_version (reverse vs)
listed_reverse [] = refl
listed_reverse (v ∷ vs) =
    let n = length-reverse (v ∷ vs) in
    let e : (length (v ∷ vs) == 0) ≡ false = grind (arith, nat_tests) in
    ap not e ∙ sym (listed_some (reverse (v ∷ vs)) (length vs) (omega (arith, n)))

-- ---- of one kind

-- c: the write is one of the kind; t: it names the key; k: the key is one of the kind
merged : {A : Type 0} (c t k : Bool) (x y z : Option A) → (t ≡ true → k ≡ c) → z ≡ cond k y None → cond c (cond t x z) z ≡ cond k (cond t x y) None
merged true true k x y z same is = sym (ap (λ b. cond b x None) (same refl))
merged true false k x y z same is = is
merged false true k x y z same is = is ∙ ap (λ b. cond b y None) (same refl) ∙ sym (ap (λ b. cond b x None) (same refl))
merged false false k x y z same is = is

only : {A : Type 0} (b : Bool) (x : Option A) → x ≡ None → x ≡ cond b x None
only true x none = refl
only false x none = none

same_at : (q k : Key) → eq_by_cmp key_cmp q k ≡ true → q ≡ k
same_at q k e = key_cmp-IsAntisymmetric q k ((Equal-is (key_cmp q k)).0 e)

put_if : (c : Bool) (us : List Write) (w : Write) (q : Key)
    → object_at (contents (cond c (w ∷ us) us)) q ≡ cond c (cond (eq_by_cmp key_cmp q w.key) w.object (object_at (contents us) q)) (object_at (contents us) q)
unfolding contents
put_if true us w q = object_at-put (contents us) w.key w.object q
put_if false us w q = refl

-- the writes of one kind leave what all writes leave under keys of the kind, and nothing else
object_at-of_kind : (kind : Kind) (ws : List Write) (q : Key) → object_at (contents (of_kind kind ws)) q ≡ cond (kind_eq q.kind kind) (object_at (contents ws) q) None
unfolding contents
object_at-of_kind kind [] q = only (kind_eq q.kind kind) (object_at no_objects q) (get-empty key_cmp q)
object_at-of_kind kind (w ∷ ws) q =
    put_if (kind_eq w.key.kind kind) (of_kind kind ws) w q
    ∙ merged (kind_eq w.key.kind kind) (eq_by_cmp key_cmp q w.key) (kind_eq q.kind kind) w.object (object_at (contents ws) q) (object_at (contents (of_kind kind ws)) q)
    (λ e. ap (λ (k : Key). kind_eq k.kind kind) (same_at q w.key e)) (object_at-of_kind kind ws q)
    ∙ ap (λ o. cond (kind_eq q.kind kind) o None) (sym (object_at-put (contents ws) w.key w.object q))

rank_same : (a b : Kind) → a ≡ b → kind_eq a b ≡ true
rank_same a b same = subst (λ k. kind_eq a k ≡ true) same (grind (arith, nat_tests))

kind_of_rank : (a b : Kind) → kind_eq a b ≡ true → a ≡ b
kind_of_rank Certificate Certificate h = refl
kind_of_rank CertificateRequest CertificateRequest h = refl
kind_of_rank Secret Secret h = refl
kind_of_rank Certificate CertificateRequest h = absurd (cc h)
kind_of_rank Certificate Secret h = absurd (cc h)
kind_of_rank CertificateRequest Certificate h = absurd (cc h)
kind_of_rank CertificateRequest Secret h = absurd (cc h)
kind_of_rank Secret Certificate h = absurd (cc h)
kind_of_rank Secret CertificateRequest h = absurd (cc h)

-- a key of the kind is found among its objects as among all
pub cached_here : (kind : Kind) (p : ℕ) (ws : List Write) (q : Key) → q.kind ≡ kind → object_at (contents (oldest p ws)) q ≡ object_at (cached kind ws p) q
cached_here kind p ws q same = sym (object_at-of_kind kind (oldest p ws) q ∙ ap (λ b. cond b (object_at (contents (oldest p ws)) q) None) (rank_same q.kind kind same))

differs : (b : Bool) (a k : Kind) → kind_eq a k ≡ b → (a ≡ k → ⊥) → b ≡ false
differs true a k e apart = absurd (apart (kind_of_rank a k e))
differs false a k e apart = refl

-- and a key of another kind is not
pub cached_elsewhere : (kind : Kind) (p : ℕ) (ws : List Write) (q : Key) → (q.kind ≡ kind → ⊥) → None ≡ object_at (cached kind ws p) q
cached_elsewhere kind p ws q apart = sym (object_at-of_kind kind (oldest p ws) q ∙ ap (λ b. cond b (object_at (contents (oldest p ws)) q) None) (differs (kind_eq q.kind kind) q.kind kind refl apart))
