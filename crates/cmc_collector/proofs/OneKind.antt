-- The writes of one kind leave the objects that all writes leave under keys of the kind.
use Rattle.std.proofs.Common.{◌≡◌, ℕ, ◌≤◌, List, [], ◌∷◌, length, Option, None, Bool, true, false, cond, refl, sym, ap, ◌∙◌, arith}
use Rattle.std.proofs.lemmas.Bool.Decides.{nat_tests}
use Rattle.std.specs.Prelude.{if◌then◌else◌, nat_le}
use Rattle.std.specs.FinMap.{get-empty}
use Rattle.std.specs.Ordering.{eq_by_cmp}
use Rattle.cmc_meta.specs.declared.key.Key.{Key}
use Rattle.cmc_meta.specs.declared.key.Kind.{Kind}
use Rattle.cmc_meta.specs.Keys.{key_cmp}
use Rattle.cmc_model.specs.declared.write.Write.{Write}
use Rattle.cmc_model.specs.Objects.{no_objects, object_at}
use Rattle.cmc_model.specs.Writes.{contents, oldest, of_kind, kind_eq, last_of_kind}
use Rattle.cmc_model.proofs.Versions.{object_at-put}
use Rattle.cmc_informer.proofs.OneMark.{same_key}

-- ---- the last write of a kind

none_above : (b c : Bool) (kind : Kind) (p : ℕ) (w : Write) (ws : List Write) → nat_le (length (w ∷ ws)) p ≡ b → kind_eq w.key.kind kind ≡ c
    → (last_of_kind kind ws ≤ p → of_kind kind (oldest p ws) ≡ of_kind kind ws) → (if c then length (w ∷ ws) else last_of_kind kind ws) ≤ p
    → of_kind kind (if b then w ∷ ws else oldest p ws) ≡ cond c (w ∷ of_kind kind ws) (of_kind kind ws)
none_above true c kind p w ws reached is below le = ap (λ k. cond k (w ∷ of_kind kind ws) (of_kind kind ws)) is
none_above false true kind p w ws reached is below le = absurd (grind (arith, nat_tests))
none_above false false kind p w ws reached is below le = below le

-- the first writes have all of the kind, up to its last one
pub of_kind-oldest : (kind : Kind) (p : ℕ) (ws : List Write) → last_of_kind kind ws ≤ p → of_kind kind (oldest p ws) ≡ of_kind kind ws
unfolding oldest last_of_kind
of_kind-oldest kind p [] le = refl
of_kind-oldest kind p (w ∷ ws) le = none_above (nat_le (length (w ∷ ws)) p) (kind_eq w.key.kind kind) kind p w ws refl refl (of_kind-oldest kind p ws) le

-- ---- under one key

-- c: the write is one of the kind; t: it names the key; k: the key is one of the kind
merged : {A : Type 0} (c t k : Bool) (x y z : Option A) → (t ≡ true → k ≡ c) → z ≡ cond k y None → cond c (cond t x z) z ≡ cond k (cond t x y) None
merged true true k x y z same is = sym (ap (λ b. cond b x None) (same refl))
merged true false k x y z same is = is
merged false true k x y z same is = is ∙ ap (λ b. cond b y None) (same refl) ∙ sym (ap (λ b. cond b x None) (same refl))
merged false false k x y z same is = is

only : {A : Type 0} (b : Bool) (x : Option A) → x ≡ None → x ≡ cond b x None
only true x none = refl
only false x none = none

put_if : (c : Bool) (us : List Write) (w : Write) (q : Key)
    → object_at (contents (cond c (w ∷ us) us)) q ≡ cond c (cond (eq_by_cmp key_cmp q w.key) w.object (object_at (contents us) q)) (object_at (contents us) q)
unfolding contents
put_if true us w q = object_at-put (contents us) w.key w.object q
put_if false us w q = refl

pub object_at-of_kind : (kind : Kind) (ws : List Write) (q : Key) → object_at (contents (of_kind kind ws)) q ≡ cond (kind_eq q.kind kind) (object_at (contents ws) q) None
unfolding contents
object_at-of_kind kind [] q = only (kind_eq q.kind kind) (object_at no_objects q) (get-empty key_cmp q)
object_at-of_kind kind (w ∷ ws) q =
    put_if (kind_eq w.key.kind kind) (of_kind kind ws) w q
    ∙ merged (kind_eq w.key.kind kind) (eq_by_cmp key_cmp q w.key) (kind_eq q.kind kind) w.object (object_at (contents ws) q) (object_at (contents (of_kind kind ws)) q)
    (λ e. ap (λ (k : Key). kind_eq k.kind kind) (same_key q w.key e)) (object_at-of_kind kind ws q)
    ∙ ap (λ o. cond (kind_eq q.kind kind) o None) (sym (object_at-put (contents ws) w.key w.object q))
