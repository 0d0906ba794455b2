-- Under a key that no write named, what the writes leave stays.
use Rattle.std.proofs.Common.{◌≡◌, ℕ, ◌≤◌, List, [], ◌∷◌, length, None, Bool, true, false, cond, refl, sym, ap, ◌∙◌, arith}
use Rattle.std.proofs.lemmas.Bool.Decides.{nat_tests}
use Rattle.std.specs.Prelude.{if◌then◌else◌, nat_le}
use Rattle.std.specs.Cmp.{tied_itself}
use Rattle.std.specs.Ordering.{eq_by_cmp, is_eq}
use Rattle.cmc_meta.specs.declared.key.Key.{Key}
use Rattle.cmc_meta.specs.declared.key.Kind.{Kind}
use Rattle.cmc_meta.specs.declared.key.Kind.TheVariants.{Certificate, CertificateRequest, Secret}
use Rattle.cmc_meta.specs.Keys.{key_cmp, key_eq}
use Rattle.cmc_model.specs.declared.write.Write.{Write}
use Rattle.cmc_model.specs.Objects.{object_at}
use Rattle.cmc_model.specs.Writes.{contents, oldest, of_kind, kind_eq, last_under}
use Rattle.cmc_model.proofs.Versions.{object_at-put}
use Rattle.cmc_meta.proofs.KeyOrder.{key_cmp-total}
use Rattle.cmc_informer.proofs.OneMark.{key_tie, same_key}
use Rattle.cmc_collector.proofs.OneKind.{object_at-of_kind}

-- ---- kinds

pub kind_same : (a b : Kind) → kind_eq a b ≡ true → a ≡ b
kind_same Certificate Certificate e = refl
kind_same CertificateRequest CertificateRequest e = refl
kind_same Secret Secret e = refl
kind_same Certificate CertificateRequest e = absurd (cc e)
kind_same Certificate Secret e = absurd (cc e)
kind_same CertificateRequest Certificate e = absurd (cc e)
kind_same CertificateRequest Secret e = absurd (cc e)
kind_same Secret Certificate e = absurd (cc e)
kind_same Secret CertificateRequest e = absurd (cc e)

pub kind_self : (a : Kind) → kind_eq a a ≡ true
kind_self Certificate = refl
kind_self CertificateRequest = refl
kind_self Secret = refl

-- ---- the first of the first writes

oldest_by : (b : Bool) (from to : ℕ) (w : Write) (ws : List Write) → nat_le (length (w ∷ ws)) to ≡ b → from ≤ to → (from ≤ to → oldest from (oldest to ws) ≡ oldest from ws)
    → oldest from (if b then w ∷ ws else oldest to ws) ≡ oldest from (w ∷ ws)
unfolding oldest
oldest_by true from to w ws at le below = refl
oldest_by false from to w ws at le below = let later : nat_le (length (w ∷ ws)) from ≡ false = grind (arith, nat_tests) in rw later (below le)

pub oldest-oldest : (from to : ℕ) (ws : List Write) → from ≤ to → oldest from (oldest to ws) ≡ oldest from ws
unfolding oldest
oldest-oldest from to [] le = refl
oldest-oldest from to (w ∷ ws) le = oldest_by (nat_le (length (w ∷ ws)) to) from to w ws refl le (oldest-oldest from to ws)

-- ---- a key that was not named since

not_named : (b n : Bool) (from : ℕ) (key : Key) (w : Write) (ws : List Write) → nat_le (length (w ∷ ws)) from ≡ b → key_eq w.key key ≡ n
    → (last_under key ws ≤ from → object_at (contents ws) key ≡ object_at (contents (oldest from ws)) key)
    → (if n then length (w ∷ ws) else last_under key ws) ≤ from
    → object_at (contents (w ∷ ws)) key ≡ object_at (contents (if b then w ∷ ws else oldest from ws)) key
unfolding contents
not_named true n from key w ws at named below le = refl
not_named false true from key w ws at named below le = absurd (grind (arith, nat_tests))
not_named false false from key w ws at named below le =
    let other : eq_by_cmp key_cmp key w.key ≡ false = apart (eq_by_cmp key_cmp key w.key) key w.key refl named in
    object_at-put (contents ws) w.key w.object key ∙ ap (λ b. cond b w.object (object_at (contents ws) key)) other ∙ below le
  where
    apart : (b : Bool) (k j : Key) → eq_by_cmp key_cmp k j ≡ b → key_eq j k ≡ false → b ≡ false
    apart true k j tied off =
        let one : k ≡ j = same_key k j tied in
        let self : key_eq j k ≡ true = sym (key_tie j k) ∙ ap (λ (q : Key). is_eq (key_cmp q k)) (sym one) ∙ ap is_eq (tied_itself key_cmp-total k) in
        absurd (cc (self, off))
    apart false k j tied off = refl

pub same_below : (from : ℕ) (key : Key) (ws : List Write) → last_under key ws ≤ from → object_at (contents ws) key ≡ object_at (contents (oldest from ws)) key
unfolding oldest last_under
same_below from key [] le = refl
same_below from key (w ∷ ws) le = not_named (nat_le (length (w ∷ ws)) from) (key_eq w.key key) from key w ws refl refl (same_below from key ws) le

-- no write above the one position and up to the other named the key
pub unchanged : (from to : ℕ) (key : Key) (ws : List Write) → from ≤ to → last_under key (oldest to ws) ≤ from
    → object_at (contents (of_kind key.kind (oldest to ws))) key ≡ object_at (contents (of_kind key.kind (oldest from ws))) key
unchanged from to key ws le quiet =
    let own : kind_eq key.kind key.kind ≡ true = kind_self key.kind in
    object_at-of_kind key.kind (oldest to ws) key
    ∙ ap (λ b. cond b (object_at (contents (oldest to ws)) key) None) own
    ∙ same_below from key (oldest to ws) quiet
    ∙ ap (λ (l : List Write). object_at (contents l) key) (oldest-oldest from to ws le)
    ∙ sym (ap (λ b. cond b (object_at (contents (oldest from ws)) key) None) own)
    ∙ sym (object_at-of_kind key.kind (oldest from ws) key)
