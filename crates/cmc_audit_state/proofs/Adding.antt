-- What is added to lists of keys and of versions.
use Rattle.std.proofs.Common.{◌≡◌, ◌==◌, ℕ, ◌+◌, ◌<◌, List, [], ◌∷◌, ◌++◌, length, take, get_or, Bool, true, false, cond, rules, refl, sym, ap, ◌∙◌}
use Rattle.std.specs.Prelude.{◌&&◌, ◌||◌, reverse}
use Rattle.std.specs.BTreeMap.{is_at}
use Rattle.std.specs.Cmp.Rules.{comparing}
use Rattle.std.proofs.lemmas.List.{reverse-append}
use Rattle.std.proofs.lemmas.List.Folds.{list_any_more}
use Rattle.cmc_meta.specs.declared.key.Key.{Key}
use Rattle.cmc_meta.specs.declared.owners.OwnerRef.{OwnerRef}
use Rattle.cmc_meta.specs.Keys.{key_cmp, key_eq}
use Rattle.cmc_audit_state.specs.Journaled.{is_key_among, has_owner_uid, is_kept}

-- ---- keys

one_test : (key k : Key) → is_at (key_cmp key) k ≡ key_eq key k
one_test key k = search (comparing, rules)

more : (t b : Bool) → cond t true b ≡ (t || b)
more true b = refl
more false b = refl

pub key_more : (old new : List Key) (key : Key) → ((k : Key) → is_key_among new k ≡ cond (is_at (key_cmp key) k) true (is_key_among old k)) → (k : Key) → is_key_among new k ≡ (key_eq key k || is_key_among old k)
key_more old new key put k = put k ∙ ap (λ (t : Bool). cond t true (is_key_among old k)) (one_test key k) ∙ more (key_eq key k) (is_key_among old k)

none_of : (keys : List Key) (k : Key) → keys ≡ [] → is_key_among keys k ≡ false
none_of keys k none = ap (λ (ks : List Key). is_key_among ks k) none

only_left : (t b : Bool) → b ≡ false → (t || b) ≡ t
only_left true b none = refl
only_left false b none = none

pub key_only : (old new : List Key) (key : Key) → old ≡ [] → ((k : Key) → is_key_among new k ≡ cond (is_at (key_cmp key) k) true (is_key_among old k)) → (k : Key) → is_key_among new k ≡ key_eq key k
key_only old new key none put k = key_more old new key put k ∙ only_left (key_eq key k) (is_key_among old k) (none_of old k none)

-- ---- under the uids of owners

key_itself : (key : Key) → key_eq key key ≡ true
key_itself key = search (comparing, rules)

-- one more owner: its uid leads to the key, and what was kept is kept
pub kept_more : (old new : List (ℕ × List Key)) (uid u : ℕ) (key k : Key) → ((v : ℕ) (q : Key) → is_kept new v q ≡ ((uid == v && key_eq key q) || is_kept old v q)) → is_kept old u k ≡ true → is_kept new u k ≡ true
kept_more old new uid u key k put was = put u k ∙ later (uid == u && key_eq key k) (is_kept old u k) was where
  later : (t b : Bool) → b ≡ true → (t || b) ≡ true
  later true b on = refl
  later false b on = on

here : (t e b : Bool) → t ≡ true → e ≡ true → ((t && e) || b) ≡ true
here true true b on same = refl
here true false b on same = absurd (cc same)
here false e b on same = absurd (cc on)

named_by : (b : Bool) (old new : List (ℕ × List Key)) (uid u : ℕ) (key : Key) → b ≡ (uid == u) → ((v : ℕ) (q : Key) → is_kept new v q ≡ ((uid == v && key_eq key q) || is_kept old v q))
    → (more : Bool) → (more ≡ true → is_kept old u key ≡ true) → (more || b) ≡ true → is_kept new u key ≡ true
named_by b old new uid u key same put true before names = kept_more old new uid u key key put (before refl)
named_by b old new uid u key same put false before names = put u key ∙ here (uid == u) (key_eq key key) (is_kept old u key) (sym same ∙ names) (key_itself key)

pub named_more : (old new : List (ℕ × List Key)) (owners : List OwnerRef) (i : ℕ) (owner : OwnerRef) (key : Key) (u : ℕ) → i < length owners → owner ≡ get_or owners i owner
    → ((v : ℕ) (q : Key) → is_kept new v q ≡ ((owner.uid == v && key_eq key q) || is_kept old v q))
    → (has_owner_uid u (take i owners) ≡ true → is_kept old u key ≡ true) → has_owner_uid u (take (i + 1) owners) ≡ true → is_kept new u key ≡ true
named_more old new owners i owner key u low is put before names =
    named_by (owner.uid == u) old new owner.uid u key refl put (has_owner_uid u (take i owners)) before
    (ap (λ (o : OwnerRef). has_owner_uid u (take i owners) || (o.uid == u)) is ∙ sym (list_any_more (λ (o : OwnerRef). o.uid == u) owners i owner low) ∙ names)

-- ---- versions that are told

pub told_more : (a b : Bool) → cond a true b ≡ (a || b)
told_more a b = more a b

-- ---- versions under a key, the newest first

pub reversed_more : (vs : List ℕ) (v : ℕ) → reverse (vs ++ v ∷ []) ≡ v ∷ reverse vs
reversed_more vs v = reverse-append vs (v ∷ [])
