-- The entries of a `HashMap` with keys of objects, in whatever order, seen as a finite map.
use Rattle.std.proofs.Common.{◌≡◌, Bool, List, Some, None, cond, sym, ap, subst, ◌∙◌, rules}
use Rattle.std.specs.BTreeMap.{is_at}
use Rattle.std.specs.Cmp.Rules.{comparing}
use Rattle.std.specs.FinMap as map
use Rattle.std.specs.Map.{lookup}
use Rattle.std.specs.Ordering.{is_eq}
use Rattle.cmc_meta.specs.declared.key.Key.{Key}
use Rattle.cmc_meta.specs.Keys.{key_cmp, key_eq}
use Rattle.cmc_model.proofs.Maps.{get-lookup, from_entries-updated, from_entries-removed}

key_tie : (a b : Key) → is_eq (key_cmp a b) ≡ key_eq a b
key_tie a b = search (comparing, rules)

-- keys that tie in the order are those that the test finds equal
same_test : (λ (q k : Key). is_at (key_cmp q) k) ≡ key_eq
same_test = λ i q k. key_tie q k i

pub get-hashed : {X : Type 0} (es : List (Key × X)) (q : Key) → map.get {R = key_cmp} (map.from_entries es) q ≡ lookup (key_eq q) es
get-hashed es q = get-lookup es q ∙ ap (λ (t : Key → Key → Bool). lookup (t q) es) same_test

pub hashed-updated : {X : Type 0} (old new : List (Key × X)) (k : Key) (v : X) → ((q : Key) → lookup (key_eq q) new ≡ cond (key_eq k q) (Some v) (lookup (key_eq q) old))
    → map.from_entries {R = key_cmp} new ≡ map.insert (map.from_entries old) k v
hashed-updated old new k v each =
    from_entries-updated old new k v (subst (λ (t : Key → Key → Bool). (q : Key) → lookup (t q) new ≡ cond (t k q) (Some v) (lookup (t q) old)) (sym same_test) each)

pub hashed-removed : {X : Type 0} (old new : List (Key × X)) (k : Key) → ((q : Key) → lookup (key_eq q) new ≡ cond (key_eq k q) None (lookup (key_eq q) old))
    → map.from_entries {R = key_cmp} new ≡ map.remove (map.from_entries old) k
hashed-removed old new k each =
    from_entries-removed old new k (subst (λ (t : Key → Key → Bool). (q : Key) → lookup (t q) new ≡ cond (t k q) None (lookup (t q) old)) (sym same_test) each)
