-- Pairs of an ordered map, put one after another, stand in their order.
use Rattle.std.proofs.Common.{◌≡◌, ℕ, List, [], ◌∷◌, ◌++◌, refl, sym, ap, ◌∙◌, subst, append_assoc, append-nil}
use Rattle.std.specs.Map.{keys_of}
use Rattle.std.specs.Prelude.{⊤}
use Rattle.std.specs.declared.cmp.Ordering.TheVariants.{Less, Greater}
use Rattle.std.specs.Ordering.{nat_cmp, ordering_reverse}
use Rattle.std.specs.List.{AllByRecursion}
use Rattle.std.proofs.lemmas.Cmp.{nat_list_cmp_total}
use Rattle.std.proofs.lemmas.Map.Keys.{sorted_head, sorted_tail}
use Rattle.cmc_writer.proofs.Placed.{put_past}
use Rattle.std.specs.Cmp.Lexicographic.{slice_cmp}
use Rattle.std.specs.List.Sorted.{IsStrictlySortedBy}
use Rattle.json.specs.Token.{Token, begin_object, end_object}
use Rattle.serde_json.specs.Data.{Data, object, no_members, member, put}
use Rattle.cmc_print.specs.Puts.{put_all, map_tree}
use Rattle.cmc_writer.specs.Additions.{with_value, with_rows}
use Rattle.cmc_writer.specs.Rows.{built}
use Rattle.cmc_writer.proofs.Written.{object_written}
use Rattle.cmc_object_lines.specs.ObjectRows.{pair_rows}

-- The name stands behind those of all these pairs.
abbrev IsPast : List ℕ → List (List ℕ × List ℕ) → Type 0
IsPast name [] = ⊤
IsPast name (e ∷ es) = (slice_cmp nat_cmp name e.0 ≡ Greater) × IsPast name es

put_end : (tree : List ℕ → Data) (name value : List ℕ) (done : List (List ℕ × List ℕ)) → IsPast name done
    → put name (tree value) (built (pair_rows tree done)) ≡ built (pair_rows tree (done ++ (name, value) ∷ []))
put_end tree name value [] past = refl
put_end tree name value (e ∷ es) past =
    put_past (slice_cmp nat_cmp name e.0) name e.0 (tree value) (tree e.1) (built (pair_rows tree es)) (put name (tree value) (built (pair_rows tree es))) past.0
    ∙ ap (member e.0 (tree e.1)) (put_end tree name value es past.1)

flipped : (k q : List ℕ) → slice_cmp nat_cmp k q ≡ Less → slice_cmp nat_cmp q k ≡ Greater
flipped k q h = nat_list_cmp_total.antisymm q k ∙ ap ordering_reverse h

less_at : (k : List ℕ) (fs : List (List ℕ × List ℕ)) (e : List ℕ × List ℕ) (es : List (List ℕ × List ℕ))
    → AllByRecursion (λ y. slice_cmp nat_cmp k y ≡ Less) (keys_of (fs ++ e ∷ es)) → slice_cmp nat_cmp k e.0 ≡ Less
less_at k [] e es all = all.0
less_at k (f ∷ fs) e es all = less_at k fs e es all.1

past_all : (done : List (List ℕ × List ℕ)) (e : List ℕ × List ℕ) (es : List (List ℕ × List ℕ))
    → IsStrictlySortedBy (slice_cmp nat_cmp) (keys_of (done ++ e ∷ es)) → IsPast e.0 done
past_all [] e es sorted = tt
past_all (f ∷ fs) e es sorted = (
  flipped f.0 e.0 (less_at f.0 fs e es (sorted_head (slice_cmp nat_cmp) f.0 (keys_of (fs ++ e ∷ es)) sorted)),
  past_all fs e es (sorted_tail (slice_cmp nat_cmp) f.0 (keys_of (fs ++ e ∷ es)) sorted),
)

put_all_from : (tree : List ℕ → Data) (es done : List (List ℕ × List ℕ)) → IsStrictlySortedBy (slice_cmp nat_cmp) (keys_of (done ++ es))
    → put_all tree es (built (pair_rows tree done)) ≡ built (pair_rows tree (done ++ es))
put_all_from tree [] done sorted = ap (λ l. built (pair_rows tree l)) (sym (append-nil done))
put_all_from tree (e ∷ es) done sorted =
    ap (put_all tree es) (put_end tree e.0 e.1 done (past_all done e es sorted))
    ∙ put_all_from tree es (done ++ e ∷ []) (subst (λ l. IsStrictlySortedBy (slice_cmp nat_cmp) (keys_of l)) (sym (append_assoc done (e ∷ []) es)) sorted)
    ∙ ap (λ l. built (pair_rows tree l)) (append_assoc done (e ∷ []) es)

pub put_all_sorted : (tree : List ℕ → Data) (es : List (List ℕ × List ℕ)) → IsStrictlySortedBy (slice_cmp nat_cmp) (keys_of es) → put_all tree es no_members ≡ built (pair_rows tree es)
put_all_sorted tree es sorted = put_all_from tree es [] sorted

pub pairs_written : (ts : List Token) (tree : List ℕ → Data) (es : List (List ℕ × List ℕ)) → IsStrictlySortedBy (slice_cmp nat_cmp) (keys_of es)
    → with_rows (ts ++ begin_object ∷ []) (pair_rows tree es) ++ end_object ∷ [] ≡ with_value ts (map_tree tree es)
pairs_written ts tree es sorted = object_written ts (pair_rows tree es) ∙ ap (λ m. with_value ts (object m)) (sym (put_all_sorted tree es sorted))
