-- Conditions of the form are read as they are printed, and only such ones are read.
use Rattle.std.proofs.Common.{◌≡◌, ℕ, ◌+◌, ◌<◌, ◌≤◌, List, [], ◌∷◌, Option, Some, Ok, Err, refl, sym, map, drop, subst, arith, Less}
use Rattle.std.specs.Prelude.{codes, decimal, nat_le}
use Rattle.std.specs.Cmp.{nat_cmp_is, ranks as cmp_ranks}
use Rattle.std.specs.List.{AllByRecursion}
use Rattle.std.specs.List.Sorted.{IsStrictlySortedBy}
use Rattle.std.specs.declared.cmp.Ordering.{Ordering}
use Rattle.std.specs.Ordering.{nat_cmp, MatchOrdering}
use Rattle.std.proofs.lemmas.Bool.{leb-true, le-leb}
use Rattle.serde_json.specs.Data.{Data, null, boolean, number, string, array, object, Items, no_items, item}
use Rattle.serde_json.specs.View.{items_of}
use Rattle.cmc_meta.specs.ConditionLists.{condition_rank, IsInOrder}
use Rattle.cmc_meta.specs.declared.conditions.ConditionKind.{ConditionKind}
use Rattle.cmc_meta.specs.declared.conditions.ConditionKind.TheVariants.{Ready, Issuing, Approved, Denied, InvalidRequest}
use Rattle.cmc_meta.specs.declared.conditions.Tri.{Tri}
use Rattle.cmc_meta.specs.declared.conditions.Tri.TheVariants.{True, False, Unknown}
use Rattle.cmc_meta.specs.declared.conditions.Condition.{Condition}
use Rattle.cmc_time.specs.Moment.{IsPrintable}
use Rattle.cmc_cursor.specs.Members.{◌>>=◌, under, Field, fields_at, at_end}
use Rattle.cmc_cursor.specs.Readers.{text_at, floats_at, floats_from}
use Rattle.cmc_cursor.proofs.Always.{Always, so, failed, next, after, below, where_true}
use Rattle.cmc_print.specs.Printed.{moment_tree, condition_tree, conditions_tree}
use Rattle.cmc_print.specs.Words.{condition_name, tri_name}
use Rattle.cmc_codec.specs.Given.{needed_at}
use Rattle.cmc_codec.proofs.Slots.{slots, bind, needed_is}
use Rattle.cmc_codec.proofs.ValuesAgain.{needed_so}
use Rattle.cmc_status_form.specs.ConditionForm.{non_empty_list, moment_at, tri_at, condition_kind_at, condition_in, condition_read_at, from_rank, conditions_from, conditions_at}
use Rattle.cmc_status_form.specs.Laws.{HasMoment, AreConditions}
use Rattle.cmc_status_form.proofs.Places.{passed}
use Rattle.cmc_status_form.proofs.Moments.{moment_again, moment_so}

-- ---- one condition

tri_again : (t : Tri) → tri_at (string (tri_name t)) ≡ Ok t
unfolding tri_at
tri_again True = refl
tri_again False = refl
tri_again Unknown = refl

kind_again : (k : ConditionKind) → condition_kind_at (string (condition_name k)) ≡ Ok k
unfolding condition_kind_at
kind_again Ready = refl
kind_again Issuing = refl
kind_again Approved = refl
kind_again Denied = refl
kind_again InvalidRequest = refl

abbrev condition_places : Condition → List (List ℕ × Option Data)
condition_places c =
    (codes "lastTransitionTime", Some (moment_tree c.since))
    ∷ (codes "message", Some (string c.message))
    ∷ (codes "reason", Some (string c.reason))
    ∷ (codes "status", Some (string (tri_name c.status)))
    ∷ (codes "type", Some (string (condition_name c.kind)))
    ∷ []

condition_printed : (c : Condition) → condition_tree c ≡ object (slots (condition_places c))
unfolding condition_tree
condition_printed c = refl

condition_again : (c : Condition) → HasMoment c → condition_read_at (condition_tree c) ≡ Ok c
unfolding condition_read_at condition_in
condition_again c is =
    let ps = condition_places c in
    rw (condition_printed c)
    (bind _ _ _ _ (needed_is moment_at (codes "lastTransitionTime") (moment_tree c.since) (drop 1 ps) c.since refl (moment_again c.since is))
    (bind _ _ _ _ (needed_is text_at (codes "message") (string c.message) (drop 2 ps) c.message refl refl)
    (bind _ _ _ _ (needed_is text_at (codes "reason") (string c.reason) (drop 3 ps) c.reason refl refl)
    (bind _ _ _ _ (needed_is tri_at (codes "status") (string (tri_name c.status)) (drop 4 ps) c.status refl (tri_again c.status))
    (bind _ _ _ _ (needed_is condition_kind_at (codes "type") (string (condition_name c.kind)) [] c.kind refl (kind_again c.kind)) refl)))))

condition_in_so : (fs : List Field) → Always HasMoment (condition_in fs)
unfolding condition_in
condition_in_so fs =
    after _ HasMoment (needed_at moment_at (codes "lastTransitionTime") fs) _ (needed_so IsPrintable moment_at (codes "lastTransitionTime") fs moment_so)
    (λ since is. next HasMoment (needed_at text_at (codes "message") since.1) _ (λ message. next HasMoment (needed_at text_at (codes "reason") message.1) _
    (λ reason. next HasMoment (needed_at tri_at (codes "status") reason.1) _ (λ status. next HasMoment (needed_at condition_kind_at (codes "type") status.1) _
    (λ kind. next HasMoment (at_end kind.1) _ (λ end. so is))))))

condition_so : (d : Data) → Always HasMoment (condition_read_at d)
unfolding condition_read_at
condition_so d = next HasMoment (fields_at d) condition_in condition_in_so

pub condition_clear : (c : Condition) → floats_at (condition_tree c) ≡ Ok tt
unfolding condition_tree
condition_clear c = refl

-- ---- conditions in order

-- each of a kind from this place of the order on, and behind those before it
abbrev pub AreFrom : ℕ → List Condition → Type 0
AreFrom least [] = Unit {0}
AreFrom least (c ∷ cs) = (least ≤ condition_rank c.kind) × HasMoment c × AreFrom (condition_rank c.kind + 1) cs

abbrev ranks : List Condition → List ℕ
ranks cs = map (λ c. condition_rank c.kind) cs

conditions_from_again : (n least : ℕ) (cs : List Condition) → AreFrom least cs → conditions_from n least (items_of (map condition_tree cs)) ≡ Ok cs
conditions_from_again n least [] are = refl
conditions_from_again n least (c ∷ cs) are =
    let fits : from_rank least c ≡ Ok c = passed (nat_le least (condition_rank c.kind)) (Ok c) (Err []) (le-leb least (condition_rank c.kind) are.0) in
    rw (condition_again c are.1, fits, conditions_from_again (n + 1) (condition_rank c.kind + 1) cs are.2) refl

less : (m n : ℕ) → m < n → nat_cmp m n ≡ Less
less m n h = sym (nat_cmp_is m n Less h)

above : (m n : ℕ) → nat_cmp m n ≡ Less → m < n
above m n e = subst (λ (o : Ordering). MatchOrdering o (m < n) (m ≡ n) (n < m)) e (cmp_ranks m n)

all_above : (m least : ℕ) (cs : List Condition) → m < least → AreFrom least cs → AllByRecursion (λ n. nat_cmp m n ≡ Less) (ranks cs)
all_above m least [] h are = tt
all_above m least (c ∷ cs) h are =
    let first : m < condition_rank c.kind = omega (arith, are.0) in
    (less m (condition_rank c.kind) first, all_above m (condition_rank c.kind + 1) cs (omega arith) are.2)

in_order : (least : ℕ) (cs : List Condition) → AreFrom least cs → IsInOrder cs
unfolding IsStrictlySortedBy
in_order least [] are = tt
in_order least (c ∷ cs) are = (all_above (condition_rank c.kind) (condition_rank c.kind + 1) cs (omega arith) are.2, in_order (condition_rank c.kind + 1) cs are.2)

have_moments : (least : ℕ) (cs : List Condition) → AreFrom least cs → AllByRecursion HasMoment cs
have_moments least [] are = tt
have_moments least (c ∷ cs) are = (are.1, have_moments (condition_rank c.kind + 1) cs are.2)

from_least : (least : ℕ) (cs : List Condition) → AllByRecursion (λ n. least ≤ n) (ranks cs) → IsInOrder cs → AllByRecursion HasMoment cs → AreFrom least cs
unfolding IsStrictlySortedBy
from_least least [] high order moments = tt
from_least least (c ∷ cs) high order moments = (high.0, moments.0, from_least (condition_rank c.kind + 1) cs (higher (condition_rank c.kind) (ranks cs) order.0) order.1 moments.1)
  where
    higher : (m : ℕ) (ns : List ℕ) → AllByRecursion (λ n. nat_cmp m n ≡ Less) ns → AllByRecursion (λ n. m + 1 ≤ n) ns
    higher m [] h = tt
    higher m (n ∷ ns) h = let first : m < n = above m n h.0 in (omega arith, higher m ns h.1)

from_first : (ns : List ℕ) → AllByRecursion (λ n. 0 ≤ n) ns
from_first [] = tt
from_first (n ∷ ns) = (omega arith, from_first ns)

-- ---- lists of conditions

pub conditions_again : (c : Condition) (cs : List Condition) → AreConditions (c ∷ cs) → conditions_at (conditions_tree (c ∷ cs)) ≡ Ok (c ∷ cs)
conditions_again c cs are = rw (conditions_from_again 0 0 (c ∷ cs) (from_least 0 (c ∷ cs) (from_first (ranks (c ∷ cs))) are.order are.moments)) refl

from_rank_so : (least : ℕ) (c : Condition) → HasMoment c → Always (λ c. (least ≤ condition_rank c.kind) × HasMoment c) (from_rank least c)
from_rank_so least c is = where_true _ (nat_le least (condition_rank c.kind)) (Ok c) [] (λ e. so (leb-true least (condition_rank c.kind) e, is))

pub numbered_so : (n least : ℕ) (d : Data) → Always (λ c. (least ≤ condition_rank c.kind) × HasMoment c) (under (decimal n) (condition_read_at d >>= from_rank least))
numbered_so n least d = below _ (decimal n) (condition_read_at d >>= from_rank least) (after HasMoment _ (condition_read_at d) (from_rank least) (condition_so d) (λ c is. from_rank_so least c is))

conditions_from_so : (n least : ℕ) (ds : Items) → Always (AreFrom least) (conditions_from n least ds)
conditions_from_so n least no_items = so tt
conditions_from_so n least (item d ds) =
    after _ (AreFrom least) (under (decimal n) (condition_read_at d >>= from_rank least)) (λ c. conditions_from (n + 1) (condition_rank c.kind + 1) ds >>= (λ cs. Ok (c ∷ cs))) (numbered_so n least d)
    (λ c is. after (AreFrom (condition_rank c.kind + 1)) (AreFrom least) (conditions_from (n + 1) (condition_rank c.kind + 1) ds) (λ cs. Ok (c ∷ cs)) (conditions_from_so (n + 1) (condition_rank c.kind + 1) ds) (λ cs are. so (is.0, is.1, are)))

pub filled_so : {A : Type 0} (P : List A → Type 0) (xs : List A) → P xs → Always P (non_empty_list xs)
filled_so P [] is = failed []
filled_so P (x ∷ xs) is = so is

pub are_none : AreConditions []
unfolding IsStrictlySortedBy
are_none = record { order = tt; moments = tt }

pub conditions_so : (d : Data) → Always AreConditions (conditions_at d)
conditions_so (array ds) = after (AreFrom 0) AreConditions (conditions_from 0 0 ds) non_empty_list (conditions_from_so 0 0 ds) (λ cs are. filled_so AreConditions cs (record { order = in_order 0 cs are; moments = have_moments 0 cs are }))
conditions_so null = failed []
conditions_so (boolean b) = failed []
conditions_so (number n) = failed []
conditions_so (string s) = failed []
conditions_so (object ms) = failed []

-- ---- no number in them is a float

conditions_from_clear : (n : ℕ) (cs : List Condition) → floats_from n (items_of (map condition_tree cs)) ≡ Ok tt
conditions_from_clear n [] = refl
conditions_from_clear n (c ∷ cs) = rw (condition_clear c, conditions_from_clear (n + 1) cs) refl

pub conditions_clear : (cs : List Condition) → floats_at (conditions_tree cs) ≡ Ok tt
conditions_clear cs = conditions_from_clear 0 cs
