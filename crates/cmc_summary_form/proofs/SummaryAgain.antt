-- A summary of the form is read as it is printed, and only such a one is read.
use Rattle.std.proofs.Common.{◌≡◌, ℕ, ◌+◌, List, [], ◌∷◌, Bool, true, false, Option, Some, None, Ok, Err, refl, map, drop, Less}
use Rattle.std.specs.Prelude.{codes, if◌then◌else◌}
use Rattle.std.specs.List.{AllByRecursion}
use Rattle.std.specs.List.Sorted.{IsStrictlySortedBy}
use Rattle.serde_json.specs.Data.{Data, string, array, object}
use Rattle.serde_json.specs.View.{items_of}
use Rattle.cmc_meta.specs.Keys.{key_cmp}
use Rattle.cmc_meta.specs.declared.key.Key.{Key}
use Rattle.cmc_summary.specs.declared.summary.Summary.{Summary}
use Rattle.cmc_summary.specs.declared.summary.Waiting.{Waiting}
use Rattle.cmc_summary.specs.declared.summary.WaitName.{WaitName}
use Rattle.cmc_summary.specs.declared.summary.WaitName.TheVariants.{Stopped, Backoff, Key as NoKey, Unapproved, Name, Pending}
use Rattle.cmc_cursor.specs.Readers.{count_at}
use Rattle.cmc_print.specs.Trees.{natural}
use Rattle.cmc_print.specs.Words.{name_text}
use Rattle.cmc_report.specs.Trees.{wait_name, waiting_tree, counts_tree, summary_tree}
use Rattle.cmc_codec.proofs.Slots.{slots, bind, needed_is}
use Rattle.cmc_material.specs.MaterialRows.{certificate_key_at}
use Rattle.cmc_summary_form.specs.SummaryForm.{NamesCertificate, HasSummaryForm, wait_read_at, waiting_in, waiting_at, comes_after, after_key, waits_from, waits_at, counts_in, counts_at, summary_in, summary_read_at}
use Rattle.cmc_summary_form.proofs.NamesAgain.{certificate_again}

abbrev Places : Type 0
Places = List (List ℕ × Option Data)

-- ---- one Certificate that waits

wait_again : (w : WaitName) → wait_read_at (string (wait_name w)) ≡ Ok w
unfolding wait_read_at
wait_again Stopped = refl
wait_again Backoff = refl
wait_again NoKey = refl
wait_again Unapproved = refl
wait_again Name = refl
wait_again Pending = refl

abbrev waiting_places : Waiting → Places
waiting_places w = (codes "certificate", Some (string (name_text w.certificate))) ∷ (codes "wait", Some (string (wait_name w.wait))) ∷ []

waiting_printed : (w : Waiting) → waiting_tree w ≡ object (slots (waiting_places w))
unfolding waiting_tree
waiting_printed w = refl

waiting_again : (w : Waiting) → NamesCertificate w → waiting_at (waiting_tree w) ≡ Ok w
unfolding waiting_at waiting_in
waiting_again w is =
    rw (waiting_printed w)
    (bind _ _ _ _ (needed_is certificate_key_at (codes "certificate") (string (name_text w.certificate)) (drop 1 (waiting_places w)) w.certificate refl (certificate_again w.certificate is))
    (bind _ _ _ _ (needed_is wait_read_at (codes "wait") (string (wait_name w.wait)) [] w.wait refl (wait_again w.wait)) refl))

-- ---- lists

abbrev pub keys_of : List Waiting → List Key
keys_of ws = map (λ w. w.certificate) ws

-- each of a Certificate, and of a key after the one before it
abbrev pub AreAfter : Option Key → List Waiting → Type 0
AreAfter last [] = Unit {0}
AreAfter last (w ∷ ws) = (comes_after last w.certificate ≡ true) × NamesCertificate w × AreAfter (Some w.certificate) ws

passed : {A : Type 0} (b : Bool) (x y : A) → b ≡ true → (if b then x else y) ≡ x
passed true x y e = refl
passed false x y e = cc

waits_from_again : (n : ℕ) (last : Option Key) (ws : List Waiting) → AreAfter last ws → waits_from n last (items_of (map waiting_tree ws)) ≡ Ok ws
waits_from_again n last [] are = refl
waits_from_again n last (w ∷ ws) are =
    let fits : after_key last w ≡ Ok w = passed (comes_after last w.certificate) (Ok w) (Err []) are.0 in
    rw (waiting_again w are.1, fits, waits_from_again (n + 1) (Some w.certificate) ws are.2) refl

after_last : (last : Option Key) (ws : List Waiting) → AllByRecursion (λ m. comes_after last m ≡ true) (keys_of ws) → IsStrictlySortedBy key_cmp (keys_of ws) → AllByRecursion NamesCertificate ws → AreAfter last ws
unfolding IsStrictlySortedBy
after_last last [] later order are = tt
after_last last (w ∷ ws) later order are = (later.0, are.0, after_last (Some w.certificate) ws (all_less w.certificate (keys_of ws) order.0) order.1 are.1)
  where
    all_less : (k : Key) (ms : List Key) → AllByRecursion (λ m. key_cmp k m ≡ Less) ms → AllByRecursion (λ m. comes_after (Some k) m ≡ true) ms
    all_less k [] h = tt
    all_less k (m ∷ ms) h = (rw (h.0) refl, all_less k ms h.1)

none_before : (ms : List Key) → AllByRecursion (λ m. comes_after None m ≡ true) ms
none_before [] = tt
none_before (m ∷ ms) = (refl, none_before ms)

waits_again : (ws : List Waiting) → IsStrictlySortedBy key_cmp (keys_of ws) → AllByRecursion NamesCertificate ws → waits_at (array (items_of (map waiting_tree ws))) ≡ Ok ws
waits_again ws order are = waits_from_again 0 None ws (after_last None ws (none_before (keys_of ws)) order are)

-- ---- the summary

abbrev counts_places : Summary → Places
counts_places s =
    (codes "certificates", Some (natural s.certificates))
    ∷ (codes "ready", Some (natural s.ready))
    ∷ (codes "secrets", Some (natural s.secrets))
    ∷ (codes "waiting", Some (array (items_of (map waiting_tree s.waiting))))
    ∷ []

counts_printed : (s : Summary) → counts_tree s ≡ object (slots (counts_places s))
unfolding counts_tree
counts_printed s = refl

counts_again : (s : Summary) → HasSummaryForm s → counts_at (counts_tree s) ≡ Ok s
unfolding counts_at counts_in
counts_again s is =
    let ps = counts_places s in
    rw (counts_printed s)
    (bind _ _ _ _ (needed_is count_at (codes "certificates") (natural s.certificates) (drop 1 ps) s.certificates refl refl)
    (bind _ _ _ _ (needed_is count_at (codes "ready") (natural s.ready) (drop 2 ps) s.ready refl refl)
    (bind _ _ _ _ (needed_is count_at (codes "secrets") (natural s.secrets) (drop 3 ps) s.secrets refl refl)
    (bind _ _ _ _ (needed_is waits_at (codes "waiting") (array (items_of (map waiting_tree s.waiting))) [] s.waiting refl (waits_again s.waiting is.order is.keys)) refl))))

summary_printed : (s : Summary) → summary_tree s ≡ object (slots ((codes "summary", Some (counts_tree s)) ∷ []))
unfolding summary_tree
summary_printed s = refl

pub summary_again : (s : Summary) → HasSummaryForm s → summary_read_at (summary_tree s) ≡ Ok s
unfolding summary_read_at summary_in
summary_again s is =
    rw (summary_printed s)
    (bind _ _ _ _ (needed_is counts_at (codes "summary") (counts_tree s) [] s refl (counts_again s is)) refl)
