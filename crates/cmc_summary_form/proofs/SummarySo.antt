-- A summary that is read is of the form.
use Rattle.std.proofs.Common.{◌≡◌, ℕ, ◌+◌, List, [], ◌∷◌, true, Option, Some, None, Ok, refl, Less, Equal, Greater}
use Rattle.std.specs.Prelude.{codes, decimal}
use Rattle.std.specs.declared.cmp.Ordering.{Ordering}
use Rattle.std.specs.List.{AllByRecursion}
use Rattle.std.specs.List.Sorted.{IsStrictlySortedBy}
use Rattle.std.specs.Ordering.{is_lt}
use Rattle.serde_json.specs.Data.{Data, null, boolean, number, string, array, object, Items, no_items, item}
use Rattle.cmc_meta.specs.Keys.{key_cmp}
use Rattle.cmc_meta.specs.declared.key.Key.{Key}
use Rattle.cmc_meta.specs.declared.key.Kind.TheVariants.{Certificate}
use Rattle.cmc_meta.proofs.KeyOrder.{key_cmp-total}
use Rattle.cmc_summary.specs.declared.summary.Summary.{Summary}
use Rattle.cmc_summary.specs.declared.summary.Waiting.{Waiting}
use Rattle.cmc_cursor.specs.Members.{◌>>=◌, under, Field, fields_at, at_end}
use Rattle.cmc_cursor.specs.Readers.{count_at}
use Rattle.cmc_cursor.proofs.Always.{Always, so, failed, next, after, below, where_true}
use Rattle.cmc_codec.specs.Given.{needed_at}
use Rattle.cmc_codec.proofs.ValuesAgain.{needed_so}
use Rattle.cmc_material.specs.MaterialRows.{certificate_key_at}
use Rattle.cmc_summary_form.specs.SummaryForm.{IsKeyOfKind, NamesCertificate, HasSummaryForm, wait_read_at, waiting_in, waiting_at, comes_after, after_key, next_waiting_at, waits_from, waits_at, counts_in, counts_at, summary_in, summary_read_at}
use Rattle.cmc_summary_form.proofs.NamesAgain.{certificate_so}
use Rattle.cmc_summary_form.proofs.SummaryAgain.{keys_of, AreAfter}

-- ---- one Certificate that waits

waiting_in_so : (fs : List Field) → Always NamesCertificate (waiting_in fs)
unfolding waiting_in
waiting_in_so fs =
    after _ NamesCertificate (needed_at certificate_key_at (codes "certificate") fs) _ (needed_so (IsKeyOfKind Certificate) certificate_key_at (codes "certificate") fs certificate_so)
    (λ certificate is. next NamesCertificate (needed_at wait_read_at (codes "wait") certificate.1) _ (λ wait. next NamesCertificate (at_end wait.1) _ (λ end. so is)))

waiting_so : (d : Data) → Always NamesCertificate (waiting_at d)
unfolding waiting_at
waiting_so d = next NamesCertificate (fields_at d) waiting_in waiting_in_so

-- ---- lists

is_less : (o : Ordering) → is_lt o ≡ true → o ≡ Less
is_less Less e = refl
is_less Equal e = cc
is_less Greater e = cc

-- what comes after a key comes after all that are before it
all_after : (k : Key) (last : Option Key) (ws : List Waiting) → ((m : Key) → comes_after last m ≡ true → key_cmp k m ≡ Less) → AreAfter last ws → AllByRecursion (λ m. key_cmp k m ≡ Less) (keys_of ws)
all_after k last [] before are = tt
all_after k last (w ∷ ws) before are =
    let first = before w.certificate are.0 in
    (first, all_after k (Some w.certificate) ws (λ m later. key_cmp-total.trans k w.certificate m first (is_less (key_cmp w.certificate m) later)) are.2)

in_order : (last : Option Key) (ws : List Waiting) → AreAfter last ws → IsStrictlySortedBy key_cmp (keys_of ws)
unfolding IsStrictlySortedBy
in_order last [] are = tt
in_order last (w ∷ ws) are = (all_after w.certificate (Some w.certificate) ws (λ m later. is_less (key_cmp w.certificate m) later) are.2, in_order (Some w.certificate) ws are.2)

have_keys : (last : Option Key) (ws : List Waiting) → AreAfter last ws → AllByRecursion NamesCertificate ws
have_keys last [] are = tt
have_keys last (w ∷ ws) are = (are.1, have_keys (Some w.certificate) ws are.2)

numbered_so : (n : ℕ) (last : Option Key) (d : Data) → Always (λ w. (comes_after last w.certificate ≡ true) × NamesCertificate w) (under (decimal n) (next_waiting_at last d))
numbered_so n last d = below _ (decimal n) (next_waiting_at last d) (after NamesCertificate _ (waiting_at d) (after_key last) (waiting_so d) (λ w is. where_true _ (comes_after last w.certificate) (Ok w) [] (λ e. so (e, is))))

waits_from_so : (n : ℕ) (last : Option Key) (ds : Items) → Always (AreAfter last) (waits_from n last ds)
waits_from_so n last no_items = so tt
waits_from_so n last (item d ds) =
    after _ (AreAfter last) (under (decimal n) (next_waiting_at last d)) (λ w. waits_from (n + 1) (Some w.certificate) ds >>= (λ ws. Ok (w ∷ ws))) (numbered_so n last d)
    (λ w is. after (AreAfter (Some w.certificate)) (AreAfter last) (waits_from (n + 1) (Some w.certificate) ds) (λ ws. Ok (w ∷ ws)) (waits_from_so (n + 1) (Some w.certificate) ds) (λ ws are. so (is.0, is.1, are)))

waits_so : (d : Data) → Always (AreAfter None) (waits_at d)
waits_so (array ds) = waits_from_so 0 None ds
waits_so null = failed []
waits_so (boolean b) = failed []
waits_so (number n) = failed []
waits_so (string s) = failed []
waits_so (object ms) = failed []

-- ---- the summary

counts_in_so : (fs : List Field) → Always HasSummaryForm (counts_in fs)
unfolding counts_in
counts_in_so fs =
    next HasSummaryForm (needed_at count_at (codes "certificates") fs) _ (λ certificates. next HasSummaryForm (needed_at count_at (codes "ready") certificates.1) _
    (λ ready. next HasSummaryForm (needed_at count_at (codes "secrets") ready.1) _
    (λ secrets. after _ HasSummaryForm (needed_at waits_at (codes "waiting") secrets.1) _ (needed_so (AreAfter None) waits_at (codes "waiting") secrets.1 waits_so)
    (λ waiting are. next HasSummaryForm (at_end waiting.1) _ (λ end. so (record { order = in_order None waiting.0 are; keys = have_keys None waiting.0 are }))))))

counts_so : (d : Data) → Always HasSummaryForm (counts_at d)
unfolding counts_at
counts_so d = next HasSummaryForm (fields_at d) counts_in counts_in_so

summary_in_so : (fs : List Field) → Always HasSummaryForm (summary_in fs)
unfolding summary_in
summary_in_so fs =
    after _ HasSummaryForm (needed_at counts_at (codes "summary") fs) _ (needed_so HasSummaryForm counts_at (codes "summary") fs counts_so)
    (λ counts is. next HasSummaryForm (at_end counts.1) _ (λ end. so is))

pub summary_so : (d : Data) → Always HasSummaryForm (summary_read_at d)
unfolding summary_read_at
summary_so d = next HasSummaryForm (fields_at d) summary_in summary_in_so

pub has_form : (d : Data) (s : Summary) → summary_read_at d ≡ Ok s → HasSummaryForm s
has_form d s read = (summary_so d).each s read
