-- The summary of what stands after a run has the form of one.
use Rattle.std.proofs.Common.{◌≡◌, ◌&&◌, ℕ, List, [], ◌∷◌, map, Option, Some, None, Bool, true, false, T, refl, ap, sym, subst, ◌∙◌, inl, inr, Ordering, Less, Equal, Greater}
use Rattle.std.specs.Prelude.{if◌then◌else◌}
use Rattle.std.specs.List.{AllByRecursion}
use Rattle.std.specs.List.Sorted.{IsStrictlySortedBy}
use Rattle.std.specs.Ordering.{is_lt}
use Rattle.std.specs.FinMap as finite
use Rattle.std.specs.FinMap.Entries.{is_sorted, below_all}
use Rattle.cmc_meta.specs.declared.key.Key.{Key}
use Rattle.cmc_meta.specs.declared.key.Kind.TheVariants.{Certificate}
use Rattle.cmc_meta.specs.Keys.{key_cmp}
use Rattle.cmc_objects.specs.declared.object.Object.{Object}
use Rattle.cmc_objects.specs.declared.object.Object.TheVariants.{Cert, Request, Secret}
use Rattle.cmc_objects.specs.declared.entry.Entry.{Entry}
use Rattle.cmc_objects.specs.Objects.{key_of}
use Rattle.cmc_model.specs.Objects.{object_at}
use Rattle.cmc_model.specs.Histories.{Setting, objects}
use Rattle.cmc_model.specs.Summaries.{is_waiting}
use Rattle.cmc_rules.specs.Legality.{IsLegal}
use Rattle.cmc_rules.specs.SeenObjects.{IsAmong}
use Rattle.cmc_rules.proofs.Sighted.{stands_among}
use Rattle.cmc_rules.proofs.Versions.{stands_is_version, version_keyed}
use Rattle.cmc_summary.specs.declared.summary.Summary.{Summary}
use Rattle.cmc_summary.specs.declared.summary.Waiting.{Waiting}
use Rattle.cmc_summary.specs.declared.summary.WaitName.{WaitName}
use Rattle.cmc_summary_form.specs.SummaryForm.{HasNames, NamesCertificate, HasSummaryForm}
use Rattle.cmc_waits.specs.Waits.{wait_at, with_wait, waits_among, summary_at}
use Rattle.cmc_audit.specs.Verdicts.{counted}
use Rattle.cmc_line_reading.specs.Histories.{counts_of}
use Rattle.cmc_audit_laws.specs.Printed.{IsPrintableSummary, IsTypedSummary}

abbrev keys_of : List Waiting → List Key
keys_of ws = map (λ w. w.certificate) ws

-- ---- in order of key

left : (a b : Bool) → T (a && b) → T a
left true b h = tt
left false b h = h

right : (a b : Bool) → T (a && b) → T b
right true b h = h
right false b h = absurd h

is_less : (o : Ordering) → T (is_lt o) → o ≡ Less
is_less Less h = refl
is_less Equal h = absurd h
is_less Greater h = absurd h

abbrev AreAbove : Key → List Waiting → Type 0
AreAbove k ws = AllByRecursion (λ j. key_cmp k j ≡ Less) (keys_of ws)

above_with : (b : Bool) (k key : Key) (wait : Option WaitName) (rest : List Waiting) → key_cmp k key ≡ Less → AreAbove k rest → AreAbove k (if b then with_wait key wait rest else rest)
above_with true k key None rest one all = all
above_with true k key (Some name) rest one all = (one, all)
above_with false k key wait rest one all = all

above : (s : Setting) (h : List Entry) (k : Key) (es : List (Key × Object)) → T (below_all key_cmp k es) → AreAbove k (waits_among s h es)
above s h k [] low = tt
above s h k (e ∷ es) low =
    above_with (is_waiting e.1) k e.0 (wait_at s h e.0) (waits_among s h es) (is_less (key_cmp k e.0) (left (is_lt (key_cmp k e.0)) (below_all key_cmp k es) low))
    (above s h k es (right (is_lt (key_cmp k e.0)) (below_all key_cmp k es) low))

sorted_with : (b : Bool) (key : Key) (wait : Option WaitName) (rest : List Waiting) → AreAbove key rest → IsStrictlySortedBy key_cmp (keys_of rest) → IsStrictlySortedBy key_cmp (keys_of (if b then with_wait key wait rest else rest))
unfolding IsStrictlySortedBy
sorted_with true key None rest all sorted = sorted
sorted_with true key (Some name) rest all sorted = (all, sorted)
sorted_with false key wait rest all sorted = sorted

in_order : (s : Setting) (h : List Entry) (es : List (Key × Object)) → T (is_sorted key_cmp es) → IsStrictlySortedBy key_cmp (keys_of (waits_among s h es))
unfolding IsStrictlySortedBy
in_order s h [] sorted = tt
in_order s h (e ∷ es) sorted =
    sorted_with (is_waiting e.1) e.0 (wait_at s h e.0) (waits_among s h es) (above s h e.0 es (left (below_all key_cmp e.0 es) (is_sorted key_cmp es) sorted))
    (in_order s h es (right (below_all key_cmp e.0 es) (is_sorted key_cmp es) sorted))

-- ---- of Certificates

abbrev AreCertificates : List Waiting → Type 0
AreCertificates ws = AllByRecursion (λ w. w.certificate.kind ≡ Certificate) ws

certificates_with : (b : Bool) (key : Key) (wait : Option WaitName) (rest : List Waiting) → (b ≡ true → key.kind ≡ Certificate) → AreCertificates rest → AreCertificates (if b then with_wait key wait rest else rest)
certificates_with true key None rest kind all = all
certificates_with true key (Some name) rest kind all = (kind refl, all)
certificates_with false key wait rest kind all = all

of_certificates : (s : Setting) (h : List Entry) (es : List (Key × Object)) → ((e : Key × Object) → IsAmong e es → is_waiting e.1 ≡ true → e.0.kind ≡ Certificate) → AreCertificates (waits_among s h es)
of_certificates s h [] each = tt
of_certificates s h (e ∷ es) each =
    certificates_with (is_waiting e.1) e.0 (wait_at s h e.0) (waits_among s h es) (λ waits. each e (inl refl) waits) (of_certificates s h es (λ d among waits. each d (inr among) waits))

kind_of_waiting : (o : Object) → is_waiting o ≡ true → (key_of o).kind ≡ Certificate
kind_of_waiting (Cert c) waits = refl
kind_of_waiting (Request r) waits = absurd (cc waits)
kind_of_waiting (Secret k) waits = absurd (cc waits)

stands_under : (s : Setting) (h : List Entry) (e : Key × Object) → IsLegal s h → IsAmong e (finite.entries (objects s h)) → is_waiting e.1 ≡ true → e.0.kind ≡ Certificate
stands_under s h e legal among waits =
    let key : key_of e.1 ≡ e.0 = version_keyed s h e.0 e.1 legal (stands_is_version s h e.0 e.1 (stands_among (objects s h) e among)) in
    sym (ap (λ (k : Key). k.kind) key) ∙ kind_of_waiting e.1 waits

both : (ws : List Waiting) → AreCertificates ws → AllByRecursion (λ w. HasNames w.certificate) ws → AllByRecursion NamesCertificate ws
both [] kinds names = tt
both (w ∷ ws) kinds names = ((kinds.0, names.0), both ws kinds.1 names.1)

-- ---- the summary

pub summary_formed : (s : Setting) (h : List Entry) (summary : Summary) → IsLegal s h → summary ≡ summary_at s h → IsTypedSummary summary → IsPrintableSummary summary
summary_formed s h summary legal same typed = record {
  form = record {
    order = subst (λ (t : Summary). IsStrictlySortedBy key_cmp (keys_of t.waiting)) (sym same) (in_order s h (finite.entries (objects s h)) (finite.entries_sorted (objects s h)));
    keys = both summary.waiting
        (subst (λ (t : Summary). AreCertificates t.waiting) (sym same) (of_certificates s h (finite.entries (objects s h)) (λ e among waits. stands_under s h e legal among waits))) typed.names;
  };
  certificates = typed.certificates;
  ready = typed.ready;
  secrets = typed.secrets;
}

pub summary_counts : (s : Setting) (h : List Entry) (summary : Summary) → summary ≡ summary_at s h → counts_of summary ≡ counted (objects s h)
summary_counts s h summary same = ap counts_of same
