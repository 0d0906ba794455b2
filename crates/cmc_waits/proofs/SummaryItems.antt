-- Where each Certificate that is not Ready waits for something that has a name, the summary has an item for each.
use Rattle.std.proofs.Common.{◌≡◌, ◌+◌, ℕ, List, [], ◌∷◌, length, Option, Some, None, Bool, true, false, not, cond, refl, sym, ap, subst, ◌∙◌, inl, inr, arith}
use Rattle.std.proofs.lemmas.List.Sums.{sum_by-cons}
use Rattle.std.specs.Prelude.{◌||◌, IsSome, count_by, if◌then◌else◌}
use Rattle.std.specs.FinMap as map
use Rattle.std.specs.FinMap.{get-entries}
use Rattle.std.specs.FinMap.Entries.{find}
use Rattle.std.specs.List.{list_any}
use Rattle.std.specs.Ordering.{eq_by_cmp}
use Rattle.cmc_meta.specs.declared.key.Key.{Key}
use Rattle.cmc_meta.specs.Keys.{key_cmp, key_eq}
use Rattle.cmc_objects.specs.declared.object.Object.{Object}
use Rattle.cmc_objects.specs.declared.object.Object.TheVariants.{Cert, Request, Secret}
use Rattle.cmc_objects.specs.declared.entry.Entry.{Entry}
use Rattle.cmc_summary.specs.declared.summary.Waiting.{Waiting}
use Rattle.cmc_summary.specs.declared.summary.WaitName.{WaitName}
use Rattle.cmc_model.specs.Histories.{Setting, objects}
use Rattle.cmc_model.specs.Summaries.{is_certificate, is_ready, is_waiting, says_ready}
use Rattle.cmc_rules.specs.SeenObjects.{IsAmong}
use Rattle.cmc_rules.proofs.Sighted.{stands_among}
use Rattle.cmc_kernel.proofs.OneKind.{same_at}
use Rattle.cmc_kernel.proofs.SameKeys.{key_eq-refl}
use Rattle.cmc_waits.specs.Waits.{wait_at, with_wait, waits_among, summary_at}
use Rattle.cmc_waits.specs.Named.{NamesEachWait, IsWhole}

abbrev IsNamed : Setting → List Entry → List (Key × Object) → Type 0
IsNamed s h es = (e : Key × Object) → IsAmong e es → is_waiting e.1 ≡ true → IsSome (wait_at s h e.0)

-- ---- how many

count_waiting : (says : Bool) (key : Key) (wait : Option WaitName) (n m : ℕ) (rest : List Waiting) → n ≡ m + length rest → (not says ≡ true → IsSome wait)
    → 1 + n ≡ (cond says 1 0 + m) + length (if not says then with_wait key wait rest else rest)
count_waiting true key wait n m rest is named = omega (arith, is)
count_waiting false key None n m rest is named = let some : false ≡ true = named refl in absurd (cc some)
count_waiting false key (Some what) n m rest is named = omega (arith, is)

count_one : (o : Object) (key : Key) (wait : Option WaitName) (n m : ℕ) (rest : List Waiting) → n ≡ m + length rest → (is_waiting o ≡ true → IsSome wait)
    → cond (is_certificate o) 1 0 + n ≡ (cond (is_ready o) 1 0 + m) + length (if is_waiting o then with_wait key wait rest else rest)
count_one (Cert c) key wait n m rest is named = count_waiting (says_ready c.status.conditions) key wait n m rest is named
count_one (Request r) key wait n m rest is named = omega (arith, is)
count_one (Secret k) key wait n m rest is named = omega (arith, is)

counted : (s : Setting) (h : List Entry) (es : List (Key × Object)) → IsNamed s h es
    → count_by (λ (e : Key × Object). is_certificate e.1) es ≡ count_by (λ (e : Key × Object). is_ready e.1) es + length (waits_among s h es)
counted s h [] named = refl
counted s h (e ∷ es) named =
    let certificates = sum_by-cons (λ (d : Key × Object). cond (is_certificate d.1) 1 0) e es in
    let ready = sum_by-cons (λ (d : Key × Object). cond (is_ready d.1) 1 0) e es in
    let below = counted s h es (λ d among. named d (inr among)) in
    certificates ∙ count_one e.1 e.0 (wait_at s h e.0) _ _ (waits_among s h es) below (named e (inl refl)) ∙ ap (λ (n : ℕ). n + length (waits_among s h (e ∷ es))) (sym ready)

-- ---- an item for each

abbrev is_for : Key → Waiting → Bool
is_for key w = key_eq w.certificate key

or_later : (a b : Bool) → b ≡ true → (a || b) ≡ true
or_later true b is = refl
or_later false b is = is

or_here : (a b : Bool) → a ≡ true → (a || b) ≡ true
or_here true b is = refl
or_here false b is = absurd (cc is)

with_more : (key at : Key) (wait : Option WaitName) (rest : List Waiting) → list_any (is_for key) rest ≡ true → list_any (is_for key) (with_wait at wait rest) ≡ true
with_more key at None rest is = is
with_more key at (Some what) rest is = or_later (key_eq at key) (list_any (is_for key) rest) is

if_more : (b : Bool) (key at : Key) (wait : Option WaitName) (rest : List Waiting) → list_any (is_for key) rest ≡ true → list_any (is_for key) (if b then with_wait at wait rest else rest) ≡ true
if_more true key at wait rest is = with_more key at wait rest is
if_more false key at wait rest is = is

item_here : (waiting : Bool) (key at : Key) (wait : Option WaitName) (rest : List Waiting) → waiting ≡ true → IsSome wait → key_eq at key ≡ true → list_any (is_for key) (if waiting then with_wait at wait rest else rest) ≡ true
item_here true key at None rest on some same = absurd (cc some)
item_here true key at (Some what) rest on some same = or_here (key_eq at key) (list_any (is_for key) rest) same
item_here false key at wait rest on some same = absurd (cc on)

item_by : (b : Bool) (s : Setting) (h : List Entry) (key : Key) (o : Object) (e : Key × Object) (es : List (Key × Object)) → (b ≡ true → key_eq e.0 key ≡ true) → IsNamed s h (e ∷ es) → cond b (Some e.1) (find key_cmp key es) ≡ Some o
    → is_waiting o ≡ true → (find key_cmp key es ≡ Some o → list_any (is_for key) (waits_among s h es) ≡ true) → list_any (is_for key) (waits_among s h (e ∷ es)) ≡ true
item_by true s h key o e es same named is waiting below =
    let one : e.1 ≡ o = cc is in
    let on : is_waiting e.1 ≡ true = ap is_waiting one ∙ waiting in
    item_here (is_waiting e.1) key e.0 (wait_at s h e.0) (waits_among s h es) on (named e (inl refl) on) (same refl)
item_by false s h key o e es same named is waiting below = if_more (is_waiting e.1) key e.0 (wait_at s h e.0) (waits_among s h es) (below is)

-- the two tests on keys
tied : (a b : Key) → eq_by_cmp key_cmp a b ≡ true → key_eq b a ≡ true
tied a b is = subst (λ (x : Key). key_eq b x ≡ true) (sym (same_at a b is)) (key_eq-refl b)

item_of : (s : Setting) (h : List Entry) (key : Key) (o : Object) (es : List (Key × Object)) → IsNamed s h es → find key_cmp key es ≡ Some o → is_waiting o ≡ true
    → list_any (is_for key) (waits_among s h es) ≡ true
item_of s h key o [] named is waiting = absurd (cc is)
item_of s h key o (e ∷ es) named is waiting =
    item_by (eq_by_cmp key_cmp key e.0) s h key o e es (tied key e.0) named is waiting (λ there. item_of s h key o es (λ d among. named d (inr among)) there waiting)

-- ---- the summary

pub whole : (s : Setting) (h : List Entry) → NamesEachWait s h → IsWhole s h (summary_at s h)
whole s h names =
    let named : IsNamed s h (map.entries (objects s h)) = λ e among. names e.0 e.1 (stands_among (objects s h) e among) in record {
      each = λ key o stands waiting. item_of s h key o (map.entries (objects s h)) named (sym (get-entries (objects s h) key) ∙ stands) waiting;
      all = counted s h (map.entries (objects s h)) named;
    }
