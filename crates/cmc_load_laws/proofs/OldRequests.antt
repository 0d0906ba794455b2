-- Of several requests of different revisions the oldest is of an earlier revision than the Certificate has.
use Rattle.std.proofs.Common.{◌≡◌, ◌==◌, ◌≤◌, ◌<◌, ◌∷◌, [], ℕ, List, length, Bool, true, false, Option, Some, None, refl, sym, ap, ◌∙◌, inl, inr, suc, zero, arith}
use Rattle.std.proofs.lemmas.Bool.{and_parts, ltb-false, ltb-true}
use Rattle.std.proofs.lemmas.Bool.Decides.{Decides-eqb}
use Rattle.std.specs.Prelude.{filter, is_some, nat_lt, unwrap_or, if◌then◌else◌}
use Rattle.cmc_meta.specs.declared.conditions.ConditionKind.TheVariants as conditions
use Rattle.cmc_objects.specs.declared.certificate.Certificate.{Certificate}
use Rattle.cmc_objects.specs.declared.request.CertificateRequest.{CertificateRequest}
use Rattle.cmc_objects.specs.declared.call.Call.{Call}
use Rattle.cmc_objects.specs.Requests.{is_stated}
use Rattle.cmc_match.specs.Revisions.{is_number, is_of_revision, revision_of}
use Rattle.cmc_pass.specs.declared.pass.Act.{Act}
use Rattle.cmc_pass.specs.declared.pass.Act.TheVariants.{Nothing}
use Rattle.cmc_pass.specs.declared.pass.Views.{Views}
use Rattle.cmc_model.specs.Admission.{certificate_rules, has_both_renewals, has_no_name, is_common_name_long, is_duration_outside, is_given, is_key_size_wrong, is_outside_limits, is_percent_wrong, is_renewal_long, is_renewal_short, keeps_no_request, least_failing}
use Rattle.cmc_rules.specs.Causes.{IsFirstCall}
use Rattle.cmc_rules.specs.NextRequests.{is_next, next_revision}
use Rattle.cmc_rules.specs.RevisionManager.{by_limit, counts, delete_call, delete_of, older_of, oldest_from, oldest_of, revise, revise_of, revision}
use Rattle.cmc_rules.specs.SeenObjects.{IsAmong}
use Rattle.cmc_rules.proofs.Lines.{by_test}
use Rattle.cmc_rules.proofs.Sights.{left_among}
use Rattle.cmc_load_laws.specs.LoadRuns.{HasOldRequest}

-- ---- the oldest is the least

either_of : (b : Bool) (x y z : CertificateRequest) → nat_lt (revision x) (revision y) ≡ b → (if b then Some x else Some y) ≡ Some z → (revision z ≤ revision x) × (revision z ≤ revision y)
either_of true x y z less is =
    let same : x ≡ z = cc is in
    (omega (arith, ap revision same), omega (arith, ap revision same, ltb-true (revision x) (revision y) less))
either_of false x y z more is =
    let same : y ≡ z = cc is in
    (omega (arith, ap revision same, ltb-false (revision x) (revision y) more), omega (arith, ap revision same))

of_none : (x z : CertificateRequest) → Some x ≡ Some z → revision z ≤ revision x
of_none x z is = let same : x ≡ z = cc is in omega (arith, ap revision same)

-- the older of the two is at most either
older_least : (o : Option CertificateRequest) (x z : CertificateRequest) → older_of o x ≡ Some z → (revision z ≤ revision x) × ((y : CertificateRequest) → o ≡ Some y → revision z ≤ revision y)
older_least None x z is = (of_none x z is, λ y e. absurd (cc e))
older_least (Some y) x z is =
    let both = either_of (nat_lt (revision x) (revision y)) x y z refl is in
    (both.0, λ w e. let same : y ≡ w = cc e in omega (arith, both.1, ap revision same))

some_older : (o : Option CertificateRequest) (x : CertificateRequest) → (z : CertificateRequest) × (older_of o x ≡ Some z)
some_older None x = (x, refl)
some_older (Some y) x = by (nat_lt (revision x) (revision y)) where
  by : (b : Bool) → (z : CertificateRequest) × ((if b then Some x else Some y) ≡ Some z)
  by true = (x, refl)
  by false = (y, refl)

least_from : (o : Option CertificateRequest) (xs : List CertificateRequest) (r : CertificateRequest) → oldest_from o xs ≡ Some r
    → ((y : CertificateRequest) → o ≡ Some y → revision r ≤ revision y) × ((x : CertificateRequest) → IsAmong x xs → revision r ≤ revision x)
least_from o [] r is = (λ y e. of_none y r (sym e ∙ is), λ x none. absurd none)
least_from o (x ∷ xs) r is =
    let below = least_from (older_of o x) xs r is in
    let z = some_older o x in
    let least = older_least o x z.0 z.1 in
    (λ y e. omega (arith, below.0 z.0 z.1, least.1 y e), in_list below z least)
  where
    in_list : ((y : CertificateRequest) → older_of o x ≡ Some y → revision r ≤ revision y) × ((w : CertificateRequest) → IsAmong w xs → revision r ≤ revision w) → (z : (q : CertificateRequest) × (older_of o x ≡ Some q))
        → (revision z.0 ≤ revision x) × ((y : CertificateRequest) → o ≡ Some y → revision z.0 ≤ revision y) → (w : CertificateRequest) → IsAmong w (x ∷ xs) → revision r ≤ revision w
    in_list below z least w (inl same) = omega (arith, below.0 z.0 z.1, least.0, ap revision same)
    in_list below z least w (inr later) = below.1 w later

least : (xs : List CertificateRequest) (r : CertificateRequest) → oldest_of xs ≡ Some r → (x : CertificateRequest) → IsAmong x xs → revision r ≤ revision x
unfolding oldest_of
least xs r is = (least_from None xs r is).1

-- ---- one of another revision

twice_by : (p q : CertificateRequest → Bool) (b c : Bool) (x : CertificateRequest) (xs : List CertificateRequest) → p x ≡ b → q x ≡ c → length (filter p (filter q xs)) ≤ length (filter p xs)
    → length (filter p (if c then x ∷ filter q xs else filter q xs)) ≤ length (if b then x ∷ filter p xs else filter p xs)
twice_by p q true true x xs on there below = omega (arith, ap (λ (t : Bool). length (if t then x ∷ filter p (filter q xs) else filter p (filter q xs))) on, below)
twice_by p q false true x xs on there below = omega (arith, ap (λ (t : Bool). length (if t then x ∷ filter p (filter q xs) else filter p (filter q xs))) on, below)
twice_by p q true false x xs on there below = omega (arith, below)
twice_by p q false false x xs on there below = below

-- of those that count no more pass than of all
twice : (p q : CertificateRequest → Bool) (xs : List CertificateRequest) → length (filter p (filter q xs)) ≤ length (filter p xs)
twice p q [] = omega arith
twice p q (x ∷ xs) = twice_by p q (p x) (q x) x xs refl refl (twice p q xs)

record IsOther (p : CertificateRequest → Bool) (xs : List CertificateRequest) : Type 0 where
  other : CertificateRequest
  among : IsAmong other xs
  off : p other ≡ false

other_by : (p : CertificateRequest → Bool) (b : Bool) (x : CertificateRequest) (xs : List CertificateRequest) → p x ≡ b → (length (filter p xs) < length xs → IsOther p xs) → length (if b then x ∷ filter p xs else filter p xs) < suc (length xs)
    → IsOther p (x ∷ xs)
other_by p false x xs off below less = record { other = x; among = inl refl; off = off }
other_by p true x xs on below less = let is = below (omega (arith, less)) in record { other = is.other; among = inr is.among; off = is.off }

other_in : (p : CertificateRequest → Bool) (xs : List CertificateRequest) → length (filter p xs) < length xs → IsOther p xs
other_in p [] less = absurd (omega (arith, less))
other_in p (x ∷ xs) less = other_by p (p x) x xs refl (λ below. other_in p xs below) less

-- ---- revisions

passes : (p : CertificateRequest → Bool) (xs : List CertificateRequest) (x : CertificateRequest) → IsAmong x (filter p xs) → p x ≡ true
passes p [] x none = absurd none
passes p (y ∷ xs) x among = by (p y) refl (λ later. passes p xs x later) among where
  by : (b : Bool) → p y ≡ b → (IsAmong x (filter p xs) → p x ≡ true) → IsAmong x (if b then y ∷ filter p xs else filter p xs) → p x ≡ true
  by true on below (inl same) = ap p (sym same) ∙ on
  by true on below (inr later) = below later
  by false off below later = below later

number_by : (o : Option ℕ) (n : ℕ) → is_some o ≡ true → is_number n o ≡ false → (unwrap_or o 0 ≡ n → ⊥)
number_by None n some off same = cc some
number_by (Some k) n some off same = cc (sym off ∙ (Decides-eqb k n).1 same)

pub is_number_of : (o : Option ℕ) (n : ℕ) → is_number n o ≡ true → unwrap_or o 0 ≡ n
is_number_of None n is = absurd (cc is)
is_number_of (Some k) n is = (Decides-eqb k n).0 is

counted : (r : CertificateRequest) → counts r ≡ true → is_some (revision_of r) ≡ true
unfolding counts
counted r is = (and_parts (is_some (revision_of r)) (is_stated conditions.Ready r.status.conditions) is).0

not_when : (b : Bool) → (b ≡ true → ⊥) → b ≡ false
not_when true no_way = absurd (no_way refl)
not_when false no_way = refl

-- ---- the limit

all_hold : (rules : List (ℕ × Bool)) → least_failing rules ≡ None → (first : ℕ × Bool) (rest : List (ℕ × Bool)) → rules ≡ first ∷ rest → (first.1 ≡ false) × (least_failing rest ≡ None)
all_hold rules none first rest is = by first.1 refl (sym (ap least_failing is) ∙ none) where
  by : (b : Bool) → first.1 ≡ b → (if b then Some first.0 else least_failing rest) ≡ None → (first.1 ≡ false) × (least_failing rest ≡ None)
  by true on e = absurd (cc e)
  by false off e = (off, e)

pub next_rule : (first : ℕ × Bool) (rest : List (ℕ × Bool)) → least_failing (first ∷ rest) ≡ None → (first.1 ≡ false) × (least_failing rest ≡ None)
next_rule first rest none = all_hold (first ∷ rest) none first rest refl

eighth : (a b c d e f g h : ℕ × Bool) (rest : List (ℕ × Bool)) → least_failing (a ∷ b ∷ c ∷ d ∷ e ∷ f ∷ g ∷ h ∷ rest) ≡ None → h.1 ≡ false
eighth a b c d e f g h rest none =
    let after_a = (next_rule a (b ∷ c ∷ d ∷ e ∷ f ∷ g ∷ h ∷ rest) none).1 in
    let after_b = (next_rule b (c ∷ d ∷ e ∷ f ∷ g ∷ h ∷ rest) after_a).1 in
    let after_c = (next_rule c (d ∷ e ∷ f ∷ g ∷ h ∷ rest) after_b).1 in
    let after_d = (next_rule d (e ∷ f ∷ g ∷ h ∷ rest) after_c).1 in
    let after_e = (next_rule e (f ∷ g ∷ h ∷ rest) after_d).1 in
    let after_f = (next_rule f (g ∷ h ∷ rest) after_e).1 in
    let after_g = (next_rule g (h ∷ rest) after_f).1 in
    (next_rule h rest after_g).0

pub limit_given : (c : Certificate) → least_failing (certificate_rules c false) ≡ None → keeps_no_request c.spec ≡ false
limit_given c none =
    eighth (1, has_no_name c.spec) (2, is_common_name_long c.spec) (3, is_duration_outside c.spec) (4, is_renewal_short c.spec) (5, is_renewal_long c.spec) (6, is_key_size_wrong c.spec) (7, false) (12, keeps_no_request c.spec)
    ((13, is_outside_limits c) ∷ (15, has_both_renewals c.spec) ∷ (16, is_percent_wrong c.spec) ∷ []) none

some_limit : (limit : ℕ) → (limit == 0) ≡ false → 1 ≤ limit
some_limit zero is = absurd (cc is)
some_limit (suc n) is = omega arith

-- ---- the pass

-- more requests count than are kept
record IsAbove (seen : Views) : Type 0 where
  certificate : Certificate
  sees : seen.certificate ≡ Some certificate
  limit : ℕ
  is : certificate.spec.history_limit ≡ Some limit
  above : nat_lt limit (length (filter counts seen.requests)) ≡ true

abbrev OfRevision : Views → Act → Type 0
OfRevision seen Nothing = Unit {0}
OfRevision seen other = IsAbove seen

of_oldest : (seen : Views) (o : Option CertificateRequest) → IsAbove seen → OfRevision seen (delete_of o)
unfolding delete_call
of_oldest seen None is = tt
of_oldest seen (Some r) is = is

of_limit : (seen : Views) (c : Certificate) (limit : Option ℕ) → seen.certificate ≡ Some c → c.spec.history_limit ≡ limit → OfRevision seen (by_limit limit seen.requests)
of_limit seen c None sees is = tt
of_limit seen c (Some limit) sees is =
    by_test (OfRevision seen) (nat_lt limit (length (filter counts seen.requests))) (delete_of (oldest_of (filter counts seen.requests))) Nothing
    (λ above. of_oldest seen (oldest_of (filter counts seen.requests)) (record { certificate = c; sees = sees; limit = limit; is = is; above = above })) (λ within. tt)

of_certificate : (seen : Views) (o : Option Certificate) → seen.certificate ≡ o → OfRevision seen (revise_of seen.requests o)
of_certificate seen None sees = tt
of_certificate seen (Some c) sees =
    by_test (OfRevision seen) (is_stated conditions.Issuing c.status.conditions) Nothing (by_limit c.spec.history_limit seen.requests) (λ on. tt) (λ off. of_limit seen c c.spec.history_limit sees refl)

first_by : (seen : Views) (does : Act) (call : Call) → OfRevision seen does → IsFirstCall does call → IsAbove seen
first_by seen Nothing call of first = absurd first
first_by seen other call of first = of

above_first : (seen : Views) (call : Call) → IsFirstCall (revise seen) call → IsAbove seen
unfolding revise
above_first seen call first = first_by seen (revise_of seen.requests seen.certificate) call (of_certificate seen seen.certificate refl) first

-- ---- what goes is of an earlier revision

-- no request of the next revision counts
abbrev pub HasNoneAhead : Views → Type 0
HasNoneAhead seen = (c : Certificate) (r : CertificateRequest) → seen.certificate ≡ Some c → IsAmong r seen.requests → counts r ≡ true → is_next c r ≡ false

-- no request is of a later revision than the next one
abbrev pub NoneAbove : Views → Type 0
NoneAbove seen = (c : Certificate) (r : CertificateRequest) → seen.certificate ≡ Some c → IsAmong r seen.requests → revision r ≤ next_revision c

older_than : (seen : Views) (c : Certificate) (r : CertificateRequest) → (a : IsAbove seen) → 1 ≤ a.limit → (length (filter (is_of_revision (revision r)) seen.requests) ≤ 1) → NoneAbove seen → HasNoneAhead seen → seen.certificate ≡ Some c
    → oldest_of (filter counts seen.requests) ≡ Some r → revision r < unwrap_or c.status.revision 0
older_than seen c r a some few above ahead sees oldest =
    let all : List CertificateRequest = filter counts seen.requests in
    let many : a.limit < length all = ltb-true a.limit (length all) a.above in
    let p : CertificateRequest → Bool = is_of_revision (revision r) in
    let w = other_in p all (omega (arith, twice p counts seen.requests, few, many, some)) in
    let apart = number_by (revision_of w.other) (revision r) (counted w.other (passes counts seen.requests w.other w.among)) w.off in
    let on : counts w.other ≡ true = passes counts seen.requests w.other w.among in
    let among : IsAmong w.other seen.requests = left_among counts seen.requests w.other w.among in
    strictly (revision r) (revision w.other) (least all r oldest w.other w.among) (λ same. apart (sym same)) (above c w.other sees among)
    (number_by (revision_of w.other) (next_revision c) (counted w.other on) (ahead c w.other sees among on))
  where
    strictly : (n m : ℕ) → n ≤ m → (n ≡ m → ⊥) → m ≤ next_revision c → (m ≡ next_revision c → ⊥) → n < unwrap_or c.status.revision 0
    strictly n m less apart most off = omega (arith, less, apart, most, off)

pub old_request : (seen : Views) (call : Call) → IsFirstCall (revise seen) call → ((c : Certificate) → seen.certificate ≡ Some c → keeps_no_request c.spec ≡ false) → ((n : ℕ) → length (filter (is_of_revision n) seen.requests) ≤ 1) → NoneAbove seen → HasNoneAhead seen
    → HasOldRequest seen
old_request seen call first limits few above ahead c r sees oldest =
    let a = above_first seen call first in
    let limit : (a.limit == 0) ≡ false = sym (ap (is_given (λ (limit : ℕ). limit == 0)) a.is) ∙ limits a.certificate a.sees in
    let older = older_than seen c r a (some_limit a.limit limit) (few (revision r)) above ahead sees oldest in (
      not_when (is_of_revision (unwrap_or c.status.revision 0) r) (λ on. absurd (omega (arith, older, is_number_of (revision_of r) (unwrap_or c.status.revision 0) on))),
      not_when (is_next c r) (λ on. absurd (omega (arith, older, is_number_of (revision_of r) (next_revision c) on))),
    )
