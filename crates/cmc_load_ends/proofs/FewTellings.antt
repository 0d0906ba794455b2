-- In a plain run of a load roles are told 7 times of each accepted write at most.
use Rattle.std.proofs.Common.{◌≡◌, ℕ, ◌+◌, ◌*◌, ◌≤◌, ◌<◌, List, [], ◌∷◌, length, Bool, true, false, refl, ap, subst, ◌∙◌, arith}
use Rattle.std.proofs.lemmas.Bool.{and_parts}
use Rattle.std.proofs.lemmas.Bool.Decides.{nat_tests}
use Rattle.std.specs.Prelude.{if◌then◌else◌, nat_lt}
use Rattle.cmc_meta.specs.declared.key.Kind.{Kind}
use Rattle.cmc_meta.specs.declared.key.Kind.TheVariants.{Certificate, CertificateRequest, Secret}
use Rattle.cmc_objects.specs.declared.role.Role.{Role}
use Rattle.cmc_objects.specs.declared.role.Role.TheVariants.{Trigger, KeyManager, RequestManager, Approver, Issuer, Issuing, Readiness, Revision}
use Rattle.cmc_objects.specs.declared.entry.Who.TheVariants.{User, Pass}
use Rattle.cmc_objects.specs.declared.entry.Entry.{Entry}
use Rattle.cmc_objects.specs.declared.entry.Entry.TheVariants.{Call as Called, Deliver, List as Listed, Start, Stop}
use Rattle.cmc_objects.specs.Informers.{has_informer}
use Rattle.cmc_model.specs.declared.write.Write.{Write}
use Rattle.cmc_model.specs.Replies.{is_accepted, settled}
use Rattle.cmc_model.specs.Histories.{Setting, accepted, moment, role_eq, state}
use Rattle.cmc_model.specs.Writes.{kind_eq, last_of_kind, write_of, writes}
use Rattle.cmc_model.proofs.Writes.{writes_count}
use Rattle.cmc_rules.specs.Positions.{is_informer, position}
use Rattle.cmc_kernel.specs.Plain.{IsBehind}
use Rattle.cmc_kernel.proofs.SameKeys.{same_kind}
use Rattle.cmc_kernel.proofs.RoleStates.{same_role}
use Rattle.cmc_run_laws.specs.Begins.{count_of}
use Rattle.cmc_run_laws.specs.Lengths.{Each, is_delivery}
use Rattle.cmc_run_laws.proofs.Counting.{in_all, is_in_part, total}
use Rattle.cmc_load_ends.specs.LoadLengths.{is_role_write, is_user_write}
use Rattle.cmc_load_ends.proofs.PlainEntries.{ArePlain, IsPlainEntry, writes_certificate}

-- ---- one role and one kind

abbrev is_told_to : Role → Kind → Entry → Bool
is_told_to role kind (Deliver r k to) = is_informer r k role kind
is_told_to role kind (Listed r k to) = is_informer r k role kind
is_told_to role kind other = false

-- how many of the writes are of the kind
abbrev of_the_kind : Kind → List Write → ℕ
of_the_kind kind [] = 0
of_the_kind kind (w ∷ ws) = if kind_eq w.key.kind kind then of_the_kind kind ws + 1 else of_the_kind kind ws

-- there is a write of the kind that the role was not told of
abbrev left_to_tell : ℕ → ℕ → ℕ
left_to_tell position last = if nat_lt position last then 1 else 0

last_low : (kind : Kind) (ws : List Write) → last_of_kind kind ws ≤ length ws
unfolding last_of_kind
last_low kind [] = omega arith
last_low kind (w ∷ ws) = by (kind_eq w.key.kind kind) (last_low kind ws) where
  by : (b : Bool) → last_of_kind kind ws ≤ length ws → (if b then length (w ∷ ws) else last_of_kind kind ws) ≤ length (w ∷ ws)
  by true low = omega arith
  by false low = omega (arith, low)

one_at_most : (p last : ℕ) → left_to_tell p last ≤ 1
one_at_most p last = by (nat_lt p last) where
  by : (b : Bool) → (if b then 1 else 0) ≤ 1
  by true = omega arith
  by false = omega arith

one_left : (p last : ℕ) → p < last → left_to_tell p last ≡ 1
one_left p last is = let on : nat_lt p last ≡ true = grind (arith, nat_tests) in ap (λ (b : Bool). if b then 1 else 0) on

none_left : (p last : ℕ) → last ≤ p → left_to_tell p last ≡ 0
none_left p last is = ap (λ (b : Bool). if b then 1 else 0) (by (nat_lt p last) refl) where
  by : (b : Bool) → nat_lt p last ≡ b → nat_lt p last ≡ false
  by true e = absurd (grind (arith, nat_tests))
  by false e = e

more_written : (b : Bool) (kind : Kind) (w : Write) (ws : List Write) (n p : ℕ) → n + left_to_tell p (last_of_kind kind ws) ≤ of_the_kind kind ws
    → n + left_to_tell p (last_of_kind kind (if b then w ∷ ws else ws)) ≤ of_the_kind kind (if b then w ∷ ws else ws)
unfolding last_of_kind
more_written false kind w ws n p low = low
more_written true kind w ws n p low = by (kind_eq w.key.kind kind) where
  by : (c : Bool) → n + left_to_tell p (if c then length (w ∷ ws) else last_of_kind kind ws) ≤ (if c then of_the_kind kind ws + 1 else of_the_kind kind ws)
  by true = let one = one_at_most p (length (w ∷ ws)) in omega (arith, one, low)
  by false = low

its_own : (s : Setting) (h : List Entry) (r role : Role) (k kind : Kind) → IsBehind s h r k → is_informer r k role kind ≡ true → position h role kind < last_of_kind kind (writes s h)
its_own s h r role k kind behind is =
    let both = and_parts (role_eq r role) (kind_eq k kind) is in
    subst (λ (x : Kind). position h role x < last_of_kind x (writes s h)) (same_kind k kind both.1) (subst (λ (x : Role). position h x k < last_of_kind k (writes s h)) (same_role r role both.0) behind.behind)

more_told : (b : Bool) (n p last to most : ℕ) → (b ≡ true → p < last) → (b ≡ true → last ≤ to) → n + left_to_tell p last ≤ most → (if b then n + 1 else n) + left_to_tell (if b then to else p) last ≤ most
more_told true n p last to most behind up low =
    let one = one_left p last (behind refl) in
    let none = none_left to last (up refl) in
    omega (arith, low, one, none)
more_told false n p last to most behind up low = low

newest : (s : Setting) (h : List Entry) (r role : Role) (k kind : Kind) (to : ℕ) → to ≡ last_of_kind k (writes s h) → is_informer r k role kind ≡ true → last_of_kind kind (writes s h) ≤ to
newest s h r role k kind to is own =
    let same = same_kind k kind (and_parts (role_eq r role) (kind_eq k kind) own).1 in
    let at : to ≡ last_of_kind kind (writes s h) = is ∙ ap (λ (x : Kind). last_of_kind x (writes s h)) same in
    omega (arith, at)

told_by : (s : Setting) (h : List Entry) (role : Role) (kind : Kind) → ArePlain s h → count_of (is_told_to role kind) h + left_to_tell (position h role kind) (last_of_kind kind (writes s h)) ≤ of_the_kind kind (writes s h)
unfolding last_of_kind
told_by s [] role kind plain = omega arith
told_by s (Called who call reply ∷ h) role kind plain =
    more_written (is_accepted reply) kind (write_of (moment s h) (state s h) (settled call reply)) (writes s h) (count_of (is_told_to role kind) h) (position h role kind) (told_by s h role kind plain.1)
told_by s (Deliver r k to ∷ h) role kind plain =
    more_told (is_informer r k role kind) (count_of (is_told_to role kind) h) (position h role kind) (last_of_kind kind (writes s h)) to (of_the_kind kind (writes s h))
    (its_own s h r role k kind plain.0.1) (newest s h r role k kind to plain.0.2) (told_by s h role kind plain.1)
told_by s (Listed r k to ∷ h) role kind plain =
    more_told (is_informer r k role kind) (count_of (is_told_to role kind) h) (position h role kind) (last_of_kind kind (writes s h)) to (of_the_kind kind (writes s h))
    (its_own s h r role k kind plain.0.1)
    (λ own. let low = last_low kind (writes s h) in let all = writes_count s h in let at = plain.0.2 in omega (arith, low, all, at)) (told_by s h role kind plain.1)
told_by s (Start r at ∷ h) role kind plain = absurd plain.0
told_by s (Stop r ∷ h) role kind plain = absurd plain.0
told_by s (other ∷ h) role kind plain = told_by s h role kind plain.1

-- ---- all of them

record Informer : Type 0 where
  role : Role
  kind : Kind

abbrev informer : Role → Kind → Informer
informer role kind = record { role = role; kind = kind }

abbrev informers : List Informer
informers =
    informer Trigger Certificate ∷ informer KeyManager Certificate ∷ informer RequestManager Certificate ∷ informer Issuing Certificate ∷ informer Readiness Certificate ∷ informer Revision Certificate
    ∷ informer Trigger CertificateRequest ∷ informer RequestManager CertificateRequest ∷ informer Approver CertificateRequest ∷ informer Issuer CertificateRequest ∷ informer Issuing CertificateRequest
    ∷ informer Readiness CertificateRequest ∷ informer Revision CertificateRequest
    ∷ informer Trigger Secret ∷ informer KeyManager Secret ∷ informer RequestManager Secret ∷ informer Issuing Secret ∷ informer Readiness Secret ∷ []

abbrev is_told : Informer → Entry → Bool
is_told i e = is_told_to i.role i.kind e

some_informer : (role : Role) (kind : Kind) (to : ℕ) → has_informer role kind ≡ true → is_in_part is_told informers (Deliver role kind to) ≡ true
some_informer Trigger Certificate to is = refl
some_informer Trigger CertificateRequest to is = refl
some_informer Trigger Secret to is = refl
some_informer KeyManager Certificate to is = refl
some_informer KeyManager CertificateRequest to is = absurd (cc is)
some_informer KeyManager Secret to is = refl
some_informer RequestManager Certificate to is = refl
some_informer RequestManager CertificateRequest to is = refl
some_informer RequestManager Secret to is = refl
some_informer Approver Certificate to is = absurd (cc is)
some_informer Approver CertificateRequest to is = refl
some_informer Approver Secret to is = absurd (cc is)
some_informer Issuer Certificate to is = absurd (cc is)
some_informer Issuer CertificateRequest to is = refl
some_informer Issuer Secret to is = absurd (cc is)
some_informer Issuing Certificate to is = refl
some_informer Issuing CertificateRequest to is = refl
some_informer Issuing Secret to is = refl
some_informer Readiness Certificate to is = refl
some_informer Readiness CertificateRequest to is = refl
some_informer Readiness Secret to is = refl
some_informer Revision Certificate to is = refl
some_informer Revision CertificateRequest to is = refl
some_informer Revision Secret to is = absurd (cc is)

told_in_part : (s : Setting) (h : List Entry) (e : Entry) → IsPlainEntry s h e → is_delivery e ≡ true → is_in_part is_told informers e ≡ true
told_in_part s h (Deliver role kind to) plain is = some_informer role kind to plain.1.informed
told_in_part s h (Listed role kind to) plain is = some_informer role kind to plain.1.informed
told_in_part s h other plain is = absurd (cc is)

all_in_part : (s : Setting) (h : List Entry) → ArePlain s h → Each (λ (e : Entry). is_delivery e ≡ true → is_in_part is_told informers e ≡ true) h
all_in_part s [] plain = tt
all_in_part s (e ∷ h) plain = (told_in_part s h e plain.0, all_in_part s h plain.1)

of_some_kind : (ws : List Write) → of_the_kind Certificate ws + of_the_kind CertificateRequest ws + of_the_kind Secret ws ≡ length ws
of_some_kind [] = refl
of_some_kind (w ∷ ws) = by w.key.kind (of_some_kind ws) where
  by : (k : Kind) → of_the_kind Certificate ws + of_the_kind CertificateRequest ws + of_the_kind Secret ws ≡ length ws
      → (if kind_eq k Certificate then of_the_kind Certificate ws + 1 else of_the_kind Certificate ws) + (if kind_eq k CertificateRequest then of_the_kind CertificateRequest ws + 1 else of_the_kind CertificateRequest ws)
      + (if kind_eq k Secret then of_the_kind Secret ws + 1 else of_the_kind Secret ws) ≡ length (w ∷ ws)
  by Certificate is = omega (arith, is)
  by CertificateRequest is = omega (arith, is)
  by Secret is = omega (arith, is)

low_by : (n left most : ℕ) → n + left ≤ most → n ≤ most
low_by n left most low = omega (arith, low)

told_low : (s : Setting) (h : List Entry) (role : Role) (kind : Kind) → ArePlain s h → count_of (is_told_to role kind) h ≤ of_the_kind kind (writes s h)
told_low s h role kind plain =
    low_by (count_of (is_told_to role kind) h) (left_to_tell (position h role kind) (last_of_kind kind (writes s h))) (of_the_kind kind (writes s h)) (told_by s h role kind plain)

-- the writes of the kinds of these informers
abbrev to_tell : List Write → List Informer → ℕ
to_tell ws [] = 0
to_tell ws (i ∷ is) = of_the_kind i.kind ws + to_tell ws is

all_low : (s : Setting) (h : List Entry) (is : List Informer) → ArePlain s h → total is_told is h ≤ to_tell (writes s h) is
all_low s h [] plain = omega arith
all_low s h (i ∷ is) plain = let one = told_low s h i.role i.kind plain in let rest = all_low s h is plain in omega (arith, one, rest)

-- ---- writes of users are of Certificates

user_more : (b : Bool) (w : Write) (ws : List Write) (u : ℕ) → w.key.kind ≡ Certificate → u ≤ of_the_kind Certificate ws → (if b then u + 1 else u) ≤ of_the_kind Certificate (if b then w ∷ ws else ws)
user_more false w ws u kind low = low
user_more true w ws u kind low =
    let one : of_the_kind Certificate (w ∷ ws) ≡ of_the_kind Certificate ws + 1 = ap (λ (k : Kind). if kind_eq k Certificate then of_the_kind Certificate ws + 1 else of_the_kind Certificate ws) kind in
    omega (arith, one, low)

pass_more : (b : Bool) (w : Write) (ws : List Write) (u : ℕ) → u ≤ of_the_kind Certificate ws → u ≤ of_the_kind Certificate (if b then w ∷ ws else ws)
pass_more false w ws u low = low
pass_more true w ws u low = by (kind_eq w.key.kind Certificate) where
  by : (b : Bool) → u ≤ (if b then of_the_kind Certificate ws + 1 else of_the_kind Certificate ws)
  by true = omega (arith, low)
  by false = low

users_write_certificates : (s : Setting) (h : List Entry) → ArePlain s h → count_of is_user_write h ≤ of_the_kind Certificate (writes s h)
users_write_certificates s [] plain = omega arith
users_write_certificates s (Called User call reply ∷ h) plain =
    user_more (is_accepted reply) (write_of (moment s h) (state s h) (settled call reply)) (writes s h) (count_of is_user_write h) (writes_certificate s h call reply plain.0.1) (users_write_certificates s h plain.1)
users_write_certificates s (Called (Pass n) call reply ∷ h) plain =
    pass_more (is_accepted reply) (write_of (moment s h) (state s h) (settled call reply)) (writes s h) (count_of is_user_write h) (users_write_certificates s h plain.1)
users_write_certificates s (other ∷ h) plain = users_write_certificates s h plain.1

-- ---- the sum

one_write : (b : Bool) (a u r : ℕ) → a ≡ u + r → ((if b then a + 1 else a) ≡ (if b then u + 1 else u) + r) × ((if b then a + 1 else a) ≡ u + (if b then r + 1 else r))
one_write true a u r is = (omega (arith, is), omega (arith, is))
one_write false a u r is = (is, is)

-- each write is one of a user or of a role
by_writers : (s : Setting) (h : List Entry) → accepted s h ≡ count_of is_user_write h + count_of is_role_write h
by_writers s [] = refl
by_writers s (Called User call reply ∷ h) = (one_write (is_accepted reply) (accepted s h) (count_of is_user_write h) (count_of is_role_write h) (by_writers s h)).0
by_writers s (Called (Pass n) call reply ∷ h) = (one_write (is_accepted reply) (accepted s h) (count_of is_user_write h) (count_of is_role_write h) (by_writers s h)).1
by_writers s (other ∷ h) = by_writers s h

summed : (told c r k users roles : ℕ) → told ≤ c + (c + (c + (c + (c + (c + (r + (r + (r + (r + (r + (r + (r + (k + (k + (k + (k + (k + 0))))))))))))))))) → c + r + k ≡ users + roles → users ≤ c → told ≤ 7 * roles + 6 * users
summed told c r k users roles low is few = omega (arith, low, is, few)

pub few_tellings : (s : Setting) (h : List Entry) → ArePlain s h → count_of is_delivery h ≤ 7 * count_of is_role_write h + 6 * count_of is_user_write h
few_tellings s h plain =
    let all = in_all is_delivery is_told informers h (all_in_part s h plain) in
    let low = all_low s h informers plain in
    summed (count_of is_delivery h) (of_the_kind Certificate (writes s h)) (of_the_kind CertificateRequest (writes s h)) (of_the_kind Secret (writes s h)) (count_of is_user_write h) (count_of is_role_write h)
    (omega (arith, all, low)) (of_some_kind (writes s h) ∙ writes_count s h ∙ by_writers s h) (users_write_certificates s h plain)
