-- What is kept of a pass's entries is what the rules ask of them.
use Rattle.std.proofs.Common.{◌≡◌, ◌==◌, ◌⊎◌, ℕ, List, [], ◌∷◌, Bool, true, false, Option, Some, None, refl, sym, ap, subst, ◌∙◌, inl, inr, arith}
use Rattle.std.proofs.lemmas.Bool.Decides.{nat_tests}
use Rattle.std.proofs.lemmas.Bool.{and_parts, and_from}
use Rattle.std.specs.Prelude.{if◌then◌else◌, ◌||◌, ◌&&◌, ◌≢◌, not}
use Rattle.std.specs.Cmp.{Equal-is, nat_cmp_total, tied_itself}
use Rattle.std.specs.FinMap.{nat_cmp-IsAntisymmetric}
use Rattle.std.specs.Ordering.{nat_cmp, ordering_then}
use Rattle.cmc_meta.specs.declared.key.Key.{Key}
use Rattle.cmc_meta.specs.Keys.{key_cmp}
use Rattle.cmc_meta.proofs.KeyOrder.{both_tie, key_cmp-total, key_cmp-IsAntisymmetric}
use Rattle.cmc_objects.specs.declared.request.CertificateRequest.{CertificateRequest}
use Rattle.cmc_objects.specs.declared.object.Object.{Object}
use Rattle.cmc_objects.specs.declared.object.Object.TheVariants.{Cert, Request, Secret}
use Rattle.cmc_objects.specs.declared.orders.Order.{Order}
use Rattle.cmc_objects.specs.declared.orders.Order.TheVariants as orders
use Rattle.cmc_objects.specs.declared.call.Call.{Call}
use Rattle.cmc_objects.specs.declared.call.Call.TheVariants.{Create, Update, UpdateStatus, Delete, Get}
use Rattle.cmc_objects.specs.declared.call.Reply.{Reply}
use Rattle.cmc_objects.specs.declared.call.Reply.TheVariants.{Ok, Unchanged, Found, Conflict, NotFound, AlreadyExists, Invalid, Unavailable}
use Rattle.cmc_objects.specs.declared.entry.Who.{Who}
use Rattle.cmc_objects.specs.declared.entry.Who.TheVariants.{User, Pass}
use Rattle.cmc_objects.specs.declared.entry.Entry.{Entry}
use Rattle.cmc_objects.specs.declared.entry.Entry.TheVariants.{Call as Called, Ask, Judged}
use Rattle.cmc_objects.specs.Objects.{key_of}
use Rattle.cmc_objects.specs.Requests.{is_denied}
use Rattle.cmc_match.specs.Marks.{is_temporary}
use Rattle.cmc_model.specs.declared.write.Write.{Write}
use Rattle.cmc_model.specs.Versions.{IsVersion}
use Rattle.cmc_model.specs.Histories.{Setting}
use Rattle.cmc_model.specs.Writes.{writes}
use Rattle.cmc_rules.specs.Safety.{HasEntry, LastAsks, IsNeverDenied, IsSecretWrite, IsServedReply, IsSecretSaved}
use Rattle.cmc_audit_state.specs.declared.row.Version.{Version}
use Rattle.cmc_audit_state.specs.Heard.{last_judged, approved, is_about, is_by, is_lasting, is_same_version, is_served, judged_version, saved, writes_lasting}
use Rattle.cmc_audit_state.specs.Journaled.{denies, is_denied_uid}
use Rattle.cmc_audit_clauses.specs.Clauses.{AsksAbout, IsJudgedOn}

-- ---- tests and facts

pub same_number : (n m : ℕ) → (n == m) ≡ true → n ≡ m
same_number n m e = grind (arith, nat_tests)

number_itself : (n m : ℕ) → n ≡ m → (n == m) ≡ true
number_itself n m e = grind (arith, nat_tests)

either : (a b : Bool) → (a || b) ≡ true → (a ≡ true) ⊎ (b ≡ true)
either true b e = inl refl
either false b e = inr e

or_here : (a b : Bool) → a ≡ true → (a || b) ≡ true
or_here true b e = refl
or_here false b e = absurd (cc e)

or_there : (a b : Bool) → b ≡ true → (a || b) ≡ true
or_there true b e = refl
or_there false b e = e

not_false : (b : Bool) → not b ≡ true → b ≡ false
not_false true e = absurd (cc e)
not_false false e = refl

-- ---- a Secret that was saved

lasting : (o : Object) (generate : Bool) → is_lasting o ≡ true → IsSecretWrite (Create o generate)
lasting (Cert c) generate is = absurd (cc is)
lasting (Request r) generate is = absurd (cc is)
lasting (Secret k) generate is = not_false (is_temporary k) is

lasting_update : (o : Object) (named : ℕ) → is_lasting o ≡ true → IsSecretWrite (Update o named)
lasting_update (Cert c) named is = absurd (cc is)
lasting_update (Request r) named is = absurd (cc is)
lasting_update (Secret k) named is = not_false (is_temporary k) is

secret_write : (call : Call) → writes_lasting call ≡ true → IsSecretWrite call
secret_write (Create o generate) is = lasting o generate is
secret_write (Update o named) is = lasting_update o named is
secret_write (UpdateStatus o named) is = absurd (cc is)
secret_write (Delete key named) is = absurd (cc is)
secret_write (Get key) is = absurd (cc is)

served : (reply : Reply) → is_served reply ≡ true → IsServedReply reply
served (Ok version name) is = tt
served (Unchanged version) is = tt
served (Found object) is = absurd (cc is)
served (Conflict named have) is = absurd (cc is)
served (NotFound at) is = absurd (cc is)
served (AlreadyExists have) is = absurd (cc is)
served (Invalid rule) is = absurd (cc is)
served (Unavailable number) is = absurd (cc is)

on_not : (b : Bool) → b ≡ false → not b ≡ true
on_not true e = absurd (cc e)
on_not false e = refl

writes_secret : (call : Call) → IsSecretWrite call → writes_lasting call ≡ true
writes_secret (Create (Cert c) generate) is = absurd is
writes_secret (Create (Request r) generate) is = absurd is
writes_secret (Create (Secret k) generate) is = on_not (is_temporary k) is
writes_secret (Update (Cert c) named) is = absurd is
writes_secret (Update (Request r) named) is = absurd is
writes_secret (Update (Secret k) named) is = on_not (is_temporary k) is
writes_secret (UpdateStatus o named) is = absurd is
writes_secret (Delete key named) is = absurd is
writes_secret (Get key) is = absurd is

is_served_by : (reply : Reply) → IsServedReply reply → is_served reply ≡ true
is_served_by (Ok version name) is = refl
is_served_by (Unchanged version) is = refl
is_served_by (Found object) is = absurd is
is_served_by (Conflict named have) is = absurd is
is_served_by (NotFound at) is = absurd is
is_served_by (AlreadyExists have) is = absurd is
is_served_by (Invalid rule) is = absurd is
is_served_by (Unavailable number) is = absurd is

by_pass : (n : ℕ) (who : Who) → is_by n who ≡ true → who ≡ Pass n
by_pass n User is = absurd (cc is)
by_pass n (Pass m) is = ap Pass (sym (same_number n m is))

saved_here : (n : ℕ) (who : Who) (call : Call) (reply : Reply) → (is_by n who && (writes_lasting call && is_served reply)) ≡ true → IsSecretSaved n (Called who call reply)
saved_here n who call reply is =
    let parts = and_parts _ _ is in
    let both = and_parts _ _ parts.1 in
    (call, reply, ap (λ (w : Who). Called w call reply) (by_pass n who parts.0), secret_write call both.0, served reply both.1)

saved_or : (n : ℕ) (who : Who) (call : Call) (reply : Reply) (h : List Entry) → ((is_by n who && (writes_lasting call && is_served reply)) ≡ true) ⊎ (saved n h ≡ true) → (saved n h ≡ true → HasEntry (IsSecretSaved n) h)
    → HasEntry (IsSecretSaved n) (Called who call reply ∷ h)
saved_or n who call reply h (inl here) below = inl (saved_here n who call reply here)
saved_or n who call reply h (inr there) below = inr (below there)

pub saved_stands : (n : ℕ) (h : List Entry) → saved n h ≡ true → HasEntry (IsSecretSaved n) h
saved_stands n [] is = absurd (cc is)
saved_stands n (Called who call reply ∷ h) is = saved_or n who call reply h (either _ _ is) (saved_stands n h)
saved_stands n (other ∷ h) is = inr (saved_stands n h is)

pass_itself : (n : ℕ) (who : Who) → who ≡ Pass n → is_by n who ≡ true
pass_itself n User e = absurd (cc e)
pass_itself n (Pass m) e = let same : m ≡ n = cc e in number_itself n m (sym same)

call_is : (n : ℕ) (who : Who) (call : Call) (reply : Reply) (c : Call) (r : Reply) → Called who call reply ≡ Called (Pass n) c r → (who ≡ Pass n) × (call ≡ c) × (reply ≡ r)
call_is n who call reply c r e = (cc e, cc e, cc e)

not_saved : (n : ℕ) (e : Entry) (before : Bool) → ((who : Who) (c : Call) (r : Reply) → e ≡ Called who c r → ⊥) → IsSecretSaved n e → before ≡ true
not_saved n e before apart is = absurd (apart (Pass n) is.0 is.1 is.2)

here_saved : (n : ℕ) (who : Who) (call : Call) (reply : Reply) → IsSecretSaved n (Called who call reply) → (is_by n who && (writes_lasting call && is_served reply)) ≡ true
here_saved n who call reply is =
    let same = call_is n who call reply is.0 is.1 is.2 in
    and_from _ _ (pass_itself n who same.0) (and_from _ _ (writes_secret call (subst IsSecretWrite (sym same.1) is.3)) (is_served_by reply (subst IsServedReply (sym same.2) is.4)))

pub stands_saved : (n : ℕ) (h : List Entry) → HasEntry (IsSecretSaved n) h → saved n h ≡ true
stands_saved n [] is = absurd is
stands_saved n (Called who call reply ∷ h) (inl here) = or_here _ _ (here_saved n who call reply here)
stands_saved n (Called who call reply ∷ h) (inr there) = or_there _ _ (stands_saved n h there)
stands_saved n (other ∷ h) (inl here) = not_saved n other (saved n h) (λ who c r e. absurd (cc e)) here
stands_saved n (other ∷ h) (inr there) = stands_saved n h there

-- ---- denials

denied_here : (uid : ℕ) (x : Option Object) (r : CertificateRequest) → x ≡ Some (Request r) → r.meta.uid ≡ uid → is_denied r ≡ true → denies uid x ≡ true
denied_here uid x r is same on = subst (λ (y : Option Object). denies uid y ≡ true) (sym is) (and_from _ _ (number_itself r.meta.uid uid same) on)

denied_of : (uid : ℕ) (key : Key) (r : CertificateRequest) (ws : List Write) → IsVersion key (Request r) ws → r.meta.uid ≡ uid → is_denied r ≡ true → is_denied_uid uid ws ≡ true
denied_of uid key r [] has same on = absurd has
denied_of uid key r (w ∷ ws) (inl here) same on = or_here _ _ (denied_here uid w.object r here.1 same on)
denied_of uid key r (w ∷ ws) (inr there) same on = or_there _ _ (denied_of uid key r ws there same on)

off_by : (b : Bool) → (b ≡ true → ⊥) → b ≡ false
off_by true off = absurd (off refl)
off_by false off = refl

-- where no denial of its uid is noted, no version of it is denied
pub never_denied : (s : Setting) (whole : List Entry) (r : CertificateRequest) → is_denied_uid r.meta.uid (writes s whole) ≡ false → IsNeverDenied s whole r
never_denied s whole r none key o has same = off_by (is_denied o) (λ on. let some = denied_of r.meta.uid key o (writes s whole) has same on in absurd (cc (some, none)))

denier : (uid : ℕ) (x : Option Object) → denies uid x ≡ true → (r : CertificateRequest) × (x ≡ Some (Request r)) × (r.meta.uid ≡ uid) × (is_denied r ≡ true)
denier uid None is = absurd (cc is)
denier uid (Some (Cert c)) is = absurd (cc is)
denier uid (Some (Secret k)) is = absurd (cc is)
denier uid (Some (Request r)) is = let parts = and_parts _ _ is in (r, refl, same_number r.meta.uid uid parts.0, parts.1)

-- one of the writes left a request of this uid that is denied
record Denier (uid : ℕ) (ws : List Write) : Type 0 where
  key : Key
  request : CertificateRequest
  has : IsVersion key (Request request) ws
  same : request.meta.uid ≡ uid
  on : is_denied request ≡ true

denier_here : (uid : ℕ) (w : Write) (ws : List Write) → denies uid w.object ≡ true → Denier uid (w ∷ ws)
denier_here uid w ws here = let d = denier uid w.object here in record { key = w.key; request = d.0; has = inl (refl, d.1); same = d.2; on = d.3 }

denier_later : (uid : ℕ) (w : Write) (ws : List Write) → Denier uid ws → Denier uid (w ∷ ws)
denier_later uid w ws d = record { key = d.key; request = d.request; has = inr d.has; same = d.same; on = d.on }

denier_or : (uid : ℕ) (w : Write) (ws : List Write) → (denies uid w.object ≡ true) ⊎ (is_denied_uid uid ws ≡ true) → (is_denied_uid uid ws ≡ true → Denier uid ws) → Denier uid (w ∷ ws)
denier_or uid w ws (inl here) below = denier_here uid w ws here
denier_or uid w ws (inr there) below = denier_later uid w ws (below there)

denier_in : (uid : ℕ) (ws : List Write) → is_denied_uid uid ws ≡ true → Denier uid ws
denier_in uid [] is = absurd (cc is)
denier_in uid (w ∷ ws) is = denier_or uid w ws (either _ _ is) (denier_in uid ws)

pub none_denied : (s : Setting) (whole : List Entry) (r : CertificateRequest) → IsNeverDenied s whole r → is_denied_uid r.meta.uid (writes s whole) ≡ false
none_denied s whole r never = off_by (is_denied_uid r.meta.uid (writes s whole)) (λ on. let d = denier_in r.meta.uid (writes s whole) on in let off = never d.key d.request d.has d.same in let here = d.on in cc (here, off))

-- ---- a yes

version_same : (a b : Version) → is_same_version a b ≡ true → (a.number ≡ b.number) × (a.key ≡ b.key)
version_same a b is =
    let tie = both_tie (nat_cmp a.number b.number) (key_cmp a.key b.key) ((Equal-is (ordering_then (nat_cmp a.number b.number) (key_cmp a.key b.key))).0 is) in
    (nat_cmp-IsAntisymmetric a.number b.number tie.0, key_cmp-IsAntisymmetric a.key b.key tie.1)

version_itself : (a : Version) → is_same_version a a ≡ true
version_itself a = rw (tied_itself nat_cmp_total a.number, tied_itself key_cmp-total a.key) refl

same_version : (a b : Version) → a.number ≡ b.number → a.key ≡ b.key → is_same_version a b ≡ true
same_version a b number key = let e : a ≡ b = λ i. record { key = key i; number = number i } in subst (λ (v : Version). is_same_version a v ≡ true) e (version_itself a)

abbrev version : Key → ℕ → Version
version key number = record { key = key; number = number }

about : (key : Key) (number : ℕ) (order : Order) → is_about (version key number) (judged_version order) ≡ true → AsksAbout key number order
about key number (orders.Key o) is = absurd (cc is)
about key number (orders.Csr o) is = absurd (cc is)
about key number (orders.Sign o) is = absurd (cc is)
about key number (orders.Judge o) is = let same = version_same (version (key_of (Request o.request)) o.request.meta.version) (version key number) is in (same.1, same.0)

is_about_it : (key : Key) (number : ℕ) (order : Order) → AsksAbout key number order → is_about (version key number) (judged_version order) ≡ true
is_about_it key number (orders.Key o) is = absurd is
is_about_it key number (orders.Csr o) is = absurd is
is_about_it key number (orders.Sign o) is = absurd is
is_about_it key number (orders.Judge o) is = same_version (version (key_of (Request o.request)) o.request.meta.version) (version key number) is.1 is.0

number_differs : (n m : ℕ) → (n == m) ≡ false → m ≢ n
number_differs n m e same = grind (arith, nat_tests, e, same)

asks_by : (b : Bool) (n m : ℕ) (key : Key) (number : ℕ) (order : Order) (h : List Entry) → (n == m) ≡ b → (is_about (version key number) (last_judged n h) ≡ true → LastAsks n (AsksAbout key number) h)
    → is_about (version key number) (if b then judged_version order else last_judged n h) ≡ true → LastAsks n (AsksAbout key number) (Ask m order ∷ h)
asks_by true n m key number order h e below is = inl (sym (same_number n m e), about key number order is)
asks_by false n m key number order h e below is = inr (number_differs n m e, below is)

last_asks : (n : ℕ) (key : Key) (number : ℕ) (h : List Entry) → is_about (version key number) (last_judged n h) ≡ true → LastAsks n (AsksAbout key number) h
last_asks n key number [] is = absurd (cc is)
last_asks n key number (Ask m order ∷ h) is = asks_by (n == m) n m key number order h refl (last_asks n key number h) is
last_asks n key number (other ∷ h) is = last_asks n key number h is

asked_by : (b : Bool) (n m : ℕ) (key : Key) (number : ℕ) (order : Order) (h : List Entry) → (n == m) ≡ b → (LastAsks n (AsksAbout key number) h → is_about (version key number) (last_judged n h) ≡ true)
    → LastAsks n (AsksAbout key number) (Ask m order ∷ h) → is_about (version key number) (if b then judged_version order else last_judged n h) ≡ true
asked_by true n m key number order h e below (inl here) = is_about_it key number order here.1
asked_by true n m key number order h e below (inr there) = absurd (there.0 (sym (same_number n m e)))
asked_by false n m key number order h e below (inl here) = absurd (number_differs n m e here.0)
asked_by false n m key number order h e below (inr there) = below there.1

asked_last : (n : ℕ) (key : Key) (number : ℕ) (h : List Entry) → LastAsks n (AsksAbout key number) h → is_about (version key number) (last_judged n h) ≡ true
asked_last n key number [] is = absurd is
asked_last n key number (Ask m order ∷ h) is = asked_by (n == m) n m key number order h refl (asked_last n key number h) is
asked_last n key number (other ∷ h) is = asked_last n key number h is

judged_here : (n m : ℕ) (told : Bool) (key : Key) (number : ℕ) (h : List Entry) → (n == m && (told && is_about (version key number) (last_judged n h))) ≡ true
    → (Judged m told ≡ Judged n true) × LastAsks n (AsksAbout key number) h
judged_here n m told key number h is =
    let parts = and_parts _ _ is in
    let both = and_parts _ _ parts.1 in
    (ap (λ k. Judged k told) (sym (same_number n m parts.0)) ∙ ap (Judged n) both.0, last_asks n key number h both.1)

judged_or : (n m : ℕ) (told : Bool) (key : Key) (number : ℕ) (h : List Entry) → ((n == m && (told && is_about (version key number) (last_judged n h))) ≡ true) ⊎ (approved n (version key number) h ≡ true)
    → (approved n (version key number) h ≡ true → IsJudgedOn h n key number) → IsJudgedOn (Judged m told ∷ h) n key number
judged_or n m told key number h (inl here) below = inl (judged_here n m told key number h here)
judged_or n m told key number h (inr there) below = inr (below there)

pub approved_judged : (n : ℕ) (key : Key) (number : ℕ) (h : List Entry) → approved n (version key number) h ≡ true → IsJudgedOn h n key number
approved_judged n key number [] is = absurd (cc is)
approved_judged n key number (Judged m told ∷ h) is = judged_or n m told key number h (either _ _ is) (approved_judged n key number h)
approved_judged n key number (other ∷ h) is = inr (approved_judged n key number h is)

judged_is : (n m : ℕ) (told : Bool) → Judged m told ≡ Judged n true → (m ≡ n) × (told ≡ true)
judged_is n m told e = (cc e, cc e)

pub judged_approved : (n : ℕ) (key : Key) (number : ℕ) (h : List Entry) → IsJudgedOn h n key number → approved n (version key number) h ≡ true
judged_approved n key number [] is = absurd is
judged_approved n key number (Judged m told ∷ h) (inl here) =
    let same = judged_is n m told here.0 in
    or_here _ _ (and_from _ _ (number_itself n m (sym same.0)) (and_from _ _ same.1 (asked_last n key number h here.1)))
judged_approved n key number (Judged m told ∷ h) (inr there) = or_there _ _ (judged_approved n key number h there)
judged_approved n key number (other ∷ h) (inl here) = absurd (let e = here.0 in cc e)
judged_approved n key number (other ∷ h) (inr there) = judged_approved n key number h there
