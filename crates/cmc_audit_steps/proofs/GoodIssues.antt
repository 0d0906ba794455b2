-- A good issue by what is kept of a history is one by the history.
use Rattle.std.proofs.Common.{◌≡◌, ◌==◌, ◌⊎◌, ◌&&◌, ℕ, ◌+◌, List, [], ◌∷◌, Bool, true, false, MatchBool, Option, Some, None, refl, sym, ap, subst, ◌∙◌, inl, inr, arith}
use Rattle.std.proofs.lemmas.Bool.Decides.{nat_tests}
use Rattle.std.specs.Prelude.{◌||◌, if◌then◌else◌, filter, filter_map, find as find_first, length, option_and_then}
use Rattle.std.specs.FinMap as maps
use Rattle.std.specs.FinMap.{get-entries, find}
use Rattle.std.specs.List.{cons_option}
use Rattle.std.specs.Ordering.{eq_by_cmp}
use Rattle.std.proofs.lemmas.Bool.{and_parts, and_from}
use Rattle.std.proofs.lemmas.Slice.Eq.{bytes_eq-Decides}
use Rattle.cmc_meta.specs.declared.key.Key.{Key}
use Rattle.cmc_meta.specs.declared.key.Kind.{Kind}
use Rattle.cmc_meta.specs.declared.key.Kind.TheVariants as kinds
use Rattle.cmc_meta.specs.Keys.{key_cmp}
use Rattle.cmc_objects.specs.declared.certificate.Certificate.{Certificate}
use Rattle.cmc_objects.specs.declared.request.CertificateRequest.{CertificateRequest}
use Rattle.cmc_objects.specs.declared.secret.Secret.{Secret as SecretObject}
use Rattle.cmc_objects.specs.declared.object.Object.{Object}
use Rattle.cmc_objects.specs.declared.object.Object.TheVariants.{Cert, Request, Secret}
use Rattle.cmc_objects.specs.declared.role.Role.TheVariants as roles
use Rattle.cmc_objects.specs.declared.call.Call.{Call}
use Rattle.cmc_objects.specs.declared.call.Call.TheVariants.{Create, Update, UpdateStatus, Delete, Get}
use Rattle.cmc_objects.specs.declared.call.Reply.{Reply}
use Rattle.cmc_objects.specs.declared.call.Reply.TheVariants.{Ok, Unchanged, Found, Conflict, NotFound, AlreadyExists, Invalid, Unavailable}
use Rattle.cmc_objects.specs.declared.entry.Who.{Who}
use Rattle.cmc_objects.specs.declared.entry.Who.TheVariants.{User, Pass}
use Rattle.cmc_objects.specs.declared.entry.Entry.{Entry}
use Rattle.cmc_objects.specs.declared.entry.Entry.TheVariants.{Call as Called}
use Rattle.cmc_objects.specs.Objects.{key_of, version_of}
use Rattle.cmc_match.specs.Marks.{is_temporary}
use Rattle.cmc_answers.specs.Temporary.{temporary}
use Rattle.cmc_match.specs.Facts.{key_in, certificate_file_in}
use Rattle.cmc_match.specs.Revisions.{is_of_revision, only_of}
use Rattle.cmc_pass.specs.declared.pass.Views.{Views}
use Rattle.cmc_model.specs.declared.write.Write.{Write}
use Rattle.cmc_model.specs.Objects.{Objects, object_at}
use Rattle.cmc_model.specs.Replies.{IsReply, IsServed, IsGot}
use Rattle.cmc_model.specs.Histories.{Setting, state, objects}
use Rattle.cmc_model.specs.Versions.{HasVersion, IsVersion}
use Rattle.cmc_model.specs.Verdicts.{IsAnswered}
use Rattle.cmc_model.specs.Writes.{writes, oldest, of_kind}
use Rattle.cmc_model.proofs.Versions.{IsLawful, lawful_called, lawful_object, versions_low, standing, keyed, version_of_kind, version_of_oldest}
use Rattle.cmc_model.proofs.Writes.{writes_count, writes_leave}
use Rattle.cmc_rules.specs.declared.progress.OpenPass.{OpenPass}
use Rattle.cmc_rules.specs.SeenObjects.{IsAmong}
use Rattle.cmc_rules.specs.Safety.{IsGoodIssue, IsLiveRead, IsOfIssuer, IsTemporaryCertificate, HasEntry}
use Rattle.cmc_rules.specs.Views.{Caches, certificate_at, certificate_in as certificate_part, has_next_label, is_owned, next_in, next_of, of_certificate, owned_in, requests_of, views_in, views_of}
use Rattle.cmc_rules.proofs.Sighted.{picked, stands_among}
use Rattle.cmc_rules.proofs.Sights.{found_among}
use Rattle.cmc_rules.specs.Revisions.{revision_of_uid}
use Rattle.cmc_audit_state.specs.declared.row.Row.{Row}
use Rattle.cmc_audit_state.specs.declared.row.Version.{Version}
use Rattle.cmc_audit_state.specs.Heard.{approved, last_judged, has_found, finds, is_by, saved}
use Rattle.cmc_audit_state.specs.Journaled.{cached, is_denied_uid}
use Rattle.cmc_audit_ledger.specs.Ledgers.{IsRow, reached}
use Rattle.cmc_audit_clauses.specs.Written.{Exists, IsTemporaryWrite}
use Rattle.cmc_audit_writes.specs.IssueClauses.{IsIssueBy, IsIssueFor, IsIssueOf, IsIssueWith, IsIssuers, IsKeptIssue, IsSignedWrite, next_key_at, next_named, request_in_progress}
use Rattle.cmc_audit_steps.proofs.Heeding.{never_denied, none_denied, same_number}

-- ---- where there is one

pub there : {A : Type 0} (o : Option A) (P : A → Type 0) → Exists o P → (x : A) × (o ≡ Some x) × P x
there None P is = absurd is
there (Some x) P is = (x, refl, is)

pub here : {A : Type 0} (o : Option A) (P : A → Type 0) (x : A) → o ≡ Some x → P x → Exists o P
here None P x at is = absurd (cc at)
here (Some y) P x at is = let same : x ≡ y = cc at in subst P same is

-- ---- versions

pub lawful : (s : Setting) (h : List Entry) → IsAnswered s h → IsLawful (writes s h)
lawful s [] right = tt
lawful s (Called who call reply ∷ h) right =
    lawful_called s.faults _ (state s h) call reply (writes s h) _ refl (writes_count s h) (writes_leave s h) right.0 (lawful s h right.1)
lawful s (other ∷ h) right = lawful s h right

-- a version number is given once
pub one_version : (ws : List Write) (j k : Key) (o p : Object) → IsLawful ws → IsVersion j o ws → IsVersion k p ws → version_of o ≡ version_of p → o ≡ p
one_version [] j k o p law a b same = absurd a
one_version (w ∷ ws) j k o p law (inl a) (inl b) same = let e = sym a.1 ∙ b.1 in cc e
one_version (w ∷ ws) j k o p law (inl a) (inr b) same = absurd (let x = (lawful_object w ws o law a.1).0 in let y = versions_low ws k p law.1 b in omega (arith, x, y, same))
one_version (w ∷ ws) j k o p law (inr a) (inl b) same = absurd (let x = (lawful_object w ws p law b.1).0 in let y = versions_low ws j o law.1 a in omega (arith, x, y, same))
one_version (w ∷ ws) j k o p law (inr a) (inr b) same = one_version ws j k o p law.1 a b same

-- what is found among some first writes of a kind is a version
pub cached_version : (kind : Kind) (ws : List Write) (p : ℕ) (key : Key) (o : Object) → object_at (cached kind ws p) key ≡ Some o → IsVersion key o ws
cached_version kind ws p key o at = version_of_oldest p key o ws (version_of_kind kind key o (oldest p ws) (standing (of_kind kind (oldest p ws)) key o at))

-- ---- the live read

-- a Get of the pass found a Certificate of this version, which was written
record FoundAt (s : Setting) (n version : ℕ) (h : List Entry) : Type 0 where
  key : Key
  certificate : Certificate
  has : HasVersion s h key (Cert certificate)
  same : certificate.meta.version ≡ version
  reads : HasEntry (IsLiveRead n certificate) h

found_later : (s : Setting) (n version : ℕ) (e : Entry) (h : List Entry) → ((key : Key) (o : Object) → HasVersion s h key o → HasVersion s (e ∷ h) key o) → FoundAt s n version h → FoundAt s n version (e ∷ h)
found_later s n version e h keeps f = record { key = f.key; certificate = f.certificate; has = keeps f.key (Cert f.certificate) f.has; same = f.same; reads = inr f.reads }

version_kept : (b : Bool) (w : Write) (ws : List Write) (key : Key) (o : Object) → IsVersion key o ws → IsVersion key o (if b then w ∷ ws else ws)
version_kept true w ws key o has = inr has
version_kept false w ws key o has = has

-- the Certificate that a reply found
certificate_found : (version : ℕ) (call : Call) (reply : Reply) → finds version call reply ≡ true → (key : Key) × (c : Certificate) × (call ≡ Get key) × (reply ≡ Found (Cert c)) × (c.meta.version ≡ version)
certificate_found version (Get key) (Found (Cert c)) is = (key, c, refl, refl, same_number c.meta.version version is)
certificate_found version (Get key) (Found (Request r)) is = absurd (cc is)
certificate_found version (Get key) (Found (Secret k)) is = absurd (cc is)
certificate_found version (Get key) (Ok v name) is = absurd (cc is)
certificate_found version (Get key) (Unchanged v) is = absurd (cc is)
certificate_found version (Get key) (Conflict named have) is = absurd (cc is)
certificate_found version (Get key) (NotFound at) is = absurd (cc is)
certificate_found version (Get key) (AlreadyExists have) is = absurd (cc is)
certificate_found version (Get key) (Invalid rule) is = absurd (cc is)
certificate_found version (Get key) (Unavailable number) is = absurd (cc is)
certificate_found version (Create object generate) reply is = absurd (cc is)
certificate_found version (Update object named) reply is = absurd (cc is)
certificate_found version (UpdateStatus object named) reply is = absurd (cc is)
certificate_found version (Delete key named) reply is = absurd (cc is)

got_object : (accepted : ℕ) (old : Option Object) (o : Object) → IsGot accepted old (Found o) → old ≡ Some o
got_object accepted None o is = absurd (cc is)
got_object accepted (Some old) o is = let e : Found o ≡ Found old = is in let same : o ≡ old = cc e in ap Some (sym same)

got_by : (b : Bool) (n : ℕ) (A : Type 0) (o : Object) → MatchBool b (Found o ≡ Unavailable n) A → A
got_by true n A o is = absurd (cc is)
got_by false n A o is = is

-- what a right reply to a Get found stood there
pub found_stood : (s : Setting) (h : List Entry) (key : Key) (o : Object) → IsReply s.faults (state s h) (Get key) (Found o) → object_at (objects s h) key ≡ Some o
found_stood s h key o right = got_object (state s h).accepted (object_at (objects s h) key) o (got_by _ ((state s h).calls + 1) (IsServed (state s h).accepted (objects s h) (Get key) (Found o)) o right)

pub stands_version : (s : Setting) (h : List Entry) (key : Key) (o : Object) → object_at (objects s h) key ≡ Some o → HasVersion s h key o
stands_version s h key o is = standing (writes s h) key o (ap (λ (m : Objects). object_at m key) (writes_leave s h) ∙ is)

by_pass : (n : ℕ) (who : Who) → is_by n who ≡ true → who ≡ Pass n
by_pass n User is = absurd (cc is)
by_pass n (Pass m) is = ap Pass (sym (same_number n m is))

found_here : (s : Setting) (n version : ℕ) (who : Who) (call : Call) (reply : Reply) (h : List Entry) → IsReply s.faults (state s h) call reply → (is_by n who && finds version call reply) ≡ true
    → ((key : Key) (o : Object) → HasVersion s h key o → HasVersion s (Called who call reply ∷ h) key o) → FoundAt s n version (Called who call reply ∷ h)
found_here s n version who call reply h right is keeps =
    let parts = and_parts _ _ is in
    let f = certificate_found version call reply parts.1 in
    let got : IsReply s.faults (state s h) (Get f.0) (Found (Cert f.1)) = subst (λ (r : Reply). IsReply s.faults (state s h) (Get f.0) r) f.3 (subst (λ (c : Call). IsReply s.faults (state s h) c reply) f.2 right) in
    record {
      key = f.0;
      certificate = f.1;
      has = keeps f.0 (Cert f.1) (stands_version s h f.0 (Cert f.1) (found_stood s h f.0 (Cert f.1) got));
      same = f.4;
      reads = inl (f.0, ap (λ (w : Who). Called w call reply) (by_pass n who parts.0) ∙ ap (λ (c : Call). Called (Pass n) c reply) f.2 ∙ ap (λ (r : Reply). Called (Pass n) (Get f.0) r) f.3);
    }

found_or : (s : Setting) (n version : ℕ) (who : Who) (call : Call) (reply : Reply) (h : List Entry) → IsReply s.faults (state s h) call reply
    → ((key : Key) (o : Object) → HasVersion s h key o → HasVersion s (Called who call reply ∷ h) key o) → (has_found n version h ≡ true → FoundAt s n version h) → (b : Bool) → (is_by n who && finds version call reply) ≡ b
    → (b || has_found n version h) ≡ true → FoundAt s n version (Called who call reply ∷ h)
found_or s n version who call reply h right keeps below true here is = found_here s n version who call reply h right here keeps
found_or s n version who call reply h right keeps below false here is = found_later s n version (Called who call reply) h keeps (below is)

found_at : (s : Setting) (n version : ℕ) (h : List Entry) → IsAnswered s h → has_found n version h ≡ true → FoundAt s n version h
found_at s n version [] right is = absurd (cc is)
found_at s n version (Called who call reply ∷ h) right is =
    found_or s n version who call reply h right.0 (λ key o has. version_kept _ _ (writes s h) key o has) (found_at s n version h right.1) (is_by n who && finds version call reply) refl is
found_at s n version (other ∷ h) right is = found_later s n version other h (λ key o has. has) (found_at s n version h right is)

cert_of : (c d : Certificate) → Cert c ≡ Cert d → c ≡ d
cert_of c d e = cc e

-- the pass has read this version of the Certificate
pub read_stands : (s : Setting) (n : ℕ) (key : Key) (c : Certificate) (h : List Entry) → IsAnswered s h → HasVersion s h key (Cert c) → has_found n c.meta.version h ≡ true → HasEntry (IsLiveRead n c) h
read_stands s n key c h right has is =
    let f = found_at s n c.meta.version h right is in
    let same : f.certificate ≡ c = cert_of f.certificate c (one_version (writes s h) f.key key (Cert f.certificate) (Cert c) (lawful s h right) f.has has f.same) in
    subst (λ (d : Certificate). HasEntry (IsLiveRead n d) h) same f.reads

number_itself : (n : ℕ) → (n == n) ≡ true
number_itself n = grind (arith, nat_tests)

pass_itself : (n : ℕ) (who : Who) → who ≡ Pass n → is_by n who ≡ true
pass_itself n User e = absurd (cc e)
pass_itself n (Pass m) e = let same : m ≡ n = cc e in subst (λ k. (n == k) ≡ true) (sym same) (number_itself n)

or_here : (a b : Bool) → a ≡ true → (a || b) ≡ true
or_here true b e = refl
or_here false b e = absurd (cc e)

or_there : (a b : Bool) → b ≡ true → (a || b) ≡ true
or_there true b e = refl
or_there false b e = e

read_here : (n : ℕ) (c : Certificate) (who : Who) (call : Call) (reply : Reply) → IsLiveRead n c (Called who call reply) → (is_by n who && finds c.meta.version call reply) ≡ true
read_here n c who call reply is =
    let e = is.1 in
    let who_is : who ≡ Pass n = cc e in
    let call_is : call ≡ Get is.0 = cc e in
    let reply_is : reply ≡ Found (Cert c) = cc e in
    and_from _ _ (pass_itself n who who_is)
    (subst (λ (x : Call). finds c.meta.version x reply ≡ true) (sym call_is) (subst (λ (r : Reply). finds c.meta.version (Get is.0) r ≡ true) (sym reply_is) (number_itself c.meta.version)))

pub stands_read : (n : ℕ) (c : Certificate) (h : List Entry) → HasEntry (IsLiveRead n c) h → has_found n c.meta.version h ≡ true
stands_read n c [] is = absurd is
stands_read n c (Called who call reply ∷ h) (inl is) = or_here _ _ (read_here n c who call reply is)
stands_read n c (Called who call reply ∷ h) (inr later) = or_there _ _ (stands_read n c h later)
stands_read n c (other ∷ h) (inl is) = absurd (let e = is.1 in cc e)
stands_read n c (other ∷ h) (inr later) = stands_read n c h later

-- ---- what the pass saw

-- of issuing, where it saw what the caches have
seen_certificate : (c : Caches) (key : Key) → (views_in roles.Issuing c key).certificate ≡ certificate_at c.certificates key
unfolding views_in views_of
seen_certificate c key = refl

seen_next : (c : Caches) (key : Key) → (views_in roles.Issuing c key).next ≡ of_certificate (next_of c.secrets) (certificate_at c.certificates key)
unfolding views_in views_of
seen_next c key = refl

seen_requests : (c : Caches) (key : Key) → (views_in roles.Issuing c key).requests ≡ of_certificate (requests_of c.requests) (certificate_at c.certificates key)
unfolding views_in views_of
seen_requests c key = refl

-- what the pass saw, by the writes up to its reach
record Saw (ws : List Write) (row : Row) (p : OpenPass) : Type 0 where
  certificate : p.seen.certificate ≡ certificate_at (cached kinds.Certificate ws row.reach.certificates) row.key
  next : p.seen.next ≡ of_certificate (next_of (cached kinds.Secret ws row.reach.secrets)) (certificate_at (cached kinds.Certificate ws row.reach.certificates) row.key)
  requests : p.seen.requests ≡ of_certificate (requests_of (cached kinds.CertificateRequest ws row.reach.requests)) (certificate_at (cached kinds.Certificate ws row.reach.certificates) row.key)

saw : (ws : List Write) (f : ℕ → Bool) (s : Bool) (a : Option Version) (y : Version → Bool) (row : Row) (p : OpenPass) → IsRow ws f s a y row p → p.role ≡ roles.Issuing → Saw ws row p
saw ws f s a y row p is issuing =
    let seen : p.seen ≡ views_in roles.Issuing (reached ws row.reach) row.key = is.seen ∙ ap (λ r. views_in r (reached ws row.reach) row.key) (is.role ∙ issuing) in
    record {
      certificate = ap (λ (v : Views). v.certificate) seen ∙ seen_certificate (reached ws row.reach) row.key;
      next = ap (λ (v : Views). v.next) seen ∙ seen_next (reached ws row.reach) row.key;
      requests = ap (λ (v : Views). v.requests) seen ∙ seen_requests (reached ws row.reach) row.key;
    }

-- ---- the next key

first_or : {A : Type 0} (r : Option A) (rest : List A) (y : A) → (r ≡ Some y) ⊎ IsAmong y rest → IsAmong y (cons_option r rest)
first_or None rest y (inl is) = absurd (cc is)
first_or None rest y (inr later) = later
first_or (Some x) rest y (inl is) = inl (cc is)
first_or (Some x) rest y (inr later) = inr later

among_by : {B : Type 0} (f : Object → Option B) (b : Bool) (e : Key × Object) (es : List (Key × Object)) (o : Object) (y : B) → (if b then Some e.1 else find key_cmp e.0 es) ≡ Some o → f o ≡ Some y
    → (find key_cmp e.0 es ≡ Some o → IsAmong y (filter_map (λ d. f d.1) es)) → IsAmong y (cons_option (f e.1) (filter_map (λ d. f d.1) es))
among_by f true e es o y at is below = let same : e.1 ≡ o = cc at in first_or (f e.1) _ y (inl (ap f same ∙ is))
among_by f false e es o y at is below = first_or (f e.1) _ y (inr (below at))

found_by : {B : Type 0} (f : Object → Option B) (b : Bool) (x : Object) (rest : Option Object) (xs : List B) (o : Object) (y : B) → (if b then Some x else rest) ≡ Some o → f o ≡ Some y
    → (rest ≡ Some o → IsAmong y xs) → IsAmong y (cons_option (f x) xs)
found_by f true x rest xs o y at is below = let same : x ≡ o = cc at in first_or (f x) xs y (inl (ap f same ∙ is))
found_by f false x rest xs o y at is below = first_or (f x) xs y (inr (below at))

among_found : {B : Type 0} (f : Object → Option B) (q : Key) (es : List (Key × Object)) (o : Object) (y : B) → find key_cmp q es ≡ Some o → f o ≡ Some y → IsAmong y (filter_map (λ d. f d.1) es)
among_found f q [] o y at is = absurd (cc at)
among_found f q (e ∷ es) o y at is = found_by f (eq_by_cmp key_cmp q e.0) e.1 (find key_cmp q es) (filter_map (λ d. f d.1) es) o y at is (λ later. among_found f q es o y later is)

next_is : (c : Certificate) (o : Object) (k : SecretObject) → next_in c o ≡ Some k → (o ≡ Secret k) × (has_next_label k.meta ≡ true) × (is_owned c k.meta ≡ true)
next_is c (Cert d) k is = absurd (cc is)
next_is c (Request r) k is = absurd (cc is)
next_is c (Secret j) k is = by (has_next_label j.meta && is_owned c j.meta) refl is where
  by : (b : Bool) → (has_next_label j.meta && is_owned c j.meta) ≡ b → (if b then Some j else None) ≡ Some k → (Secret j ≡ Secret k) × (has_next_label k.meta ≡ true) × (is_owned c k.meta ≡ true)
  by true e is =
      let one : j ≡ k = cc is in
      let parts = and_parts (has_next_label j.meta) (is_owned c j.meta) e in
      (ap Secret one, subst (λ (i : SecretObject). has_next_label i.meta ≡ true) one parts.0, subst (λ (i : SecretObject). is_owned c i.meta ≡ true) one parts.1)
  by false e is = absurd (cc is)

then_some : {A B : Type 0} (f : A → Option B) (x : Option A) (y : B) → option_and_then f x ≡ Some y → (a : A) × (x ≡ Some a) × (f a ≡ Some y)
then_some f None y is = absurd (cc is)
then_some f (Some a) y is = (a, refl, is)

abbrev named_key : Certificate → List ℕ → Key
named_key c name = record { kind = kinds.Secret; namespace = c.meta.namespace; name = name }

-- what the next key is: the Secret that the status names, labelled and owned, among the next keys
record IsNextKey (ws : List Write) (row : Row) (c : Certificate) (k : SecretObject) : Type 0 where
  named : c.status.next_key ≡ Some k.meta.name
  among : IsAmong k (next_of (cached kinds.Secret ws row.reach.secrets) c)
  labelled : has_next_label k.meta ≡ true
  owned : is_owned c k.meta ≡ true

next_key : (ws : List Write) (row : Row) (c : Certificate) (k : SecretObject) → IsLawful ws → next_key_at (cached kinds.Secret ws row.reach.secrets) c ≡ Some k → IsNextKey ws row c k
next_key ws row c k law at =
    let m = cached kinds.Secret ws row.reach.secrets in
    let by_name = then_some (next_named m c) c.status.next_key k at in
    let by_key = then_some (next_in c) (object_at m (named_key c by_name.0)) k by_name.2 in
    let is = next_is c by_key.0 k by_key.2 in
    let stood : object_at m (named_key c by_name.0) ≡ Some (Secret k) = by_key.1 ∙ ap Some is.0 in
    let own : key_of (Secret k) ≡ named_key c by_name.0 = keyed ws (named_key c by_name.0) (Secret k) law (cached_version kinds.Secret ws row.reach.secrets (named_key c by_name.0) (Secret k) stood) in
    record {
      named = by_name.1 ∙ ap Some (sym (ap (λ (x : Key). x.name) own));
      among = among_found (next_in c) (named_key c by_name.0) (maps.entries m) by_key.0 k (sym (get-entries m (named_key c by_name.0)) ∙ by_key.1) by_key.2;
      labelled = is.1;
      owned = is.2;
    }

next_found : (ws : List Write) (row : Row) (c : Certificate) (k : SecretObject) → IsLawful ws → IsNextKey ws row c k → next_key_at (cached kinds.Secret ws row.reach.secrets) c ≡ Some k
next_found ws row c k law is =
    let m = cached kinds.Secret ws row.reach.secrets in
    let from = picked (λ (e : Key × Object). next_in c e.1) (maps.entries m) k is.among in
    let e : Key × Object = from.0 in
    let fits = next_is c e.1 k from.2 in
    let stood : object_at m e.0 ≡ Some (Secret k) = stands_among m e from.1 ∙ ap Some fits.0 in
    let own : key_of (Secret k) ≡ e.0 = keyed ws e.0 (Secret k) law (cached_version kinds.Secret ws row.reach.secrets e.0 (Secret k) stood) in
    let spaces : k.meta.namespace ≡ c.meta.namespace = (bytes_eq-Decides k.meta.namespace c.meta.namespace).0 (and_parts _ _ is.owned).0 in
    let key : named_key c k.meta.name ≡ e.0 = ap (λ n. record { kind = kinds.Secret; namespace = n; name = k.meta.name }) (sym spaces) ∙ own in
    ap (option_and_then (next_named m c)) is.named ∙ ap (λ (q : Key). option_and_then (next_in c) (object_at m q)) key ∙ ap (option_and_then (next_in c)) stood ∙ ap (next_in c) (sym fits.0) ∙ from.2

-- ---- the request

only_by : (b : Bool) (f : CertificateRequest → Bool) (rs : List CertificateRequest) (r : CertificateRequest) → (if b then find_first f rs else None) ≡ Some r → IsAmong r rs
only_by true f rs r is = found_among f rs r is
only_by false f rs r is = absurd (cc is)

only_among : (n : ℕ) (rs : List CertificateRequest) (r : CertificateRequest) → only_of n rs ≡ Some r → IsAmong r rs
unfolding only_of
only_among n rs r is = only_by (length (filter (λ q. is_of_revision n q) rs) == 1) (λ q. is_of_revision n q) rs r is

request_owned : (c : Certificate) (o : Object) (r : CertificateRequest) → owned_in c o ≡ Some r → is_owned c r.meta ≡ true
request_owned c (Cert d) r is = absurd (cc is)
request_owned c (Secret k) r is = absurd (cc is)
request_owned c (Request q) r is = by (is_owned c q.meta) refl is where
  by : (b : Bool) → is_owned c q.meta ≡ b → (if b then Some q else None) ≡ Some r → is_owned c r.meta ≡ true
  by true e is = let one : q ≡ r = cc is in subst (λ (i : CertificateRequest). is_owned c i.meta ≡ true) one e
  by false e is = absurd (cc is)

progress_owned : (ws : List Write) (row : Row) (c : Certificate) (r : CertificateRequest) → request_in_progress ws row c ≡ Some r → is_owned c r.meta ≡ true
progress_owned ws row c r is =
    let m = cached kinds.CertificateRequest ws row.reach.requests in
    let from = picked (λ (e : Key × Object). owned_in c e.1) (maps.entries m) r (only_among (revision_of_uid c.meta.uid ws + 1) (requests_of m c) r is) in
    request_owned c from.0.1 r from.2

certificate_there : (x : Option Object) (c : Certificate) → option_and_then certificate_part x ≡ Some c → x ≡ Some (Cert c)
certificate_there None c is = absurd (cc is)
certificate_there (Some (Cert d)) c is = let one : d ≡ c = cc is in ap (λ (e : Certificate). Some (Cert e)) one
certificate_there (Some (Request r)) c is = absurd (cc is)
certificate_there (Some (Secret k)) c is = absurd (cc is)

-- ---- both ways

signed_so : (b : Bool) (A B C D : Type 0) → (A → C) → (B → D) → MatchBool b A B → MatchBool b C D
signed_so true A B C D f g is = f is
signed_so false A B C D f g is = g is

-- no more is denied by the end of the whole
abbrev pub DeniesNoMore : Setting → List Entry → List Entry → Type 0
DeniesNoMore s whole h = (uid : ℕ) → is_denied_uid uid (writes s whole) ≡ is_denied_uid uid (writes s h)

-- what is kept of the pass
abbrev pub KeptRow : Setting → List Entry → ℕ → Row → OpenPass → Type 0
KeptRow s h pass row p = IsRow (writes s h) (λ v. has_found pass v h) (saved pass h) (last_judged pass h) (λ v. approved pass v h) row p

pub kept_good : (s : Setting) (whole h : List Entry) (pass : ℕ) (row : Row) (p : OpenPass) (written : SecretObject) → IsAnswered s h → DeniesNoMore s whole h → KeptRow s h pass row p → p.role ≡ roles.Issuing
    → IsKeptIssue (writes s h) row written → IsGoodIssue s whole h pass p written
kept_good s whole h pass row p written right denied is issuing kept =
    let ws : List Write = writes s h in
    let law = lawful s h right in
    let sees = saw ws (λ v. has_found pass v h) (saved pass h) (last_judged pass h) (λ v. approved pass v h) row p is issuing in
    let c = there (certificate_at (cached kinds.Certificate ws row.reach.certificates) row.key) (IsIssueOf ws row written) kept.issue in
    let r = there (request_in_progress ws row c.0) (IsIssueFor ws row c.0 written) c.2 in
    let k = there (next_key_at (cached kinds.Secret ws row.reach.secrets) c.0) (IsIssueBy ws c.0 r.0 row.since written) r.2.key in
    let f = there (key_in k.0) (λ file. IsIssueWith ws c.0 r.0 file row.since written) k.2 in
    let key = next_key ws row c.0 k.0 law k.1 in
    let stood = cached_version kinds.Certificate ws row.reach.certificates row.key (Cert c.0) (certificate_there (object_at (cached kinds.Certificate ws row.reach.certificates) row.key) c.0 c.1) in
    record {
      certificate = c.0;
      sees = sees.certificate ∙ c.1;
      read = read_stands s pass row.key c.0 h right stood (sym (is.read c.0 c.1) ∙ kept.read);
      request = r.0;
      next = ap (only_of (revision_of_uid c.0.meta.uid ws + 1)) (sees.requests ∙ ap (of_certificate (requests_of (cached kinds.CertificateRequest ws row.reach.requests))) c.1) ∙ r.1;
      owned = progress_owned ws row c.0 r.0 r.1;
      matches = r.2.matches;
      key = k.0;
      named = key.named;
      among = subst (λ (l : List SecretObject). IsAmong k.0 l) (sym (sees.next ∙ ap (of_certificate (next_of (cached kinds.Secret ws row.reach.secrets))) c.1)) key.among;
      labelled = key.labelled;
      key_owned = key.owned;
      file = f.0;
      is_key = f.1;
      namespace = r.2.target.namespace;
      name = r.2.target.name;
      unlabelled = r.2.target.unlabelled;
      has_key = f.2.keyed.has_key;
      fields = f.2.keyed.pair.0;
      pair = f.2.keyed.pair.1;
      requested = f.2.keyed.requested;
      signed = signed_so (is_temporary written) (IsTemporaryWrite c.0 r.0 f.0 row.since written) (IsIssuers ws r.0 written) (IsTemporaryCertificate c.0 r.0 f.0 p.since written) (IsOfIssuer s whole r.0 written)
          (λ x. let made = there (temporary r.0.spec.request f.0 row.since) (λ m. certificate_file_in written ≡ Some m) x.stand_in in
          record { asked_for = x.asked_for; not_denied = x.not_denied; stand_in = made.0; is_stand_in = ap (temporary r.0.spec.request f.0) (sym is.since) ∙ made.1; certificate = made.2; no_ca = x.no_ca })
          (λ x. record { approved = x.approved; never_denied = never_denied s whole r.0 (denied r.0.meta.uid ∙ x.never_denied); issued = x.issued; certificate = x.certificate }) f.2.signed;
    }

pub good_kept : (s : Setting) (whole h : List Entry) (pass : ℕ) (row : Row) (p : OpenPass) (written : SecretObject) → IsAnswered s h → DeniesNoMore s whole h → KeptRow s h pass row p → p.role ≡ roles.Issuing
    → IsGoodIssue s whole h pass p written → IsKeptIssue (writes s h) row written
good_kept s whole h pass row p written right denied is issuing g =
    let ws : List Write = writes s h in
    let law = lawful s h right in
    let sees = saw ws (λ v. has_found pass v h) (saved pass h) (last_judged pass h) (λ v. approved pass v h) row p is issuing in
    let at : certificate_at (cached kinds.Certificate ws row.reach.certificates) row.key ≡ Some g.certificate = sym sees.certificate ∙ g.sees in
    let requests : p.seen.requests ≡ requests_of (cached kinds.CertificateRequest ws row.reach.requests) g.certificate = sees.requests ∙ ap (of_certificate (requests_of (cached kinds.CertificateRequest ws row.reach.requests))) at in
    let keys : p.seen.next ≡ next_of (cached kinds.Secret ws row.reach.secrets) g.certificate = sees.next ∙ ap (of_certificate (next_of (cached kinds.Secret ws row.reach.secrets))) at in
    let next : request_in_progress ws row g.certificate ≡ Some g.request = ap (only_of (revision_of_uid g.certificate.meta.uid ws + 1)) (sym requests) ∙ g.next in
    let key : IsNextKey ws row g.certificate g.key = record { named = g.named; among = subst (λ (l : List SecretObject). IsAmong g.key l) keys g.among; labelled = g.labelled; owned = g.key_owned } in
    let signed : IsSignedWrite ws g.certificate g.request g.file row.since written =
    signed_so (is_temporary written) (IsTemporaryCertificate g.certificate g.request g.file p.since written) (IsOfIssuer s whole g.request written) (IsTemporaryWrite g.certificate g.request g.file row.since written) (IsIssuers ws g.request written)
    (λ x. record { asked_for = x.asked_for; not_denied = x.not_denied; stand_in = here (temporary g.request.spec.request g.file row.since) (λ m. certificate_file_in written ≡ Some m) x.stand_in (ap (temporary g.request.spec.request g.file) is.since ∙ x.is_stand_in) x.certificate; no_ca = x.no_ca })
    (λ x. record { approved = x.approved; never_denied = sym (denied g.request.meta.uid) ∙ none_denied s whole g.request x.never_denied; issued = x.issued; certificate = x.certificate }) g.signed in
    let with_file : IsIssueWith ws g.certificate g.request g.file row.since written = record { keyed = record { has_key = g.has_key; pair = (g.fields, g.pair); requested = g.requested }; signed = signed } in
    let for_request : IsIssueFor ws row g.certificate written g.request =
    record {
      matches = g.matches;
      target = record { namespace = g.namespace; name = g.name; unlabelled = g.unlabelled };
      key = here (next_key_at (cached kinds.Secret ws row.reach.secrets) g.certificate) (IsIssueBy ws g.certificate g.request row.since written) g.key (next_found ws row g.certificate g.key law key)
          (here (key_in g.key) (λ file. IsIssueWith ws g.certificate g.request file row.since written) g.file g.is_key with_file);
    } in
    record {
      read = is.read g.certificate at ∙ stands_read pass g.certificate h g.read;
      issue = here (certificate_at (cached kinds.Certificate ws row.reach.certificates) row.key) (IsIssueOf ws row written) g.certificate at
          (here (request_in_progress ws row g.certificate) (IsIssueFor ws row g.certificate written) g.request next for_request);
    }
