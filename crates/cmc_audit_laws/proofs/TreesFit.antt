-- The trees of entries: members in order, whole numbers of 64 bits, and few levels.
use Rattle.std.proofs.Common.{◌≡◌, ◌<◌, ◌≤◌, ◌+◌, ◌-◌, ◌^◌, ◌++◌, ℕ, ℤ, zero, suc, List, [], ◌∷◌, Bool, true, false, Option, Some, None, map, refl, ap, subst, ◌∙◌, arith}
use Rattle.std.specs.Prelude.{IfSome, codes, decimal}
use Rattle.std.specs.declared.cmp.Ordering.{Ordering}
use Rattle.std.specs.declared.cmp.Ordering.TheVariants.{Less, Equal, Greater}
use Rattle.std.specs.Ordering.{nat_cmp, match_ordering, ordering_reverse}
use Rattle.std.specs.Cmp.Lexicographic.{slice_cmp}
use Rattle.std.proofs.lemmas.Cmp.{nat_list_cmp_total}
use Rattle.serde_json.specs.Data.{Data, boolean, string, array, object, Items, no_items, item, Members, no_members, member, put}
use Rattle.serde_json.specs.View.{items_of}
use Rattle.cmc_meta.specs.declared.key.Kind.{Kind}
use Rattle.cmc_meta.specs.declared.key.Key.{Key}
use Rattle.cmc_meta.specs.declared.conditions.Condition.{Condition}
use Rattle.cmc_meta.specs.declared.object_meta.ObjectMeta.{ObjectMeta}
use Rattle.cmc_meta.specs.declared.owners.OwnerRef.{OwnerRef}
use Rattle.cmc_objects.specs.declared.issuer.IssuerRef.{IssuerRef}
use Rattle.cmc_objects.specs.declared.key_spec.KeySpec.{KeySpec}
use Rattle.cmc_objects.specs.declared.certificate.CertSpec.{CertSpec}
use Rattle.cmc_objects.specs.declared.certificate.CertStatus.{CertStatus}
use Rattle.cmc_objects.specs.declared.request.RequestSpec.{RequestSpec}
use Rattle.cmc_objects.specs.declared.request.RequestStatus.{RequestStatus}
use Rattle.cmc_objects.specs.declared.object.Object.{Object}
use Rattle.cmc_objects.specs.declared.object.Object.TheVariants.{Cert, Request, Secret}
use Rattle.cmc_objects.specs.declared.role.Role.{Role}
use Rattle.cmc_objects.specs.declared.call.Call.{Call}
use Rattle.cmc_objects.specs.declared.call.Call.TheVariants.{Create, Update, UpdateStatus, Delete, Get}
use Rattle.cmc_objects.specs.declared.call.Reply.{Reply}
use Rattle.cmc_objects.specs.declared.call.Reply.TheVariants as replies
use Rattle.cmc_objects.specs.declared.orders.Order.{Order}
use Rattle.cmc_objects.specs.declared.orders.Order.TheVariants as orders
use Rattle.cmc_objects.specs.declared.orders.Signing.{Signing}
use Rattle.cmc_objects.specs.declared.orders.Signing.TheVariants as answers
use Rattle.cmc_objects.specs.declared.entry.Who.{Who}
use Rattle.cmc_objects.specs.declared.entry.Who.TheVariants.{User, Pass}
use Rattle.cmc_objects.specs.declared.entry.Cause.{Cause}
use Rattle.cmc_objects.specs.declared.entry.Cause.TheVariants as causes
use Rattle.cmc_objects.specs.declared.entry.Positions.{Positions}
use Rattle.cmc_objects.specs.declared.entry.Entry.{Entry}
use Rattle.cmc_objects.specs.declared.entry.Entry.TheVariants.{Script, Call as Called, Deliver, List as Listed, Begin, Ask, Made, Signed, Answered, Judged, End, Stop, Start, Tick}
use Rattle.cmc_objects.specs.Objects.{meta_of, kind_of, version_of}
use Rattle.cmc_print.specs.Trees.{natural}
use Rattle.cmc_print.specs.Puts.{put_option, put_list, put_true, put_object, strings, base64_text, put_all, map_tree}
use Rattle.cmc_print.specs.Words.{algorithm_name, encoding_name, rotation_name, kind_name, role_name}
use Rattle.cmc_print.specs.Printed.{moment_tree, duration_tree, owner_tree, owners_tree, meta_members, meta_tree, condition_tree, conditions_tree, issuer_tree, key_members, put_references, put_names, put_terms, spec_tree, request_tree, put_moments, status_members, request_status_members, head_members, put_body, object_tree}
use Rattle.cmc_summary.specs.declared.summary.Summary.{Summary}
use Rattle.cmc_summary.specs.declared.summary.Waiting.{Waiting}
use Rattle.cmc_report.specs.Trees.{waiting_tree, counts_tree, summary_tree, lone, ok_members, conflict_tree, reply_tree, who_tree, put_written, put_version, put_call, put_request, key_order_tree, csr_order_tree, sign_order_tree, judge_order_tree, order_tree, issued_tree, answer_tree, put_told, positions_tree, put_begin, cause_tree, put_named, put_pass, put_entry, entry_tree}
use Rattle.cmc_audit_laws.specs.Typed.{IsSmall, IsWide, IsTypedSpec, IsTypedStatus, IsTypedObject, IsTypedCall}
use Rattle.cmc_audit_laws.specs.Counted.{IsCount, IsCountedWho, IsCountedCall, IsCountedReply, IsCountedOrder, IsCountedCause, AreCounted, IsCountedEntry}
use Rattle.cmc_audit_laws.specs.Typed.{IsTypedEntry}
use Rattle.cmc_audit_laws.proofs.TextsRead.{IsBefore, Fits, ItemsFit, MembersFit}

-- ---- members that are put

pub before_next : (k j : List ℕ) (ms : Members) → slice_cmp nat_cmp k j ≡ Less → IsBefore j ms → IsBefore k ms
before_next k j no_members h before = tt
before_next k j (member l d ms) h before = (nat_list_cmp_total.trans k j l h before.0, before_next k j ms h before.1)

before_placed : (o : Ordering) (k j l : List ℕ) (d e : Data) (ms rest : Members) → slice_cmp nat_cmp k j ≡ Less → IsBefore k (member l e ms) → IsBefore k rest
    → IsBefore k (match_ordering o (member j d (member l e ms)) (member l d ms) (member l e rest))
before_placed Less k j l d e ms rest h before later = (h, before)
before_placed Equal k j l d e ms rest h before later = before
before_placed Greater k j l d e ms rest h before later = (before.0, later)

pub before_put : (k j : List ℕ) (d : Data) (ms : Members) → slice_cmp nat_cmp k j ≡ Less → IsBefore k ms → IsBefore k (put j d ms)
before_put k j d no_members h before = (h, tt)
before_put k j d (member l e ms) h before = before_placed (slice_cmp nat_cmp j l) k j l d e ms (put j d ms) h before (before_put k j d ms h before.1)

pub reversed : (j k : List ℕ) (o : Ordering) → slice_cmp nat_cmp k j ≡ o → slice_cmp nat_cmp j k ≡ ordering_reverse o
reversed j k o h = nat_list_cmp_total.antisymm j k ∙ ap ordering_reverse h

fit_placed : (n : ℕ) (o : Ordering) (k l : List ℕ) (d e : Data) (ms rest : Members) → slice_cmp nat_cmp k l ≡ o → Fits n d → MembersFit n (member l e ms) → (slice_cmp nat_cmp l k ≡ Less → IsBefore l rest) → MembersFit n rest
    → MembersFit n (match_ordering o (member k d (member l e ms)) (member l d ms) (member l e rest))
fit_placed n Less k l d e ms rest h fits all before later = (fits, ((h, before_next k l ms h all.1.0), all))
fit_placed n Equal k l d e ms rest h fits all before later = (fits, all.1)
fit_placed n Greater k l d e ms rest h fits all before later = (all.0, (before (reversed l k Greater h), later))

put_fits : (n : ℕ) (k : List ℕ) (d : Data) (ms : Members) → Fits n d → MembersFit n ms → MembersFit n (put k d ms)
put_fits n k d no_members fits all = (fits, (tt, tt))
put_fits n k d (member l e ms) fits all =
    fit_placed n (slice_cmp nat_cmp k l) k l d e ms (put k d ms) refl fits all (λ h. before_put l k d ms h all.1.0) (put_fits n k d ms fits all.1.1)

-- ---- trees and members that fit

pub record Fit (n : ℕ) (d : Data) : Type 0 where
  pub is : Fits n d

pub record AllFit (n : ℕ) (ms : Members) : Type 0 where
  is : MembersFit n ms

pub none : {n : ℕ} → AllFit n no_members
none = record { is = tt }

pub with_one : {n : ℕ} {d : Data} {ms : Members} (k : List ℕ) → Fit n d → AllFit n ms → AllFit n (put k d ms)
with_one {n} {d} {ms} k one all = record { is = put_fits n k d ms one.is all.is }

with_option : {n : ℕ} {A : Type 0} {ms : Members} (tree : A → Data) (k : List ℕ) (o : Option A) → IfSome o (λ x. Fit n (tree x)) → AllFit n ms → AllFit n (put_option tree k o ms)
with_option tree k None one all = all
with_option tree k (Some x) one all = with_one k one all

pub with_list : {n : ℕ} {A : Type 0} {ms : Members} (tree : List A → Data) (k : List ℕ) (xs : List A) → Fit n (tree xs) → AllFit n ms → AllFit n (put_list tree k xs ms)
with_list tree k [] one all = all
with_list tree k (x ∷ xs) one all = with_one k one all

pub text : {n : ℕ} (s : List ℕ) → Fit n (string s)
text s = record { is = tt }

pub count : {n : ℕ} (x : ℕ) → x < 2 ^ 64 → Fit n (natural x)
count x low = record { is = low }

flag : {n : ℕ} (b : Bool) → Fit n (boolean b)
flag b = record { is = tt }

with_true : {n : ℕ} {ms : Members} (k : List ℕ) (b : Bool) → AllFit n ms → AllFit n (put_true k b ms)
with_true k false all = all
with_true k true all = with_one k (flag true) all

below_one : (n : ℕ) → n ≡ suc n - 1
below_one n = omega arith

pub whole : {n : ℕ} {ms : Members} → AllFit n ms → Fit (suc n) (object ms)
whole {n} {ms} all = record { is = (omega arith, subst (λ m. MembersFit m ms) (below_one n) all.is) }

pub with_object : {n : ℕ} {ms : Members} (k : List ℕ) (inner : Members) → Fit n (object inner) → AllFit n ms → AllFit n (put_object k inner ms)
with_object k no_members one all = all
with_object k (member l d rest) one all = with_one k one all

all_items : {A : Type 0} (n : ℕ) (tree : A → Data) (xs : List A) → ((x : A) → Fit n (tree x)) → ItemsFit n (items_of (map tree xs))
all_items n tree [] each = tt
all_items n tree (x ∷ xs) each = ((each x).is, all_items n tree xs each)

pub listed : {n : ℕ} {A : Type 0} (tree : A → Data) (xs : List A) → ((x : A) → Fit n (tree x)) → Fit (suc n) (array (items_of (map tree xs)))
listed {n} tree xs each = record { is = (omega arith, subst (λ m. ItemsFit m (items_of (map tree xs))) (below_one n) (all_items n tree xs each)) }

with_all : {n : ℕ} (tree : List ℕ → Data) (ps : List (List ℕ × List ℕ)) (ms : Members) → ((v : List ℕ) → Fit n (tree v)) → AllFit n ms → AllFit n (put_all tree ps ms)
with_all tree [] ms each all = all
with_all tree (p ∷ ps) ms each all = with_all tree ps (put p.0 (tree p.1) ms) each (with_one p.0 (each p.1) all)

mapped : {n : ℕ} (tree : List ℕ → Data) (ps : List (List ℕ × List ℕ)) → ((v : List ℕ) → Fit n (tree v)) → Fit (suc n) (map_tree tree ps)
mapped tree ps each = whole (with_all tree ps no_members each none)

texts : {n : ℕ} (ts : List (List ℕ)) → Fit (suc n) (strings ts)
texts ts = listed string ts text

octets : {n : ℕ} (bytes : List ℕ) → Fit n (base64_text bytes)
octets bytes = text _

-- ---- objects

owner : {n : ℕ} (o : OwnerRef) → Fit (suc n) (owner_tree o)
unfolding owner_tree
owner o = whole (with_true (codes "controller") o.controller (with_one (codes "uid") (text _) (with_one (codes "name") (text o.name) (with_one (codes "kind") (text _) none))))

pub meta : {n : ℕ} (m : ObjectMeta) → Fit (suc (suc (suc n))) (meta_tree m)
unfolding meta_tree meta_members
meta m = whole
    (with_list owners_tree (codes "ownerReferences") m.owners (listed owner_tree m.owners owner)
    (with_list (map_tree string) (codes "annotations") m.annotations (mapped string m.annotations text)
    (with_list (map_tree string) (codes "labels") m.labels (mapped string m.labels text)
    (with_one (codes "namespace") (text m.namespace)
    (with_one (codes "name") (text m.name) none)))))

condition : {n : ℕ} (c : Condition) → Fit (suc n) (condition_tree c)
unfolding condition_tree
condition c = whole
    (with_one (codes "lastTransitionTime") (text _)
    (with_one (codes "message") (text c.message)
    (with_one (codes "reason") (text c.reason)
    (with_one (codes "status") (text _)
    (with_one (codes "type") (text _) none)))))

conditions : {n : ℕ} (cs : List Condition) → Fit (suc (suc n)) (conditions_tree cs)
conditions cs = listed condition_tree cs condition

given_text : {A : Type 0} (n : ℕ) (write : A → List ℕ) (o : Option A) → IfSome o (λ x. Fit n (string (write x)))
given_text n write None = tt
given_text n write (Some x) = text (write x)

given_small : (n : ℕ) (o : Option ℕ) → IsSmall o → IfSome o (λ x. Fit n (natural x))
given_small n None low = tt
given_small n (Some x) low = count x (omega (arith, low))

given_wide : (n : ℕ) (o : Option ℕ) → IsWide o → IfSome o (λ x. Fit n (natural x))
given_wide n None low = tt
given_wide n (Some x) low = count x low

issuer : {n : ℕ} (i : IssuerRef) → Fit (suc n) (issuer_tree i)
unfolding issuer_tree
issuer i = whole
    (with_option string (codes "group") i.group (given_text _ (λ t. t) i.group)
    (with_option string (codes "kind") i.kind (given_text _ (λ t. t) i.kind)
    (with_one (codes "name") (text i.name) none)))

key : {n : ℕ} (k : KeySpec) → IsSmall k.size → Fit (suc n) (object (key_members k))
unfolding key_members
key k size = whole
    (with_option (λ r. string (rotation_name r)) (codes "rotationPolicy") k.rotation (given_text _ rotation_name k.rotation)
    (with_option (λ e. string (encoding_name e)) (codes "encoding") k.encoding (given_text _ encoding_name k.encoding)
    (with_option natural (codes "size") k.size (given_small _ k.size size)
    (with_option (λ a. string (algorithm_name a)) (codes "algorithm") k.algorithm (given_text _ algorithm_name k.algorithm) none))))

given_duration : (n : ℕ) (o : Option ℕ) → IfSome o (λ x. Fit n (duration_tree x))
given_duration n None = tt
given_duration n (Some x) = text _

given_moment : (n : ℕ) (o : Option ℤ) → IfSome o (λ x. Fit n (moment_tree x))
given_moment n None = tt
given_moment n (Some x) = text _

references : {n : ℕ} (s : CertSpec) {ms : Members} → IsTypedSpec s → AllFit (suc n) ms → AllFit (suc n) (put_references s ms)
unfolding put_references
references s typed all =
    with_object (codes "privateKey") (key_members s.key) (key s.key typed.size)
    (with_one (codes "issuerRef") (issuer s.issuer) (with_one (codes "secretName") (text s.secret_name) all))

names : {n : ℕ} (s : CertSpec) {ms : Members} → AllFit (suc n) ms → AllFit (suc n) (put_names s ms)
unfolding put_names
names s all =
    with_list strings (codes "uris") s.uris (texts s.uris)
    (with_list strings (codes "ipAddresses") s.ip_addresses (texts s.ip_addresses)
    (with_list strings (codes "emailAddresses") s.emails (texts s.emails)
    (with_list strings (codes "dnsNames") s.dns_names (texts s.dns_names)
    (with_list string (codes "commonName") s.common_name (text s.common_name) all))))

terms : {n : ℕ} (s : CertSpec) {ms : Members} → IsTypedSpec s → AllFit n ms → AllFit n (put_terms s ms)
unfolding put_terms
terms s typed all =
    with_option natural (codes "revisionHistoryLimit") s.history_limit (given_small _ s.history_limit typed.limit)
    (with_option natural (codes "renewBeforePercentage") s.renew_percent (given_small _ s.renew_percent typed.percent)
    (with_option duration_tree (codes "renewBefore") s.renew_before (given_duration _ s.renew_before)
    (with_option duration_tree (codes "duration") s.duration (given_duration _ s.duration) all)))

pub spec : {n : ℕ} (s : CertSpec) → IsTypedSpec s → Fit (suc (suc n)) (spec_tree s)
unfolding spec_tree
spec s typed = whole
    (with_list strings (codes "usages") s.usages (texts s.usages)
    (with_true (codes "isCA") s.is_ca (terms s typed (names s (references s typed none)))))

request : {n : ℕ} (s : RequestSpec) → Fit (suc (suc n)) (request_tree s)
unfolding request_tree
request s = whole
    (with_list strings (codes "usages") s.usages (texts s.usages)
    (with_true (codes "isCA") s.is_ca
    (with_option duration_tree (codes "duration") s.duration (given_duration _ s.duration)
    (with_one (codes "issuerRef") (issuer s.issuer) (with_one (codes "request") (octets s.request) none)))))

moments : {n : ℕ} (s : CertStatus) {ms : Members} → AllFit n ms → AllFit n (put_moments s ms)
unfolding put_moments
moments s all =
    with_option moment_tree (codes "renewalTime") s.renewal (given_moment _ s.renewal)
    (with_option moment_tree (codes "notAfter") s.not_after (given_moment _ s.not_after)
    (with_option moment_tree (codes "notBefore") s.not_before (given_moment _ s.not_before)
    (with_option moment_tree (codes "lastFailureTime") s.last_failure (given_moment _ s.last_failure) all)))

status : {n : ℕ} (s : CertStatus) → IsTypedStatus s → Fit (suc (suc (suc n))) (object (status_members s))
unfolding status_members
status s typed = whole
    (with_option string (codes "nextPrivateKeySecretName") s.next_key (given_text _ (λ t. t) s.next_key)
    (with_option natural (codes "revision") s.revision (given_wide _ s.revision typed.revision)
    (with_option natural (codes "failedIssuanceAttempts") s.attempts (given_small _ s.attempts typed.attempts)
    (moments s (with_list conditions_tree (codes "conditions") s.conditions (conditions s.conditions) none)))))

answer_status : {n : ℕ} (s : RequestStatus) → Fit (suc (suc (suc n))) (object (request_status_members s))
unfolding request_status_members
answer_status s = whole
    (with_option moment_tree (codes "failureTime") s.failure (given_moment _ s.failure)
    (with_list base64_text (codes "ca") s.ca (octets s.ca)
    (with_list base64_text (codes "certificate") s.certificate (octets s.certificate)
    (with_list conditions_tree (codes "conditions") s.conditions (conditions s.conditions) none))))

head : {n : ℕ} (o : Object) → AllFit (suc (suc (suc n))) (head_members o)
unfolding head_members
head o = with_one (codes "metadata") (meta (meta_of o)) (with_one (codes "kind") (text _) (with_one (codes "apiVersion") (text _) none))

body : {n : ℕ} (o : Object) {ms : Members} → IsTypedObject o → AllFit (suc (suc (suc n))) ms → AllFit (suc (suc (suc n))) (put_body o ms)
body (Cert c) typed all = with_object (codes "status") (status_members c.status) (status c.status typed.status) (with_one (codes "spec") (spec c.spec typed.spec) all)
body (Request r) typed all = with_object (codes "status") (request_status_members r.status) (answer_status r.status) (with_one (codes "spec") (request r.spec) all)
body (Secret k) typed all = with_list (map_tree base64_text) (codes "data") k.parts (mapped base64_text k.parts octets) (with_one (codes "type") (text k.kind_text) all)

an_object : {n : ℕ} (o : Object) → IsTypedObject o → Fit (suc (suc (suc (suc n)))) (object_tree o)
unfolding object_tree
an_object o typed = whole (body o typed (head o))

-- ---- calls

alone : {n : ℕ} (name : List ℕ) (x : ℕ) → IsCount x → Fit (suc n) (lone name x)
alone name x low = whole (with_one name (count x low) none)

served : {n : ℕ} (call : Call) (version : ℕ) (name : List ℕ) → IsCount version → Fit (suc n) (object (ok_members call version name))
served (Create o generate) version name low = whole (with_one (codes "name") (text name) (with_one (codes "ok") (count version low) none))
served (Update o v) version name low = alone (codes "ok") version low
served (UpdateStatus o v) version name low = alone (codes "ok") version low
served (Delete k v) version name low = alone (codes "ok") version low
served (Get k) version name low = alone (codes "ok") version low

conflict : {n : ℕ} (named have : ℕ) → IsCount named → IsCount have → Fit (suc (suc n)) (conflict_tree named have)
unfolding conflict_tree
conflict named have a b = whole (with_one (codes "conflict") (whole (with_one (codes "named") (count named a) (with_one (codes "have") (count have b) none))) none)

reply : {n : ℕ} (call : Call) (r : Reply) → IsCountedReply r → Fit (suc (suc n)) (reply_tree call r)
unfolding reply_tree
reply call (replies.Ok version name) low = served call version name low
reply call (replies.Unchanged version) low = alone (codes "unchanged") version low
reply call (replies.Found o) low = alone (codes "found") (version_of o) low
reply call (replies.Conflict named have) low = conflict named have low.0 low.1
reply call (replies.NotFound at) low = alone (codes "notFound") at low
reply call (replies.AlreadyExists have) low = alone (codes "alreadyExists") have low
reply call (replies.Invalid rule) low = alone (codes "invalid") rule low
reply call (replies.Unavailable n) low = alone (codes "unavailable") n low

who : {n : ℕ} (w : Who) → IsCountedWho w → Fit n (who_tree w)
who User low = text _
who (Pass pass) low = count pass low

written : {n : ℕ} (call : Call) {ms : Members} → IsTypedCall call → AllFit (suc (suc (suc (suc n)))) ms → AllFit (suc (suc (suc (suc n)))) (put_written call ms)
written (Create o generate) typed all = with_one (codes "object") (an_object o typed) all
written (Update o v) typed all = with_one (codes "object") (an_object o typed) all
written (UpdateStatus o v) typed all = with_one (codes "object") (an_object o typed) all
written (Delete k v) typed all = all
written (Get k) typed all = all

version : {n : ℕ} (call : Call) {ms : Members} → IsCountedCall call → AllFit n ms → AllFit n (put_version call ms)
version (Create o generate) low all = all
version (Update o v) low all = with_one (codes "version") (count v low) all
version (UpdateStatus o v) low all = with_one (codes "version") (count v low) all
version (Delete k None) low all = all
version (Delete k (Some v)) low all = with_one (codes "version") (count v low) all
version (Get k) low all = all

called : {n : ℕ} (w : Who) (call : Call) (r : Reply) {ms : Members} → IsTypedCall call → IsCountedWho w → IsCountedCall call → IsCountedReply r → AllFit (suc (suc (suc (suc n)))) ms
    → AllFit (suc (suc (suc (suc n)))) (put_call (who_tree w) call r ms)
unfolding put_call
called w call r typed by low served_low all =
    with_one (codes "who") (who w by)
    (version call low
    (with_one (codes "reply") (reply call r served_low)
    (written call typed
    (with_one (codes "key") (text _)
    (with_one (codes "call") (text _)
    (with_one (codes "is") (text _) all))))))

-- ---- orders and answers

asked : {n : ℕ} (m : ObjectMeta) {ms : Members} → IsCount m.version → AllFit n ms → AllFit n (put_request m ms)
asked m low all = with_one (codes "version") (count m.version low) (with_one (codes "request") (text _) all)

order : {n : ℕ} (o : Order) → IsCountedOrder o → Fit (suc n) (order_tree o)
unfolding key_order_tree csr_order_tree sign_order_tree judge_order_tree
order (orders.Key o) low = whole (with_one (codes "number") (count o.number low) (with_one (codes "certificate") (text _) (with_one (codes "is") (text _) none)))
order (orders.Csr o) low = whole (with_one (codes "key") (octets o.key) (with_one (codes "body") (octets o.body) (with_one (codes "is") (text _) none)))
order (orders.Sign o) low = whole (asked o.request.meta low.1 (with_one (codes "number") (count o.number low.0) (with_one (codes "is") (text _) none)))
order (orders.Judge o) low = whole (asked o.request.meta low (with_one (codes "is") (text _) none))

answer : {n : ℕ} (a : Signing) → Fit (suc n) (answer_tree a)
unfolding issued_tree
answer (answers.Issued certificate ca) = whole (with_list base64_text (codes "ca") ca (octets ca) (with_one (codes "certificate") (octets certificate) (with_one (codes "is") (text _) none)))
answer answers.Pending = whole (with_one (codes "is") (text _) none)
answer (answers.Failed message) = whole (with_one (codes "message") (text message) (with_one (codes "is") (text _) none))

cause : {n : ℕ} (c : Cause) → IsCountedCause c → Fit (suc n) (cause_tree c)
cause causes.Wrote low = text _
cause causes.Nothing low = text _
cause (causes.Stopper entry) low = alone (codes "entry") entry low

-- ---- entries

told : {n : ℕ} (role : Role) (kind : Kind) (to : ℕ) {ms : Members} → IsCount to → AllFit n ms → AllFit n (put_told role kind to ms)
unfolding put_told
told role kind to low all = with_one (codes "to") (count to low) (with_one (codes "kind") (text _) (with_one (codes "role") (text _) all))

positions : {n : ℕ} (at : Positions) → AreCounted at → Fit (suc n) (positions_tree at)
unfolding positions_tree
positions at low = whole
    (with_one (codes "Secret") (count at.secrets low.secrets)
    (with_one (codes "CertificateRequest") (count at.requests low.requests)
    (with_one (codes "Certificate") (count at.certificates low.certificates) none)))

begun : {n : ℕ} (role : Role) (k : Key) (at : Positions) (now : ℤ) {ms : Members} → AreCounted at → AllFit (suc n) ms → AllFit (suc n) (put_begin role k at now ms)
unfolding put_begin
begun role k at now low all = with_one (codes "now") (text _) (with_one (codes "at") (positions at low) (with_one (codes "key") (text _) (with_one (codes "role") (text _) all)))

named : {n : ℕ} (word : List ℕ) (pass : ℕ) {ms : Members} → IsCount pass → AllFit n ms → AllFit n (put_named word pass ms)
named word pass low all = with_one (codes "pass") (count pass low) (with_one (codes "is") (text word) all)

entry : {n : ℕ} (e : Entry) {ms : Members} → IsTypedEntry e → IsCountedEntry e → AllFit (suc (suc (suc (suc n)))) ms → AllFit (suc (suc (suc (suc n)))) (put_entry e ms)
entry (Script step) typed low all = with_one (codes "step") (count step low) (with_one (codes "is") (text _) all)
entry (Called w call r) typed low all = called w call r typed.0 low.0 low.1.0 low.1.1 all
entry (Deliver role kind to) typed low all = told role kind to low (with_one (codes "is") (text _) all)
entry (Listed role kind to) typed low all = told role kind to low (with_one (codes "is") (text _) all)
entry (Begin pass role k at now) typed low all = begun role k at now low.1 (named (codes "begin") pass low.0 all)
entry (Stop role) typed low all = with_one (codes "role") (text _) (with_one (codes "is") (text _) all)
entry (Start role at) typed low all = with_one (codes "at") (count at low) (with_one (codes "role") (text _) (with_one (codes "is") (text _) all))
entry (Tick now) typed low all = with_one (codes "now") (text _) (with_one (codes "is") (text _) all)
entry (Ask pass o) typed low all = with_one (codes "order") (order o low.1) (named (codes "ask") pass low.0 all)
entry (Made pass k) typed low all = with_one (codes "key") (octets k) (named (codes "made") pass low all)
entry (Signed pass signature) typed low all = with_one (codes "signature") (octets signature) (named (codes "signed") pass low all)
entry (Answered pass a) typed low all = with_one (codes "answer") (answer a) (named (codes "answered") pass low all)
entry (Judged pass approved) typed low all = with_one (codes "yes") (flag approved) (named (codes "judged") pass low all)
entry (End pass c) typed low all = with_one (codes "cause") (cause c low.1) (named (codes "end") pass low.0 all)

pub entry_fits : (n : ℕ) (e : Entry) → IsCount n → IsTypedEntry e → IsCountedEntry e → Fits 5 (entry_tree n e)
unfolding entry_tree
entry_fits n e numbered typed low = (whole (entry {n = 0} e typed low (with_one (codes "n") (count n numbered) none))).is

-- ---- the summary

waiting : {n : ℕ} (w : Waiting) → Fit (suc n) (waiting_tree w)
unfolding waiting_tree
waiting w = whole (with_one (codes "wait") (text _) (with_one (codes "certificate") (text _) none))

counts : {n : ℕ} (s : Summary) → IsCount s.certificates → IsCount s.ready → IsCount s.secrets → Fit (suc (suc (suc n))) (counts_tree s)
unfolding counts_tree
counts s a b c = whole
    (with_one (codes "waiting") (listed waiting_tree s.waiting waiting)
    (with_one (codes "secrets") (count s.secrets c)
    (with_one (codes "ready") (count s.ready b)
    (with_one (codes "certificates") (count s.certificates a) none))))

pub summary_fits : (s : Summary) → IsCount s.certificates → IsCount s.ready → IsCount s.secrets → Fits 4 (summary_tree s)
unfolding summary_tree
summary_fits s a b c = (whole (with_one (codes "summary") (counts {n = 0} s a b c) none)).is
