-- What is read of the parts of a line is the call that they show.
use Rattle.std.proofs.Common.{◌≡◌, ℕ, suc, ◌+◌, List, [], ◌∷◌, ◌++◌, length, Bool, true, false, ◌&&◌, Option, Some, None, refl, sym, ap, subst, ◌∙◌, codes, arith, length-append}
use Rattle.std.specs.Prelude.{if◌then◌else◌, ◌==◌, not, nat_lt, nat_le, option_and_then, option_map, slice_index, ◌-◌}
use Rattle.std.specs.List.{position_or_len, list_all}
use Rattle.std.proofs.lemmas.Bool.{and_parts, and_from}
use Rattle.std.proofs.lemmas.Bool.Decides.{nat_tests}
use Rattle.std.proofs.Math.Seq.{take-append_seam, drop-append-add}
use Rattle.cmc_meta.specs.Names.{is_alphanumeric, is_label_byte, is_label, labels_from, has_labels, is_subdomain}
use Rattle.cmc_meta.specs.declared.key.Key.{Key}
use Rattle.cmc_meta.specs.declared.key.Kind.{Kind}
use Rattle.cmc_meta.specs.declared.key.Kind.TheVariants as kinds
use Rattle.cmc_objects.specs.declared.object.Object.{Object}
use Rattle.cmc_objects.specs.declared.object.Object.TheVariants.{Cert, Request, Secret}
use Rattle.cmc_objects.specs.declared.call.Call.{Call}
use Rattle.cmc_objects.specs.declared.call.Call.TheVariants.{Create, Update, UpdateStatus, Delete, Get}
use Rattle.cmc_print.specs.Words.{key_text, kind_name, name_text}
use Rattle.cmc_report.specs.Trees.{call_key}
use Rattle.cmc_lines.specs.declared.line.CallName.{CallName}
use Rattle.cmc_lines.specs.declared.line.CallName.TheVariants as names
use Rattle.cmc_lines.specs.Shown.{shown_given, shown_name, shown_object, shown_version}
use Rattle.cmc_audit_calls.specs.CallsOfLines.{HasCallNames, IsShownCall, IsOfNames, IsRead, IsShown, Shows, bare_call, call_of_parts, is_slash, key_of_names, key_of_printed, key_under, kind_read, name_read, split}

-- ---- no slash stands in a name

abbrev is_other : ℕ → Bool
is_other c = not (is_slash c)

all_left : (p : ℕ → Bool) (xs ys : List ℕ) → list_all p (xs ++ ys) ≡ true → list_all p xs ≡ true
all_left p [] ys a = refl
all_left p (x ∷ xs) ys a = let parts = and_parts (p x) (list_all p (xs ++ ys)) a in and_from (p x) (list_all p xs) parts.0 (all_left p xs ys parts.1)

all_last : (p : ℕ → Bool) (xs : List ℕ) (y : ℕ) → list_all p (xs ++ y ∷ []) ≡ true → p y ≡ true
all_last p [] y a = (and_parts (p y) true a).0
all_last p (x ∷ xs) y a = all_last p xs y (and_parts (p x) (list_all p (xs ++ y ∷ [])) a).1

label_bytes : (b : List ℕ) → is_label b ≡ true → list_all is_label_byte b ≡ true
unfolding is_label
label_bytes b is =
    let one = and_parts (nat_lt 0 (length b)) (is_alphanumeric (slice_index b 0) && (is_alphanumeric (slice_index b (length b - 1)) && list_all is_label_byte b)) is in
    let two = and_parts (is_alphanumeric (slice_index b 0)) (is_alphanumeric (slice_index b (length b - 1)) && list_all is_label_byte b) one.1 in
    (and_parts (is_alphanumeric (slice_index b (length b - 1))) (list_all is_label_byte b) two.1).1

-- where the labels are right, what has begun has only bytes of labels
begun_at : (e : Bool) (b cs : List ℕ) (c : ℕ) → (list_all is_label (labels_from (b ++ c ∷ []) cs) ≡ true → list_all is_label_byte (b ++ c ∷ []) ≡ true)
    → list_all is_label (if e then b ∷ labels_from [] cs else labels_from (b ++ c ∷ []) cs) ≡ true → list_all is_label_byte b ≡ true
begun_at true b cs c later is = label_bytes b (and_parts (is_label b) (list_all is_label (labels_from [] cs)) is).0
begun_at false b cs c later is = all_left is_label_byte b (c ∷ []) (later is)

begun_from : (b cs : List ℕ) → list_all is_label (labels_from b cs) ≡ true → list_all is_label_byte b ≡ true
begun_from b [] is = label_bytes b (and_parts (is_label b) true is).0
begun_from b (c ∷ cs) is = begun_at (c == 46) b cs c (begun_from (b ++ c ∷ []) cs) is

byte_other : (c : ℕ) → is_label_byte c ≡ true → is_other c ≡ true
byte_other c is = grind (arith, nat_tests)

dot_other : (c : ℕ) → (c == 46) ≡ true → is_other c ≡ true
dot_other c is = grind (arith, nat_tests)

others_at : (e : Bool) (b cs : List ℕ) (c : ℕ) → (c == 46) ≡ e → ((d : List ℕ) → list_all is_label (labels_from d cs) ≡ true → list_all is_other cs ≡ true)
    → list_all is_label (if e then b ∷ labels_from [] cs else labels_from (b ++ c ∷ []) cs) ≡ true → list_all is_other (c ∷ cs) ≡ true
others_at true b cs c at later is = and_from (is_other c) (list_all is_other cs) (dot_other c at) (later [] (and_parts (is_label b) (list_all is_label (labels_from [] cs)) is).1)
others_at false b cs c at later is = and_from (is_other c) (list_all is_other cs) (byte_other c (all_last is_label_byte b c (begun_from (b ++ c ∷ []) cs is))) (later (b ++ c ∷ []) is)

others_from : (b cs : List ℕ) → list_all is_label (labels_from b cs) ≡ true → list_all is_other cs ≡ true
others_from b [] is = refl
others_from b (c ∷ cs) is = others_at (c == 46) b cs c refl (λ d. others_from d cs) is

name_others : (name : List ℕ) → is_subdomain name ≡ true → list_all is_other name ≡ true
name_others name is = others_from [] name (and_parts (nat_le (length name) 253) (has_labels name) is).1

-- ---- the text is split at its slash

slash_at : (front back : List ℕ) → list_all is_other front ≡ true → position_or_len is_slash (front ++ 47 ∷ back) ≡ length front
slash_at [] back h = refl
slash_at (c ∷ cs) back h = let parts = and_parts (is_other c) (list_all is_other cs) h in rw (parts.0, slash_at cs back parts.1) (one_more (length cs))
  where
    one_more : (n : ℕ) → 1 + n ≡ suc n
    one_more n = omega arith

not_at_end : (n m k : ℕ) → k ≡ n + suc m → (n == k) ≡ false
not_at_end n m k e = grind (arith, nat_tests)

split_is : (front back : List ℕ) → list_all is_other front ≡ true → split (front ++ 47 ∷ back) ≡ Some (front, back)
split_is front back h =
    rw (slash_at front back h, not_at_end (length front) (length back) (length (front ++ 47 ∷ back)) (length-append front (47 ∷ back)), take-append_seam front (47 ∷ back), drop-append-add front (47 ∷ back) 1) refl

-- ---- keys

under_again : (key : Key) → IsOfNames key → key_under key.kind (name_text key) ≡ Some key
under_again key is = rw (split_is key.namespace key.name (name_others key.namespace is.0), is.0, is.1) refl

kind_again : (kind : Kind) → kind_read (kind_name kind) ≡ Some kind
kind_again kinds.Certificate = refl
kind_again kinds.CertificateRequest = refl
kind_again kinds.Secret = refl

kind_others : (kind : Kind) → list_all is_other (kind_name kind) ≡ true
kind_others kinds.Certificate = refl
kind_others kinds.CertificateRequest = refl
kind_others kinds.Secret = refl

key_again : (key : Key) → IsOfNames key → key_of_printed (key_text key) ≡ Some key
key_again key is = rw (split_is (kind_name key.kind) (name_text key) (kind_others key.kind), kind_again key.kind) (under_again key is)

-- ---- what is read of a key

read_name : (t name : List ℕ) → name_read t ≡ Some name → is_subdomain name ≡ true
read_name t name is = by (is_subdomain t) refl is where
  by : (b : Bool) → is_subdomain t ≡ b → (if b then Some t else None) ≡ Some name → is_subdomain name ≡ true
  by true on e = let same : t ≡ name = cc e in subst (λ (x : List ℕ). is_subdomain x ≡ true) same on
  by false off e = absurd (cc e)

read_names : (kind : Kind) (a b : Option (List ℕ)) (key : Key) → ((n : List ℕ) → a ≡ Some n → is_subdomain n ≡ true) → ((n : List ℕ) → b ≡ Some n → is_subdomain n ≡ true) → key_of_names kind a b ≡ Some key → IsOfNames key
read_names kind (Some namespace) (Some name) key one other e =
    let same : record { kind = kind; namespace = namespace; name = name } ≡ key = cc e in
    subst IsOfNames same (one namespace refl, other name refl)
read_names kind None b key one other e = absurd (cc e)
read_names kind (Some namespace) None key one other e = absurd (cc e)

and_then : {A B : Type 0} (f : A → Option B) (x : Option A) (y : B) → option_and_then f x ≡ Some y → (a : A) × (x ≡ Some a) × (f a ≡ Some y)
and_then f None y e = absurd (cc e)
and_then f (Some a) y e = (a, refl, e)

key_named : (t : List ℕ) (key : Key) → key_of_printed t ≡ Some key → IsOfNames key
key_named t key is =
    let parts = and_then (λ (p : List ℕ × List ℕ). option_and_then (λ kind. key_under kind p.1) (kind_read p.0)) (split t) key is in
    let kind = and_then (λ kind. key_under kind parts.0.1) (kind_read parts.0.0) key parts.2 in
    let both = and_then (λ (p : List ℕ × List ℕ). key_of_names kind.0 (name_read p.0) (name_read p.1)) (split parts.0.1) key kind.2 in
    read_names kind.0 (name_read both.0.0) (name_read both.0.1) key (read_name both.0.0) (read_name both.0.1) both.2

-- ---- calls

bare_twice : (o : Object) → shown_object (shown_object o) ≡ shown_object o
bare_twice (Cert c) = refl
bare_twice (Request r) = refl
bare_twice (Secret k) = refl

pub bare_again : (q : Call) → bare_call (bare_call q) ≡ bare_call q
bare_again (Create o generate) = ap (λ x. Create x generate) (bare_twice o)
bare_again (Update o v) = ap (λ x. Update x v) (bare_twice o)
bare_again (UpdateStatus o v) = ap (λ x. UpdateStatus x v) (bare_twice o)
bare_again (Delete k v) = refl
bare_again (Get k) = refl

bare_key : (q : Call) → call_key (bare_call q) ≡ call_key q
bare_key (Create (Cert c) true) = refl
bare_key (Create (Cert c) false) = refl
bare_key (Create (Request c) true) = refl
bare_key (Create (Request c) false) = refl
bare_key (Create (Secret c) true) = refl
bare_key (Create (Secret c) false) = refl
bare_key (Update (Cert c) v) = refl
bare_key (Update (Request c) v) = refl
bare_key (Update (Secret c) v) = refl
bare_key (UpdateStatus (Cert c) v) = refl
bare_key (UpdateStatus (Request c) v) = refl
bare_key (UpdateStatus (Secret c) v) = refl
bare_key (Delete k v) = refl
bare_key (Get k) = refl

again : (q : Call) → HasCallNames q → call_of_parts (shown_name q) (call_key q) (shown_given q) (shown_version q) ≡ Some (bare_call q)
again (Create o true) is = refl
again (Create o false) is = refl
again (Update o v) is = refl
again (UpdateStatus o v) is = refl
again (Delete k v) is = ap (option_map (λ x. Delete x v)) (key_again k is)
again (Get k) is = ap (option_map (λ x. Get x)) (key_again k is)

kept_is : (key : List ℕ) (call : Call) (read : Option Call) → IsShown key call → IsShownCall key (Some call) read → read ≡ Some call
kept_is key call None shown is = absurd (is shown)
kept_is key call (Some c) shown is = ap Some is.0

-- of a call with names what it shows is read, and nothing else
pub read_again : (q : Call) (read : Option Call) → HasCallNames q → IsRead (shown_name q) (call_key q) (shown_given q) (shown_version q) read → read ≡ Some (bare_call q)
read_again q read is kept =
    kept_is (call_key q) (bare_call q) read (bare_again q, bare_key q) (subst (λ (x : Option Call). IsShownCall (call_key q) x read) (again q is) kept)

-- ---- what is read shows as its parts

made_by : {A : Type 0} (f : A → Call) (x : Option A) (c : Call) → option_map f x ≡ Some c → (a : A) × (x ≡ Some a) × (f a ≡ c)
made_by f None c e = absurd (cc e)
made_by f (Some a) c e = (a, refl, cc e)

-- of the call
record IsOf (name : CallName) (given : Option Object) (version : Option ℕ) (c : Call) : Type 0 where
  name_is : shown_name c ≡ name
  object_is : bare_call c ≡ c → shown_given c ≡ given
  version_is : shown_version c ≡ version
  named : HasCallNames c

created_of : (o : Object) (g : Bool) → bare_call (Create o g) ≡ Create o g → Some (shown_object o) ≡ Some o
created_of o g is = let same : shown_object o ≡ o = cc is in ap Some same

updated_of : (o : Object) (v : ℕ) → bare_call (Update o v) ≡ Update o v → Some (shown_object o) ≡ Some o
updated_of o v is = let same : shown_object o ≡ o = cc is in ap Some same

restated_of : (o : Object) (v : ℕ) → bare_call (UpdateStatus o v) ≡ UpdateStatus o v → Some (shown_object o) ≡ Some o
restated_of o v is = let same : shown_object o ≡ o = cc is in ap Some same

of_so : (name : CallName) (key : List ℕ) (given : Option Object) (version : Option ℕ) (c : Call) → call_of_parts name key given version ≡ Some c → IsOf name given version c
of_so names.Create key (Some o) None c e =
    let same : Create o false ≡ c = cc e in subst (IsOf names.Create (Some o) None) same (record { name_is = refl; object_is = created_of o false; version_is = refl; named = tt })
of_so names.Generate key (Some o) None c e =
    let same : Create o true ≡ c = cc e in subst (IsOf names.Generate (Some o) None) same (record { name_is = refl; object_is = created_of o true; version_is = refl; named = tt })
of_so names.Update key (Some o) (Some v) c e =
    let same : Update o v ≡ c = cc e in subst (IsOf names.Update (Some o) (Some v)) same (record { name_is = refl; object_is = updated_of o v; version_is = refl; named = tt })
of_so names.UpdateStatus key (Some o) (Some v) c e =
    let same : UpdateStatus o v ≡ c = cc e in subst (IsOf names.UpdateStatus (Some o) (Some v)) same (record { name_is = refl; object_is = restated_of o v; version_is = refl; named = tt })
of_so names.Delete key None version c e =
    let made = made_by (λ k. Delete k version) (key_of_printed key) c e in
    subst (IsOf names.Delete None version) made.2 (record { name_is = refl; object_is = λ is. refl; version_is = refl; named = key_named key made.0 made.1 })
of_so names.Get key None None c e =
    let made = made_by (λ k. Get k) (key_of_printed key) c e in
    subst (IsOf names.Get None None) made.2 (record { name_is = refl; object_is = λ is. refl; version_is = refl; named = key_named key made.0 made.1 })
of_so names.Create key None version c e = absurd (cc e)
of_so names.Create key (Some o) (Some v) c e = absurd (cc e)
of_so names.Generate key None version c e = absurd (cc e)
of_so names.Generate key (Some o) (Some v) c e = absurd (cc e)
of_so names.Update key None version c e = absurd (cc e)
of_so names.Update key (Some o) None c e = absurd (cc e)
of_so names.UpdateStatus key None version c e = absurd (cc e)
of_so names.UpdateStatus key (Some o) None c e = absurd (cc e)
of_so names.Delete key (Some o) version c e = absurd (cc e)
of_so names.Get key (Some o) version c e = absurd (cc e)
of_so names.Get key None (Some v) c e = absurd (cc e)

-- what was read
pub record IsCallOf (name : CallName) (key : List ℕ) (given : Option Object) (version : Option ℕ) (c : Call) : Type 0 where
  pub shows : Shows c name key given version
  pub bare : bare_call c ≡ c
  pub named : HasCallNames c

kept_so : (name : CallName) (key : List ℕ) (given : Option Object) (version : Option ℕ) (x : Option Call) (c : Call) → call_of_parts name key given version ≡ x → IsShownCall key x (Some c) → IsCallOf name key given version c
kept_so name key given version None c e is = absurd is
kept_so name key given version (Some d) c e is =
    let bare : bare_call c ≡ c = subst (λ (x : Call). bare_call x ≡ x) (sym is.0) is.1.0 in
    let of = of_so name key given version c (e ∙ ap Some (sym is.0)) in
    record {
      shows = record { name_is = of.name_is; key_is = ap call_key is.0 ∙ is.1.1; object_is = of.object_is bare; version_is = of.version_is };
      bare = bare;
      named = of.named;
    }

pub read_so : (name : CallName) (key : List ℕ) (given : Option Object) (version : Option ℕ) (c : Call) → IsRead name key given version (Some c) → IsCallOf name key given version c
read_so name key given version c is = kept_so name key given version (call_of_parts name key given version) c refl is
