-- A write in the store for one Certificate changes nothing in what any role sees of another.
use Rattle.std.proofs.Common.{◌≡◌, Bool, true, false, cond, List, ◌++◌, Option, Some, None, refl, sym, ap, ◌∙◌}
use Rattle.std.proofs.lemmas.Bool.{or_parts}
use Rattle.std.specs.BTreeMap.{is_at}
use Rattle.std.specs.List.{cons_option}
use Rattle.std.specs.Prelude.{◌&&◌, ◌||◌, option_and_then, if◌then◌else◌}
use Rattle.std.specs.Str.{bytes_eq}
use Rattle.cmc_meta.specs.declared.key.Key.{Key}
use Rattle.cmc_meta.specs.Keys.{key_cmp}
use Rattle.cmc_objects.specs.declared.certificate.Certificate.{Certificate}
use Rattle.cmc_objects.specs.declared.object.Object.{Object}
use Rattle.cmc_objects.specs.declared.object.Object.TheVariants.{Cert, Request, Secret}
use Rattle.cmc_objects.specs.declared.role.Role.{Role}
use Rattle.cmc_objects.specs.declared.role.Role.TheVariants.{Approver, Issuer}
use Rattle.cmc_objects.specs.Informers.{works_on_requests}
use Rattle.cmc_model.specs.Objects.{Objects, object_at}
use Rattle.cmc_model.specs.Replies.{put_at}
use Rattle.cmc_model.proofs.Versions.{object_at-put}
use Rattle.cmc_pass.specs.declared.pass.Views.{Views}
use Rattle.cmc_informer.specs.Caches.{is_owned_by}
use Rattle.cmc_rules.specs.Views.{certificate_at, certificate_in, request_in, secret_in, target_at, has_next_label, next_in, owned_in, next_of, requests_of, of_certificate, views_in, views_of}
use Rattle.cmc_load_laws.specs.Frame.{all_of, seen_of, part_for, key_of_target, is_of, IsElsewhere, IsOneChange}
use Rattle.cmc_load_laws.proofs.Splits.{one_change}

-- ---- what issuing sees, and each other role of it

abbrev pub parts_of : Objects → Option Certificate → Views
parts_of m o = record { certificate = o; secret = option_and_then (target_at m) o; next = of_certificate (next_of m) o; requests = of_certificate (requests_of m) o; request = None }

pub seen_is : (m : Objects) (key : Key) → seen_of m key ≡ parts_of m (certificate_at m key)
unfolding views_in views_of
seen_is m key = refl

pub role_sees : (role : Role) (m : Objects) (key : Key) → works_on_requests role ≡ false → views_in role (all_of m) key ≡ part_for role (seen_of m key)
unfolding views_in views_of
role_sees Approver m key works = absurd (cc works)
role_sees Issuer m key works = absurd (cc works)
role_sees other m key works = refl

-- ---- what is under the keys

pub elsewhere_at : (m : Objects) (key : Key) (o : Option Object) (q : Key) → is_at (key_cmp q) key ≡ false → object_at (put_at m key o) q ≡ object_at m q
elsewhere_at m key o q off = object_at-put m key o q ∙ ap (λ (b : Bool). cond b o (object_at m q)) off

taken_by : {A X : Type 0} (f : A → Option X) (b : Bool) (x y : Option A) → option_and_then f (cond b x y) ≡ (if b then option_and_then f x else option_and_then f y)
taken_by f true x y = refl
taken_by f false x y = refl

pub found_at : {X : Type 0} (f : Object → Option X) (m : Objects) (key : Key) (o : Option Object) (q : Key)
    → option_and_then f (object_at (put_at m key o) q) ≡ (if is_at (key_cmp q) key then option_and_then f o else option_and_then f (object_at m q))
found_at f m key o q = ap (option_and_then f) (object_at-put m key o q) ∙ taken_by f (is_at (key_cmp q) key) o (object_at m q)

-- ---- what is of no Certificate under a key leaves what is seen of it

pub no_change : {A : Type 0} (old new : Option A) (before after : List A) → IsOneChange old new before after → old ≡ None → new ≡ None → after ≡ before
no_change {A = A} old new before after one none then_none =
    one.is ∙ ap (λ (o : Option A). one.first ++ cons_option o one.rest) (then_none ∙ sym none) ∙ sym one.was

pub no_next : (c : Certificate) (o : Option Object) → is_owned_by c.meta.uid o ≡ false → option_and_then (next_in c) o ≡ None
no_next c None off = refl
no_next c (Some (Cert other)) off = refl
no_next c (Some (Request r)) off = refl
no_next c (Some (Secret s)) off = rw off (none (has_next_label s.meta) (bytes_eq s.meta.namespace c.meta.namespace)) where
  none : (l m : Bool) → (if l && (m && false) then Some s else None) ≡ None
  none true true = refl
  none true false = refl
  none false m = refl

pub none_owned : (c : Certificate) (o : Option Object) → is_owned_by c.meta.uid o ≡ false → option_and_then (owned_in c) o ≡ None
none_owned c None off = refl
none_owned c (Some (Cert other)) off = refl
none_owned c (Some (Request r)) off = rw off (none (bytes_eq r.meta.namespace c.meta.namespace)) where
  none : (m : Bool) → (if m && false then Some r else None) ≡ None
  none true = refl
  none false = refl
none_owned c (Some (Secret s)) off = refl

not_owned : (own : Key) (c : Certificate) (key : Key) (o : Option Object) → is_of own c key o ≡ false → (is_at (key_cmp (key_of_target c)) key ≡ false) × (is_owned_by c.meta.uid o ≡ false)
not_owned own c key o off = or_parts (is_at (key_cmp (key_of_target c)) key) (is_owned_by c.meta.uid o) (or_parts (is_at (key_cmp own) key) (is_at (key_cmp (key_of_target c)) key || is_owned_by c.meta.uid o) off).1

parts_kept : (m : Objects) (key : Key) (new : Option Object) (other : Key) (o : Option Certificate) → certificate_at m other ≡ o → IsElsewhere m key new other → parts_of (put_at m key new) o ≡ parts_of m o
parts_kept m key new other None at off = refl
parts_kept m key new other (Some c) at off =
    let before = not_owned other c key (object_at m key) (off.before c at) in
    let after = not_owned other c key new (off.after c at) in
    let secret : target_at (put_at m key new) c ≡ target_at m c = ap (option_and_then secret_in) (elsewhere_at m key new (key_of_target c) before.0) in
    let next : next_of (put_at m key new) c ≡ next_of m c =
    no_change (option_and_then (next_in c) (object_at m key)) (option_and_then (next_in c) new) (next_of m c) (next_of (put_at m key new) c) (one_change (next_in c) m key new) (no_next c (object_at m key) before.1) (no_next c new after.1) in
    let requests : requests_of (put_at m key new) c ≡ requests_of m c =
    no_change (option_and_then (owned_in c) (object_at m key)) (option_and_then (owned_in c) new) (requests_of m c) (requests_of (put_at m key new) c) (one_change (owned_in c) m key new) (none_owned c (object_at m key) before.1) (none_owned c new after.1) in
    λ i. record { certificate = Some c; secret = secret i; next = next i; requests = requests i; request = None }

pub seen_kept : (m : Objects) (key : Key) (new : Option Object) (other : Key) → IsElsewhere m key new other → seen_of (put_at m key new) other ≡ seen_of m other
seen_kept m key new other off =
    seen_is (put_at m key new) other ∙ ap (parts_of (put_at m key new)) (ap (option_and_then certificate_in) (elsewhere_at m key new other off.apart)) ∙ parts_kept m key new other (certificate_at m other) refl off ∙ sym (seen_is m other)

pub request_seen : (role : Role) (m n : Objects) (key : Key) → works_on_requests role ≡ true → object_at m key ≡ object_at n key → views_in role (all_of m) key ≡ views_in role (all_of n) key
unfolding views_in views_of
request_seen role m n key works same = rw works (ap (λ (o : Option Object). views_of role (all_of m) None (option_and_then request_in o)) same)

-- so each role sees the same of each other key
kept_by : (b : Bool) (role : Role) (m : Objects) (key : Key) (new : Option Object) (other : Key) → works_on_requests role ≡ b → IsElsewhere m key new other → views_in role (all_of (put_at m key new)) other ≡ views_in role (all_of m) other
kept_by true role m key new other works off = request_seen role (put_at m key new) m other works (elsewhere_at m key new other off.apart)
kept_by false role m key new other works off = role_sees role (put_at m key new) other works ∙ ap (part_for role) (seen_kept m key new other off) ∙ sym (role_sees role m other works)

pub others_see_same : (role : Role) (m : Objects) (key : Key) (new : Option Object) (other : Key) → IsElsewhere m key new other → views_in role (all_of (put_at m key new)) other ≡ views_in role (all_of m) other
others_see_same role m key new other off = kept_by (works_on_requests role) role m key new other refl off
