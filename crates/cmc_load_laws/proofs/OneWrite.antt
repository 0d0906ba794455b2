-- A write in the store for one Certificate is one change in what is seen of it.
use Rattle.std.proofs.Common.{◌≡◌, Bool, true, false, Option, Some, None, refl, sym, ap, subst, ◌∙◌}
use Rattle.std.specs.BTreeMap.{is_at}
use Rattle.std.specs.FinMap as maps
use Rattle.std.specs.List.{list_any}
use Rattle.std.specs.Prelude.{◌==◌, ◌&&◌, filter_map, option_and_then, if◌then◌else◌}
use Rattle.std.specs.Str.{bytes_eq}
use Rattle.cmc_meta.specs.declared.key.Key.{Key}
use Rattle.cmc_meta.specs.declared.key.Kind.TheVariants as kinds
use Rattle.cmc_meta.specs.declared.object_meta.ObjectMeta.{ObjectMeta}
use Rattle.cmc_meta.specs.Keys.{key_cmp}
use Rattle.cmc_objects.specs.declared.certificate.Certificate.{Certificate}
use Rattle.cmc_objects.specs.declared.object.Object.{Object}
use Rattle.cmc_objects.specs.declared.object.Object.TheVariants.{Cert, Request, Secret}
use Rattle.cmc_model.specs.Objects.{Objects, object_at}
use Rattle.cmc_model.specs.Replies.{put_at}
use Rattle.cmc_pass.specs.declared.pass.Views.{Views}
use Rattle.cmc_rules.specs.Views.{certificate_at, certificate_in, secret_in, target_at, is_owned, has_next_label, next_in, owned_in, next_of, requests_of}
use Rattle.cmc_run_laws.specs.Issuances.{with_certificate}
use Rattle.cmc_load_laws.specs.Measure.{with_next, with_requests}
use Rattle.cmc_load_laws.specs.Frame.{seen_of, key_of_target, IsSameOwner, HasOneChange, IsUnowned}
use Rattle.cmc_load_laws.proofs.Splits.{one_change}
use Rattle.cmc_load_laws.proofs.Elsewhere.{parts_of, seen_is, found_at, no_change}

-- ---- what another version of the Certificate owns and names

owned_alike : (c d : Certificate) (m : ObjectMeta) → IsSameOwner c d → is_owned c m ≡ is_owned d m
owned_alike c d m same i = bytes_eq m.namespace (same.namespace i) && list_any (λ owner. owner.uid == same.uid i) m.owners

next_alike : (c d : Certificate) → IsSameOwner c d → (o : Object) → next_in c o ≡ next_in d o
next_alike c d same (Cert other) = refl
next_alike c d same (Request r) = refl
next_alike c d same (Secret s) = ap (λ (b : Bool). if has_next_label s.meta && b then Some s else None) (owned_alike c d s.meta same)

requests_alike : (c d : Certificate) → IsSameOwner c d → (o : Object) → owned_in c o ≡ owned_in d o
requests_alike c d same (Cert other) = refl
requests_alike c d same (Request r) = ap (λ (b : Bool). if b then Some r else None) (owned_alike c d r.meta same)
requests_alike c d same (Secret s) = refl

same_next : (m : Objects) (c d : Certificate) → IsSameOwner c d → next_of m c ≡ next_of m d
same_next m c d same i = filter_map (λ e. next_alike c d same e.1 i) (maps.entries m)

same_requests : (m : Objects) (c d : Certificate) → IsSameOwner c d → requests_of m c ≡ requests_of m d
same_requests m c d same i = filter_map (λ e. requests_alike c d same e.1 i) (maps.entries m)

same_target : (m : Objects) (c d : Certificate) → IsSameOwner c d → target_at m c ≡ target_at m d
same_target m c d same i = option_and_then secret_in (object_at m (record { kind = kinds.Secret; namespace = same.namespace i; name = same.secret_name i }))

-- ---- one change

parts_change : (m : Objects) (own key : Key) (new : Option Object) (c d : Certificate) → certificate_at m own ≡ Some c → certificate_at (put_at m key new) own ≡ Some d → IsSameOwner c d
    → HasOneChange own c key (object_at m key) new (parts_of m (Some c)) (parts_of (put_at m key new) (Some d))
parts_change m own key new c d at later same =
    let n : Objects = put_at m key new in
    let next = one_change (next_in c) m key new in
    let requests = one_change (owned_in c) m key new in
    record {
      certificate = sym later ∙ found_at certificate_in m key new own ∙ ap (λ (o : Option Certificate). if is_at (key_cmp own) key then option_and_then certificate_in new else o) at;
      secret = sym (same_target n c d same) ∙ found_at secret_in m key new (key_of_target c);
      next = record { first = next.first; rest = next.rest; was = next.was; is = sym (same_next n c d same) ∙ next.is };
      requests = record { first = requests.first; rest = requests.rest; was = requests.was; is = sym (same_requests n c d same) ∙ requests.is };
      request = refl;
    }

pub one_write : (m : Objects) (own key : Key) (new : Option Object) (c d : Certificate) → certificate_at m own ≡ Some c → certificate_at (put_at m key new) own ≡ Some d → IsSameOwner c d
    → HasOneChange own c key (object_at m key) new (seen_of m own) (seen_of (put_at m key new) own)
one_write m own key new c d at later same =
    let n : Objects = put_at m key new in
    let before : parts_of m (Some c) ≡ seen_of m own = ap (parts_of m) (sym at) ∙ sym (seen_is m own) in
    let after : parts_of n (Some d) ≡ seen_of n own = ap (parts_of n) (sym later) ∙ sym (seen_is n own) in
    subst (λ (v : Views). HasOneChange own c key (object_at m key) new (seen_of m own) v) after
    (subst (λ (v : Views). HasOneChange own c key (object_at m key) new v (parts_of n (Some d))) before (parts_change m own key new c d at later same))

-- ---- which part it is

not_then : {A : Type 0} (b : Bool) (x y : A) → b ≡ false → (if b then x else y) ≡ y
not_then b x y off = ap (λ (t : Bool). if t then x else y) off

then_so : {A : Type 0} (b : Bool) (x y : A) → b ≡ true → (if b then x else y) ≡ x
then_so b x y on = ap (λ (t : Bool). if t then x else y) on

module _ (own : Key) (c : Certificate) (key : Key) (old new : Option Object) (before after : Views) (has : HasOneChange own c key old new before after) where
  same_certificate : is_at (key_cmp own) key ≡ false → after.certificate ≡ before.certificate
  same_certificate off = has.certificate ∙ not_then (is_at (key_cmp own) key) (option_and_then certificate_in new) before.certificate off

  same_secret : is_at (key_cmp (key_of_target c)) key ≡ false → after.secret ≡ before.secret
  same_secret off = has.secret ∙ not_then (is_at (key_cmp (key_of_target c)) key) (option_and_then secret_in new) before.secret off

  next_kept : option_and_then (next_in c) old ≡ None → option_and_then (next_in c) new ≡ None → after.next ≡ before.next
  next_kept was is = no_change (option_and_then (next_in c) old) (option_and_then (next_in c) new) before.next after.next has.next was is

  requests_kept : option_and_then (owned_in c) old ≡ None → option_and_then (owned_in c) new ≡ None → after.requests ≡ before.requests
  requests_kept was is = no_change (option_and_then (owned_in c) old) (option_and_then (owned_in c) new) before.requests after.requests has.requests was is

  -- of a write of the Certificate itself
  pub only_certificate : (d : Certificate) → is_at (key_cmp own) key ≡ true → is_at (key_cmp (key_of_target c)) key ≡ false → IsUnowned c old → new ≡ Some (Cert d) → after ≡ with_certificate d before
  only_certificate d here off was is =
      let certificate = has.certificate ∙ then_so (is_at (key_cmp own) key) (option_and_then certificate_in new) before.certificate here ∙ ap (option_and_then certificate_in) is in
      let secret = same_secret off in
      let next = next_kept was.0 (ap (option_and_then (next_in c)) is) in
      let requests = requests_kept was.1 (ap (option_and_then (owned_in c)) is) in
      λ i. record { certificate = certificate i; secret = secret i; next = next i; requests = requests i; request = has.request i }

  -- of the Secret that it names
  pub only_secret : is_at (key_cmp own) key ≡ false → is_at (key_cmp (key_of_target c)) key ≡ true → IsUnowned c old → IsUnowned c new → after ≡ record before { secret = option_and_then secret_in new }
  only_secret apart here was is =
      let certificate = same_certificate apart in
      let secret = has.secret ∙ then_so (is_at (key_cmp (key_of_target c)) key) (option_and_then secret_in new) before.secret here in
      let next = next_kept was.0 is.0 in
      let requests = requests_kept was.1 is.1 in
      λ i. record { certificate = certificate i; secret = secret i; next = next i; requests = requests i; request = has.request i }

  -- of a next key
  pub only_next : is_at (key_cmp own) key ≡ false → is_at (key_cmp (key_of_target c)) key ≡ false → option_and_then (owned_in c) old ≡ None → option_and_then (owned_in c) new ≡ None → after ≡ with_next after.next before
  only_next apart off was is =
      let certificate = same_certificate apart in
      let secret = same_secret off in
      let requests = requests_kept was is in
      λ i. record { certificate = certificate i; secret = secret i; next = after.next; requests = requests i; request = has.request i }

  -- of a request
  pub only_requests : is_at (key_cmp own) key ≡ false → is_at (key_cmp (key_of_target c)) key ≡ false → option_and_then (next_in c) old ≡ None → option_and_then (next_in c) new ≡ None → after ≡ with_requests after.requests before
  only_requests apart off was is =
      let certificate = same_certificate apart in
      let secret = same_secret off in
      let next = next_kept was is in
      λ i. record { certificate = certificate i; secret = secret i; next = next i; requests = after.requests; request = has.request i }
