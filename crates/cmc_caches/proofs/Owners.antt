-- What a Certificate owns stands under the keys that its uid leads to.
use Rattle.std.proofs.Common.{◌≡◌, Bool, true, false, List, Option, Some, None, refl}
use Rattle.std.proofs.lemmas.Bool.{and_parts}
use Rattle.std.specs.Prelude.{◌&&◌, filter_map, option_and_then, is_some, if◌then◌else◌}
use Rattle.cmc_meta.specs.declared.key.Key.{Key}
use Rattle.cmc_meta.specs.declared.object_meta.ObjectMeta.{ObjectMeta}
use Rattle.cmc_objects.specs.declared.certificate.Certificate.{Certificate}
use Rattle.cmc_objects.specs.declared.object.Object.{Object}
use Rattle.cmc_objects.specs.declared.object.Object.TheVariants.{Cert, Request, Secret}
use Rattle.cmc_model.specs.Objects.{Objects, object_at}
use Rattle.cmc_rules.specs.Views.{is_owned, has_next_label, next_in, owned_in, next_of, requests_of}
use Rattle.cmc_informer.specs.Caches.{is_owned_by, names}
use Rattle.cmc_caches.specs.Board.{LeadTo}
use Rattle.cmc_caches.proofs.Picking.{picked_by_keys}

-- who is owned names the uid
names_uid : (c : Certificate) (m : ObjectMeta) → is_owned c m ≡ true → names c.meta.uid m.owners ≡ true
names_uid c m is = (and_parts _ _ is).1

if_some : {A : Type 0} (b : Bool) (x : A) → is_some (if b then Some x else None) ≡ true → b ≡ true
if_some true x is = refl
if_some false x is = is

next_named : (c : Certificate) (o : Option Object) → is_some (option_and_then (next_in c) o) ≡ true → is_owned_by c.meta.uid o ≡ true
next_named c None is = is
next_named c (Some (Cert other)) is = absurd (cc is)
next_named c (Some (Request r)) is = absurd (cc is)
next_named c (Some (Secret s)) is = names_uid c s.meta (and_parts _ _ (if_some (has_next_label s.meta && is_owned c s.meta) s is)).1

owned_named : (c : Certificate) (o : Option Object) → is_some (option_and_then (owned_in c) o) ≡ true → is_owned_by c.meta.uid o ≡ true
owned_named c None is = is
owned_named c (Some (Cert other)) is = absurd (cc is)
owned_named c (Some (Request r)) is = names_uid c r.meta (if_some (is_owned c r.meta) r is)
owned_named c (Some (Secret s)) is = absurd (cc is)

pub next_by_keys : (m : Objects) (c : Certificate) (keys : List Key) → LeadTo keys (λ k. is_owned_by c.meta.uid (object_at m k))
    → filter_map (λ k. option_and_then (next_in c) (object_at m k)) keys ≡ next_of m c
next_by_keys m c keys are = picked_by_keys (next_in c) m keys are.ordered (λ k is. are.all k (next_named c (object_at m k) is))

pub requests_by_keys : (m : Objects) (c : Certificate) (keys : List Key) → LeadTo keys (λ k. is_owned_by c.meta.uid (object_at m k))
    → filter_map (λ k. option_and_then (owned_in c) (object_at m k)) keys ≡ requests_of m c
requests_by_keys m c keys are = picked_by_keys (owned_in c) m keys are.ordered (λ k is. are.all k (owned_named c (object_at m k) is))
