-- What one Certificate alone owns is owned by none of another uid.
use Rattle.std.proofs.Common.{◌≡◌, ◌==◌, ◌&&◌, ◌||◌, [], ◌∷◌, Bool, true, false, Some, None, refl, sym, ap, ◌∙◌}
use Rattle.std.proofs.lemmas.Bool.{and_parts}
use Rattle.std.proofs.lemmas.Bool.Decides.{Decides-eqb}
use Rattle.std.proofs.lemmas.Slice.Eq.{bytes_eq-Decides}
use Rattle.std.specs.FinMap as maps
use Rattle.std.specs.List.{list_any}
use Rattle.std.specs.Prelude.{filter_map, if◌then◌else◌}
use Rattle.std.specs.Str.{bytes_eq}
use Rattle.cmc_meta.specs.declared.object_meta.ObjectMeta.{ObjectMeta}
use Rattle.cmc_objects.specs.declared.certificate.Certificate.{Certificate}
use Rattle.cmc_objects.specs.declared.object.Object.{Object}
use Rattle.cmc_objects.specs.declared.object.Object.TheVariants.{Cert, Request, Secret}
use Rattle.cmc_model.specs.Objects.{Objects}
use Rattle.cmc_rules.specs.Owners.{owner_of}
use Rattle.cmc_rules.specs.Views.{has_next_label, is_owned, next_in, next_of, owned_in, requests_of}

-- both are of one uid in one namespace
pub record IsOneOwner (c d : Certificate) : Type 0 where
  pub namespace : c.meta.namespace ≡ d.meta.namespace
  pub uid : c.meta.uid ≡ d.meta.uid

owned_alike : (c d : Certificate) (m : ObjectMeta) → IsOneOwner c d → is_owned c m ≡ is_owned d m
owned_alike c d m same i = bytes_eq m.namespace (same.namespace i) && list_any (λ owner. owner.uid == same.uid i) m.owners

next_alike : (c d : Certificate) → IsOneOwner c d → (o : Object) → next_in c o ≡ next_in d o
next_alike c d same (Cert other) = refl
next_alike c d same (Request r) = refl
next_alike c d same (Secret s) = ap (λ (b : Bool). if has_next_label s.meta && b then Some s else None) (owned_alike c d s.meta same)

requests_alike : (c d : Certificate) → IsOneOwner c d → (o : Object) → owned_in c o ≡ owned_in d o
requests_alike c d same (Cert other) = refl
requests_alike c d same (Request r) = ap (λ (b : Bool). if b then Some r else None) (owned_alike c d r.meta same)
requests_alike c d same (Secret s) = refl

pub same_next : (m : Objects) (c d : Certificate) → IsOneOwner c d → next_of m c ≡ next_of m d
same_next m c d same i = filter_map (λ e. next_alike c d same e.1 i) (maps.entries m)

pub same_requests : (m : Objects) (c d : Certificate) → IsOneOwner c d → requests_of m c ≡ requests_of m d
same_requests m c d same i = filter_map (λ e. requests_alike c d same e.1 i) (maps.entries m)

-- ---- owned by one

or_none : (b : Bool) → (b || false) ≡ true → b ≡ true
or_none true is = refl
or_none false is = is

owner_uid : (d : Certificate) → (owner_of d).uid ≡ d.meta.uid
unfolding owner_of
owner_uid d = refl

pub one_owner : (c d : Certificate) (m : ObjectMeta) → m.namespace ≡ d.meta.namespace → m.owners ≡ owner_of d ∷ [] → is_owned c m ≡ true → IsOneOwner c d
one_owner c d m namespace owners owned =
    let both = and_parts (bytes_eq m.namespace c.meta.namespace) (list_any (λ owner. owner.uid == c.meta.uid) m.owners) owned in
    let one : ((owner_of d).uid == c.meta.uid) ≡ true = or_none ((owner_of d).uid == c.meta.uid) (ap (list_any (λ owner. owner.uid == c.meta.uid)) (sym owners) ∙ both.1) in
    record {
      namespace = sym ((bytes_eq-Decides m.namespace c.meta.namespace).0 both.0) ∙ namespace;
      uid = sym ((Decides-eqb (owner_of d).uid c.meta.uid).0 one) ∙ owner_uid d;
    }
