-- In a run of a load each object is of one Certificate.
use Rattle.std.proofs.Common.{◌≡◌, ◌≤◌, ℕ, List, [], length, Some, sym, ap, ◌∙◌, inl, inr, arith}
use Rattle.cmc_meta.specs.declared.key.Key.{Key}
use Rattle.cmc_meta.specs.declared.object_meta.ObjectMeta.{ObjectMeta}
use Rattle.cmc_objects.specs.declared.certificate.Certificate.{Certificate}
use Rattle.cmc_objects.specs.declared.object.Object.{Object}
use Rattle.cmc_objects.specs.declared.object.Object.TheVariants.{Cert, Request, Secret}
use Rattle.cmc_objects.specs.declared.entry.Entry.{Entry}
use Rattle.cmc_objects.specs.Objects.{key_of, meta_of}
use Rattle.cmc_model.specs.Objects.{object_at}
use Rattle.cmc_model.specs.Generated.{generated_name}
use Rattle.cmc_model.specs.Histories.{Setting, objects}
use Rattle.cmc_model.specs.Writes.{writes}
use Rattle.cmc_model.specs.declared.write.Write.{Write}
use Rattle.cmc_rules.specs.Legality.{IsLegal}
use Rattle.cmc_rules.proofs.OwnSecrets.{own_secrets}
use Rattle.cmc_rules.proofs.Versions.{stands_is_version, version_keyed}
use Rattle.cmc_load_laws.specs.Belonging.{HasFewOwners, IsParted}
use Rattle.cmc_load_laws.specs.Frame.{key_of_target}
use Rattle.cmc_load_laws.specs.Loads.{HasFreeCertificates}
use Rattle.cmc_load_laws.proofs.BelongingVersions.{EachIsOf, IsAsApplied, IsMadeFor, IsOf, OfSecret}
use Rattle.cmc_load_laws.proofs.LegalStores.{legal_parted}

-- ---- few owners

one_owner : (ws : List Write) (m : ObjectMeta) → IsMadeFor ws m → length m.owners ≤ 1
one_owner ws m is = omega (arith, ap length is.owners)

secret_owners : (ws : List Write) (m : ObjectMeta) → OfSecret ws m → length m.owners ≤ 1
secret_owners ws m (inl is) = one_owner ws m is.1
secret_owners ws m (inr is) = omega (arith, ap length is.1.owners)

few_owners : (s : Setting) (ws : List Write) (o : Object) → IsOf s ws o → HasFewOwners o
few_owners s ws (Cert c) is = is.owners
few_owners s ws (Request r) is = one_owner ws r.meta is
few_owners s ws (Secret k) is = secret_owners ws k.meta is

-- ---- a Secret that a Certificate names is no next key

-- no name that is generated for one Certificate is the name of a Secret that one names
no_generated : (s : Setting) (h : List Entry) (c : Certificate) (m : ObjectMeta) → HasFreeCertificates s → EachIsOf s (writes s h) → IsAsApplied s c → IsMadeFor (writes s h) m → m.name ≡ c.spec.secret_name → ⊥
no_generated s h c m load each applied made same =
    let owner : IsAsApplied s made.certificate = each (key_of (Cert made.certificate)) (Cert made.certificate) made.known in
    let name : owner.applied.meta.name ≡ made.certificate.meta.name = ap (λ (k : Key). k.name) owner.key in
    load.apart applied.applied owner.applied made.number applied.applies owner.applies
    (sym applied.secret ∙ sym same ∙ made.name ∙ sym (ap (λ (n : List ℕ). generated_name n made.number) name))

target_owners : (s : Setting) (h : List Entry) (c : Certificate) (m : ObjectMeta) → HasFreeCertificates s → EachIsOf s (writes s h) → IsAsApplied s c → OfSecret (writes s h) m → m.name ≡ c.spec.secret_name → m.owners ≡ []
target_owners s h c m load each applied (inl is) same = absurd (no_generated s h c m load each applied is.1 same)
target_owners s h c m load each applied (inr is) same = is.1.owners

target_by : (s : Setting) (h : List Entry) (c : Certificate) (o : Object) → HasFreeCertificates s → EachIsOf s (writes s h) → IsAsApplied s c → IsOf s (writes s h) o → key_of o ≡ key_of_target c → (meta_of o).owners ≡ []
target_by s h c (Cert d) load each applied is same = absurd (cc (ap (λ (k : Key). k.kind) same))
target_by s h c (Request r) load each applied is same = absurd (cc (ap (λ (k : Key). k.kind) same))
target_by s h c (Secret k) load each applied is same = target_owners s h c k.meta load each applied is (ap (λ (k : Key). k.name) same)

-- ---- stores

pub at_key : (s : Setting) (h : List Entry) (q : Key) (o : Object) → EachIsOf s (writes s h) → object_at (objects s h) q ≡ Some o → IsOf s (writes s h) o
at_key s h q o each there = each q o (stands_is_version s h q o there)

pub is_parted : (s : Setting) (h : List Entry) → HasFreeCertificates s → IsLegal s h → EachIsOf s (writes s h) → IsParted (objects s h)
is_parted s h load legal each =
    legal_parted s h legal (own_secrets s h legal) (λ q o there. few_owners s (writes s h) o (at_key s h q o each there))
    (λ q c o there target. target_by s h c o load each (at_key s h q (Cert c) each there) (at_key s h (key_of_target c) o each target)
    (version_keyed s h (key_of_target c) o legal (stands_is_version s h (key_of_target c) o target)))
