-- What every legal history keeps of what the objects of a load are like.
use Rattle.std.proofs.Common.{◌≡◌, ℕ, true, List, [], Option, Some, None, refl, sym, ap, ◌∙◌}
use Rattle.std.proofs.lemmas.Bool.{eqb-true}
use Rattle.cmc_meta.specs.declared.key.Key.{Key}
use Rattle.cmc_objects.specs.declared.certificate.Certificate.{Certificate}
use Rattle.cmc_objects.specs.declared.entry.Entry.{Entry}
use Rattle.cmc_objects.specs.declared.object.Object.{Object}
use Rattle.cmc_objects.specs.declared.object.Object.TheVariants.{Cert}
use Rattle.cmc_objects.specs.Objects.{meta_of}
use Rattle.cmc_model.specs.Objects.{Objects, object_at}
use Rattle.cmc_model.specs.Histories.{Setting, objects}
use Rattle.cmc_model.specs.Versions.{uid_of, IsVersion}
use Rattle.cmc_model.specs.Writes.{writes}
use Rattle.cmc_model.proofs.Versions.{keyed, standing}
use Rattle.cmc_model.proofs.Writes.{writes_leave}
use Rattle.cmc_informer.specs.Caches.{has_uid}
use Rattle.cmc_rules.specs.Admitted.{HaveOwnSecrets}
use Rattle.cmc_rules.specs.Legality.{IsLegal}
use Rattle.cmc_rules.proofs.Versions.{lawful, uid_has_one_key}
use Rattle.cmc_load_laws.specs.Frame.{key_of_target}
use Rattle.cmc_load_laws.specs.Belonging.{HasFewOwners, IsParted}

version_at : (s : Setting) (h : List Entry) (key : Key) (o : Object) → object_at (objects s h) key ≡ Some o → IsVersion key o (writes s h)
version_at s h key o is = standing (writes s h) key o (ap (λ (m : Objects). object_at m key) (writes_leave s h) ∙ is)

uid_at : (o : Option Object) (uid : ℕ) → has_uid uid o ≡ true → (x : Object) × (o ≡ Some x) × (uid ≡ uid_of x)
uid_at None uid is = absurd (cc is)
uid_at (Some x) uid is = (x, refl, eqb-true uid (uid_of x) is)

-- What is left to say of a history of a load: that no two Certificates name one Secret (a law of legal histories), and what its objects own.
pub legal_parted : (s : Setting) (h : List Entry) → IsLegal s h → HaveOwnSecrets (objects s h) → ((q : Key) (o : Object) → object_at (objects s h) q ≡ Some o → HasFewOwners o)
    → ((q : Key) (c : Certificate) (o : Object) → object_at (objects s h) q ≡ Some (Cert c) → object_at (objects s h) (key_of_target c) ≡ Some o → (meta_of o).owners ≡ []) → IsParted (objects s h)
legal_parted s h legal own owners targets = record {
  keyed = λ q o is. keyed (writes s h) q o (lawful s h legal) (version_at s h q o is);
  uids = λ uid j k at_j at_k.
      let one = uid_at (object_at (objects s h) j) uid at_j in
      let other = uid_at (object_at (objects s h) k) uid at_k in
      uid_has_one_key s h j k one.0 other.0 legal (version_at s h j one.0 one.1) (version_at s h k other.0 other.1) (sym one.2 ∙ other.2);
  secrets = own;
  owners = owners;
  targets = targets;
}
