-- What roles see are versions of accepted writes, and versions count up.
use Rattle.std.proofs.Common.{◌≡◌, ◌==◌, ℕ, List, [], ◌∷◌, length, Some, Bool, true, false, refl, ap, ◌∙◌, arith}
use Rattle.std.proofs.lemmas.Bool.Decides.{nat_tests}
use Rattle.std.specs.Prelude.{if◌then◌else◌}
use Rattle.cmc_meta.specs.declared.key.Key.{Key}
use Rattle.cmc_meta.specs.declared.key.Kind.{Kind}
use Rattle.cmc_objects.specs.declared.object.Object.{Object}
use Rattle.cmc_objects.specs.declared.role.Role.{Role}
use Rattle.cmc_objects.specs.declared.entry.Entry.{Entry}
use Rattle.cmc_objects.specs.Objects.{version_of}
use Rattle.cmc_model.specs.declared.write.Write.{Write}
use Rattle.cmc_model.specs.Objects.{object_at}
use Rattle.cmc_model.specs.Histories.{Setting}
use Rattle.cmc_model.specs.Writes.{writes, oldest, of_kind, write_at}
use Rattle.cmc_rules.specs.Positions.{position, cache}
use Rattle.cmc_model.specs.Versions.{HasVersion}
use Rattle.cmc_model.proofs.Versions.{IsLawful, lawful_object, standing, version_of_kind, version_of_oldest}

-- ---- what is seen

-- what a role sees is a version of an accepted write
pub seen_is_version : (s : Setting) (h : List Entry) (r : Role) (k : Kind) (key : Key) (o : Object) → object_at (cache s h r k) key ≡ Some o → HasVersion s h key o
seen_is_version s h r k key o is =
    version_of_oldest (position h r k) key o (writes s h) (version_of_kind k key o (oldest (position h r k) (writes s h)) (standing (of_kind k (oldest (position h r k) (writes s h))) key o is))

-- ---- versions count up

here : (b : Bool) (w v : Write) (ws : List Write) (p : ℕ) (o : Object) → (length (w ∷ ws) == p) ≡ b → IsLawful (w ∷ ws) → (write_at p ws ≡ Some v → version_of o ≡ p)
    → (if b then Some w else write_at p ws) ≡ Some v → v.object ≡ Some o → version_of o ≡ p
here true w v ws p o e law below is stood =
    let same : w ≡ v = cc is in
    let place : length (w ∷ ws) ≡ p = grind (arith, nat_tests) in
    (lawful_object w ws o law (ap (λ (x : Write). x.object) same ∙ stood)).0 ∙ place
here false w v ws p o e law below is stood = below is

placed : (ws : List Write) (p : ℕ) (v : Write) (o : Object) → IsLawful ws → write_at p ws ≡ Some v → v.object ≡ Some o → version_of o ≡ p
unfolding write_at
placed [] p v o law is stood = absurd (cc)
placed (w ∷ ws) p v o law is stood = here (length (w ∷ ws) == p) w v ws p o refl law (λ there. placed ws p v o law.1 there stood) is stood
