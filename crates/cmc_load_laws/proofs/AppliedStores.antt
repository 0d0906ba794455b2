-- What a user's call of a load stores is a Certificate.
use Rattle.std.proofs.Common.{◌≡◌, ℕ, ℤ, List, true, false, Some, refl, ap, ◌∙◌}
use Rattle.cmc_meta.specs.declared.key.Key.{Key}
use Rattle.cmc_objects.specs.declared.certificate.Certificate.{Certificate}
use Rattle.cmc_objects.specs.declared.object.Object.{Object}
use Rattle.cmc_objects.specs.declared.object.Object.TheVariants.{Cert, Request, Secret}
use Rattle.cmc_objects.specs.declared.call.Call.{Call}
use Rattle.cmc_objects.specs.declared.call.Call.TheVariants.{Create, Update, UpdateStatus, Delete, Get}
use Rattle.cmc_objects.specs.declared.entry.Entry.{Entry}
use Rattle.cmc_objects.specs.Objects.{key_of, numbered}
use Rattle.cmc_model.specs.Stored.{created, revised, updated}
use Rattle.cmc_model.specs.Acceptance.{IsFounded}
use Rattle.cmc_model.specs.Replies.{from_old, stored}
use Rattle.cmc_model.specs.Histories.{Setting, objects}
use Rattle.cmc_rules.specs.Legality.{IsLegal}
use Rattle.cmc_rules.proofs.Versions.{stands_is_version, version_keyed}
use Rattle.cmc_load_laws.proofs.LoadScripts.{IsApplyCall}

abbrev pub IsCertificateObject : Object → Type 0
IsCertificateObject o = (d : Certificate) × (o ≡ Cert d)

created_is : (v : ℕ) (now : ℤ) (c : Certificate) → IsCertificateObject (created v now (Cert c))
unfolding created
created_is v now c = (_, refl)

revised_is : (v : ℕ) (old : Object) (c : Certificate) → key_of old ≡ key_of (Cert c) → IsCertificateObject (revised v old (Cert c))
unfolding numbered updated
revised_is v (Cert a) c same = (_, refl)
revised_is v (Request r) c same = absurd (let kind = ap (λ (k : Key). k.kind) same in cc kind)
revised_is v (Secret k) c same = absurd (let kind = ap (λ (k : Key). k.kind) same in cc kind)

pub stores_certificate : (s : Setting) (h : List Entry) (v : ℕ) (now : ℤ) (call : Call) → IsLegal s h → IsApplyCall s call → IsFounded (objects s h) call → (d : Certificate) × (stored v now (objects s h) call ≡ Some (Cert d))
unfolding IsFounded
stores_certificate s h v now (Create (Cert c) false) legal applies on = let is = created_is v now c in (is.0, ap Some is.1)
stores_certificate s h v now (Update (Cert c) named) legal applies on =
    let is = revised_is v on.0 c (version_keyed s h (key_of (Cert c)) on.0 legal (stands_is_version s h (key_of (Cert c)) on.0 on.1)) in
    (is.0, ap (from_old (λ (o : Object). revised v o (Cert c))) on.1 ∙ ap Some is.1)
stores_certificate s h v now (Create (Cert c) true) legal applies on = absurd applies
stores_certificate s h v now (Create (Request r) b) legal applies on = absurd applies
stores_certificate s h v now (Create (Secret k) b) legal applies on = absurd applies
stores_certificate s h v now (Update (Request r) named) legal applies on = absurd applies
stores_certificate s h v now (Update (Secret k) named) legal applies on = absurd applies
stores_certificate s h v now (UpdateStatus object named) legal applies on = absurd applies
stores_certificate s h v now (Delete key named) legal applies on = absurd applies
stores_certificate s h v now (Get key) legal applies on = absurd applies
