-- What an accepted apply of a load leaves: a Certificate, with the status of the one that was there, or with none.
use Rattle.std.proofs.Common.{◌≡◌, ℕ, ℤ, Option, Some, None, refl, sym, ap, subst, ◌∙◌}
use Rattle.cmc_meta.specs.declared.key.Key.{Key}
use Rattle.cmc_objects.specs.declared.certificate.Certificate.{Certificate}
use Rattle.cmc_objects.specs.declared.object.Object.{Object}
use Rattle.cmc_objects.specs.declared.object.Object.TheVariants.{Cert, Request, Secret}
use Rattle.cmc_objects.specs.declared.call.Reply.{Reply}
use Rattle.cmc_objects.specs.Objects.{key_of, no_cert_status, numbered}
use Rattle.cmc_model.specs.Acceptance.{IsFounded}
use Rattle.cmc_model.specs.Objects.{Objects, object_at}
use Rattle.cmc_model.specs.Replies.{from_old, settled, stored}
use Rattle.cmc_model.specs.Stored.{created, revised, updated}
use Rattle.cmc_rules.specs.UserSteps.{apply_call}
use Rattle.cmc_load_laws.specs.Belonging.{IsParted}

-- the status that a Certificate has where this was there
abbrev pub HasStatusFrom : Option Object → Certificate → Type 0
HasStatusFrom None d = d.status ≡ no_cert_status
HasStatusFrom (Some (Cert c)) d = d.status ≡ c.status
HasStatusFrom (Some other) d = ⊥

pub record LeavesCertificate (old new : Option Object) : Type 0 where
  pub after : Certificate
  pub is : new ≡ Some (Cert after)
  pub status : HasStatusFrom old after

made : (version : ℕ) (now : ℤ) (c : Certificate) → LeavesCertificate None (Some (created version now (Cert c)))
unfolding created
made version now c = record { after = _; is = refl; status = refl }

again : (version : ℕ) (old c : Certificate) → LeavesCertificate (Some (Cert old)) (Some (revised version (Cert old) (Cert c)))
unfolding numbered updated
again version old c = record { after = _; is = refl; status = refl }

again_by : (version : ℕ) (c : Certificate) (m : Objects) (o : Object) (x : Option Object) → IsParted m → object_at m (key_of (Cert c)) ≡ Some o → x ≡ Some o → LeavesCertificate (Some o) (from_old (λ (p : Object). revised version p (Cert c)) x)
again_by version c m (Cert old) x parted there is = subst (λ (y : Option Object). LeavesCertificate (Some (Cert old)) (from_old (λ (p : Object). revised version p (Cert c)) y)) (sym is) (again version old c)
again_by version c m (Request r) x parted there is = absurd (let kind = ap (λ (k : Key). k.kind) (parted.keyed (key_of (Cert c)) (Request r) there) in cc kind)
again_by version c m (Secret k) x parted there is = absurd (let kind = ap (λ (k : Key). k.kind) (parted.keyed (key_of (Cert c)) (Secret k) there) in cc kind)

-- by what was there, and whether the step names a version
pub applied_leaves : (version : ℕ) (now : ℤ) (c : Certificate) (named : Option ℕ) (m : Objects) (old : Option Object) (reply : Reply) → IsParted m → object_at m (key_of (Cert c)) ≡ old
    → IsFounded m (settled (apply_call (Cert c) named old) reply) → LeavesCertificate old (stored version now m (settled (apply_call (Cert c) named old) reply))
unfolding settled IsFounded
applied_leaves version now c (Some v) m None reply parted at founded = absurd (let there : None ≡ Some founded.0 = sym at ∙ founded.1 in cc there)
applied_leaves version now c None m None reply parted at founded = made version now c
applied_leaves version now c (Some v) m (Some o) reply parted at founded = again_by version c m o (object_at m (key_of (Cert c))) parted at at
applied_leaves version now c None m (Some o) reply parted at founded = again_by version c m o (object_at m (key_of (Cert c))) parted at at
