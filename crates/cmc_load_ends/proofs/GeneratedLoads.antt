-- The setting of a generated load is one of a load.
use Rattle.std.proofs.Common.{◌≡◌, ◌≢◌, ℕ, zero, suc, ◌+◌, ◌-◌, List, [], ◌∷◌, ◌++◌, Some, true, refl, sym, ap, subst, ◌∙◌, arith}
use Rattle.std.specs.Prelude.{codes, slice_get}
use Rattle.cmc_meta.specs.declared.key.Key.{Key}
use Rattle.cmc_objects.specs.declared.certificate.Certificate.{Certificate}
use Rattle.cmc_objects.specs.declared.object.Object.{Object}
use Rattle.cmc_objects.specs.declared.object.Object.TheVariants.{Cert}
use Rattle.cmc_objects.specs.declared.entry.Step.{Step}
use Rattle.cmc_objects.specs.declared.entry.Step.TheVariants as steps
use Rattle.cmc_objects.specs.declared.role.Role.TheVariants as roles
use Rattle.cmc_objects.specs.Objects.{key_of, no_cert_status}
use Rattle.cmc_model.specs.Histories.{Setting}
use Rattle.cmc_model.specs.Generated.{generated_name}
use Rattle.cmc_kernel.specs.Kept.{setting_of}
use Rattle.cmc_run_laws.specs.Lengths.{Each}
use Rattle.cmc_load_laws.specs.Loads.{Applies, Deletes, HasAllRoles, HasFreeCertificates, IsFreeCertificate, IsLoad, IsUsual, are_load_steps, is_load_step}
use Rattle.cmc_scenario.specs.Loads.{load_meta, load_name, load_setup, load_spec, load_step, loads, rests}
use Rattle.cmc_load_ends.proofs.GeneratedNames.{secret_apart}

-- the Certificate of the number
abbrev load_certificate : ℕ → Certificate
load_certificate i = record { meta = load_meta i; spec = load_spec i; status = no_cert_status }

-- ---- the steps

abbrev IsLoadOf : Step → Type 0
IsLoadOf (steps.Apply object version) = (i : ℕ) × (object ≡ Cert (load_certificate i))
IsLoadOf (steps.Tick seconds) = Unit {0}
IsLoadOf steps.Settle = Unit {0}
IsLoadOf other = ⊥

both : (xs ys : List Step) → Each IsLoadOf xs → Each IsLoadOf ys → Each IsLoadOf (xs ++ ys)
both [] ys a b = b
both (x ∷ xs) ys a b = (a.0, both xs ys a.1 b)

loads_are : (n : ℕ) → Each IsLoadOf (loads n)
loads_are zero = tt
loads_are (suc n) = both (loads n) (load_step (n + 1) ∷ []) (loads_are n) ((n + 1, refl), tt)

all_are : (count : ℕ) → Each IsLoadOf (loads count ++ rests)
all_are count = both (loads count) rests (loads_are count) (tt, (tt, (tt, tt)))

each_at : (xs : List Step) (i : ℕ) (step : Step) → Each IsLoadOf xs → slice_get xs i ≡ Some step → IsLoadOf step
each_at [] i step each is = absurd (cc is)
each_at (x ∷ xs) zero step each is = let same : x ≡ step = cc is in subst IsLoadOf same each.0
each_at (x ∷ xs) (suc i) step each is = each_at xs i step each.1 is

load_or_not : (step : Step) → IsLoadOf step → is_load_step step ≡ true
load_or_not (steps.Apply object version) is = ap (λ (o : Object). is_load_step (steps.Apply o version)) is.1
load_or_not (steps.Tick seconds) is = refl
load_or_not steps.Settle is = refl
load_or_not other is = absurd is

all_load_steps : (xs : List Step) → Each IsLoadOf xs → are_load_steps xs ≡ true
all_load_steps [] each = refl
all_load_steps (x ∷ xs) each = rw (load_or_not x each.0, all_load_steps xs each.1) refl

-- ---- what is applied

abbrev made : ℕ → Setting
made count = setting_of (load_setup count)

applied : (count : ℕ) (object : Object) → Applies (made count) object → (i : ℕ) × (object ≡ Cert (load_certificate i))
applied count object (number, version, is) = each_at (loads count ++ rests) (number - 1) (steps.Apply object version) (all_are count) is

deleted : (count : ℕ) (key : Key) → Deletes (made count) key → ⊥
deleted count key (number, version, is) = each_at (loads count ++ rests) (number - 1) (steps.Delete key version) (all_are count) is

one_certificate : (c d : Certificate) → Cert c ≡ Cert d → c ≡ d
one_certificate c d is = cc is

free : (count : ℕ) → HasFreeCertificates (made count)
free count = record {
  certificates = λ object applies. let a = applied count object applies in subst IsFreeCertificate (sym a.1) refl;
  kept = λ key deletes. absurd (deleted count key deletes);
  one_secret = λ c d first second same. one_secret c d (applied count (Cert c) first) (applied count (Cert d) second) same;
  apart = λ c d number first second. apart c d number (applied count (Cert c) first) (applied count (Cert d) second);
} where
  one_secret : (c d : Certificate) → (i : ℕ) × (Cert c ≡ Cert (load_certificate i)) → (j : ℕ) × (Cert d ≡ Cert (load_certificate j)) → key_of (Cert c) ≡ key_of (Cert d) → c.spec.secret_name ≡ d.spec.secret_name
  one_secret c d (i, a) (j, b) same =
      let one = one_certificate c (load_certificate i) a in
      let two = one_certificate d (load_certificate j) b in
      let names : load_name i ≡ load_name j = sym (ap (λ (x : Certificate). x.meta.name) one) ∙ ap (λ (k : Key). k.name) same ∙ ap (λ (x : Certificate). x.meta.name) two in
      ap (λ (x : Certificate). x.spec.secret_name) one ∙ ap (λ (n : List ℕ). n ++ codes "-tls") names ∙ sym (ap (λ (x : Certificate). x.spec.secret_name) two)

  apart : (c d : Certificate) (number : ℕ) → (i : ℕ) × (Cert c ≡ Cert (load_certificate i)) → (j : ℕ) × (Cert d ≡ Cert (load_certificate j)) → c.spec.secret_name ≢ generated_name d.meta.name number
  apart c d number (i, a) (j, b) same =
      let one = one_certificate c (load_certificate i) a in
      let two = one_certificate d (load_certificate j) b in
      secret_apart i j number (sym (ap (λ (x : Certificate). x.spec.secret_name) one) ∙ same ∙ ap (λ (x : Certificate). generated_name x.meta.name number) two)

usual_one : (i : ℕ) → IsUsual (load_certificate i)
usual_one i = record { rotates = refl; curve = refl; no_stand_in = refl; addresses = refl; names = omega arith }

usual : (count : ℕ) (c : Certificate) → Applies (made count) (Cert c) → IsUsual c
usual count c applies = let a = applied count (Cert c) applies in subst IsUsual (sym (one_certificate c (load_certificate a.0) a.1)) (usual_one a.0)

pub generated_is_load : (count : ℕ) → IsLoad (made count)
generated_is_load count = record {
  free = free count;
  steps = all_load_steps (loads count ++ rests) (all_are count);
  usual = usual count;
  faults = refl;
  material = refl;
  refuse = refl;
  policies = refl;
}

pub generated_roles : (count : ℕ) → HasAllRoles (setting_of (load_setup count))
generated_roles count roles.Trigger = refl
generated_roles count roles.KeyManager = refl
generated_roles count roles.RequestManager = refl
generated_roles count roles.Approver = refl
generated_roles count roles.Issuer = refl
generated_roles count roles.Issuing = refl
generated_roles count roles.Readiness = refl
generated_roles count roles.Revision = refl
