-- What each entry makes of how far the roles were told.
use Rattle.std.proofs.Common.{◌≡◌, ℕ, ◌≤◌, Bool, true, false, List, ◌∷◌, length, refl, sym, ap, subst, ◌∙◌, arith}
use Rattle.std.specs.Prelude.{◌&&◌, if◌then◌else◌}
use Rattle.cmc_meta.specs.declared.key.Kind.{Kind}
use Rattle.cmc_meta.specs.declared.key.Kind.TheVariants as kinds
use Rattle.cmc_objects.specs.Informers.{has_informer}
use Rattle.cmc_objects.specs.declared.role.Role.{Role}
use Rattle.cmc_objects.specs.declared.entry.Positions.{Positions}
use Rattle.cmc_objects.specs.declared.entry.Entry.{Entry}
use Rattle.cmc_objects.specs.declared.entry.Entry.TheVariants.{Deliver, List as Listed, Start}
use Rattle.cmc_model.specs.Histories.{Setting, accepted, role_eq}
use Rattle.cmc_model.specs.Writes.{kind_eq}
use Rattle.cmc_model.proofs.Writes.{writes_count}
use Rattle.cmc_rules.specs.Memory.{with_position}
use Rattle.cmc_rules.specs.Positions.{position, positions}
use Rattle.cmc_held.specs.Dues.{shown_positions}
use Rattle.cmc_kernel.specs.Changes.{each_at}
use Rattle.cmc_kernel.specs.Kept.{Holdings, IsHoldingsOf}
use Rattle.cmc_kernel.proofs.RoleStates.{same_role}

low_if : (b : Bool) (p n : ℕ) → p ≤ n → (if b then p else 0) ≤ n
low_if true p n h = h
low_if false p n h = omega arith

-- ---- a role is told

told_kind : (h : List Entry) (kind : Kind) (to : ℕ) (r : Role) → has_informer r kind ≡ true
    → with_position kind to (positions h r)
    ≡ record {
      certificates = if has_informer r kinds.Certificate then (if kind_eq kind kinds.Certificate then to else position h r kinds.Certificate) else 0;
      requests = if has_informer r kinds.CertificateRequest then (if kind_eq kind kinds.CertificateRequest then to else position h r kinds.CertificateRequest) else 0;
      secrets = if has_informer r kinds.Secret then (if kind_eq kind kinds.Secret then to else position h r kinds.Secret) else 0;
    }
told_kind h kinds.Certificate to r is =
    let one : to ≡ (if has_informer r kinds.Certificate then to else 0) = ap (λ (b : Bool). if b then to else 0) (sym is) in
    λ i. record (positions h r) { certificates = one i }
told_kind h kinds.CertificateRequest to r is =
    let one : to ≡ (if has_informer r kinds.CertificateRequest then to else 0) = ap (λ (b : Bool). if b then to else 0) (sym is) in
    λ i. record (positions h r) { requests = one i }
told_kind h kinds.Secret to r is =
    let one : to ≡ (if has_informer r kinds.Secret then to else 0) = ap (λ (b : Bool). if b then to else 0) (sym is) in
    λ i. record (positions h r) { secrets = one i }

pub told_at : (b : Bool) (h : List Entry) (role : Role) (kind : Kind) (to : ℕ) (r : Role) → has_informer role kind ≡ true → role_eq role r ≡ b
    → (if b then with_position kind to (positions h role) else positions h r)
    ≡ record {
      certificates = if has_informer r kinds.Certificate then (if b && kind_eq kind kinds.Certificate then to else position h r kinds.Certificate) else 0;
      requests = if has_informer r kinds.CertificateRequest then (if b && kind_eq kind kinds.CertificateRequest then to else position h r kinds.CertificateRequest) else 0;
      secrets = if has_informer r kinds.Secret then (if b && kind_eq kind kinds.Secret then to else position h r kinds.Secret) else 0;
    }
told_at true h role kind to r is e =
    ap (λ (q : Role). with_position kind to (positions h q)) (same_role role r e) ∙ told_kind h kind to r (subst (λ (q : Role). has_informer q kind ≡ true) (same_role role r e) is)
told_at false h role kind to r is e = refl

-- how far the roles are told where one is told of the kind up to this write
abbrev pub IsTelling : Holdings → Role → Kind → ℕ → (Role → Positions) → Type 0
IsTelling w role kind to c = (r : Role) → c r ≡ (if role_eq role r then with_position kind to (w.told role) else w.told r)

of_history : (s : Setting) (h : List Entry) (w : Holdings) (role : Role) (kind : Kind) (to : ℕ) (r : Role) → IsHoldingsOf s h w
    → (if role_eq role r then with_position kind to (w.told role) else w.told r) ≡ (if role_eq role r then with_position kind to (positions h role) else positions h r)
of_history s h w role kind to r k =
    ap (λ (p : Positions). if role_eq role r then with_position kind to p else w.told r) (k.told role) ∙ ap (λ (p : Positions). if role_eq role r then with_position kind to (positions h role) else p) (k.told r)

pub told_delivered : (s : Setting) (h : List Entry) (w : Holdings) (role : Role) (kind : Kind) (to : ℕ) (c : Role → Positions) → IsHoldingsOf s h w → has_informer role kind ≡ true
    → IsTelling w role kind to c → (r : Role) → c r ≡ positions (Deliver role kind to ∷ h) r
told_delivered s h w role kind to c k is told r = told r ∙ of_history s h w role kind to r k ∙ told_at (role_eq role r) h role kind to r is refl

pub told_listed : (s : Setting) (h : List Entry) (w : Holdings) (role : Role) (kind : Kind) (to : ℕ) (c : Role → Positions) → IsHoldingsOf s h w → has_informer role kind ≡ true
    → IsTelling w role kind to c → (r : Role) → c r ≡ positions (Listed role kind to ∷ h) r
told_listed s h w role kind to c k is told r = told r ∙ of_history s h w role kind to r k ∙ told_at (role_eq role r) h role kind to r is refl

-- ---- a role starts

started_at : (b : Bool) (h : List Entry) (role : Role) (at : ℕ) (r : Role) → role_eq role r ≡ b
    → (if b then shown_positions role (each_at at) else positions h r)
    ≡ record {
      certificates = if has_informer r kinds.Certificate then (if b then at else position h r kinds.Certificate) else 0;
      requests = if has_informer r kinds.CertificateRequest then (if b then at else position h r kinds.CertificateRequest) else 0;
      secrets = if has_informer r kinds.Secret then (if b then at else position h r kinds.Secret) else 0;
    }
started_at true h role at r e = ap (λ (q : Role). shown_positions q (each_at at)) (same_role role r e)
started_at false h role at r e = refl

pub told_started : (s : Setting) (h : List Entry) (w : Holdings) (role : Role) (at : ℕ) (c : Role → Positions) → IsHoldingsOf s h w
    → ((r : Role) → c r ≡ (if role_eq role r then shown_positions role (each_at at) else w.told r)) → (r : Role) → c r ≡ positions (Start role at ∷ h) r
told_started s h w role at c k set r = set r ∙ ap (λ (p : Positions). if role_eq role r then shown_positions role (each_at at) else p) (k.told r) ∙ started_at (role_eq role r) h role at r refl

-- ---- what telling a role asks for

-- there are as many writes as were accepted
pub log_length : (s : Setting) (h : List Entry) (w : Holdings) → IsHoldingsOf s h w → length w.log ≡ accepted s h
log_length s h w k = ap length k.log ∙ writes_count s h

-- what a role that starts is shown was written
pub shown_low : (role : Role) (at n : ℕ) (p told : Positions) → told ≡ shown_positions role p → p ≡ each_at at → at ≤ n → (told.certificates ≤ n) × (told.requests ≤ n) × (told.secrets ≤ n)
shown_low role at n p told shown each low =
    let is : told ≡ shown_positions role (each_at at) = shown ∙ ap (shown_positions role) each in (
      subst (λ (m : ℕ). m ≤ n) (sym (ap (λ (q : Positions). q.certificates) is)) (low_if (has_informer role kinds.Certificate) at n low),
      subst (λ (m : ℕ). m ≤ n) (sym (ap (λ (q : Positions). q.requests) is)) (low_if (has_informer role kinds.CertificateRequest) at n low),
      subst (λ (m : ℕ). m ≤ n) (sym (ap (λ (q : Positions). q.secrets) is)) (low_if (has_informer role kinds.Secret) at n low),
    )
