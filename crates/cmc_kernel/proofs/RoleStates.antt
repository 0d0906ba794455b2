-- How each entry changes how the roles stand.
use Rattle.std.proofs.Common.{◌≡◌, ℕ, ◌+◌, Bool, true, false, List, ◌∷◌, Option, Some, refl, sym, ap, ◌∙◌, arith}
use Rattle.std.proofs.lemmas.Bool.Decides.{nat_tests}
use Rattle.std.specs.Prelude.{◌&&◌, if◌then◌else◌}
use Rattle.cmc_meta.specs.declared.key.Kind.{Kind}
use Rattle.cmc_meta.specs.declared.key.Kind.TheVariants as kinds
use Rattle.cmc_objects.specs.declared.role.Role.{Role}
use Rattle.cmc_objects.proofs.Ranks.{role_of_rank}
use Rattle.cmc_objects.specs.declared.call.Call.{Call}
use Rattle.cmc_objects.specs.declared.call.Reply.{Reply}
use Rattle.cmc_objects.specs.declared.entry.Step.{Step}
use Rattle.cmc_objects.specs.declared.entry.Step.TheVariants as steps
use Rattle.cmc_objects.specs.declared.entry.Who.TheVariants.{Pass}
use Rattle.cmc_objects.specs.declared.entry.Entry.{Entry}
use Rattle.cmc_objects.specs.declared.entry.Entry.TheVariants.{Script, Call as Called, Deliver, List as Listed, Stop, Start}
use Rattle.cmc_rules.specs.declared.progress.OpenPass.{OpenPass}
use Rattle.cmc_model.specs.Replies.{is_accepted, key_of_call}
use Rattle.cmc_model.specs.Histories.{Setting, runs, incarnation, role_eq}
use Rattle.cmc_model.specs.Writes.{kind_eq}
use Rattle.cmc_rules.specs.Positions.{position}
use Rattle.cmc_rules.specs.Passes.{open_pass}
use Rattle.cmc_rules.specs.Scripts.{held, held_by, step_at}
use Rattle.cmc_rules.specs.UserSteps.{written, is_pass_by}
use Rattle.cmc_held.specs.declared.role_states.RoleState.{RoleState}
use Rattle.cmc_kernel.specs.Changes.{telling, stopping, starting, keeping, writing, scripted_standing}
use Rattle.cmc_kernel.specs.Kept.{role_state}

pub same_role : (a b : Role) → role_eq a b ≡ true → a ≡ b
same_role a b e = role_of_rank a b (grind (arith, nat_tests))

told_kind : (s : Setting) (h : List Entry) (kind : Kind) (to : ℕ) (r : Role)
    → telling kind to (role_state s h r)
    ≡ record (role_state s h r) { told = record { certificates = if kind_eq kind kinds.Certificate then to else position h r kinds.Certificate; requests = if kind_eq kind kinds.CertificateRequest then to else position h r kinds.CertificateRequest; secrets = if kind_eq kind kinds.Secret then to else position h r kinds.Secret } }
told_kind s h kinds.Certificate to r = refl
told_kind s h other to r = refl

told_at : (b : Bool) (s : Setting) (h : List Entry) (role : Role) (kind : Kind) (to : ℕ) (r : Role) → role_eq role r ≡ b
    → (if b then telling kind to (role_state s h role) else role_state s h r)
    ≡ record (role_state s h r) { told = record { certificates = if b && kind_eq kind kinds.Certificate then to else position h r kinds.Certificate; requests = if b && kind_eq kind kinds.CertificateRequest then to else position h r kinds.CertificateRequest; secrets = if b && kind_eq kind kinds.Secret then to else position h r kinds.Secret } }
told_at true s h role kind to r e = ap (λ q. telling kind to (role_state s h q)) (same_role role r e) ∙ told_kind s h kind to r
told_at false s h role kind to r e = refl

pub standing_delivered : (s : Setting) (h : List Entry) (role : Role) (kind : Kind) (to : ℕ) (r : Role)
    → (if role_eq role r then telling kind to (role_state s h role) else role_state s h r) ≡ role_state s (Deliver role kind to ∷ h) r
standing_delivered s h role kind to r = told_at (role_eq role r) s h role kind to r refl

pub standing_listed : (s : Setting) (h : List Entry) (role : Role) (kind : Kind) (to : ℕ) (r : Role)
    → (if role_eq role r then telling kind to (role_state s h role) else role_state s h r) ≡ role_state s (Listed role kind to ∷ h) r
standing_listed s h role kind to r = told_at (role_eq role r) s h role kind to r refl

stopped_at : (b : Bool) (s : Setting) (h : List Entry) (role r : Role) → role_eq role r ≡ b
    → (if b then stopping (role_state s h role) else role_state s h r) ≡ record (role_state s h r) { running = if b then false else runs s h r }
stopped_at true s h role r e = ap (λ q. stopping (role_state s h q)) (same_role role r e)
stopped_at false s h role r e = refl

pub standing_stopped : (s : Setting) (h : List Entry) (role r : Role)
    → (if role_eq role r then stopping (role_state s h role) else role_state s h r) ≡ role_state s (Stop role ∷ h) r
standing_stopped s h role r = stopped_at (role_eq role r) s h role r refl

started_at : (b : Bool) (s : Setting) (h : List Entry) (role : Role) (at : ℕ) (r : Role) → role_eq role r ≡ b
    → (if b then starting at (role_state s h role) else role_state s h r)
    ≡ record (role_state s h r) { running = if b then true else runs s h r; incarnation = if b then incarnation s h r + 1 else incarnation s h r; told = record { certificates = if b then at else position h r kinds.Certificate; requests = if b then at else position h r kinds.CertificateRequest; secrets = if b then at else position h r kinds.Secret } }
started_at true s h role at r e = ap (λ q. starting at (role_state s h q)) (same_role role r e)
started_at false s h role at r e = refl

pub standing_started : (s : Setting) (h : List Entry) (role : Role) (at : ℕ) (r : Role)
    → (if role_eq role r then starting at (role_state s h role) else role_state s h r) ≡ role_state s (Start role at ∷ h) r
standing_started s h role at r = started_at (role_eq role r) s h role at r refl

-- ---- steps that hold and release

kept_kind : (s : Setting) (h : List Entry) (kind : Kind) (on : Bool) (r : Role)
    → keeping kind on (role_state s h r)
    ≡ record (role_state s h r) { held = record { certificates = if kind_eq kind kinds.Certificate then on else held s h r kinds.Certificate; requests = if kind_eq kind kinds.CertificateRequest then on else held s h r kinds.CertificateRequest; secrets = if kind_eq kind kinds.Secret then on else held s h r kinds.Secret } }
kept_kind s h kinds.Certificate on r = refl
kept_kind s h other on r = refl

held_one : (b : Bool) (s : Setting) (h : List Entry) (kind : Kind) (on : Bool) (r : Role)
    → (if b then keeping kind on (role_state s h r) else role_state s h r)
    ≡ record (role_state s h r) { held = record { certificates = if b && kind_eq kind kinds.Certificate then on else held s h r kinds.Certificate; requests = if b && kind_eq kind kinds.CertificateRequest then on else held s h r kinds.CertificateRequest; secrets = if b && kind_eq kind kinds.Secret then on else held s h r kinds.Secret } }
held_one true s h kind on r = kept_kind s h kind on r
held_one false s h kind on r = refl

step_standing : (s : Setting) (h : List Entry) (n : ℕ) (step : Step) (r : Role)
    → scripted_standing step r (role_state s h r)
    ≡ record (role_state s h r) { held = record { certificates = held_by r kinds.Certificate (held s h r kinds.Certificate) (Some step); requests = held_by r kinds.CertificateRequest (held s h r kinds.CertificateRequest) (Some step); secrets = held_by r kinds.Secret (held s h r kinds.Secret) (Some step) } }
step_standing s h n (steps.Hold role kind) r = held_one (role_eq role r) s h kind true r
step_standing s h n (steps.Release role kind) r = held_one (role_eq role r) s h kind false r
step_standing s h n other r = refl

-- a step of the script changes what it holds and releases
pub standing_scripted : (s : Setting) (h : List Entry) (n : ℕ) (step : Step) (r : Role) → step_at s.script n ≡ Some step
    → scripted_standing step r (role_state s h r) ≡ role_state s (Script n ∷ h) r
standing_scripted s h n step r is =
    step_standing s h n step r
    ∙ ap (λ (o : Option Step). record (role_state s h r) { held = record { certificates = held_by r kinds.Certificate (held s h r kinds.Certificate) o; requests = held_by r kinds.CertificateRequest (held s h r kinds.CertificateRequest) o; secrets = held_by r kinds.Secret (held s h r kinds.Secret) o } }) (sym is)

-- ---- writes

wrote_kind : (s : Setting) (h : List Entry) (kind : Kind) (r : Role)
    → writing kind (role_state s h r)
    ≡ record (role_state s h r) { written = record { certificates = if kind_eq kind kinds.Certificate then written s h r kinds.Certificate + 1 else written s h r kinds.Certificate; requests = if kind_eq kind kinds.CertificateRequest then written s h r kinds.CertificateRequest + 1 else written s h r kinds.CertificateRequest; secrets = if kind_eq kind kinds.Secret then written s h r kinds.Secret + 1 else written s h r kinds.Secret } }
wrote_kind s h kinds.Certificate r = refl
wrote_kind s h other r = refl

flip : (a b : Bool) → (a && b) ≡ (b && a)
flip true true = refl
flip true false = refl
flip false true = refl
flip false false = refl

one_count : (b c : Bool) (n : ℕ) → (if b && c then n + 1 else n) ≡ (if c && b then n + 1 else n)
one_count b c n = ap (λ (d : Bool). if d then n + 1 else n) (flip b c)

wrote_at : (a b : Bool) (s : Setting) (h : List Entry) (role : Role) (kind : Kind) (r : Role) → role_eq role r ≡ b
    → (if a && b then writing kind (role_state s h role) else role_state s h r)
    ≡ record (role_state s h r) {
      written = record {
        certificates = if a && (kind_eq kind kinds.Certificate && b) then written s h r kinds.Certificate + 1 else written s h r kinds.Certificate;
        requests = if a && (kind_eq kind kinds.CertificateRequest && b) then written s h r kinds.CertificateRequest + 1 else written s h r kinds.CertificateRequest;
        secrets = if a && (kind_eq kind kinds.Secret && b) then written s h r kinds.Secret + 1 else written s h r kinds.Secret;
      };
    }
wrote_at true true s h role kind r e =
    let one = one_count true (kind_eq kind kinds.Certificate) (written s h r kinds.Certificate) in
    let two = one_count true (kind_eq kind kinds.CertificateRequest) (written s h r kinds.CertificateRequest) in
    let three = one_count true (kind_eq kind kinds.Secret) (written s h r kinds.Secret) in
    ap (λ q. writing kind (role_state s h q)) (same_role role r e) ∙ wrote_kind s h kind r
    ∙ (λ i. record (role_state s h r) { written = record { certificates = one i; requests = two i; secrets = three i } })
wrote_at true false s h role kind r e =
    let one = one_count false (kind_eq kind kinds.Certificate) (written s h r kinds.Certificate) in
    let two = one_count false (kind_eq kind kinds.CertificateRequest) (written s h r kinds.CertificateRequest) in
    let three = one_count false (kind_eq kind kinds.Secret) (written s h r kinds.Secret) in
    λ i. record (role_state s h r) { written = record { certificates = one i; requests = two i; secrets = three i } }
wrote_at false b s h role kind r e = refl

counting : Setting → List Entry → Call → Reply → Role → Option OpenPass → RoleState
counting s h call reply r p = record (role_state s h r) {
  written = record {
    certificates = if is_accepted reply && (kind_eq (key_of_call call).kind kinds.Certificate && is_pass_by r p) then written s h r kinds.Certificate + 1 else written s h r kinds.Certificate;
    requests = if is_accepted reply && (kind_eq (key_of_call call).kind kinds.CertificateRequest && is_pass_by r p) then written s h r kinds.CertificateRequest + 1 else written s h r kinds.CertificateRequest;
    secrets = if is_accepted reply && (kind_eq (key_of_call call).kind kinds.Secret && is_pass_by r p) then written s h r kinds.Secret + 1 else written s h r kinds.Secret;
  };
}

-- an accepted call of a pass counts for its role
pub standing_called : (s : Setting) (h : List Entry) (n : ℕ) (p : OpenPass) (call : Call) (reply : Reply) (r : Role) → open_pass s h n ≡ Some p
    → (if is_accepted reply && role_eq p.role r then writing (key_of_call call).kind (role_state s h p.role) else role_state s h r) ≡ role_state s (Called (Pass n) call reply ∷ h) r
unfolding counting
standing_called s h n p call reply r is =
    wrote_at (is_accepted reply) (role_eq p.role r) s h p.role (key_of_call call).kind r refl ∙ ap (counting s h call reply r) (sym is)
