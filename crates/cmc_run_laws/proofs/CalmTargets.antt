-- The Secret that issuing writes after its live read.
use Rattle.std.proofs.Common.{◌≡◌, ℕ, ℤ, List, Option, Some, None, Bool, true, false, refl, sym, ap, subst, ◌∙◌, cond, ◌≢◌}
use Rattle.std.specs.Cmp.{Equal-is}
use Rattle.std.specs.Ordering.{eq_by_cmp}
use Rattle.cmc_meta.specs.declared.key.Key.{Key}
use Rattle.cmc_meta.specs.declared.key.Kind.TheVariants as kinds
use Rattle.cmc_meta.specs.Keys.{key_cmp}
use Rattle.cmc_meta.proofs.KeyOrder.{key_cmp-IsAntisymmetric}
use Rattle.cmc_objects.specs.declared.certificate.Certificate.{Certificate}
use Rattle.cmc_objects.specs.declared.secret.Secret.{Secret as SecretObject}
use Rattle.cmc_objects.specs.declared.object.Object.{Object}
use Rattle.cmc_objects.specs.declared.object.Object.TheVariants.{Cert}
use Rattle.cmc_objects.specs.declared.call.Call.{Call}
use Rattle.cmc_objects.specs.declared.call.Reply.{Reply}
use Rattle.cmc_objects.specs.Objects.{key_of}
use Rattle.cmc_objects.specs.Informers.{looks_at_secret}
use Rattle.cmc_pass.specs.declared.pass.Views.{Views}
use Rattle.cmc_pass.specs.declared.pass.Act.{Act}
use Rattle.cmc_pass.specs.declared.pass.Act.TheVariants.{Nothing, Call as Calls, Ask as Asks, Issue, Temporary}
use Rattle.cmc_model.specs.Objects.{Objects, object_at}
use Rattle.cmc_model.specs.Replies.{put_at, key_of_call, settled}
use Rattle.cmc_model.specs.Histories.{Setting, objects}
use Rattle.cmc_model.proofs.Versions.{object_at-put}
use Rattle.cmc_objects.specs.declared.entry.Entry.{Entry}
use Rattle.cmc_objects.specs.declared.role.Role.{Role}
use Rattle.cmc_rules.specs.Causes.{IsSecretCall}
use Rattle.cmc_rules.specs.Issuance.{issuing, secret_call, new_target}
use Rattle.cmc_rules.specs.Legality.{IsLegal}
use Rattle.cmc_rules.specs.Views.{present_views}
use Rattle.cmc_safety.specs.Completion.{IsPlan}
use Rattle.cmc_safety.proofs.Plans.{PlansFor, PlansOf, plans}
use Rattle.cmc_run_laws.proofs.CalmReplies.{IsNewName}
use Rattle.cmc_run_laws.proofs.CalmViews.{target_key, no_target}

-- the call is the write of the target of the Certificate that is seen
pub record IsTargetWrite (seen : Views) (call : Call) : Type 0 where
  pub stand_in : Bool
  pub certificate : Certificate
  pub key : List ℕ
  pub signed : List ℕ
  pub ca : List ℕ
  pub sees : seen.certificate ≡ Some certificate
  pub is : call ≡ secret_call stand_in certificate key signed ca seen.secret

planned : (does : Act) (call : Call) → IsSecretCall does call → IsPlan does
planned Nothing call is = absurd is
planned (Calls first) call is = absurd is
planned (Asks order) call is = absurd is
planned (Issue plan) call is = tt
planned (Temporary plan) call is = tt

by_plan : (seen : Views) (c : Certificate) (does : Act) (call : Call) → seen.certificate ≡ Some c → PlansFor c seen.secret does → IsSecretCall does call → IsTargetWrite seen call
by_plan seen c Nothing call sees for_it is = absurd is
by_plan seen c (Calls first) call sees for_it is = absurd is
by_plan seen c (Asks order) call sees for_it is = absurd is
by_plan seen c (Issue plan) call sees for_it is =
    record { stand_in = false; certificate = c; key = for_it.1.key; signed = for_it.1.certificate; ca = for_it.1.ca; sees = sees; is = is ∙ for_it.1.is }
by_plan seen c (Temporary plan) call sees for_it is =
    record { stand_in = true; certificate = c; key = for_it.1.key; signed = for_it.1.certificate; ca = for_it.1.ca; sees = sees; is = is ∙ for_it.1.is }

by_certificate : (seen : Views) (o : Option Certificate) (does : Act) (call : Call) → seen.certificate ≡ o → PlansOf o seen.secret does → IsSecretCall does call → IsTargetWrite seen call
by_certificate seen None does call sees none is = absurd (none (planned does call is))
by_certificate seen (Some c) does call sees for_it is = by_plan seen c does call sees for_it is

pub target_write : (seen : Views) (since : ℤ) (call : Call) → IsSecretCall (issuing seen since) call → IsTargetWrite seen call
target_write seen since call is = by_certificate seen seen.certificate (issuing seen since) call refl (plans seen since) is

-- where it is made anew, nothing stands under its name
new_by : (s : Setting) (h : List Entry) (stand_in : Bool) (c : Certificate) (key signed ca : List ℕ) (target : Option SecretObject) → (target ≡ None → object_at (objects s h) (target_key c) ≡ None)
    → IsNewName s h (secret_call stand_in c key signed ca target)
unfolding secret_call new_target
new_by s h stand_in c key signed ca None none = none refl
new_by s h stand_in c key signed ca (Some k) none = tt

pub new_target_name : (s : Setting) (h : List Entry) (role : Role) (key : Key) (seen : Views) (call : Call) → IsLegal s h → looks_at_secret role ≡ true → seen ≡ present_views s h role key
    → IsTargetWrite seen call → IsNewName s h call
new_target_name s h role key seen call legal looks same w =
    subst (IsNewName s h) (sym w.is) (new_by s h w.stand_in w.certificate w.key w.signed w.ca seen.secret (λ none. no_target s h role key seen w.certificate legal looks same w.sees none))

-- ---- it leaves all Certificates

secret_kind : (stand_in : Bool) (c : Certificate) (key signed ca : List ℕ) (target : Option SecretObject) (reply : Reply) → (key_of_call (settled (secret_call stand_in c key signed ca target) reply)).kind ≡ kinds.Secret
unfolding secret_call settled
secret_kind stand_in c key signed ca None reply = refl
secret_kind stand_in c key signed ca (Some k) reply = refl

put_apart : (m : Objects) (k : Key) (o : Option Object) (q : Key) → k ≢ q → object_at (put_at m k o) q ≡ object_at m q
put_apart m k o q other = object_at-put m k o q ∙ ap (λ (x : Bool). cond x o (object_at m q)) (off (eq_by_cmp key_cmp q k) refl) where
  off : (x : Bool) → eq_by_cmp key_cmp q k ≡ x → eq_by_cmp key_cmp q k ≡ false
  off true e = absurd (other (sym (key_cmp-IsAntisymmetric q k ((Equal-is (key_cmp q k)).0 e))))
  off false e = e

pub leaves_certificates : (m : Objects) (seen : Views) (call : Call) (reply : Reply) (o : Option Object) (c : Certificate) → IsTargetWrite seen call
    → object_at (put_at m (key_of_call (settled call reply)) o) (key_of (Cert c)) ≡ object_at m (key_of (Cert c))
leaves_certificates m seen call reply o c w =
    let kind : (key_of_call (settled call reply)).kind ≡ kinds.Secret =
    ap (λ (x : Call). (key_of_call (settled x reply)).kind) w.is ∙ secret_kind w.stand_in w.certificate w.key w.signed w.ca seen.secret reply in
    put_apart m (key_of_call (settled call reply)) o (key_of (Cert c)) (λ same. absurd (cc (sym kind ∙ ap (λ (k : Key). k.kind) same)))
