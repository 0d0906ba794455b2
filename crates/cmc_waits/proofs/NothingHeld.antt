-- Where each role runs and no informer is held, the end of a run is told to all.
use Rattle.std.proofs.Common.{◌≡◌, List, [], ◌∷◌, Bool, true, false, not, ◌&&◌, refl, sym, subst, inl, inr}
use Rattle.std.proofs.lemmas.Bool.{or_parts}
use Rattle.std.specs.List.{list_any}
use Rattle.cmc_meta.specs.declared.key.Kind.{Kind}
use Rattle.cmc_meta.specs.declared.key.Kind.TheVariants as kinds
use Rattle.cmc_objects.specs.declared.role.Role.{Role}
use Rattle.cmc_objects.specs.declared.role.Role.TheVariants.{Trigger, KeyManager, RequestManager, Approver, Issuer, Issuing, Readiness, Revision}
use Rattle.cmc_objects.specs.declared.entry.Entry.{Entry}
use Rattle.cmc_model.specs.Histories.{Setting, runs}
use Rattle.cmc_objects.specs.Informers.{has_informer}
use Rattle.cmc_rules.specs.Scripts.{held}
use Rattle.cmc_rules.specs.Rest.{IsAtRest}
use Rattle.cmc_rules.specs.SeenObjects.{IsAmong}
use Rattle.cmc_kernel.proofs.Newest.{IsToldOfAll}
use Rattle.cmc_waits.specs.Waits.{is_kept_from, is_hindered, all_roles, is_stopped}

-- ---- what that is for a run at rest

kind_free : (s : Setting) (h : List Entry) (role : Role) (kind : Kind) → is_hindered s h role ≡ false → is_kept_from s h role kind ≡ false
kind_free s h role kinds.Certificate free = (or_parts _ _ free).0
kind_free s h role kinds.CertificateRequest free = (or_parts _ _ (or_parts _ _ free).1).0
kind_free s h role kinds.Secret free = (or_parts _ _ (or_parts _ _ free).1).1

one_of_all : (role : Role) → IsAmong role all_roles
one_of_all Trigger = inl refl
one_of_all KeyManager = inr (inl refl)
one_of_all RequestManager = inr (inr (inl refl))
one_of_all Approver = inr (inr (inr (inl refl)))
one_of_all Issuer = inr (inr (inr (inr (inl refl))))
one_of_all Issuing = inr (inr (inr (inr (inr (inl refl)))))
one_of_all Readiness = inr (inr (inr (inr (inr (inr (inl refl))))))
one_of_all Revision = inr (inr (inr (inr (inr (inr (inr (inl refl)))))))

none_of : (test : Role → Bool) (roles : List Role) (role : Role) → list_any test roles ≡ false → IsAmong role roles → test role ≡ false
none_of test [] role none among = absurd among
none_of test (r ∷ roles) role none (inl is) = subst (λ (x : Role). test x ≡ false) is (or_parts (test r) (list_any test roles) none).0
none_of test (r ∷ roles) role none (inr later) = none_of test roles role (or_parts (test r) (list_any test roles) none).1 later

role_free : (s : Setting) (h : List Entry) (role : Role) → is_stopped s h ≡ false → is_hindered s h role ≡ false
role_free s h role free = none_of (is_hindered s h) all_roles role free (one_of_all role)

is_on : (b : Bool) → not b ≡ false → b ≡ true
is_on true off = refl
is_on false off = sym off

is_off : (informed holding : Bool) → informed ≡ true → (informed && holding) ≡ false → holding ≡ false
is_off true holding informed off = off
is_off false holding informed off = absurd (cc informed)

-- each role runs
pub runs_free : (s : Setting) (h : List Entry) (role : Role) → is_stopped s h ≡ false → runs s h role ≡ true
runs_free s h role free = is_on (runs s h role) (or_parts _ _ (kind_free s h role kinds.Certificate (role_free s h role free))).0

-- and was told of all that there is to see
pub told_of_all : (s : Setting) (h : List Entry) (role : Role) → IsAtRest s h → is_stopped s h ≡ false → IsToldOfAll s h role
told_of_all s h role rest free kind informed =
    let parts = or_parts _ _ (kind_free s h role kind (role_free s h role free)) in
    (rest.rests role (runs_free s h role free)).0 kind informed (is_off (has_informer role kind) (held s h role kind) informed parts.1)
