-- No more passes begin than there are pairs of a role and a key, each taken once and once more for each reason.
use Rattle.std.proofs.Common.{◌≡◌, ℕ, ◌+◌, ◌*◌, ◌≤◌, List, length, Bool, true, false, ◌&&◌, refl, arith}
use Rattle.std.specs.List.{list_any}
use Rattle.cmc_meta.specs.declared.key.Key.{Key}
use Rattle.cmc_meta.specs.Keys.{key_eq}
use Rattle.cmc_objects.specs.declared.role.Role.{Role}
use Rattle.cmc_objects.specs.declared.role.Role.TheVariants.{Trigger, KeyManager, RequestManager, Approver, Issuer, Issuing, Readiness, Revision}
use Rattle.cmc_objects.specs.declared.entry.Who.TheVariants.{User, Pass}
use Rattle.cmc_objects.specs.declared.entry.Entry.{Entry}
use Rattle.cmc_objects.specs.declared.entry.Entry.TheVariants.{Call as Called, Deliver, List as Listed, Begin, Start, Tick}
use Rattle.cmc_model.specs.Histories.{role_eq}
use Rattle.cmc_waits.specs.Waits.{all_roles}
use Rattle.cmc_run_laws.specs.Begins.{HasReasonsEnough, begins_on, count_of, is_reason_for}
use Rattle.cmc_run_laws.specs.Lengths.{BeginsOn, HasFewPasses, is_begin, is_reason}
use Rattle.cmc_run_laws.proofs.Counting.{counted_by_parts, counted_less, each_goes, is_in_part, of_all}

abbrev begins_of : Role → Entry → Bool
begins_of role (Begin pass r k at now) = role_eq r role
begins_of role other = false

same_test : (b : Bool) (k : Key) (keys : List Key) → b ≡ true → list_any (λ x. key_eq k x) keys ≡ true → list_any (λ x. b && key_eq k x) keys ≡ true
same_test true k keys on is = is
same_test false k keys on is = absurd (cc on)

on_a_key : (role : Role) (keys : List Key) (e : Entry) → BeginsOn keys e → begins_of role e ≡ true → is_in_part (begins_on role) keys e ≡ true
on_a_key role keys (Begin pass r k at now) on is = same_test (role_eq r role) k keys is on
on_a_key role keys other on is = absurd (cc is)

pub some_role : (r : Role) → list_any (λ role. role_eq r role) all_roles ≡ true
some_role Trigger = refl
some_role KeyManager = refl
some_role RequestManager = refl
some_role Approver = refl
some_role Issuer = refl
some_role Issuing = refl
some_role Readiness = refl
some_role Revision = refl

of_a_role : (e : Entry) → is_begin e ≡ true → is_in_part begins_of all_roles e ≡ true
of_a_role (Begin pass r k at now) is = some_role r
of_a_role other is = absurd (cc is)

is_some_reason : (role : Role) (e : Entry) → is_reason_for role e ≡ true → is_reason e ≡ true
is_some_reason role (Called User call reply) is = absurd (cc is)
is_some_reason role (Called (Pass n) call reply) is = is
is_some_reason role (Deliver r kind to) is = refl
is_some_reason role (Listed r kind to) is = refl
is_some_reason role (Start r at) is = refl
is_some_reason role (Tick now) is = refl
is_some_reason role other is = absurd (cc is)

pub few_passes : (whole : List Entry) → HasReasonsEnough whole → HasFewPasses whole
few_passes whole law keys on =
    counted_by_parts is_begin begins_of all_roles whole (length keys * most) (of_all _ whole of_a_role) (of_all _ all_roles of_role)
  where
    most : ℕ
    most = count_of is_reason whole + 1

    on_key : (role : Role) (key : Key) → count_of (begins_on role key) whole ≤ most
    on_key role key = let low = law role key in let less = counted_less (is_reason_for role) is_reason whole (is_some_reason role) in omega (arith, low, less)

    of_role : (role : Role) → count_of (begins_of role) whole ≤ length keys * most
    of_role role =
        counted_by_parts (begins_of role) (begins_on role) keys whole most (each_goes (BeginsOn keys) _ whole (on_a_key role keys) on) (of_all _ keys (on_key role))
