-- What a new world holds is what the empty history says.
use Rattle.std.proofs.Common.{◌≡◌, ◌∙◌, ℕ, ℤ, pos, Bool, true, false, [], None, arith, refl}
use Rattle.std.proofs.lemmas.Int.{ints}
use Rattle.std.specs.Prelude.{◌≤ℤ◌, neg_ℤ, int_le, if◌then◌else◌}
use Rattle.std.specs.List.{list_any}
use Rattle.cmc_meta.specs.declared.key.Key.{Key}
use Rattle.cmc_meta.specs.declared.key.Kind.TheVariants as kinds
use Rattle.cmc_objects.specs.declared.role.Role.{Role}
use Rattle.cmc_objects.specs.Informers.{has_informer}
use Rattle.cmc_objects.specs.Requests.{is_run_time}
use Rattle.cmc_model.specs.Replies.{empty_store}
use Rattle.cmc_model.specs.Histories.{role_eq}
use Rattle.cmc_rules.specs.Memory.{no_past}
use Rattle.cmc_rules.specs.Legality.{IsLegal}
use Rattle.cmc_rules.specs.Causes.{IsCaused}
use Rattle.cmc_rules.specs.UserSteps.{Follows}
use Rattle.cmc_setup.specs.Setups.{Setup, IsSetup}
use Rattle.cmc_held.specs.declared.questions.Subject.{Subject}
use Rattle.cmc_held.specs.RoleStates.{first_role_state}
use Rattle.cmc_rules.specs.Positions.{positions}
use Rattle.cmc_caches.specs.Posted.{untold}
use Rattle.cmc_safety.specs.Formed.{IsFormed}
use Rattle.cmc_kernel.specs.Kept.{Holdings, IsKept, first_desk, setting_of}
use borrow.Author.Differences.{le-false}

at_most : (a b : ℤ) (t : Bool) → int_le a b ≡ t → a ≤ℤ b → t ≡ true
at_most a b true test h = refl
at_most a b false test h = absurd (omega (arith, ints, le-false a b test, h))

-- a moment of a run
run_time : (at : ℤ) → neg_ℤ (pos 599616000) ≤ℤ at → at ≤ℤ pos 250246627200 → is_run_time at ≡ true
run_time at low high = let first = at_most _ _ _ refl low in let last = at_most _ _ _ refl high in rw (first, last) refl

-- the setting of a scenario
pub formed : (u : Setup) → IsSetup u → IsFormed (setting_of u)
formed u setup = record {
  short = setup.most_events;
  times = λ at low high. run_time at (omega (arith, ints, setup.begins, low)) (omega (arith, ints, setup.ends, high));
  material = setup.material;
  steps = setup.steps;
}

-- before any entry nothing is told
zero_if : (b : Bool) → ◌≡◌ {A = ℕ} 0 (if b then 0 else 0)
zero_if true = refl
zero_if false = refl

nothing_at : (r : Role) → untold ≡ positions [] r
nothing_at r = λ i. record { certificates = zero_if (has_informer r kinds.Certificate) i; requests = zero_if (has_informer r kinds.CertificateRequest) i; secrets = zero_if (has_informer r kinds.Secret) i }

pub kept_new : (u : Setup) (w : Holdings) → w.faults ≡ u.faults → w.state ≡ empty_store → w.log ≡ [] → w.moment ≡ u.moment → w.made ≡ 0
    → ((r : Role) → w.role_state r ≡ first_role_state (list_any (λ role. role_eq role r) u.roles)) → ((r : Role) → w.told r ≡ untold) → w.origins ≡ [] → ((n : ℕ) → w.opened n ≡ None)
    → ((r : Role) (k : Key) → w.past r k ≡ no_past) → ((c : Subject) → w.keys_asked c ≡ 0) → ((c : Subject) → w.answers_asked c ≡ 0) → w.desk ≡ first_desk (setting_of u) → IsSetup u → IsKept (setting_of u) [] w
unfolding IsLegal IsCaused Follows
kept_new u w f s l m n t c o p q x y d setup = record {
  held = record {
    faults = f;
    formed = formed u setup;
    keys_asked = x;
    answers_asked = y;
    desk = d;
    state = s;
    log = l;
    moment = m;
    made = n;
    role_state = t;
    told = λ r. c r ∙ nothing_at r;
    origins = o;
    opened = p;
    past = q;
    run = record { legal = tt; caused = tt; follows = tt; short = omega arith };
  };
  settled = refl;
}
