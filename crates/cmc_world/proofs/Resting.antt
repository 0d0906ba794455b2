-- All is at rest where no role that runs has something to do.
use Rattle.std.proofs.Common.{◌≡◌, inl, inr, List, Option, Some, None, Bool, true, false, refl, sym, subst}
use Rattle.std.specs.Prelude.{◌↔◌, is_some, IsTrue, MatchBool}
use Rattle.cmc_meta.specs.declared.key.Key.{Key}
use Rattle.cmc_objects.specs.declared.role.Role.{Role}
use Rattle.cmc_objects.specs.declared.entry.Entry.{Entry}
use Rattle.cmc_model.specs.Histories.{Setting, runs}
use Rattle.cmc_pass.specs.declared.pass.Views.{Views}
use Rattle.cmc_rules.specs.Rest.{IsAtRest, IsIdle, IsPaused, RestsOnKnown}
use Rattle.cmc_rules.specs.Runs.{IsRun}
use Rattle.cmc_rules.specs.Scripts.{has_held}
use Rattle.cmc_rules.specs.Views.{present_views}
use Rattle.cmc_kernel.specs.Plain.{HasNoPass, HasNoDelivery}
use Rattle.cmc_world.specs.Searches.{FindsDelivery, FindsPass, HasWork, RestsWhereRunning}
use Rattle.cmc_world.specs.declared.deliveries.Delivery.{Delivery}
use Rattle.cmc_world.specs.declared.passes.Going.{Going}
use Rattle.cmc_waits.proofs.Finishing.{closed, rests_unless, told, views_told}

-- a role that runs rests where it can begin nothing that it has to do
pub rests_by_none : (s : Setting) (h : List Entry) (role : Role) → IsRun s h → HasNoPass s h → HasNoDelivery s h → runs s h role ≡ true → ((key : Key) → HasWork s h role key → ⊥) → RestsOnKnown s h role
rests_by_none s h role run no_pass no_delivery running none key known =
    rests_unless s h role key run (closed s h no_pass) no_delivery running known (λ f busy. none key (record { may = f.may; busy = busy }))

rests_not_by : (b : Bool) (s : Setting) (h : List Entry) (role : Role) (key : Key) → has_held s h role ≡ b → IsRun s h → HasNoDelivery s h → HasWork s h role key → MatchBool b (IsPaused s h role key) (IsIdle s h role (present_views s h role key)) → ⊥
rests_not_by true s h role key held run no_delivery work (inl idle) = work.busy idle
rests_not_by true s h role key held run no_delivery work (inr undue) = undue work.may.due
rests_not_by false s h role key held run no_delivery work idle = work.busy (subst (λ (v : Views). IsIdle s h role v) (sym (views_told s h role key run no_delivery work.may.running held)) idle)

-- and does not where it can
pub rests_not : (s : Setting) (h : List Entry) (role : Role) (key : Key) → IsRun s h → HasNoDelivery s h → HasWork s h role key → RestsOnKnown s h role → ⊥
rests_not s h role key run no_delivery work rests = rests_not_by (has_held s h role) s h role key refl run no_delivery work (rests key work.may.known)

-- ---- all is at rest

pub at_rest_by : (s : Setting) (h : List Entry) (b : Bool) → HasNoPass s h → HasNoDelivery s h → (IsTrue b ↔ ((role : Role) → RestsWhereRunning s h role)) → IsTrue b ↔ IsAtRest s h
at_rest_by s h b no_pass no_delivery e = (
  λ on. record { closed = closed s h no_pass; rests = λ role running. (λ kind. told s h no_delivery role kind running, e.0 on role running) },
  λ rest. e.1 (λ role running. (rest.rests role running).1),
)

-- where neither a pass nor a delivery is found
pub at_rest_where : (s : Setting) (h : List Entry) (going : Option Going) (d : Option Delivery) (b : Bool) → is_some going ≡ false → is_some d ≡ false → FindsPass s h going → FindsDelivery s h d → (IsTrue b ↔ ((role : Role) → RestsWhereRunning s h role)) → IsTrue b ↔ IsAtRest s h
at_rest_where s h None None b closed told no_pass no_delivery e = at_rest_by s h b no_pass no_delivery e
at_rest_where s h (Some going) d b closed told no_pass no_delivery e = absurd (cc closed)
at_rest_where s h None (Some d) b closed told no_pass no_delivery e = absurd (cc told)
