-- At rest each Certificate that is not Ready waits for something that has a name.
use Rattle.std.proofs.Common.{◌≡◌, List, Some, None, Bool, true, false, not, refl, sym, ap, ◌∙◌}
use Rattle.std.specs.Prelude.{IsSome, if◌then◌else◌}
use Rattle.cmc_meta.specs.declared.key.Key.{Key}
use Rattle.cmc_meta.specs.declared.conditions.ConditionKind.TheVariants.{Ready}
use Rattle.cmc_objects.specs.declared.certificate.Certificate.{Certificate}
use Rattle.cmc_objects.specs.declared.object.Object.{Object}
use Rattle.cmc_objects.specs.declared.object.Object.TheVariants.{Cert, Request, Secret}
use Rattle.cmc_objects.specs.declared.role.Role.TheVariants.{Issuing}
use Rattle.cmc_objects.specs.declared.entry.Entry.{Entry}
use Rattle.cmc_objects.specs.Requests.{is_stated}
use Rattle.cmc_summary.specs.declared.summary.WaitName.TheVariants.{Stopped}
use Rattle.cmc_model.specs.Objects.{Objects, object_at}
use Rattle.cmc_model.specs.Histories.{Setting, moment, objects}
use Rattle.cmc_model.specs.Writes.{writes, is_known}
use Rattle.cmc_model.proofs.Writes.{writes_leave}
use Rattle.cmc_rules.specs.Rest.{IsAtRest}
use Rattle.cmc_rules.specs.Runs.{IsRun}
use Rattle.cmc_rules.specs.Views.{present_views}
use Rattle.cmc_waits.specs.Waits.{is_stopped, wait_in}
use Rattle.cmc_waits.specs.Named.{NamesEachWait}
use Rattle.cmc_waits.proofs.EachWait.{IsStill, waits_where_still}
use Rattle.cmc_kernel.proofs.Known.{none_under}
use Rattle.cmc_waits.proofs.Finishing.{idle_at_rest}
use Rattle.cmc_waits.proofs.NothingHeld.{runs_free, told_of_all}

pub known_by : (b : Bool) (s : Setting) (h : List Entry) (key : Key) (o : Object) → is_known key (writes s h) ≡ b → object_at (objects s h) key ≡ Some o → b ≡ true
known_by true s h key o is stands = refl
known_by false s h key o is stands =
    let none : object_at (objects s h) key ≡ None = ap (λ (m : Objects). object_at m key) (sym (writes_leave s h)) ∙ none_under key (writes s h) is in
    absurd (cc (none, stands))

-- where each role runs and no informer is held, none has anything to do on what stands
pub still : (s : Setting) (h : List Entry) → IsRun s h → IsAtRest s h → is_stopped s h ≡ false → IsStill s h
still s h run rest free role key o stands =
    idle_at_rest s h role key run (told_of_all s h role rest free) ((rest.rests role (runs_free s h role free)).1 key (known_by (is_known key (writes s h)) s h key o refl stands))

is_off : (b : Bool) → not b ≡ true → b ≡ false
is_off true on = absurd (cc on)
is_off false on = refl

named_by : (stopped : Bool) (s : Setting) (h : List Entry) (key : Key) (c : Certificate) → is_stopped s h ≡ stopped → IsRun s h → IsAtRest s h → object_at (objects s h) key ≡ Some (Cert c) → not (is_stated Ready c.status.conditions) ≡ true
    → IsSome (if stopped then Some Stopped else wait_in (moment s h) (present_views s h Issuing key))
named_by true s h key c is run rest stands waiting = refl
named_by false s h key c is run rest stands waiting =
    waits_where_still s h key c run.legal run.caused run.follows (still s h run rest is) stands (is_off (is_stated Ready c.status.conditions) waiting)

pub each_named : (s : Setting) (h : List Entry) → IsRun s h → IsAtRest s h → NamesEachWait s h
each_named s h run rest key (Cert c) stands waiting = named_by (is_stopped s h) s h key c refl run rest stands waiting
each_named s h run rest key (Request r) stands waiting = absurd (cc waiting)
each_named s h run rest key (Secret k) stands waiting = absurd (cc waiting)
