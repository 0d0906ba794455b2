-- No call of a pass is idle while its role sees what it saw.
use Rattle.std.proofs.Common.{◌≡◌, ℤ, Option, true, refl, sym, ap, subst, ◌∙◌}
use Rattle.cmc_objects.specs.declared.orders.Order.{Order}
use Rattle.cmc_objects.specs.declared.call.Call.{Call}
use Rattle.cmc_objects.specs.declared.role.Role.{Role}
use Rattle.cmc_objects.specs.Requests.{is_run_time}
use Rattle.cmc_pass.specs.declared.pass.Views.{Views}
use Rattle.cmc_pass.specs.declared.pass.Desk.{Desk}
use Rattle.cmc_pass.specs.declared.pass.Act.{Act}
use Rattle.cmc_pass.specs.declared.pass.Act.TheVariants.{Nothing, Call as Calls, Ask as Asks, Issue, Temporary}
use Rattle.cmc_pass.specs.declared.value.Value.{Value}
use Rattle.cmc_model.specs.Histories.{Setting}
use Rattle.cmc_model.specs.Writes.{writes}
use Rattle.cmc_rules.specs.declared.progress.Stage.{Stage}
use Rattle.cmc_rules.specs.declared.progress.Stage.TheVariants.{Fresh, Asked, Given, Read, Saved, Wrote, Refused, Barred}
use Rattle.cmc_rules.specs.Acts.{act, call_after}
use Rattle.cmc_rules.specs.Causes.{IsFirstCall, IsNextCall, IsSecretCall, IsStatusCall}
use Rattle.cmc_rules.specs.Desks.{desk}
use Rattle.cmc_rules.specs.Issuance.{issuing}
use Rattle.cmc_rules.specs.Passes.{stage_written, is_temporary_act}
use Rattle.cmc_rules.specs.SeenObjects.{IsWellSeen}
use Rattle.cmc_rules.specs.Sound.{IsWithin}
use Rattle.cmc_rules.proofs.Sighted.{AreKnown, views_known}
use Rattle.cmc_rules.proofs.WellSeen.{views_well}
use Rattle.cmc_safety.proofs.Plans.{act_of_issuing}
use Rattle.cmc_moves.proofs.Sounds.{each_sound}
use Rattle.cmc_run_laws.proofs.IdleCalls.{ChangesSeen, never_unchanged}
use Rattle.cmc_run_laws.proofs.SinceBegin.{AskedByAct, Begun, NoneIsIdle}
use Rattle.cmc_run_laws.proofs.StandInsChange.{changes_stand_in, lacking}
use Rattle.cmc_run_laws.proofs.TablesChange.{IsProperAct, SeesInOrder, proper_act}
use Rattle.cmc_run_laws.proofs.ValuesChange.{changes_after}

first_changes : (seen : Views) (does : Act) (call : Call) → IsProperAct seen does → IsFirstCall does call → ChangesSeen seen call
first_changes seen (Calls first) call is next = subst (ChangesSeen seen) (sym next) is.changes
first_changes seen (Issue plan) call is next = subst (ChangesSeen seen) (sym next) tt
first_changes seen (Temporary plan) call is next = subst (ChangesSeen seen) (sym next) tt
first_changes seen other call is next = absurd next

status_changes : (seen : Views) (does : Act) (call : Call) → IsProperAct seen does → IsStatusCall does call → ChangesSeen seen call
status_changes seen (Issue plan) call is next = subst (ChangesSeen seen) (sym next) is.1.changes
status_changes seen other call is next = absurd next

-- the Secret of an issuance may stand so already, and its status follows
secret_goes_on : (role : Role) (seen : Views) (since : ℤ) (d : Desk) (after : Order → Value → Option Call) (does : Act) (call : Call) → act role seen since d ≡ does → is_run_time since ≡ true → IsWithin role after seen since does
    → IsSecretCall does call → (ChangesSeen seen call → ⊥) → stage_written (is_temporary_act (issuing seen since)) Read ≡ Saved
secret_goes_on role seen since d after (Issue plan) call is run within next none =
    let issues : issuing seen since ≡ Issue plan = sym (act_of_issuing role seen since d within.issuing) ∙ is in
    ap (λ (a : Act). stage_written (is_temporary_act a) Read) issues
secret_goes_on role seen since d after (Temporary plan) call is run within next none =
    let stands_in_for : issuing seen since ≡ Temporary plan = sym (act_of_issuing role seen since d within.issuing) ∙ is in
    absurd (none (subst (ChangesSeen seen) (sym next) (changes_stand_in seen role since plan run (lacking seen since plan stands_in_for) within)))
secret_goes_on role seen since d after Nothing call is run within next none = absurd next
secret_goes_on role seen since d after (Calls first) call is run within next none = absurd next
secret_goes_on role seen since d after (Asks order) call is run within next none = absurd next

idle_at : (stage : Stage) (role : Role) (seen : Views) (since : ℤ) (d : Desk) (call : Call) → is_run_time since ≡ true → SeesInOrder seen → IsWellSeen seen → AskedByAct role seen since stage
    → IsNextCall stage (act role seen since d) (call_after role seen since) call → (ChangesSeen seen call → ⊥) → stage_written (is_temporary_act (issuing seen since)) stage ≡ Saved
idle_at Fresh role seen since d call run order well asked next none = absurd (none (first_changes seen (act role seen since d) call (proper_act role seen since d order) next))
idle_at (Given asks value) role seen since d call run order well asked next none = absurd (none (changes_after role seen since asks value call asked.0 asks asked.1 next))
idle_at Read role seen since d call run order well asked next none =
    secret_goes_on role seen since d (call_after role seen since) (act role seen since d) call refl run ((each_sound role).within seen since d well) next none
idle_at Saved role seen since d call run order well asked next none = absurd (none (status_changes seen (act role seen since d) call (proper_act role seen since d order) next))
idle_at (Asked asks) role seen since d call run order well asked next none = absurd next
idle_at Wrote role seen since d call run order well asked next none = absurd next
idle_at (Refused entry obstacle) role seen since d call run order well asked next none = absurd next
idle_at Barred role seen since d call run order well asked next none = absurd next

pub never_idle : (s : Setting) (b : Begun) → is_run_time b.since ≡ true → SeesInOrder b.seen → NoneIsIdle s b
never_idle s b run order h stage call version legal present sees asked next at right =
    let known : AreKnown (writes s h) b.seen = subst (AreKnown (writes s h)) sees (views_known s h b.role b.key) in
    let well : IsWellSeen b.seen = subst IsWellSeen sees (views_well s h b.role b.key legal) in
    idle_at stage b.role b.seen b.since (desk s h b.role b.seen) call run order well asked next (λ changes. never_unchanged s h b.seen call version legal known changes right)
