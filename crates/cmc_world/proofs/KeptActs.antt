-- A pass that begins as it was kept, and one that goes on by the act that was kept of it.
use Rattle.std.proofs.Common.{◌≡◌, ℕ, List, Option, Some, None, inr, sym, ap, subst, ◌∙◌}
use Rattle.std.specs.Prelude.{IfSome}
use Rattle.cmc_meta.specs.declared.key.Key.{Key}
use Rattle.cmc_objects.specs.declared.entry.Entry.{Entry}
use Rattle.cmc_objects.specs.declared.orders.Order.{Order}
use Rattle.cmc_objects.specs.declared.role.Role.{Role}
use Rattle.cmc_pass.specs.declared.pass.Act.{Act}
use Rattle.cmc_rules.specs.declared.progress.OpenPass.{OpenPass}
use Rattle.cmc_rules.specs.declared.progress.Stage.{Stage}
use Rattle.cmc_model.specs.Histories.{Setting, incarnation, moment}
use Rattle.cmc_rules.specs.Acts.{act}
use Rattle.cmc_rules.specs.Causes.{act_of}
use Rattle.cmc_rules.specs.Desks.{desk}
use Rattle.cmc_rules.specs.Rest.{IsIdle}
use Rattle.cmc_rules.specs.Views.{views}
use Rattle.cmc_rules.specs.Legality.{IsOpen}
use Rattle.cmc_rules.specs.Origins.{origin_at, origins}
use Rattle.cmc_rules.specs.Passes.{open_pass}
use Rattle.cmc_moves.specs.Answers.{asked_by, kept_at, kept_of, new_at, new_of, outdated, AnswersGoing, AnswersNext, BarOf, Need}
use Rattle.cmc_moves.specs.Prospects.{IsFirstAct, IsProspect}
use Rattle.cmc_moves.specs.declared.moves.Stepped.{Stepped}
use Rattle.cmc_moves.specs.declared.moves.Stepped.TheVariants.{Ended, NotNow}
use Rattle.cmc_moves.specs.declared.moves.Lack.TheVariants.{NoPass}
use Rattle.cmc_world.specs.KeptLooks.{DoesOn, IsActOn, IsCurrent, IsMine}
use Rattle.cmc_kernel.specs.Plain.{IsOfPresent}
use Rattle.cmc_world.specs.Searches.{prospect, IsWork}
use Rattle.cmc_world.specs.declared.openings.Opening.{Opening}
use Rattle.cmc_world.proofs.Making.{ArePresent}

pub acts_next : (s : Setting) (h : List Entry) (n named : ℕ) (does : Act) (answer : Stepped) → ArePresent s h → IsOfPresent s h named (open_pass s h n) → IsFirstAct s h n does → AnswersGoing s h n None (asked_by does) answer → AnswersNext s h n named answer
acts_next s h n named does answer present of first a =
    let p : OpenPass = first.0 in
    let is : open_pass s h n ≡ Some p = first.1.opened in
    let mine : named ≡ incarnation s h p.role = subst (λ (o : Option OpenPass). IsOfPresent s h named o) is of in
    let now : outdated s h named (origin_at n (origins s h)) ≡ None = subst (λ (m : ℕ). outdated s h m (origin_at n (origins s h)) ≡ None) (sym mine) (present n p is) in
    let kept : kept_of (open_pass s h n) ≡ None = ap kept_of is ∙ ap kept_at first.1.fresh in
    let new : new_of s h (open_pass s h n) ≡ asked_by does = ap (new_of s h) is ∙ ap (λ (stage : Stage). new_at stage (act_of s h p)) first.1.fresh ∙ ap asked_by (sym first.1.acts) in
    let going = subst (λ (o : Option Order). AnswersGoing s h n o (new_of s h (open_pass s h n)) answer) (sym kept) (subst (λ (o : Option Order). AnswersGoing s h n None o answer) (sym new) a) in
    subst (λ (o : Option ℕ). BarOf o (λ present. Ended present) answer (Need (IsOpen (open_pass s h n)) (NotNow (NoPass n)) answer (AnswersGoing s h n (kept_of (open_pass s h n)) (new_of s h (open_pass s h n)) answer))) (sym now)
    (inr (subst IsOpen (sym is) tt, going))

-- a pass that was found, on a key on which there is work, is one to begin
prospect_of : (s : Setting) (h : List Entry) (role : Role) (key : Key) (does : Option Act) → IsActOn s h role (views s h role key) does → (IsIdle s h role (views s h role key) → ⊥)
    → IsProspect role (act role (views s h role key) (moment s h) (desk s h role (views s h role key))) (prospect does)
prospect_of s h role key None is busy = (is, busy)
prospect_of s h role key (Some does) is busy = (is, busy)

-- and what is to begin was found
act_on : (s : Setting) (h : List Entry) (role : Role) (key : Key) (does : Option Act) → IsProspect role (act role (views s h role key) (moment s h) (desk s h role (views s h role key))) (prospect does) → IsActOn s h role (views s h role key) does
act_on s h role key None is = is.0
act_on s h role key (Some does) is = is.0

pub work_was_found : (s : Setting) (h : List Entry) (role : Role) (key : Key) (o : Opening) → IsWork s h role key o → IsCurrent s h o
work_was_found s h role key o work =
    let known = work.known in
    record {
      seen = subst (λ (r : Role). o.seen ≡ views s h r o.key) (sym known.role) (subst (λ (k : Key). o.seen ≡ views s h role k) (sym known.key) known.seen);
      does = subst (λ (r : Role). IsActOn s h r (views s h r o.key) o.does) (sym known.role) (subst (λ (k : Key). IsActOn s h role (views s h role k) o.does) (sym known.key) (act_on s h role key o.does known.does));
    }

-- what a pass that was found does on its key, if that is known
does_on : (s : Setting) (h : List Entry) (role : Role) (key : Key) (does : Option Act) → IsActOn s h role (views s h role key) does → IfSome does (DoesOn s h role key)
does_on s h role key None is = tt
does_on s h role key (Some does) is = is

pub found_does : (s : Setting) (h : List Entry) (role : Role) (key : Key) (o : Opening) → IsCurrent s h o → IsMine role key o → (o.seen ≡ views s h role key) × IfSome o.does (DoesOn s h role key)
found_does s h role key o found mine = (
  subst (λ (r : Role). o.seen ≡ views s h r key) mine.role (subst (λ (k : Key). o.seen ≡ views s h o.role k) mine.key found.seen),
  does_on s h role key o.does (subst (λ (r : Role). IsActOn s h r (views s h r key) o.does) mine.role (subst (λ (k : Key). IsActOn s h o.role (views s h o.role k) o.does) mine.key found.does)),
)
