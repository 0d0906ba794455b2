-- In a plain run each call of a pass that has written nothing is made on what there is to see.
use Rattle.std.proofs.Common.{◌≡◌, ◌<◌, ◌^◌, ◌+◌, ◌++◌, ℕ, List, [], ◌∷◌, Option, Some, None, Bool, true, false, refl, sym, ap, subst, ◌∙◌}
use Rattle.std.specs.Prelude.{nat_le, if◌then◌else◌}
use Rattle.cmc_meta.specs.declared.key.Kind.{Kind}
use Rattle.cmc_objects.specs.declared.entry.Entry.{Entry}
use Rattle.cmc_objects.specs.declared.entry.Entry.TheVariants.{Script, Call as Called, Deliver, List as Listed, Stop, Start, Tick}
use Rattle.cmc_objects.specs.declared.entry.Who.TheVariants.{User, Pass}
use Rattle.cmc_objects.specs.declared.role.Role.{Role}
use Rattle.cmc_model.specs.Histories.{Setting, accepted}
use Rattle.cmc_rules.specs.declared.effect.Effect.{Effect}
use Rattle.cmc_rules.specs.declared.effect.Effect.TheVariants as effects
use Rattle.cmc_rules.specs.declared.progress.OpenPass.{OpenPass}
use Rattle.cmc_rules.specs.Passes.{open_pass}
use Rattle.cmc_rules.specs.Positions.{position}
use Rattle.cmc_moves.specs.Answers.{GrowsBy, next_effect}
use Rattle.cmc_moves.specs.declared.moves.Move.{Move}
use Rattle.cmc_moves.specs.declared.moves.Move.TheVariants as moves
use Rattle.cmc_rules.specs.Scripts.{scripted}
use Rattle.cmc_world.specs.Histories.{IsPlain, IsPlainStep, LeadsPlainly}
use Rattle.cmc_world.proofs.Determined.{is_run}
use Rattle.cmc_run_laws.specs.Calm.{is_before_writes, is_calm}
use Rattle.cmc_load_laws.specs.LoadRuns.{SeesAll}
use Rattle.cmc_load_laws.proofs.PlainWrites.{RunAlone, SeeAll, since_moment}

abbrev pub SeeNow : Setting → List Entry → Type 0
SeeNow s h = (n : ℕ) (p : OpenPass) → open_pass s h n ≡ Some p → is_before_writes p.stage ≡ true → SeesAll s h p

-- each call of a pass that had written nothing was made on what there was to see
abbrev pub HaveSeen : Setting → List Entry → Type 0
HaveSeen s [] = Unit {0}
HaveSeen s (Called (Pass n) call reply ∷ h) = ((p : OpenPass) → open_pass s h n ≡ Some p → is_before_writes p.stage ≡ true → SeesAll s h p) × HaveSeen s h
HaveSeen s (e ∷ h) = HaveSeen s h

pub see_now : RunAlone → SeeAll → (s : Setting) (h : List Entry) → is_calm s.script ≡ true → s.events < 2 ^ 64 → IsPlain s h → SeeNow s h
see_now alone sees s h calm small plain n p opened before =
    record { sees = sees s h plain calm small n p opened before; now = since_moment s h n p (is_run s h plain).legal opened (alone s h plain calm small n p opened) }

-- ---- one move more

lead_more : (s : Setting) (ms : List Move) (a h : List Entry) (move : Move) (g : List Entry) → LeadsPlainly s ms a h → IsPlainStep s h move g → LeadsPlainly s (ms ++ move ∷ []) a g
lead_more s [] a h move g same step = (g, subst (λ (x : List Entry). IsPlainStep s x move g) same step, refl)
lead_more s (m ∷ ms) a h move g (b, one, rest) step = (b, one, lead_more s ms b h move g rest step)

pub plain_more : (s : Setting) (h : List Entry) (move : Move) (g : List Entry) → IsPlain s h → IsPlainStep s h move g → IsPlain s g
plain_more s h move g (ms, led) step = (ms ++ move ∷ [], lead_more s ms [] h move g led step)

more_seen : (s : Setting) (h : List Entry) (e : Entry) → SeeNow s h → HaveSeen s h → HaveSeen s (e ∷ h)
more_seen s h (Called (Pass n) call reply) now seen = (λ p opened before. now n p opened before, seen)
more_seen s h (Called User call reply) now seen = seen
more_seen s h other now seen = seen

effect_seen : (s : Setting) (g : List Entry) (effect : Option Effect) (k : List Entry) → HaveSeen s g → GrowsBy s g effect k → HaveSeen s k
effect_seen s g None k seen same = subst (HaveSeen s) (sym same) seen
effect_seen s g (Some (effects.Call call)) k seen (e, (reply, right, is), same) = subst (HaveSeen s) (sym (same ∙ ap (λ (x : Entry). x ∷ g) is)) seen
effect_seen s g (Some (effects.Tick now)) k seen (e, is, same) = subst (HaveSeen s) (sym (same ∙ ap (λ (x : Entry). x ∷ g) is)) seen
effect_seen s g (Some (effects.Stop role)) k seen (e, is, same) = subst (HaveSeen s) (sym (same ∙ ap (λ (x : Entry). x ∷ g) is)) seen
effect_seen s g (Some (effects.Start role at)) k seen (e, is, same) = subst (HaveSeen s) (sym (same ∙ ap (λ (x : Entry). x ∷ g) is)) seen

told_seen : (b : Bool) (s : Setting) (h : List Entry) (role : Role) (kind : Kind) (to at : ℕ) → HaveSeen s h → HaveSeen s ((if b then Deliver role kind to else Listed role kind at) ∷ h)
told_seen true s h role kind to at seen = seen
told_seen false s h role kind to at seen = seen

step_seen : (s : Setting) (h : List Entry) (move : Move) (k : List Entry) → SeeNow s h → HaveSeen s h → IsPlainStep s h move k → HaveSeen s k
step_seen s h moves.Script k now seen step = effect_seen s (Script (scripted h + 1) ∷ h) (next_effect s h) k seen step.grows
step_seen s h (moves.Deliver role kind to) k now seen step =
    subst (HaveSeen s) (sym step.grows) (told_seen (nat_le (accepted s h) (position h role kind + s.window)) s h role kind to (accepted s h) seen)
step_seen s h (moves.Begin role key) k now seen step = subst (HaveSeen s) (sym step.grows) seen
step_seen s h (moves.Next n named) k now seen step = subst (HaveSeen s) (sym step.grows.2) (more_seen s h step.grows.0 now seen)
step_seen s h (moves.Give n named given) k now seen step = absurd step.plain.1
step_seen s h (moves.Decide n named d) k now seen step = absurd step.plain.1

led_seen : RunAlone → SeeAll → (s : Setting) (ms : List Move) (h k : List Entry) → is_calm s.script ≡ true → s.events < 2 ^ 64 → IsPlain s h → HaveSeen s h → LeadsPlainly s ms h k → HaveSeen s k
led_seen alone sees s [] h k calm small plain seen same = subst (HaveSeen s) (sym same) seen
led_seen alone sees s (move ∷ ms) h k calm small plain seen (g, step, rest) =
    led_seen alone sees s ms g k calm small (plain_more s h move g plain step) (step_seen s h move g (see_now alone sees s h calm small plain) seen step) rest

pub have_seen : RunAlone → SeeAll → (s : Setting) (h : List Entry) → is_calm s.script ≡ true → s.events < 2 ^ 64 → IsPlain s h → HaveSeen s h
have_seen alone sees s h calm small (ms, led) = led_seen alone sees s ms [] h calm small ([], refl) tt led
