-- In a plain run of a load whose roles all run, each accepted write of a role lowers the measure: the law of one write, for the whole history.
use Rattle.std.proofs.Common.{◌≡◌, ◌<◌, ◌^◌, ℕ, List, [], ◌∷◌, Option, Some, None, Bool, true, false, refl, sym, ap, subst, ◌∙◌, ◌+◌}
use Rattle.std.specs.Prelude.{nat_le, if◌then◌else◌}
use Rattle.cmc_meta.specs.declared.key.Kind.{Kind}
use Rattle.cmc_objects.specs.declared.call.Call.{Call}
use Rattle.cmc_objects.specs.declared.call.Reply.{Reply}
use Rattle.cmc_objects.specs.declared.entry.Entry.{Entry}
use Rattle.cmc_objects.specs.declared.entry.Entry.TheVariants.{Script, Call as Called, Deliver, List as Listed}
use Rattle.cmc_objects.specs.declared.entry.Who.TheVariants.{User, Pass}
use Rattle.cmc_objects.specs.declared.role.Role.{Role}
use Rattle.cmc_model.specs.Histories.{Setting, accepted}
use Rattle.cmc_model.specs.Replies.{is_accepted}
use Rattle.cmc_rules.specs.declared.effect.Effect.{Effect}
use Rattle.cmc_rules.specs.declared.effect.Effect.TheVariants as effects
use Rattle.cmc_rules.specs.Positions.{position}
use Rattle.cmc_rules.specs.Runs.{IsRun}
use Rattle.cmc_rules.specs.Scripts.{scripted}
use Rattle.cmc_moves.specs.Answers.{GrowsBy, next_effect}
use Rattle.cmc_moves.specs.declared.moves.Move.{Move}
use Rattle.cmc_moves.specs.declared.moves.Move.TheVariants as moves
use Rattle.cmc_world.specs.Histories.{IsPlain, IsPlainStep, LeadsPlainly}
use Rattle.cmc_safety.specs.Formed.{IsFormed}
use Rattle.cmc_load_laws.specs.Loads.{HasAllRoles, IsLoad}
use Rattle.cmc_load_laws.specs.LoadRuns.{LowersMeasure}
use Rattle.cmc_load_laws.proofs.SeenHistories.{plain_more}
use Rattle.cmc_load_ends.specs.LoadWrites.{RoleWritesLower}

-- the law of one write
abbrev pub EachLowers : Type 0
EachLowers =
    (s : Setting) (h : List Entry) (n : ℕ) (call : Call) (reply : Reply) → IsFormed s → IsLoad s → HasAllRoles s → s.events < 2 ^ 64 → IsPlain s h → IsRun s (Called (Pass n) call reply ∷ h) → is_accepted reply ≡ true
    → LowersMeasure s h (Called (Pass n) call reply)

abbrev NextLowers : Setting → List Entry → Type 0
NextLowers s h = (n : ℕ) (call : Call) (reply : Reply) → IsRun s (Called (Pass n) call reply ∷ h) → is_accepted reply ≡ true → LowersMeasure s h (Called (Pass n) call reply)

more_lower : (s : Setting) (h : List Entry) (e : Entry) → NextLowers s h → IsRun s (e ∷ h) → RoleWritesLower s h → RoleWritesLower s (e ∷ h)
more_lower s h (Called (Pass n) call reply) next run lower = (next n call reply run, lower)
more_lower s h (Called User call reply) next run lower = lower
more_lower s h other next run lower = lower

effect_lower : (s : Setting) (g : List Entry) (effect : Option Effect) (k : List Entry) → RoleWritesLower s g → GrowsBy s g effect k → RoleWritesLower s k
effect_lower s g None k lower same = subst (RoleWritesLower s) (sym same) lower
effect_lower s g (Some (effects.Call call)) k lower (e, (reply, right, is), same) = subst (RoleWritesLower s) (sym (same ∙ ap (λ (x : Entry). x ∷ g) is)) lower
effect_lower s g (Some (effects.Tick now)) k lower (e, is, same) = subst (RoleWritesLower s) (sym (same ∙ ap (λ (x : Entry). x ∷ g) is)) lower
effect_lower s g (Some (effects.Stop role)) k lower (e, is, same) = subst (RoleWritesLower s) (sym (same ∙ ap (λ (x : Entry). x ∷ g) is)) lower
effect_lower s g (Some (effects.Start role at)) k lower (e, is, same) = subst (RoleWritesLower s) (sym (same ∙ ap (λ (x : Entry). x ∷ g) is)) lower

told_lower : (b : Bool) (s : Setting) (h : List Entry) (role : Role) (kind : Kind) (to at : ℕ) → RoleWritesLower s h → RoleWritesLower s ((if b then Deliver role kind to else Listed role kind at) ∷ h)
told_lower true s h role kind to at lower = lower
told_lower false s h role kind to at lower = lower

step_lower : (s : Setting) (h : List Entry) (move : Move) (k : List Entry) → NextLowers s h → RoleWritesLower s h → IsPlainStep s h move k → RoleWritesLower s k
step_lower s h moves.Script k next lower step = effect_lower s (Script (scripted h + 1) ∷ h) (next_effect s h) k lower step.grows
step_lower s h (moves.Deliver role kind to) k next lower step =
    subst (RoleWritesLower s) (sym step.grows) (told_lower (nat_le (accepted s h) (position h role kind + s.window)) s h role kind to (accepted s h) lower)
step_lower s h (moves.Begin role key) k next lower step = subst (RoleWritesLower s) (sym step.grows) lower
step_lower s h (moves.Next n named) k next lower step = subst (RoleWritesLower s) (sym step.grows.2) (more_lower s h step.grows.0 next (subst (IsRun s) step.grows.2 step.run) lower)
step_lower s h (moves.Give n named given) k next lower step = absurd step.plain.1
step_lower s h (moves.Decide n named d) k next lower step = absurd step.plain.1

led_lower : EachLowers → (s : Setting) (ms : List Move) (h k : List Entry) → IsFormed s → IsLoad s → HasAllRoles s → s.events < 2 ^ 64 → IsPlain s h → RoleWritesLower s h → LeadsPlainly s ms h k → RoleWritesLower s k
led_lower law s [] h k form load roles small plain lower same = subst (RoleWritesLower s) (sym same) lower
led_lower law s (move ∷ ms) h k form load roles small plain lower (g, step, rest) =
    led_lower law s ms g k form load roles small (plain_more s h move g plain step) (step_lower s h move g (λ n call reply run ok. law s h n call reply form load roles small plain run ok) lower step) rest

pub role_writes_lower : EachLowers → (s : Setting) (h : List Entry) → IsFormed s → IsLoad s → HasAllRoles s → s.events < 2 ^ 64 → IsPlain s h → RoleWritesLower s h
role_writes_lower law s h form load roles small (ms, led) = led_lower law s ms [] h form load roles small ([], refl) tt led
