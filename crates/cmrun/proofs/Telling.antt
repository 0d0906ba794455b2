-- What the cause of a status says of bytes that were all read, where nothing was written.
use Rattle.std.proofs.Common.{◌≡◌, ℕ, Bool, List, ◌++◌, Option, Some, None, refl, sym, ap, subst, ◌∙◌, append-nil}
use Rattle.std.specs.Prelude.{IfSome}
use Rattle.std.specs.Io.KnownBytes.{Consumes, IsAtEnd, Keeps}
use Rattle.cmrun.specs.Statuses.{IsWithinLimit, Refuses, RefusesHistory, RefusesScriptIn, StatusTells}
use Rattle.cmrun.specs.declared.status.Status.{Status}
use Rattle.cmrun.specs.declared.status.Status.TheVariants.{Done, TooLong, NotJson, BadScenario, BadHistory, Usage, ReadFault, WriteFault, NoMemory, Spent}

all_kept : (held : Option (List ℕ)) → Keeps held held
all_kept None = tt
all_kept (Some xs) = refl

-- why bytes are refused is none of the causes that reading, writing and the command line have
pub record IsCause (IsRefused : List ℕ → Status → Type 0) : Type 0 where
  pub done : (bytes : List ℕ) → IsRefused bytes Done → ⊥
  pub write : (bytes : List ℕ) → IsRefused bytes WriteFault → ⊥
  pub long : (bytes : List ℕ) → IsRefused bytes TooLong → ⊥
  pub usage : (bytes : List ℕ) → IsRefused bytes Usage → ⊥

pub of_runs : IsCause Refuses
of_runs = record { done = λ bytes cause. cause; write = λ bytes cause. cause; long = λ bytes cause. cause; usage = λ bytes cause. cause }

pub of_scripts : IsCause RefusesScriptIn
of_scripts = record { done = λ bytes cause. cause; write = λ bytes cause. cause; long = λ bytes cause. cause; usage = λ bytes cause. cause }

pub of_histories : IsCause RefusesHistory
of_histories = record { done = λ bytes cause. cause; write = λ bytes cause. cause; long = λ bytes cause. cause; usage = λ bytes cause. cause }

by_cause : (limit : ℕ) (IsAnswered : List ℕ → List ℕ → Type 0) (IsRefused : List ℕ → Status → Type 0) (status : Status) (bytes : List ℕ) (held : Option (List ℕ))
    → IsCause IsRefused → IsRefused bytes status → IsWithinLimit limit bytes → StatusTells limit IsAnswered IsRefused status bytes held held
by_cause limit IsAnswered IsRefused Done bytes held is cause within = absurd (is.done bytes cause)
by_cause limit IsAnswered IsRefused WriteFault bytes held is cause within = absurd (is.write bytes cause)
by_cause limit IsAnswered IsRefused TooLong bytes held is cause within = absurd (is.long bytes cause)
by_cause limit IsAnswered IsRefused NotJson bytes held is cause within = (within, (cause, all_kept held))
by_cause limit IsAnswered IsRefused (BadScenario path) bytes held is cause within = (within, (cause, all_kept held))
by_cause limit IsAnswered IsRefused (BadHistory line) bytes held is cause within = (within, (cause, all_kept held))
by_cause limit IsAnswered IsRefused Spent bytes held is cause within = (within, (cause, all_kept held))
by_cause limit IsAnswered IsRefused ReadFault bytes held is cause within = all_kept held
by_cause limit IsAnswered IsRefused NoMemory bytes held is cause within = all_kept held
by_cause limit IsAnswered IsRefused Usage bytes held is cause within = absurd (is.usage bytes cause)

-- all bytes that there were are those that were read
pub told_cause : (limit : ℕ) (IsAnswered : List ℕ → List ℕ → Type 0) (IsRefused : List ℕ → Status → Type 0) (status : Status) (bytes : List ℕ) (old now held : Option (List ℕ)) → IsCause IsRefused
    → Consumes old now bytes → IsAtEnd now → IsRefused bytes status → IfSome old (IsWithinLimit limit) → IfSome old (λ all. StatusTells limit IsAnswered IsRefused status all held held)
told_cause limit IsAnswered IsRefused status bytes None now held is content end cause within = tt
told_cause limit IsAnswered IsRefused status bytes (Some xs) None held is content end cause within = absurd content
told_cause limit IsAnswered IsRefused status bytes (Some xs) (Some ys) held is content end cause within =
    let whole : xs ≡ bytes = content ∙ ap (λ (l : List ℕ). bytes ++ l) end ∙ append-nil bytes in
    by_cause limit IsAnswered IsRefused status xs held is (subst (λ (all : List ℕ). IsRefused all status) (sym whole) cause) within
