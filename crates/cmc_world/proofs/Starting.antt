-- A pass is open only while its role runs, and where no running role starts it is of its role's present incarnation.
use Rattle.std.proofs.Common.{◌≡◌, ◌==◌, ℕ, ◌+◌, List, [], ◌∷◌, length, Option, Some, None, Bool, true, false, refl, sym, ap, subst, ◌∙◌, arith}
use Rattle.std.proofs.lemmas.Bool.Decides.{nat_tests}
use Rattle.std.specs.Prelude.{if◌then◌else◌, IfSome}
use Rattle.cmc_objects.specs.declared.role.Role.{Role}
use Rattle.cmc_objects.specs.declared.entry.Entry.{Entry}
use Rattle.cmc_objects.specs.declared.entry.Entry.TheVariants.{Call as Called, Begin, Ask, Made, Signed, Answered, Judged, End, Stop, Start}
use Rattle.cmc_pass.specs.declared.value.Value.TheVariants as values
use Rattle.cmc_rules.specs.declared.progress.OpenPass.{OpenPass}
use Rattle.cmc_rules.specs.declared.progress.Origin.{Origin}
use Rattle.cmc_model.specs.Histories.{Setting, runs, incarnation, role_eq}
use Rattle.cmc_rules.specs.Views.{views}
use Rattle.cmc_rules.specs.Passes.{open_pass, new_pass, unless_of, stage_after}
use Rattle.cmc_rules.specs.Origins.{origins, origin_at}
use Rattle.cmc_rules.specs.Legality.{IsLegal}
use Rattle.cmc_rules.proofs.Carrying.{over_call, over_ask, over_given, over_begin, over_end, over_stop}
use Rattle.cmc_kernel.proofs.RoleStates.{same_role}

-- ---- starts of stopped roles

abbrev pub StartsStoppedEntry : Setting → List Entry → Entry → Type 0
StartsStoppedEntry s h (Start role at) = runs s h role ≡ false
StartsStoppedEntry s h other = Unit {0}

-- each start stands where its role does not run
unfoldable pub StartsStopped : Setting → List Entry → Type 0
StartsStopped s [] = Unit {0}
StartsStopped s (e ∷ h) = StartsStoppedEntry s h e × StartsStopped s h

-- ---- an open pass is of a role that runs

abbrev IsOfRunning : Setting → List Entry → OpenPass → Type 0
IsOfRunning s h p = runs s h p.role ≡ true

running_started : (own before : Bool) → before ≡ true → (if own then true else before) ≡ true
running_started true before is = refl
running_started false before is = is

over_start : (s : Setting) (h : List Entry) (role : Role) (at : ℕ) (p : Option OpenPass) → IfSome p (IsOfRunning s h) → IfSome p (IsOfRunning s (Start role at ∷ h))
over_start s h role at None running = tt
over_start s h role at (Some p) running = running_started (role_eq role p.role) (runs s h p.role) running

left_running : (s : Setting) (h : List Entry) (role : Role) (own : Bool) (p : OpenPass) → role_eq role p.role ≡ own → runs s h p.role ≡ true
    → IfSome (if own then None else Some p) (IsOfRunning s (Stop role ∷ h))
left_running s h role true p is running = tt
left_running s h role false p is running = rw is running

over_stopped : (s : Setting) (h : List Entry) (role : Role) (p : Option OpenPass) → IfSome p (IsOfRunning s h) → IfSome (unless_of role p) (IsOfRunning s (Stop role ∷ h))
over_stopped s h role None running = tt
over_stopped s h role (Some p) running = left_running s h role (role_eq role p.role) p refl running

running_pass : (s : Setting) (h : List Entry) (n : ℕ) → IsLegal s h → IfSome (open_pass s h n) (IsOfRunning s h)
unfolding IsLegal
running_pass s [] n legal = tt
running_pass s (Called who call reply ∷ h) n legal = over_call (IsOfRunning s h) n who (stage_after s h call reply) (open_pass s h n) (λ p runs. runs) (running_pass s h n legal.1)
running_pass s (Begin pass role key at now ∷ h) n legal =
    over_begin (IsOfRunning s h) (n == pass) (new_pass role key (views s h role key) now) (open_pass s h n) legal.0.running (running_pass s h n legal.1)
running_pass s (Ask pass order ∷ h) n legal = over_ask (IsOfRunning s h) n pass order (open_pass s h n) (λ p runs. runs) (running_pass s h n legal.1)
running_pass s (Made pass key ∷ h) n legal = over_given (IsOfRunning s h) n pass (values.Made key) (open_pass s h n) (λ p runs. runs) (running_pass s h n legal.1)
running_pass s (Signed pass signature ∷ h) n legal = over_given (IsOfRunning s h) n pass (values.Signed signature) (open_pass s h n) (λ p runs. runs) (running_pass s h n legal.1)
running_pass s (Answered pass answer ∷ h) n legal = over_given (IsOfRunning s h) n pass (values.Answered answer) (open_pass s h n) (λ p runs. runs) (running_pass s h n legal.1)
running_pass s (Judged pass approved ∷ h) n legal = over_given (IsOfRunning s h) n pass (values.Judged approved) (open_pass s h n) (λ p runs. runs) (running_pass s h n legal.1)
running_pass s (End pass cause ∷ h) n legal = over_end (IsOfRunning s h) (n == pass) (open_pass s h n) (running_pass s h n legal.1)
running_pass s (Stop role ∷ h) n legal = over_stopped s h role (open_pass s h n) (running_pass s h n legal.1)
running_pass s (Start role at ∷ h) n legal = over_start s h role at (open_pass s h n) (running_pass s h n legal.1)
running_pass s (other ∷ h) n legal = running_pass s h n legal.1

-- ---- an open pass is of the present incarnation of its role

-- the origin of a pass of the role that begins here
abbrev pub present_origin : Setting → List Entry → Role → Origin
present_origin s h role = record { role = role; incarnation = incarnation s h role }

abbrev IsFromPresent : Setting → List Entry → ℕ → OpenPass → Type 0
IsFromPresent s h n p = origin_at n (origins s h) ≡ Some (present_origin s h p.role)

newest_at : (n : ℕ) (o : Origin) (os : List Origin) (here : Bool) → (length (o ∷ os) == n) ≡ here → length (o ∷ os) ≡ n → (if here then Some o else origin_at n os) ≡ Some o
newest_at n o os true is same = refl
newest_at n o os false is same = absurd (grind (arith, nat_tests))

newest : (n : ℕ) (o : Origin) (os : List Origin) → length (o ∷ os) ≡ n → origin_at n (o ∷ os) ≡ Some o
unfolding origin_at
newest n o os same = newest_at n o os (length (o ∷ os) == n) refl same

older_at : (n : ℕ) (o : Origin) (os : List Origin) (here : Bool) → (length (o ∷ os) == n) ≡ here → (length (o ∷ os) ≡ n → ⊥)
    → (if here then Some o else origin_at n os) ≡ origin_at n os
older_at n o os true is other = absurd (other (grind (arith, nat_tests)))
older_at n o os false is other = refl

older : (n : ℕ) (o : Origin) (os : List Origin) → (length (o ∷ os) ≡ n → ⊥) → origin_at n (o ∷ os) ≡ origin_at n os
unfolding origin_at
older n o os other = older_at n o os (length (o ∷ os) == n) refl other

-- the newest origin is that of the newest pass, and leaves the older ones
over_origin : (s : Setting) (h : List Entry) (n pass : ℕ) (o : Origin) (own : Bool) (new : OpenPass) (p : Option OpenPass) → (n == pass) ≡ own
    → length (o ∷ origins s h) ≡ pass → o ≡ present_origin s h new.role → IfSome p (IsFromPresent s h n)
    → IfSome (if own then Some new else p) (λ (q : OpenPass). origin_at n (o ∷ origins s h) ≡ Some (present_origin s h q.role))
over_origin s h n pass o true new p is place role present =
    let same : n ≡ pass = grind (arith, nat_tests) in
    newest n o (origins s h) (place ∙ sym same) ∙ ap Some role
over_origin s h n pass o false new None is place role present = tt
over_origin s h n pass o false new (Some p) is place role present =
    older n o (origins s h) (λ same. absurd (grind (arith, nat_tests))) ∙ present

-- the start of a stopped role leaves the incarnations of those that run
kept_incarnation : (s : Setting) (h : List Entry) (role r : Role) (own : Bool) → role_eq role r ≡ own → runs s h role ≡ false → runs s h r ≡ true
    → (if own then incarnation s h r + 1 else incarnation s h r) ≡ incarnation s h r
kept_incarnation s h role r true is stopped running =
    let same : runs s h role ≡ runs s h r = ap (runs s h) (same_role role r is) in
    absurd (cc (same, stopped, running))
kept_incarnation s h role r false is stopped running = refl

over_other_start : (s : Setting) (h : List Entry) (role : Role) (at n : ℕ) (p : Option OpenPass) → runs s h role ≡ false → IfSome p (IsOfRunning s h)
    → IfSome p (IsFromPresent s h n) → IfSome p (IsFromPresent s (Start role at ∷ h) n)
over_other_start s h role at n None stopped running present = tt
over_other_start s h role at n (Some p) stopped running present =
    let kept = kept_incarnation s h role p.role (role_eq role p.role) refl stopped running in
    present ∙ ap (λ (i : ℕ). Some (record { role = p.role; incarnation = i })) (sym kept)

present_pass : (s : Setting) (h : List Entry) (n : ℕ) → StartsStopped s h → IsLegal s h → IfSome (open_pass s h n) (IsFromPresent s h n)
unfolding IsLegal StartsStopped
present_pass s [] n stopped legal = tt
present_pass s (Called who call reply ∷ h) n stopped legal =
    over_call (IsFromPresent s h n) n who (stage_after s h call reply) (open_pass s h n) (λ p present. present) (present_pass s h n stopped.1 legal.1)
present_pass s (Begin pass role key at now ∷ h) n stopped legal =
    over_origin s h n pass (present_origin s h role) (n == pass) (new_pass role key (views s h role key) now) (open_pass s h n) refl
    (omega (arith, legal.0.numbered)) refl (present_pass s h n stopped.1 legal.1)
present_pass s (Ask pass order ∷ h) n stopped legal = over_ask (IsFromPresent s h n) n pass order (open_pass s h n) (λ p present. present) (present_pass s h n stopped.1 legal.1)
present_pass s (Made pass key ∷ h) n stopped legal = over_given (IsFromPresent s h n) n pass (values.Made key) (open_pass s h n) (λ p present. present) (present_pass s h n stopped.1 legal.1)
present_pass s (Signed pass signature ∷ h) n stopped legal = over_given (IsFromPresent s h n) n pass (values.Signed signature) (open_pass s h n) (λ p present. present) (present_pass s h n stopped.1 legal.1)
present_pass s (Answered pass answer ∷ h) n stopped legal = over_given (IsFromPresent s h n) n pass (values.Answered answer) (open_pass s h n) (λ p present. present) (present_pass s h n stopped.1 legal.1)
present_pass s (Judged pass approved ∷ h) n stopped legal = over_given (IsFromPresent s h n) n pass (values.Judged approved) (open_pass s h n) (λ p present. present) (present_pass s h n stopped.1 legal.1)
present_pass s (End pass cause ∷ h) n stopped legal = over_end (IsFromPresent s h n) (n == pass) (open_pass s h n) (present_pass s h n stopped.1 legal.1)
present_pass s (Stop role ∷ h) n stopped legal = over_stop (IsFromPresent s h n) role (open_pass s h n) (present_pass s h n stopped.1 legal.1)
present_pass s (Start role at ∷ h) n stopped legal =
    over_other_start s h role at n (open_pass s h n) stopped.0 (running_pass s h n legal.1) (present_pass s h n stopped.1 legal.1)
present_pass s (other ∷ h) n stopped legal = present_pass s h n stopped.1 legal.1

-- the origin of an open pass names its role, and the present incarnation of it
pub present_origin_stands : (s : Setting) (h : List Entry) (n : ℕ) (p : OpenPass) → StartsStopped s h → IsLegal s h → open_pass s h n ≡ Some p
    → origin_at n (origins s h) ≡ Some (present_origin s h p.role)
present_origin_stands s h n p stopped legal open_here = subst (λ (q : Option OpenPass). IfSome q (IsFromPresent s h n)) open_here (present_pass s h n stopped legal)
