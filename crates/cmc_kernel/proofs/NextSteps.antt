-- What an open pass does next, and what its move is answered.
use Rattle.std.proofs.Common.{◌≡◌, ℕ, ◌+◌, ◌≤◌, refl, sym, ap, subst, ◌∙◌, List, [], ◌∷◌, length, Option, Some, None, IfOk, Result, inl, inr, arith}
use Rattle.std.proofs.lemmas.Result.{IfOk-weaker}
use Rattle.std.specs.Prelude.{◌↔◌, IsTrue, IsSome, Bool, true, false}
use Rattle.std.specs.declared.alloc.AllocError.{AllocError}
use Rattle.cmc_objects.specs.declared.certificate.Certificate.{Certificate}
use Rattle.cmc_objects.specs.declared.request.CertificateRequest.{CertificateRequest}
use Rattle.cmc_objects.specs.declared.call.Call.{Call}
use Rattle.cmc_objects.specs.declared.orders.Order.{Order}
use Rattle.cmc_objects.specs.declared.orders.Order.TheVariants as orders
use Rattle.cmc_objects.specs.declared.role.Role.{Role}
use Rattle.cmc_objects.specs.declared.role.Role.TheVariants.{KeyManager, Issuer}
use Rattle.cmc_objects.specs.declared.entry.Entry.{Entry}
use Rattle.cmc_objects.specs.declared.entry.Entry.TheVariants.{Ask as AskEntry}
use Rattle.cmc_pass.specs.declared.pass.Act.{Act}
use Rattle.cmc_pass.specs.declared.pass.Act.TheVariants.{Nothing, Call as Calls, Ask as Asked, Issue, Temporary}
use Rattle.cmc_pass.specs.declared.pass.Desk.{Desk}
use Rattle.cmc_pass.specs.declared.pass.Views.{Views}
use Rattle.cmc_pass.specs.declared.value.Value.{Value}
use Rattle.cmc_rules.specs.declared.progress.OpenPass.{OpenPass}
use Rattle.cmc_rules.specs.declared.progress.Stage.{Stage}
use Rattle.cmc_rules.specs.declared.progress.Stage.TheVariants as stages
use Rattle.cmc_rules.specs.Acts.{act, call_after}
use Rattle.cmc_rules.specs.Causes.{IsSecretCall, IsStatusCall, act_of, after_of, MayCall, MayAsk, MayEnd}
use Rattle.cmc_rules.specs.Runs.{IsRun}
use Rattle.cmc_rules.specs.Desks.{asked, asks_key, asks_issuer, asked_before, certificate_named, desk}
use Rattle.cmc_rules.specs.Passes.{open_pass}
use Rattle.cmc_model.specs.Histories.{Setting}
use Rattle.cmc_held.specs.declared.questions.Subject.{Subject}
use Rattle.cmc_held.specs.Questioned.{Questioned, count_under, subject_named, asks_key_at, asks_issuer_at, keys_asked, answers_asked, asked_for}
use Rattle.cmc_safety.specs.MayAct.{IsUnbarred, IsNotBarred, MayAct}
use Rattle.cmc_safety.specs.Formed.{IsFormed}
use Rattle.cmc_safety.proofs.MayAct.{may_act_pass}
use Rattle.cmc_safety.proofs.Barred.{never_barred}
use Rattle.cmc_safety.proofs.Course.{of_open}
use Rattle.cmc_safety.proofs.Following.{has_following, follows_read, follows_secret}
use Rattle.cmc_moves.specs.declared.doing.Doing.{Doing}
use Rattle.cmc_moves.specs.declared.doing.Doing.TheVariants.{Call as Makes, Ask as Asks, End as Ends}
use Rattle.cmc_moves.specs.declared.doing.Judged.TheVariants.{Answer, Does}
use Rattle.cmc_moves.specs.declared.moves.Stepped.TheVariants.{Spent}
use Rattle.cmc_moves.specs.Answers.{kept_at, kept_of, new_at, new_of, next_answer, AnswersGoing}
use Rattle.cmc_moves.specs.PassActions.{HasSecret, HasStatus, HasNext, hangs_on_act, IsDoingBy, IsDoing, IsGoingOn, asked_in}
use Rattle.cmc_kernel.specs.Kept.{first_desk}
use Rattle.cmc_moves.proofs.Sounds.{each_sound}

-- ---- the desk

none_asked : (h : List Entry) → asked (λ order. false) h ≡ 0
none_asked [] = refl
none_asked (AskEntry pass order ∷ h) = none_asked h
none_asked (other ∷ h) = none_asked h

-- the tests by a name and by a Certificate, or a request, are one
key_test : (c : Certificate) (order : Order) → asks_key_at (subject_named c.meta.namespace c.meta.name) order ≡ asks_key (Some c) order
key_test c (orders.Key order) = refl
key_test c other = refl

issuer_test : (r : CertificateRequest) (order : Order) → asks_issuer_at (subject_named r.meta.namespace (certificate_named r)) order ≡ asks_issuer (Some r) order
issuer_test r (orders.Sign order) = refl
issuer_test r other = refl

counted_keys : (h : List Entry) (q : Questioned) (c : Option Certificate) → ((subject : Subject) → count_under q.keys subject ≡ asked (asks_key_at subject) h) → keys_asked q c ≡ asked (asks_key c) h
counted_keys h q None keys = sym (none_asked h)
counted_keys h q (Some c) keys = keys (subject_named c.meta.namespace c.meta.name) ∙ ap (λ (f : Order → Bool). asked f h) (λ i order. key_test c order i)

counted_answers : (h : List Entry) (q : Questioned) (r : Option CertificateRequest) → ((subject : Subject) → count_under q.answers subject ≡ asked (asks_issuer_at subject) h) → answers_asked q r ≡ asked (asks_issuer r) h
counted_answers h q None answers = sym (none_asked h)
counted_answers h q (Some r) answers = answers (subject_named r.meta.namespace (certificate_named r)) ∙ ap (λ (f : Order → Bool). asked f h) (λ i order. issuer_test r order i)

-- what is counted of questions is what the history says
pub counted_before : (h : List Entry) (q : Questioned) (role : Role) (seen : Views) → ((subject : Subject) → count_under q.keys subject ≡ asked (asks_key_at subject) h) → ((subject : Subject) → count_under q.answers subject ≡ asked (asks_issuer_at subject) h)
    → asked_for q role seen ≡ asked_before h role seen
counted_before h q KeyManager seen keys answers = counted_keys h q seen.certificate keys
counted_before h q Issuer seen keys answers = counted_answers h q seen.request answers
counted_before h q other seen keys answers = refl

pub desk_is : (s : Setting) (h : List Entry) (role : Role) (seen : Views) (q : Questioned) (d : Desk) (n : ℕ) → ((subject : Subject) → count_under q.keys subject ≡ asked (asks_key_at subject) h)
    → ((subject : Subject) → count_under q.answers subject ≡ asked (asks_issuer_at subject) h) → n ≡ asked_for q role seen → d ≡ record (first_desk s) { asked = n } → d ≡ desk s h role seen
desk_is s h role seen q d n keys answers counted is = is ∙ ap (λ (m : ℕ). record (first_desk s) { asked = m }) (counted ∙ counted_before h q role seen keys answers)

-- an open pass may act by its desk
pub may_on : (s : Setting) (h : List Entry) (n : ℕ) (p : OpenPass) (d : Desk) → IsFormed s → IsRun s h → open_pass s h n ≡ Some p → d ≡ desk s h p.role p.seen → MayAct p.seen p.since d
may_on s h n p d formed run is same = subst (MayAct p.seen p.since) (sym same) (may_act_pass each_sound s h n p formed run is)

-- ---- what comes next

first_asked : (does : Act) (call : Call) → IsDoingBy stages.Fresh does (λ order value. None) (Makes call) → new_at stages.Fresh does ≡ None
first_asked (Asked order) call is = absurd is
first_asked other call is = refl

asked_first : (does : Act) (order : Order) → IsDoingBy stages.Fresh does (λ o value. None) (Asks order) → new_at stages.Fresh does ≡ Some order
asked_first (Asked asked) order is = ap (λ (o : Order). Some o) (sym is)
asked_first Nothing order is = absurd is
asked_first (Calls call) order is = absurd is
asked_first (Issue plan) order is = absurd is
asked_first (Temporary plan) order is = absurd is

-- a question comes next exactly where the act of a pass that has begun is one
new_in : (stage : Stage) (does : Act) (after : Order → Value → Option Call) (d : Doing) → IsDoingBy stage does after d → new_at stage does ≡ asked_in d
new_in stages.Fresh does after (Makes call) is = first_asked does call is
new_in stages.Fresh does after (Asks order) is = asked_first does order is
new_in stages.Fresh does after (Ends cause) is = ap (new_at stages.Fresh) is.0
new_in other does after (Makes call) is = refl
new_in other does after (Asks order) is = absurd is
new_in other does after (Ends cause) is = refl

has_secret : (does : Act) (call : Call) → IsSecretCall does call → HasSecret does
has_secret (Issue plan) call is = tt
has_secret (Temporary plan) call is = tt
has_secret Nothing call is = absurd is
has_secret (Calls first) call is = absurd is
has_secret (Asked order) call is = absurd is

has_status : (does : Act) (call : Call) → IsStatusCall does call → HasStatus does
has_status (Issue plan) call is = tt
has_status Nothing call is = absurd is
has_status (Calls first) call is = absurd is
has_status (Asked order) call is = absurd is
has_status (Temporary plan) call is = absurd is

next_of : (stage : Stage) (does : Act) (after : Order → Value → Option Call) → kept_at stage ≡ None → IsUnbarred stage → ((order : Order) (value : Value) → stage ≡ stages.Given order value → IsSome (after order value))
    → (stage ≡ stages.Read → (call : Call) × IsSecretCall does call) → (stage ≡ stages.Saved → (call : Call) × IsStatusCall does call) → HasNext stage does after
next_of stages.Fresh does after free unbarred value read saved = tt
next_of (stages.Asked order) does after free unbarred value read saved = absurd (cc free)
next_of (stages.Given order given) does after free unbarred value read saved = value order given refl
next_of stages.Read does after free unbarred value read saved = let found = read refl in has_secret does found.0 found.1
next_of stages.Saved does after free unbarred value read saved = let found = saved refl in has_status does found.0 found.1
next_of stages.Wrote does after free unbarred value read saved = tt
next_of (stages.Refused entry obstacle) does after free unbarred value read saved = tt
next_of stages.Barred does after free unbarred value read saved = absurd unbarred

-- an open pass of a run that waits for no value has something to do
pub has_next : (s : Setting) (h : List Entry) (n : ℕ) (p : OpenPass) → IsRun s h → open_pass s h n ≡ Some p → kept_of (Some p) ≡ None → HasNext p.stage (act_of s h p) (after_of p)
has_next s h n p run is free =
    next_of p.stage (act_of s h p) (after_of p) free (of_open IsNotBarred (open_pass s h n) p is (never_barred each_sound s h n run.legal run.caused)) (λ order value given. has_following each_sound s h n p order value run is given)
    (λ read. follows_read each_sound s h n p run is read) (λ saved. follows_secret each_sound s h n p run is saved)

pub next_on : (s : Setting) (h : List Entry) (n : ℕ) (p : OpenPass) (d : Desk) → IsRun s h → open_pass s h n ≡ Some p → kept_of (Some p) ≡ None → d ≡ desk s h p.role p.seen
    → HasNext p.stage (act p.role p.seen p.since d) (call_after p.role p.seen p.since)
next_on s h n p d run is free same = subst (λ (x : Desk). HasNext p.stage (act p.role p.seen p.since x) (call_after p.role p.seen p.since)) (sym same) (has_next s h n p run is free)

-- behind a question, and at its end, it goes on in the same way whatever its act
pub next_anyway : (stage : Stage) (a b : Act) (after : Order → Value → Option Call) → hangs_on_act stage ≡ false → HasNext stage a after → HasNext stage b after
next_anyway stages.Fresh a b after off has = absurd (cc off)
next_anyway (stages.Asked order) a b after off has = absurd has
next_anyway (stages.Given order value) a b after off has = has
next_anyway stages.Read a b after off has = absurd (cc off)
next_anyway stages.Saved a b after off has = absurd (cc off)
next_anyway stages.Wrote a b after off has = tt
next_anyway (stages.Refused entry obstacle) a b after off has = tt
next_anyway stages.Barred a b after off has = absurd has

doing_anyway : (stage : Stage) (a b : Act) (after : Order → Value → Option Call) (d : Doing) → hangs_on_act stage ≡ false → IsDoingBy stage a after d → IsDoingBy stage b after d
doing_anyway stages.Fresh a b after d off does = absurd (cc off)
doing_anyway (stages.Asked order) a b after (Makes call) off does = absurd does
doing_anyway (stages.Asked order) a b after (Asks asked) off does = absurd does
doing_anyway (stages.Asked order) a b after (Ends cause) off does = absurd does
doing_anyway (stages.Given order value) a b after (Makes call) off does = does
doing_anyway (stages.Given order value) a b after (Asks asked) off does = absurd does
doing_anyway (stages.Given order value) a b after (Ends cause) off does = absurd does
doing_anyway stages.Read a b after d off does = absurd (cc off)
doing_anyway stages.Saved a b after d off does = absurd (cc off)
doing_anyway stages.Wrote a b after (Makes call) off does = absurd does
doing_anyway stages.Wrote a b after (Asks asked) off does = absurd does
doing_anyway stages.Wrote a b after (Ends cause) off does = does
doing_anyway (stages.Refused entry obstacle) a b after (Makes call) off does = absurd does
doing_anyway (stages.Refused entry obstacle) a b after (Asks asked) off does = absurd does
doing_anyway (stages.Refused entry obstacle) a b after (Ends cause) off does = does
doing_anyway stages.Barred a b after (Makes call) off does = absurd does
doing_anyway stages.Barred a b after (Asks asked) off does = absurd does
doing_anyway stages.Barred a b after (Ends cause) off does = absurd does

pub doing_by_any : (stage : Stage) (a b : Act) (after : Order → Value → Option Call) (r : Result Doing AllocError) → hangs_on_act stage ≡ false → IfOk r (λ d. IsDoingBy stage a after d) → IfOk r (λ d. IsDoingBy stage b after d)
doing_by_any stage a b after r off found = IfOk-weaker r _ _ (λ d does. doing_anyway stage a b after d off does) found

-- and what it does by its desk is what comes next of it
pub doing_on : (s : Setting) (h : List Entry) (p : OpenPass) (d : Desk) (r : Result Doing AllocError) → d ≡ desk s h p.role p.seen
    → IfOk r (λ x. IsDoingBy p.stage (act p.role p.seen p.since d) (call_after p.role p.seen p.since) x) → IfOk r (λ x. IsDoingBy p.stage (act p.role p.seen p.since (desk s h p.role p.seen)) (call_after p.role p.seen p.since) x)
doing_on s h p d r same does = subst (λ (e : Desk). IfOk r (λ x. IsDoingBy p.stage (act p.role p.seen p.since e) (call_after p.role p.seen p.since) x)) same does

doing_of : (s : Setting) (h : List Entry) (n : ℕ) (p : OpenPass) (d : Doing) → open_pass s h n ≡ Some p → IsDoingBy p.stage (act_of s h p) (after_of p) d → IsDoing s h n d
doing_of s h n p (Makes call) is does = subst (λ (o : Option OpenPass). MayCall s h o call) (sym is) does
doing_of s h n p (Asks order) is does = subst (λ (o : Option OpenPass). MayAsk s h o order) (sym is) does
doing_of s h n p (Ends cause) is does = subst (λ (o : Option OpenPass). MayEnd s h o cause) (sym is) does

kept_none : (s : Setting) (h : List Entry) (n : ℕ) (p : OpenPass) → open_pass s h n ≡ Some p → kept_of (Some p) ≡ None → kept_of (open_pass s h n) ≡ None
kept_none s h n p is free = ap kept_of is ∙ free

-- and else the pass does what comes next
pub does_going : (s : Setting) (h : List Entry) (n : ℕ) (p : OpenPass) (d : Doing) (entries events : ℕ) (room : Bool) → open_pass s h n ≡ Some p → kept_of (Some p) ≡ None
    → IsDoingBy p.stage (act p.role p.seen p.since (desk s h p.role p.seen)) (call_after p.role p.seen p.since) d → entries ≡ length h → events ≡ s.events → (IsTrue room ↔ (entries + 1 ≤ events)) → room ≡ true
    → IsGoingOn s h n (Does d)
does_going s h n p d entries events room is free does counted most fits on =
    let low : length h + 1 ≤ s.events = subst (λ (m : ℕ). length h + 1 ≤ m) most (subst (λ (m : ℕ). m + 1 ≤ events) counted (fits.0 on)) in
    let none : kept_of (open_pass s h n) ≡ None = kept_none s h n p is free in
    let new : new_of s h (open_pass s h n) ≡ asked_in d = ap (new_of s h) is ∙ new_in p.stage (act_of s h p) (after_of p) d does in (
      going_new (kept_of (open_pass s h n)) (new_of s h (open_pass s h n)) none new low,
      record { free = none; new = new; does = doing_of s h n p d is does; room = omega (arith, low) },
    ) where
      going_new : (kept new : Option Order) → kept ≡ None → new ≡ asked_in d → length h + 1 ≤ s.events → AnswersGoing s h n kept new (next_answer n (asked_in d))
      going_new kept new none is low = rw (none, is) (inr (low, refl))

-- where no entry fits any more, it does nothing
pub spent_going : (s : Setting) (h : List Entry) (n : ℕ) (p : OpenPass) (entries events : ℕ) (room : Bool) → open_pass s h n ≡ Some p → kept_of (Some p) ≡ None
    → entries ≡ length h → events ≡ s.events → (IsTrue room ↔ (entries + 1 ≤ events)) → room ≡ false → IsGoingOn s h n (Answer (Spent entries))
spent_going s h n p entries events room is free counted most fits off =
    let none : kept_of (open_pass s h n) ≡ None = kept_none s h n p is free in
    (spent (kept_of (open_pass s h n)) (new_of s h (open_pass s h n)) none, tt) where
      full : length h + 1 ≤ s.events → ⊥
      full low = let on : room ≡ true = fits.1 (subst (λ (m : ℕ). entries + 1 ≤ m) (sym most) (subst (λ (m : ℕ). m + 1 ≤ s.events) (sym counted) low)) in absurd (cc (on, off))

      spent : (kept new : Option Order) → kept ≡ None → AnswersGoing s h n kept new (Spent entries)
      spent kept new none = rw none (inl (full, ap (λ (m : ℕ). Spent m) counted))

-- ---- what is left
