-- A pass of issuing that has its End did what it had planned, or names the call of its own that was refused: by its course.
use Rattle.std.proofs.Common.{◌≡◌, ◌==◌, ◌⊎◌, ◌++◌, ℕ, ℤ, ◌+◌, List, [], ◌∷◌, length, Option, Bool, true, false, refl, sym, ap, subst, ◌∙◌, inl, inr}
use Rattle.std.specs.Prelude.{if◌then◌else◌, MatchBool}
use Rattle.cmc_objects.specs.declared.certificate.Certificate.{Certificate}
use Rattle.cmc_objects.specs.declared.object.Object.{Object}
use Rattle.cmc_objects.specs.declared.call.Call.{Call}
use Rattle.cmc_objects.specs.declared.call.Call.TheVariants.{Get}
use Rattle.cmc_objects.specs.declared.call.Reply.{Reply}
use Rattle.cmc_objects.specs.declared.call.Reply.TheVariants.{Ok, Unchanged, Found}
use Rattle.cmc_objects.specs.declared.role.Role.TheVariants as roles
use Rattle.cmc_objects.specs.declared.entry.Cause.{Cause}
use Rattle.cmc_objects.specs.declared.entry.Cause.TheVariants as causes
use Rattle.cmc_objects.specs.declared.entry.Who.TheVariants.{Pass}
use Rattle.cmc_objects.specs.declared.entry.Entry.{Entry}
use Rattle.cmc_objects.specs.declared.entry.Entry.TheVariants.{Call as Called, Begin, End}
use Rattle.cmc_pass.specs.declared.pass.Views.{Views}
use Rattle.cmc_pass.specs.declared.pass.Act.{Act}
use Rattle.cmc_pass.specs.declared.pass.Act.TheVariants.{Nothing, Call as Calls, Ask as Asks, Issue, Temporary}
use Rattle.cmc_model.specs.Objects.{Objects}
use Rattle.cmc_model.specs.Replies.{IsReply}
use Rattle.cmc_model.specs.Histories.{Setting, state, objects}
use Rattle.cmc_rules.specs.Acts.{call_after}
use Rattle.cmc_rules.specs.Desks.{desk}
use Rattle.cmc_rules.specs.Issuance.{issuing}
use Rattle.cmc_rules.specs.Views.{views}
use Rattle.cmc_rules.specs.Legality.{IsLegal}
use Rattle.cmc_rules.specs.Causes.{IsCaused}
use Rattle.cmc_rules.specs.Safety.{HasEntry, IsServedReply}
use Rattle.cmc_rules.specs.Sound.{WritesTarget, IsSigned, IsMarked, IsWithin}
use Rattle.cmc_rules.proofs.WellSeen.{views_well}
use Rattle.cmc_safety.specs.Completion.{IsPlan, IsServedCall}
use Rattle.cmc_safety.specs.Courses.{is_entry_of, Placed, course_of, IsEnding, lets_on, AreCalls, IsCourseBy, IsCourse, IsStopped, DoesOrTells, PlansAreDone}
use Rattle.cmc_safety.proofs.Plans.{act_of_issuing}
use Rattle.cmc_safety.proofs.NextCalls.{ReadsObject, found_is_read, no_read}
use Rattle.cmc_safety.proofs.Course.{AreSound}
use Rattle.cmc_safety.proofs.Completing.{own_number, legal_below, caused_below}
use Rattle.cmc_safety.proofs.Courses.{have_courses}

-- ---- the entries of a course stand in the history

-- the entry stands in the history, on what was before it
abbrev StandsIn : List Entry → Placed → Type 0
StandsIn [] x = ⊥
StandsIn (e ∷ h) x = ((x.entry ≡ e) × (x.before ≡ h)) ⊎ StandsIn h x

abbrev AllStandIn : List Entry → List Placed → Type 0
AllStandIn g [] = Unit {0}
AllStandIn g (x ∷ xs) = StandsIn g x × AllStandIn g xs

one_longer : (e : Entry) (h : List Entry) (xs : List Placed) → AllStandIn h xs → AllStandIn (e ∷ h) xs
one_longer e h [] stand = tt
one_longer e h (x ∷ xs) stand = (inr stand.0, one_longer e h xs stand.1)

with_last : (g : List Entry) (xs : List Placed) (x : Placed) → AllStandIn g xs → StandsIn g x → AllStandIn g (xs ++ (x ∷ []))
with_last g [] x stand last = (last, tt)
with_last g (y ∷ xs) x stand last = (stand.0, with_last g xs x stand.1 last)

picked : (b : Bool) (g : List Entry) (xs ys : List Placed) → AllStandIn g xs → AllStandIn g ys → AllStandIn g (if b then xs else ys)
picked true g xs ys one other = one
picked false g xs ys one other = other

all_stand : (n : ℕ) (h : List Entry) → AllStandIn h (course_of n h)
all_stand n [] = tt
all_stand n (e ∷ h) =
    let old : AllStandIn (e ∷ h) (course_of n h) = one_longer e h (course_of n h) (all_stand n h) in
    picked (is_entry_of n e) (e ∷ h) (course_of n h ++ (record { before = h; entry = e } ∷ [])) (course_of n h) (with_last (e ∷ h) (course_of n h) (record { before = h; entry = e }) old (inl (refl, refl))) old

-- ---- a list of calls that has its End

-- each call stands with a reply that let the pass go on
abbrev LetsOn : ℕ → Option Certificate → Call → Entry → Type 0
LetsOn n seen call e = (reply : Reply) × (e ≡ Called (Pass n) call reply) × (lets_on seen reply ≡ true)

-- with what stood before it, where the reply was right
abbrev StandsRight : Setting → List Entry → ℕ → Option Certificate → Call → Type 0
StandsRight s [] n seen call = ⊥
StandsRight s (e ∷ h) n seen call = ((reply : Reply) × (e ≡ Called (Pass n) call reply) × (lets_on seen reply ≡ true) × IsReply s.faults (state s h) call reply) ⊎ StandsRight s h n seen call

abbrev AllMade : Setting → List Entry → ℕ → Option Certificate → List Call → Type 0
AllMade s g n seen [] = Unit {0}
AllMade s g n seen (call ∷ calls) = StandsRight s g n seen call × AllMade s g n seen calls

abbrev Tells : List Entry → ℕ → Option Certificate → Cause → Type 0
Tells g n seen cause = (number : ℕ) × (cause ≡ causes.Stopper number) × IsStopped g n seen number

right_at : (s : Setting) (h : List Entry) (e : Entry) (n : ℕ) (call : Call) (reply : Reply) → IsLegal s (e ∷ h) → e ≡ Called (Pass n) call reply → IsReply s.faults (state s h) call reply
unfolding IsLegal
right_at s h e n call reply legal is = (subst (λ (x : Entry). IsLegal s (x ∷ h)) is legal).0.0

made_at : (s : Setting) (g : List Entry) (n : ℕ) (seen : Option Certificate) (x : Placed) (call : Call) (reply : Reply) → IsLegal s g → StandsIn g x → x.entry ≡ Called (Pass n) call reply → lets_on seen reply ≡ true → StandsRight s g n seen call
unfolding IsLegal
made_at s [] n seen x call reply legal stands is on = absurd stands
made_at s (e ∷ h) n seen x call reply legal (inl here) is on = inl (reply, sym here.0 ∙ is, on, right_at s h e n call reply legal (sym here.0 ∙ is))
made_at s (e ∷ h) n seen x call reply legal (inr there) is on = inr (made_at s h n seen x call reply legal.1 there is on)

stopped_at : (g : List Entry) (n : ℕ) (seen : Option Certificate) (x : Placed) (call : Call) (reply : Reply) → StandsIn g x → x.entry ≡ Called (Pass n) call reply → lets_on seen reply ≡ false → IsStopped g n seen (length x.before + 1)
stopped_at [] n seen x call reply stands is off = absurd stands
stopped_at (e ∷ h) n seen x call reply (inl here) is off = inl (ap (λ (l : List Entry). length l + 1) here.1, (call, reply, sym here.0 ∙ is, off))
stopped_at (e ∷ h) n seen x call reply (inr there) is off = inr (stopped_at h n seen x call reply there is off)

-- the End is the last entry
end_of : (n : ℕ) (due cause : Cause) (xs : List Placed) (last : Placed) → last.entry ≡ End n cause → IsEnding n due (xs ++ (last ∷ [])) → cause ≡ due
end_of n due cause [] last is ends = let e : End n cause ≡ End n due = sym is ∙ ends.0 in cc e
end_of n due cause (x ∷ []) last is ends = absurd (let none = ends.1 in cc none)
end_of n due cause (x ∷ y ∷ xs) last is ends = absurd (let none = ends.1 in cc none)

calls_end : (s : Setting) (g : List Entry) (n : ℕ) (seen : Option Certificate) (cause : Cause) (calls : List Call) (xs : List Placed) (last : Placed) → IsLegal s g → AllStandIn g xs → last.entry ≡ End n cause → AreCalls n seen calls (xs ++ (last ∷ []))
    → AllMade s g n seen calls ⊎ Tells g n seen cause
calls_end s g n seen cause [] xs last legal stand is are = inl tt
calls_end s g n seen cause (call ∷ calls) [] last legal stand is are = absurd (let e : End n cause ≡ Called (Pass n) call are.0 = sym is ∙ are.1 in cc e)
calls_end s g n seen cause (call ∷ calls) (x ∷ xs) last legal stand is (reply, made, rest) = split (λ are. calls_end s g n seen cause calls xs last legal stand.1 is are) (lets_on seen reply) refl rest where
  more : lets_on seen reply ≡ true → AllMade s g n seen calls ⊎ Tells g n seen cause → AllMade s g n seen (call ∷ calls) ⊎ Tells g n seen cause
  more on (inl all) = inl (made_at s g n seen x call reply legal stand.0 made on, all)
  more on (inr tells) = inr tells

  split : (AreCalls n seen calls (xs ++ (last ∷ [])) → AllMade s g n seen calls ⊎ Tells g n seen cause) → (b : Bool) → lets_on seen reply ≡ b → MatchBool b (AreCalls n seen calls (xs ++ (last ∷ []))) (IsEnding n (causes.Stopper (length x.before + 1)) (xs ++ (last ∷ []))) → AllMade s g n seen (call ∷ calls) ⊎ Tells g n seen cause
  split ends true on are = more on (ends are)
  split others false off ends = inr (length x.before + 1, end_of n (causes.Stopper (length x.before + 1)) cause xs last is ends, stopped_at g n seen x call reply stand.0 made off)

-- ---- the Secret was served

served_by : (s : Setting) (h : List Entry) (seen : Option Certificate) (call : Call) (reply : Reply) → ((o : Object) → ReadsObject (objects s h) call o → ⊥) → lets_on seen reply ≡ true → IsReply s.faults (state s h) call reply → IsServedReply reply
served_by s h seen call (Ok version name) unread on right = tt
served_by s h seen call (Unchanged version) unread on right = tt
served_by s h seen call (Found o) unread on right = absurd (unread o (found_is_read s.faults (state s h) call o right))
served_by s h seen call other unread on right = absurd (cc on)

secret_served : (s : Setting) (g : List Entry) (n : ℕ) (seen : Option Certificate) (call : Call) → ((m : Objects) (o : Object) → ReadsObject m call o → ⊥) → StandsRight s g n seen call → HasEntry (IsServedCall n call) g
secret_served s [] n seen call unread made = absurd made
secret_served s (e ∷ h) n seen call unread (inl (reply, is, on, right)) = inl (reply, is, served_by s h seen call reply (unread (objects s h)) on right)
secret_served s (e ∷ h) n seen call unread (inr there) = inr (secret_served s h n seen call unread there)

-- ---- by the plan

by_plan : (s : Setting) (g : List Entry) (n : ℕ) (seen : Views) (now : ℤ) (does : Act) (cause : Cause) (xs : List Placed) (last : Placed) → IsLegal s g → AllStandIn g xs → last.entry ≡ End n cause
    → IsPlan does → IsWithin roles.Issuing (call_after roles.Issuing seen now) seen now does → IsCourseBy n seen.certificate (call_after roles.Issuing seen now) does (xs ++ (last ∷ []))
    → DoesOrTells g n seen.certificate does cause
by_plan s g n seen now Nothing cause xs last legal stand is plan within course = absurd plan
by_plan s g n seen now (Calls call) cause xs last legal stand is plan within course = absurd plan
by_plan s g n seen now (Asks order) cause xs last legal stand is plan within course = absurd plan
by_plan s g n seen now (Issue p) cause xs last legal stand is plan within course = done (calls_end s g n seen.certificate cause (Get p.get ∷ p.secret ∷ p.status ∷ []) xs last legal stand is course) where
  done : AllMade s g n seen.certificate (Get p.get ∷ p.secret ∷ p.status ∷ []) ⊎ Tells g n seen.certificate cause → DoesOrTells g n seen.certificate (Issue p) cause
  done (inl all) = inl (secret_served s g n seen.certificate p.secret (λ m o reads. no_read (WritesTarget roles.Issuing now (IsSigned within.certificate within.request within.file)) m seen p.secret o reads within.secret) all.1.0)
  done (inr tells) = inr tells
by_plan s g n seen now (Temporary p) cause xs last legal stand is plan within course = done (calls_end s g n seen.certificate cause (Get p.get ∷ p.secret ∷ []) xs last legal stand is course) where
  done : AllMade s g n seen.certificate (Get p.get ∷ p.secret ∷ []) ⊎ Tells g n seen.certificate cause → DoesOrTells g n seen.certificate (Temporary p) cause
  done (inl all) = inl (secret_served s g n seen.certificate p.secret (λ m o reads. no_read (WritesTarget roles.Issuing now (IsMarked within.certificate within.request within.file now)) m seen p.secret o reads within.secret) all.1.0)
  done (inr tells) = inr tells

-- the act of issuing at any of its entries
course_by : (s : Setting) (n : ℕ) (seen : Views) (now : ℤ) (es : List Placed) → IsCourse s n roles.Issuing seen now es → IsPlan (issuing seen now) → IsCourseBy n seen.certificate (call_after roles.Issuing seen now) (issuing seen now) es
course_by s n seen now [] course plan = none_by (issuing seen now) plan where
  none_by : (does : Act) → IsPlan does → IsCourseBy n seen.certificate (call_after roles.Issuing seen now) does []
  none_by (Issue p) plan = tt
  none_by (Temporary p) plan = tt
  none_by other plan = absurd plan
course_by s n seen now (e ∷ es) course plan =
    subst (λ (a : Act). IsCourseBy n seen.certificate (call_after roles.Issuing seen now) a (e ∷ es)) (act_of_issuing roles.Issuing seen now (desk s e.before roles.Issuing seen) refl) course

pub plans_done : AreSound → (s : Setting) (whole : List Entry) → IsLegal s whole → IsCaused s whole → PlansAreDone s whole
plans_done sound s whole legal caused l k h n key at now cause is plan =
    let base : List Entry = Begin n roles.Issuing key at now ∷ h in
    let g : List Entry = k ++ base in
    let top : IsLegal s (End n cause ∷ g) = legal_below s l (End n cause ∷ g) (subst (IsLegal s) is legal) in
    let causes_ : IsCaused s (End n cause ∷ g) = caused_below s l (End n cause ∷ g) (subst (IsCaused s) is caused) in
    let seen : Views = views s h roles.Issuing key in
    let course : IsCourse s n roles.Issuing seen now (course_of n (End n cause ∷ g)) = have_courses sound s (End n cause ∷ g) top causes_ (End n cause ∷ k) h n roles.Issuing key at now refl in
    let below : IsLegal s g = legal_below s (End n cause ∷ []) g top in
    let first : IsLegal s h = legal_below s (Begin n roles.Issuing key at now ∷ []) h (legal_below s k base below) in
    let within : IsWithin roles.Issuing (call_after roles.Issuing seen now) seen now (issuing seen now) =
    subst (IsWithin roles.Issuing (call_after roles.Issuing seen now) seen now) (act_of_issuing roles.Issuing seen now (desk s h roles.Issuing seen) refl)
    ((sound roles.Issuing).within seen now (desk s h roles.Issuing seen) (views_well s h roles.Issuing key first)) in
    by_plan s g n seen now (issuing seen now) cause (course_of n g) (record { before = g; entry = End n cause }) below (all_stand n g) refl plan within
    (course_by s n seen now (course_of n g ++ (record { before = g; entry = End n cause } ∷ []))
    (subst (λ (b : Bool). IsCourse s n roles.Issuing seen now (if b then course_of n g ++ (record { before = g; entry = End n cause } ∷ []) else course_of n g)) (own_number n) course) plan)
