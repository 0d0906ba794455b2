-- A pass has at most four entries after its Begin.
use Rattle.std.proofs.Common.{◌≡◌, ◌⊎◌, ◌==◌, ◌++◌, inl, inr, ℕ, ℤ, ◌+◌, ◌≤◌, List, [], ◌∷◌, length, Option, Some, None, Bool, true, false, refl, sym, ap, ◌∙◌, arith, append_assoc, length-append}
use Rattle.std.proofs.lemmas.Bool.{or_left, or_right}
use Rattle.std.proofs.lemmas.Bool.Decides.{Decides-eqb}
use Rattle.std.specs.Prelude.{if◌then◌else◌, ◌||◌, MatchBool, option_map}
use Rattle.std.specs.List.{list_any}
use Rattle.cmc_objects.specs.declared.certificate.Certificate.{Certificate}
use Rattle.cmc_objects.specs.declared.role.Role.{Role}
use Rattle.cmc_objects.specs.declared.call.Call.{Call}
use Rattle.cmc_objects.specs.declared.call.Call.TheVariants.{Get}
use Rattle.cmc_objects.specs.declared.orders.Order.{Order}
use Rattle.cmc_objects.specs.declared.entry.Cause.{Cause}
use Rattle.cmc_objects.specs.declared.entry.Who.{Who}
use Rattle.cmc_objects.specs.declared.entry.Who.TheVariants.{User, Pass}
use Rattle.cmc_objects.specs.declared.entry.Entry.{Entry}
use Rattle.cmc_objects.specs.declared.entry.Entry.TheVariants.{Call as Called, Begin, Ask, Made, Signed, Answered, Judged, End, Stop}
use Rattle.cmc_pass.specs.declared.value.Value.{Value}
use Rattle.cmc_pass.specs.declared.pass.Views.{Views}
use Rattle.cmc_pass.specs.declared.pass.Act.{Act}
use Rattle.cmc_pass.specs.declared.pass.Act.TheVariants.{Nothing, Call as Calls, Ask as Asks, Issue, Temporary}
use Rattle.cmc_model.specs.Histories.{Setting}
use Rattle.cmc_rules.specs.declared.progress.Stage.{Stage}
use Rattle.cmc_rules.specs.declared.progress.OpenPass.{OpenPass}
use Rattle.cmc_rules.specs.Acts.{act, call_after}
use Rattle.cmc_rules.specs.Desks.{desk}
use Rattle.cmc_rules.specs.Views.{views}
use Rattle.cmc_rules.specs.Passes.{open_pass, called, unless_of}
use Rattle.cmc_rules.specs.Legality.{IsLegal, IsLegalEntry, IsOpen}
use Rattle.cmc_safety.specs.Courses.{is_entry_of, Placed, course_of, IsEnding, lets_on, AreCalls, IsFollowing, IsAnswering, IsAsking, IsCourseBy, IsCourse, HaveCourses}
use Rattle.cmc_run_laws.specs.Begins.{count_of}
use Rattle.cmc_run_laws.specs.Lengths.{Each, HasShortPasses, is_begin, is_of_pass}
use Rattle.cmc_run_laws.proofs.Counting.{counted_by_parts, is_in_part}

-- ---- a course is short

ending_short : (n : ℕ) (cause : Cause) (es : List Placed) → IsEnding n cause es → length es ≤ 1
ending_short n cause [] is = omega arith
ending_short n cause (e ∷ es) is = let none : length es ≡ 0 = ap (λ (x : List Placed). length x) is.1 in omega (arith, none)

goes_or_ends : (b : Bool) (P Q : Type 0) (m k : ℕ) → (P → m ≤ k + 1) → (Q → m ≤ 1) → MatchBool b P Q → m ≤ k + 1
goes_or_ends true P Q m k goes ends is = goes is
goes_or_ends false P Q m k goes ends is = let low = ends is in omega (arith, low)

calls_short : (n : ℕ) (seen : Option Certificate) (calls : List Call) (es : List Placed) → AreCalls n seen calls es → length es ≤ length calls + 1
calls_short n seen [] es is = let low = ending_short n _ es is in omega (arith, low)
calls_short n seen (call ∷ calls) [] is = omega arith
calls_short n seen (call ∷ calls) (e ∷ es) is =
    let low = goes_or_ends (lets_on seen is.0) _ _ (length es) (length calls) (calls_short n seen calls es) (ending_short n _ es) is.2 in
    omega (arith, low)

following_short : (n : ℕ) (seen : Option Certificate) (call : Option Call) (es : List Placed) → IsFollowing n seen call es → length es ≤ 2
following_short n seen None es is = let none : length es ≡ 0 = ap (λ (x : List Placed). length x) is in omega (arith, none)
following_short n seen (Some call) es is = calls_short n seen (call ∷ []) es is

answering_short : (n : ℕ) (seen : Option Certificate) (after : Order → Value → Option Call) (order : Order) (es : List Placed) → IsAnswering n seen after order es → length es ≤ 3
answering_short n seen after order [] is = omega arith
answering_short n seen after order (e ∷ es) is = let low = following_short n seen (after order is.0) es is.3 in omega (arith, low)

asking_short : (n : ℕ) (seen : Option Certificate) (after : Order → Value → Option Call) (order : Order) (es : List Placed) → IsAsking n seen after order es → length es ≤ 4
asking_short n seen after order [] is = omega arith
asking_short n seen after order (e ∷ es) is = let low = answering_short n seen after order es is.1 in omega (arith, low)

act_short : (n : ℕ) (seen : Option Certificate) (after : Order → Value → Option Call) (does : Act) (es : List Placed) → IsCourseBy n seen after does es → length es ≤ 4
act_short n seen after Nothing es is = let low = ending_short n _ es is in omega (arith, low)
act_short n seen after (Calls call) es is = let low : length es ≤ 2 = calls_short n seen (call ∷ []) es is in omega (arith, low)
act_short n seen after (Asks order) es is = asking_short n seen after order es is
act_short n seen after (Issue plan) es is = calls_short n seen (Get plan.get ∷ plan.secret ∷ plan.status ∷ []) es is
act_short n seen after (Temporary plan) es is = let low : length es ≤ 3 = calls_short n seen (Get plan.get ∷ plan.secret ∷ []) es is in omega (arith, low)

course_short : (s : Setting) (n : ℕ) (role : Role) (seen : Views) (now : ℤ) (es : List Placed) → IsCourse s n role seen now es → length es ≤ 4
course_short s n role seen now [] is = omega arith
course_short s n role seen now (e ∷ es) is = act_short n seen.certificate (call_after role seen now) (act role seen now (desk s e.before role seen)) (e ∷ es) is

-- ---- the entries of one pass

one_longer : (b : Bool) (es : List Placed) (e : Placed) (n : ℕ) → length es ≡ n → length (if b then es ++ (e ∷ []) else es) ≡ (if b then n + 1 else n)
one_longer true es e n is = let both = length-append es (e ∷ []) in omega (arith, both, is)
one_longer false es e n is = is

course_length : (n : ℕ) (h : List Entry) → length (course_of n h) ≡ count_of (is_entry_of n) h
course_length n [] = refl
course_length n (e ∷ h) = one_longer (is_entry_of n e) (course_of n h) _ (count_of (is_entry_of n) h) (course_length n h)

abbrev numbers : List Entry → List ℕ
numbers [] = []
numbers (Begin pass role key at now ∷ h) = pass ∷ numbers h
numbers (other ∷ h) = numbers h

numbers_count : (h : List Entry) → length (numbers h) ≡ count_of is_begin h
numbers_count [] = refl
numbers_count (Begin pass role key at now ∷ h) = let is = numbers_count h in omega (arith, is)
numbers_count (other ∷ h) = numbers_count h

each_short : (s : Setting) (whole l g : List Entry) → HaveCourses s whole → whole ≡ l ++ g → Each (λ (n : ℕ). count_of (is_entry_of n) whole ≤ 4) (numbers g)
each_short s whole l [] law is = tt
each_short s whole l (Begin n role key at now ∷ h) law is =
    let e : Entry = Begin n role key at now in
    let low = course_short s n role (views s h role key) now (course_of n whole) (law l h n role key at now is) in
    let same = course_length n whole in
    (omega (arith, low, same), each_short s whole (l ++ (e ∷ [])) h law (is ∙ sym (append_assoc l (e ∷ []) h)))
each_short s whole l (other ∷ h) law is = each_short s whole (l ++ (other ∷ [])) h law (is ∙ sym (append_assoc l (other ∷ []) h))

-- ---- each entry is one of a pass that has begun

abbrev HasBegun : List Entry → ℕ → Type 0
HasBegun h n = list_any (λ x. x == n) (numbers h) ≡ true

begun_later : (e : Entry) (h : List Entry) (n : ℕ) → HasBegun h n → HasBegun (e ∷ h) n
begun_later (Begin pass role key at now) h n is = or_right (pass == n) (list_any (λ x. x == n) (numbers h)) is
begun_later other h n is = is

still_open : (b : Bool) (stage : OpenPass → OpenPass) (p : Option OpenPass) → IsOpen (if b then option_map stage p else p) → IsOpen p
still_open true stage None is = is
still_open true stage (Some p) is = tt
still_open false stage p is = is

open_before_call : (s : Setting) (n : ℕ) (who : Who) (stage : OpenPass → Stage) (p : Option OpenPass) → IsOpen (called n who stage p) → IsOpen p
open_before_call s n User stage p is = is
open_before_call s n (Pass m) stage p is = still_open (n == m) _ p is

open_before_end : (b : Bool) (p : Option OpenPass) → IsOpen (if b then None else p) → IsOpen p
open_before_end true p is = absurd is
open_before_end false p is = is

open_before_stop : (role : Role) (p : Option OpenPass) → IsOpen (unless_of role p) → IsOpen p
open_before_stop role None is = is
open_before_stop role (Some p) is = tt

number_turned : (n m : ℕ) → (n == m) ≡ true → (m == n) ≡ true
number_turned n m is = (Decides-eqb m n).1 (sym ((Decides-eqb n m).0 is))

begins_or_begun : (b : Bool) (n pass : ℕ) (p q : Option OpenPass) (h : List Entry) → (n == pass) ≡ b → (IsOpen p → HasBegun h n) → IsOpen (if b then q else p) → ((pass == n) ≡ true) ⊎ HasBegun h n
begins_or_begun true n pass p q h is begun was = inl (number_turned n pass is)
begins_or_begun false n pass p q h is begun was = inr (begun was)

either_begun : (n pass : ℕ) (h : List Entry) → ((pass == n) ≡ true) ⊎ HasBegun h n → ((pass == n) || list_any (λ x. x == n) (numbers h)) ≡ true
either_begun n pass h (inl is) = or_left (pass == n) _ is
either_begun n pass h (inr is) = or_right (pass == n) _ is

open_has_begun : (s : Setting) (h : List Entry) (n : ℕ) → IsOpen (open_pass s h n) → HasBegun h n
open_has_begun s [] n is = absurd is
open_has_begun s (Called who call reply ∷ h) n is = open_has_begun s h n (open_before_call s n who _ (open_pass s h n) is)
open_has_begun s (Begin pass role key at now ∷ h) n is =
    either_begun n pass h (begins_or_begun (n == pass) n pass (open_pass s h n) _ h refl (open_has_begun s h n) is)
open_has_begun s (Ask pass order ∷ h) n is = open_has_begun s h n (still_open (n == pass) _ (open_pass s h n) is)
open_has_begun s (Made pass key ∷ h) n is = open_has_begun s h n (still_open (n == pass) _ (open_pass s h n) is)
open_has_begun s (Signed pass signature ∷ h) n is = open_has_begun s h n (still_open (n == pass) _ (open_pass s h n) is)
open_has_begun s (Answered pass answer ∷ h) n is = open_has_begun s h n (still_open (n == pass) _ (open_pass s h n) is)
open_has_begun s (Judged pass approved ∷ h) n is = open_has_begun s h n (still_open (n == pass) _ (open_pass s h n) is)
open_has_begun s (End pass cause ∷ h) n is = open_has_begun s h n (open_before_end (n == pass) (open_pass s h n) is)
open_has_begun s (Stop role ∷ h) n is = open_has_begun s h n (open_before_stop role (open_pass s h n) is)
open_has_begun s (other ∷ h) n is = open_has_begun s h n is

entry_of_begun : (s : Setting) (whole h : List Entry) (e : Entry) → IsLegalEntry s h e → ((n : ℕ) → HasBegun h n → HasBegun whole n) → is_of_pass e ≡ true → is_in_part is_entry_of (numbers whole) e ≡ true
entry_of_begun s whole h (Called User call reply) right goes is = absurd (cc is)
entry_of_begun s whole h (Called (Pass n) call reply) right goes is = goes n (open_has_begun s h n right.1)
entry_of_begun s whole h (Ask n order) right goes is = goes n (open_has_begun s h n right)
entry_of_begun s whole h (Made n key) right goes is = goes n (open_has_begun s h n right)
entry_of_begun s whole h (Signed n signature) right goes is = goes n (open_has_begun s h n right)
entry_of_begun s whole h (Answered n answer) right goes is = goes n (open_has_begun s h n right)
entry_of_begun s whole h (Judged n approved) right goes is = goes n (open_has_begun s h n right)
entry_of_begun s whole h (End n cause) right goes is = goes n (open_has_begun s h n right)
entry_of_begun s whole h other right goes is = absurd (cc is)

all_of_begun : (s : Setting) (whole h : List Entry) → IsLegal s h → ((n : ℕ) → HasBegun h n → HasBegun whole n) → Each (λ (e : Entry). is_of_pass e ≡ true → is_in_part is_entry_of (numbers whole) e ≡ true) h
unfolding IsLegal
all_of_begun s whole [] legal goes = tt
all_of_begun s whole (e ∷ h) legal goes =
    (entry_of_begun s whole h e legal.0 (λ n is. goes n (begun_later e h n is)), all_of_begun s whole h legal.1 (λ n is. goes n (begun_later e h n is)))

pub short_passes : (s : Setting) (whole : List Entry) → IsLegal s whole → HaveCourses s whole → HasShortPasses whole
short_passes s whole legal law =
    let few = counted_by_parts is_of_pass is_entry_of (numbers whole) whole 4 (all_of_begun s whole whole legal (λ n is. is)) (each_short s whole [] whole law refl) in
    let same = numbers_count whole in
    omega (arith, few, same)
