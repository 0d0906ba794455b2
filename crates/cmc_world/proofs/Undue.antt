-- The work queue of a role loses no wake-up.
use Rattle.std.proofs.Common.{◌≡◌, ◌⊎◌, ◌<◌, ℕ, ℤ, Bool, true, false, List, Option, Some, None, Result, Ok, Err, refl, sym, ap, subst, inl, inr, ◌∙◌, arith}
use Rattle.std.proofs.lemmas.Bool.{lt-ltb}
use Rattle.std.proofs.lemmas.Int.{ints}
use Rattle.std.specs.Prelude.{◌↔◌, IsTrue, IfOk, int_le, nat_lt, if◌then◌else◌}
use Rattle.std.specs.declared.alloc.AllocError.{AllocError}
use Rattle.cmc_meta.specs.declared.key.Key.{Key}
use Rattle.cmc_meta.specs.declared.key.Kind.{Kind}
use Rattle.cmc_meta.specs.declared.key.Kind.TheVariants as kinds
use Rattle.cmc_objects.specs.declared.role.Role.{Role}
use Rattle.cmc_objects.specs.declared.entry.Entry.{Entry}
use Rattle.cmc_objects.specs.declared.entry.Positions.{Positions}
use Rattle.cmc_queue.specs.declared.row.Parked.{Parked}
use Rattle.cmc_objects.specs.declared.request.CertificateRequest.{CertificateRequest}
use Rattle.cmc_objects.specs.declared.object.Object.TheVariants.{Request}
use Rattle.cmc_objects.specs.declared.orders.Rules.{Rules}
use Rattle.cmc_pass.specs.declared.pass.Act.TheVariants.{Nothing}
use Rattle.cmc_pass.specs.declared.pass.Desk.{Desk}
use Rattle.cmc_pass.specs.declared.pass.Views.{Views}
use Rattle.cmc_model.specs.declared.write.Write.{Write}
use Rattle.cmc_model.specs.Histories.{Setting, moment}
use Rattle.cmc_model.specs.Writes.{writes}
use Rattle.cmc_rules.specs.declared.progress.Obstacle.TheVariants.{Failure, Newer}
use Rattle.cmc_rules.specs.declared.progress.Ending.{Ending}
use Rattle.cmc_rules.specs.declared.progress.Ending.TheVariants as endings
use Rattle.cmc_rules.specs.declared.progress.LastPass.{LastPass}
use Rattle.cmc_rules.specs.declared.progress.Past.{Past}
use Rattle.cmc_rules.specs.Dates.{HasDatedFailure, IsDated}
use Rattle.cmc_rules.specs.Acts.{act}
use Rattle.cmc_rules.specs.Causes.{IsCaused}
use Rattle.cmc_rules.specs.Desks.{desk}
use Rattle.cmc_rules.specs.Legality.{IsLegal}
use Rattle.cmc_rules.specs.Memory.{past}
use Rattle.cmc_rules.specs.Runs.{IsRun}
use Rattle.cmc_rules.specs.Positions.{position_of, positions}
use Rattle.cmc_rules.specs.Sameness.{EndsAlike, IsDue, IsSame, own_above}
use Rattle.cmc_rules.specs.Views.{views}
use Rattle.cmc_moves.specs.Quiet.{IsQuiet, seen_last}
use Rattle.cmc_waking.specs.Parked.{own_ahead, obstacle_ahead, waits_for, IsParkedUntil, IsRefusedUntil, OrElse}
use Rattle.cmc_rules.specs.Rest.{IsIdle}
use Rattle.cmc_rules.proofs.Sights.{seen_request}
use Rattle.cmc_rules.proofs.Sighted.{views_known}
use Rattle.cmc_safety.specs.Formed.{IsFormed}
use Rattle.cmc_safety.proofs.Carried.{seen_has}
use Rattle.cmc_safety.proofs.Dated.{IsDatedObject, dated_versions}
use Rattle.cmc_moves.proofs.Sounds.{each_sound}
use Rattle.cmc_world.specs.DueMoments.{IsFirstAfter, sooner, IsDatedRequest, HasDatedMoments}
use Rattle.cmc_waits.proofs.Remembering.{last_fair, IsFairEnding, IsFairPass, IsFairLast}

-- ---- moments

passed_on : (a b c : ℤ) → int_le a b ≡ true → int_le b c ≡ true → int_le a c ≡ true
passed_on a b c one two = grind (arith, ints)

turned : (a b : ℤ) → int_le a b ≡ false → int_le b a ≡ true
turned a b later = grind (arith, ints)

either_passed : (now : ℤ) (P Q : ℤ → Type 0) (at : ℤ) → ((t : ℤ) → P t → int_le t now ≡ true) → ((t : ℤ) → Q t → int_le t now ≡ true) → P at ⊎ Q at → int_le at now ≡ true
either_passed now P Q at none nor (inl p) = none at p
either_passed now P Q at none nor (inr q) = nor at q

-- no moment of the one kind is to come, and this is the first of the other
first_of_other : (now : ℤ) (P Q : ℤ → Type 0) (first at : ℤ) → ((t : ℤ) → P t → int_le t now ≡ true) → ((t : ℤ) → Q t → int_le t now ≡ false → int_le first t ≡ true) → P at ⊎ Q at → int_le at now ≡ false → int_le first at ≡ true
first_of_other now P Q first at none others (inl p) later = absurd (let passed = none at p in cc (passed, later))
first_of_other now P Q first at none others (inr q) later = others at q later

first_of_one : (now : ℤ) (P Q : ℤ → Type 0) (first at : ℤ) → ((t : ℤ) → Q t → int_le t now ≡ true) → ((t : ℤ) → P t → int_le t now ≡ false → int_le first t ≡ true) → P at ⊎ Q at → int_le at now ≡ false → int_le first at ≡ true
first_of_one now P Q first at none others (inl p) later = others at p later
first_of_one now P Q first at none others (inr q) later = absurd (let passed = none at q in cc (passed, later))

-- of two first ones the sooner
first_of_both : (now : ℤ) (P Q : ℤ → Type 0) (first one other at : ℤ) → int_le first one ≡ true → int_le first other ≡ true → ((t : ℤ) → P t → int_le t now ≡ false → int_le one t ≡ true) → ((t : ℤ) → Q t → int_le t now ≡ false → int_le other t ≡ true)
    → P at ⊎ Q at → int_le at now ≡ false → int_le first at ≡ true
first_of_both now P Q first one other at low below ones others (inl p) later = passed_on first one at low (ones at p later)
first_of_both now P Q first one other at low below ones others (inr q) later = passed_on first other at below (others at q later)

itself : (a : ℤ) → int_le a a ≡ true
itself a = grind (arith, ints)

sooner_of : (b : Bool) (now : ℤ) (P Q : ℤ → Type 0) (one other : ℤ) → int_le one other ≡ b → IsFirstAfter now P (Some one) → IsFirstAfter now Q (Some other) → IsFirstAfter now (λ at. P at ⊎ Q at) (if b then Some one else Some other)
sooner_of true now P Q one other is first second = (inl first.0, first.1, λ at. first_of_both now P Q one one other at (itself one) is first.2 second.2)
sooner_of false now P Q one other is first second = (inr second.0, second.1, λ at. first_of_both now P Q other one other at (turned one other is) (itself other) first.2 second.2)

-- of what is one or the other, the sooner is the first
pub sooner_first : (now : ℤ) (P Q : ℤ → Type 0) (one other : Option ℤ) → IsFirstAfter now P one → IsFirstAfter now Q other → IsFirstAfter now (λ at. P at ⊎ Q at) (sooner one other)
sooner_first now P Q None None none nor = λ at. either_passed now P Q at none nor
sooner_first now P Q None (Some other) none first = (inr first.0, first.1, λ at. first_of_other now P Q other at none first.2)
sooner_first now P Q (Some one) None first none = (inl first.0, first.1, λ at. first_of_one now P Q one at none first.2)
sooner_first now P Q (Some one) (Some other) first second = sooner_of (int_le one other) now P Q one other refl first second

-- ---- where no pass is due

-- where no own write is ahead, none is above the positions
abbrev parked_of : Kind → ℕ → Option Parked
parked_of kind version = Some (record { kind = kind; version = version })

abbrev number : ℕ → Option ℕ
number n = Some n

abbrev some_parked : Parked → Option Parked
some_parked p = Some p

abbrev no_parked : Option Parked
no_parked = None

abbrev no_number : Option ℕ
no_number = None

none_above : (a b c : Bool) (own : Positions)
    → (if a then parked_of kinds.Certificate own.certificates else (if b then parked_of kinds.CertificateRequest own.requests else (if c then parked_of kinds.Secret own.secrets else no_parked))) ≡ no_parked
    → (if a then number own.certificates else (if b then number own.requests else (if c then number own.secrets else no_number))) ≡ no_number
none_above true b c own is = absurd (cc is)
none_above false true c own is = absurd (cc is)
none_above false false true own is = absurd (cc is)
none_above false false false own is = refl

own_none : (own at : Positions) → own_ahead own at ≡ no_parked → own_above own at ≡ no_number
unfolding own_above
own_none own at is = none_above (nat_lt at.certificates own.certificates) (nat_lt at.requests own.requests) (nat_lt at.secrets own.secrets) own is

-- what a role that has nothing to do at this moment saw, it saw so
abbrev EndedIdle : Setting → List Entry → Role → Key → Type 0
EndedIdle s h role key = (last : LastPass) → (past s h role key).last ≡ Some last → last.ending ≡ endings.Nothing → last.seen ≡ views s h role key → last.since ≡ moment s h → IsIdle s h role (views s h role key)

-- a pass that would end alike, where nothing is ahead, would find nothing at the same moment
alike_nothing : (ending : Ending) (since now : ℤ) (at : Positions) → EndsAlike ending since now at → no_parked ≡ obstacle_ahead ending at → (ending ≡ endings.Nothing) × (since ≡ now)
alike_nothing endings.Nothing since now at alike none = (refl, alike)
alike_nothing endings.Open since now at alike none = absurd alike
alike_nothing endings.Wrote since now at alike none = absurd alike
alike_nothing (endings.Refused Failure) since now at alike none = absurd alike
alike_nothing (endings.Refused (Newer kind version)) since now at alike none = absurd (behind (nat_lt (position_of kind at) version) kind version refl alike none) where
  behind : (b : Bool) (k : Kind) (v : ℕ) → nat_lt (position_of kind at) version ≡ b → position_of kind at < version → no_parked ≡ (if b then parked_of k v else no_parked) → ⊥
  behind true k v test low is = absurd (cc is)
  behind false k v test low is = let on = lt-ltb (position_of kind at) version low in cc (on, test)

-- so where nothing is ahead the pass would not be the last one again, or the key is quiet
not_again : (s : Setting) (h : List Entry) (role : Role) (key : Key) (last : LastPass) → EndedIdle s h role key → (IsQuiet s h role key → ⊥) → (past s h role key).last ≡ Some last
    → IsRefusedUntil (Some last) (views s h role key) (positions h role) None → IsSame (Some last) (views s h role key) (moment s h) (positions h role) → ⊥
not_again s h role key last ended worth is until same =
    let found = alike_nothing last.ending last.since (moment s h) (positions h role) same.1 (until.0 same.0) in
    worth (record { idle = ended last is found.0 same.0 found.1; same = sym same.0 ∙ sym (ap seen_last is) })

not_due : (s : Setting) (h : List Entry) (role : Role) (key : Key) (last : Option LastPass) → EndedIdle s h role key → (IsQuiet s h role key → ⊥) → (IsDue (past s h role key) (views s h role key) (moment s h) (positions h role) → ⊥)
    → own_above (past s h role key).own (positions h role) ≡ no_number → (past s h role key).last ≡ last → IsRefusedUntil last (views s h role key) (positions h role) None → ⊥
not_due s h role key None ended worth undue told is until =
    undue (record { told = told; other = λ same. subst (λ (l : Option LastPass). IsSame l (views s h role key) (moment s h) (positions h role)) is same })
not_due s h role key (Some last) ended worth undue told is until =
    undue (record { told = told; other = λ same. not_again s h role key last ended worth is until (subst (λ (l : Option LastPass). IsSame l (views s h role key) (moment s h) (positions h role)) is same) })

until_last : (s : Setting) (h : List Entry) (role : Role) (key : Key) (own : Option Parked) → OrElse own (IsRefusedUntil (past s h role key).last (views s h role key) (positions h role) None) None → IsRefusedUntil (past s h role key).last (views s h role key) (positions h role) None
until_last s h role key None until = until
until_last s h role key (Some p) until = absurd (cc until)

-- ---- in a run

-- a pass that ended with nothing had nothing to do, on what it saw and at its moment
ended_by : (role : Role) (rules : Rules) (ws : List Write) (last : LastPass) (ending : Ending) (seen : Views) (now : ℤ) (d : Desk) → last.ending ≡ ending → ending ≡ endings.Nothing → last.seen ≡ seen → last.since ≡ now → d.rules ≡ rules
    → IsFairPass role rules ws last → act role seen now d ≡ Nothing
ended_by role rules ws last ending seen now d is nothing sees at same fair =
    let fact : IsFairEnding role rules ws last.seen last.since endings.Nothing = subst (λ (e : Ending). IsFairEnding role rules ws last.seen last.since e) (is ∙ nothing) fair in
    subst (λ (v : Views). act role v now d ≡ Nothing) sees (subst (λ (t : ℤ). act role last.seen t d ≡ Nothing) at (fact d same))

ended_idle : (s : Setting) (h : List Entry) (role : Role) (key : Key) → IsLegal s h → IsCaused s h → EndedIdle s h role key
ended_idle s h role key legal caused last is ending sees at =
    ended_by role s.rules (writes s h) last last.ending (views s h role key) (moment s h) (desk s h role (views s h role key)) refl ending sees at refl
    (subst (λ (l : Option LastPass). IsFairLast role s.rules (writes s h) l) is (last_fair s h role key legal caused))

-- a key that waits for nothing, on which no pass is due though the role was told of its own writes, is quiet
pub undue_quiet : (s : Setting) (h : List Entry) (role : Role) (key : Key) → IsLegal s h → IsCaused s h → own_above (past s h role key).own (positions h role) ≡ None
    → IsParkedUntil (past s h role key) (views s h role key) (positions h role) None → (IsDue (past s h role key) (views s h role key) (moment s h) (positions h role) → ⊥) → (IsQuiet s h role key → ⊥) → ⊥
undue_quiet s h role key legal caused told until undue worth =
    not_due s h role key (past s h role key).last (ended_idle s h role key legal caused) worth undue told refl (until_last s h role key (own_ahead (past s h role key).own (positions h role)) until)

-- where no own write is ahead the role was told of all
pub told_by : (s : Setting) (h : List Entry) (role : Role) (key : Key) (p : Past) (own at : Positions) (o : Option Parked) → p ≡ past s h role key → own ≡ p.own → at ≡ positions h role → o ≡ waits_for endings.Wrote own at → o ≡ None → own_above (past s h role key).own (positions h role) ≡ None
told_by s h role key p own at o one two three is none =
    let mine : own ≡ (past s h role key).own = two ∙ ap (λ (x : Past). x.own) one in
    own_none (past s h role key).own (positions h role) (subst (λ (x : Positions). own_ahead x (positions h role) ≡ None) mine (subst (λ (a : Positions). own_ahead own a ≡ None) three (sym is ∙ none)))

-- by what was read of it
pub undue_by : (s : Setting) (h : List Entry) (role : Role) (key : Key) (p : Past) (seen : Views) (at : Positions) (o : Option Parked) (quiet : Bool) → IsLegal s h → IsCaused s h → p ≡ past s h role key → seen ≡ views s h role key → at ≡ positions h role → o ≡ None
    → own_above (past s h role key).own (positions h role) ≡ None → IsParkedUntil p seen at o → (IsDue (past s h role key) seen (moment s h) (positions h role) → ⊥) → (IsTrue quiet ↔ IsQuiet s h role key) → quiet ≡ false → ⊥
undue_by s h role key p seen at o quiet legal caused one two three none told until undue test off =
    undue_quiet s h role key legal caused told
    (subst (λ (x : Past). IsParkedUntil x (views s h role key) (positions h role) None) one
    (subst (λ (v : Views). IsParkedUntil p v (positions h role) None) two (subst (λ (a : Positions). IsParkedUntil p seen a None) three (subst (IsParkedUntil p seen at) none until))))
    (λ due. undue (subst (λ (v : Views). IsDue (past s h role key) v (moment s h) (positions h role)) (sym two) due)) (λ is. let on = test.1 is in cc (on, off))

-- ---- what is seen of a request is dated

request_dated : (o : Option CertificateRequest) → ((r : CertificateRequest) → o ≡ Some r → IsDated (Some (Request r))) → IsDatedRequest o
request_dated None each = tt
request_dated (Some r) each = each r refl

pub dated_moments : (s : Setting) (h : List Entry) (role : Role) (key : Key) → IsFormed s → IsRun s h → HasDatedFailure (views s h role key) → HasDatedMoments (views s h role key)
dated_moments s h role key formed run failure = record {
  failure = failure;
  answer = request_dated (views s h role key).request
      (λ r is. seen_has IsDatedObject (writes s h) (views s h role key) (Request r) (dated_versions each_sound s h formed (record { legal = run.legal; caused = run.caused; follows = run.follows }))
      (views_known s h role key) (seen_request (views s h role key) r is));
}

pub views_dated : (s : Setting) (h : List Entry) (role : Role) (key : Key) (r : Result Views AllocError) → IsFormed s → IsRun s h → HasDatedFailure (views s h role key) → IfOk r (λ seen. seen ≡ views s h role key) → IfOk r (λ seen. HasDatedMoments seen)
views_dated s h role key (Ok seen) formed run failure same = subst (λ (v : Views). HasDatedMoments v) (sym same) (dated_moments s h role key formed run failure)
views_dated s h role key (Err lack) formed run failure same = tt
