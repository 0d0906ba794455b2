-- An approval and a denial stay as they are in all later versions of a uid, and no request has both.
use Rattle.std.proofs.Common.{◌≡◌, ◌==◌, ◌&&◌, ◌||◌, ℕ, ℤ, ◌+◌, List, [], ◌∷◌, Option, Some, None, Bool, true, false, not, refl, sym, ap, subst, ◌∙◌}
use Rattle.std.specs.Prelude.{if◌then◌else◌}
use Rattle.std.proofs.lemmas.Bool.{or_parts}
use Rattle.cmc_meta.specs.declared.conditions.Condition.{Condition}
use Rattle.cmc_meta.specs.declared.conditions.ConditionKind.{ConditionKind}
use Rattle.cmc_meta.specs.declared.conditions.ConditionKind.TheVariants.{Approved, Denied}
use Rattle.cmc_meta.specs.declared.conditions.Tri.TheVariants as tri
use Rattle.cmc_meta.specs.ConditionLists.{condition_rank, condition_at, tri_eq}
use Rattle.cmc_objects.specs.declared.call.Call.{Call}
use Rattle.cmc_objects.specs.declared.call.Call.TheVariants.{Create, Update, UpdateStatus, Delete, Get}
use Rattle.cmc_objects.specs.declared.entry.Entry.{Entry}
use Rattle.cmc_objects.specs.declared.entry.Entry.TheVariants.{Call as Called}
use Rattle.cmc_objects.specs.declared.object.Object.{Object}
use Rattle.cmc_objects.specs.declared.object.Object.TheVariants.{Cert, Request, Secret}
use Rattle.cmc_objects.specs.Objects.{meta_of, numbered}
use Rattle.cmc_objects.specs.Requests.{is_stated}
use Rattle.cmc_model.specs.Objects.{Objects, object_at}
use Rattle.cmc_model.specs.Stored.{created, updated, with_status, generation_after, revised, restated}
use Rattle.cmc_model.specs.Admission.{has_condition, is_unsettled, condition_eq, is_lost, loses, verdict_rules, refusing_rule}
use Rattle.cmc_model.specs.Replies.{is_accepted, key_of_call, settled, stored}
use Rattle.cmc_model.specs.Acceptance.{IsFounded}
use Rattle.cmc_model.specs.Histories.{Setting, moment, state, objects, accepted}
use Rattle.cmc_model.specs.Writes.{writes}
use Rattle.cmc_model.specs.Verdicts.{verdict_condition, states, HasOneVerdict, KeepsVerdict, KeepsVerdicts, IsAnswered, AreFinal}
use Rattle.cmc_model.proofs.Accepting.{accepted_found}
use Rattle.cmc_model.proofs.Admission.{condition_eq-Decides, AllPass, all_pass}
use Rattle.cmc_model.proofs.Permanence.{IsKeptBy, versions_linked}
use Rattle.cmc_model.proofs.Versions.{IsLawful, lawful_called}
use Rattle.cmc_model.proofs.Writes.{writes_count, writes_leave}
use Rattle.cmc_model.proofs.Writing.{EachWrite, each_write, standing_is, version_is}

-- ---- one condition

stands_by : (same so : Bool) (some rest : Bool) → (some ≡ true → rest ≡ true) → ((same && so) || some) ≡ true → (same || rest) ≡ true
stands_by true so some rest below is = refl
stands_by false so some rest below is = below is

stands_where : (k : ConditionKind) (cs : List Condition) → is_stated k cs ≡ true → has_condition k cs ≡ true
stands_where k [] is = is
stands_where k (c ∷ cs) is = stands_by (condition_rank c.kind == condition_rank k) (tri_eq c.status tri.True) (is_stated k cs) (has_condition k cs) (stands_where k cs) is

settled_by : (same so : Bool) (some other rest : Bool) → (some ≡ true → other ≡ false → rest ≡ true) → (same || some) ≡ true → ((same && not so) || other) ≡ false
    → ((same && so) || rest) ≡ true
settled_by true true some other rest below is settled = refl
settled_by true false some other rest below is settled = absurd (cc settled)
settled_by false so some other rest below is settled = below is settled

settled_where : (k : ConditionKind) (cs : List Condition) → has_condition k cs ≡ true → is_unsettled k cs ≡ false → is_stated k cs ≡ true
settled_where k [] is settled = is
settled_where k (c ∷ cs) is settled =
    settled_by (condition_rank c.kind == condition_rank k) (tri_eq c.status tri.True) (has_condition k cs) (is_unsettled k cs) (is_stated k cs) (settled_where k cs) is settled

found_by : (same some : Bool) (c : Condition) (rest : Option Condition) → (some ≡ true → rest ≡ None → ⊥) → (same || some) ≡ true → (if same then Some c else rest) ≡ None → ⊥
found_by true some c rest below is none = absurd (cc none)
found_by false some c rest below is none = below is none

stands_found : (k : ConditionKind) (cs : List Condition) → has_condition k cs ≡ true → condition_at cs k ≡ None → ⊥
stands_found k [] is none = absurd (cc is)
stands_found k (c ∷ cs) is none = found_by (condition_rank c.kind == condition_rank k) (has_condition k cs) c (condition_at cs k) (stands_found k cs) is none

there_by : (same rest : Bool) (d : Condition) (found : Option Condition) (c : Condition) → (found ≡ Some c → rest ≡ true) → (if same then Some d else found) ≡ Some c → (same || rest) ≡ true
there_by true rest d found c below is = refl
there_by false rest d found c below is = below is

found_stands : (k : ConditionKind) (cs : List Condition) (c : Condition) → condition_at cs k ≡ Some c → has_condition k cs ≡ true
found_stands k [] c is = absurd (cc is)
found_stands k (d ∷ cs) c is = there_by (condition_rank d.kind == condition_rank k) (has_condition k cs) d (condition_at cs k) c (found_stands k cs c) is

-- what no rule loses stays
kept_found : (k : ConditionKind) (new : List Condition) (x y : Option Condition) → condition_at new k ≡ y → is_lost x y ≡ false → (x ≡ None → ⊥) → has_condition k new ≡ true
kept_found k new None y is kept some = absurd (some refl)
kept_found k new (Some a) None is kept some = absurd (cc kept)
kept_found k new (Some a) (Some b) is kept some = found_stands k new b is

-- the condition that stood is the one that stands
not_false : (b : Bool) → not b ≡ false → b ≡ true
not_false true is = refl
not_false false is = absurd (cc is)

kept_same : (x y : Option Condition) → is_lost x y ≡ false → (x ≡ None → ⊥) → y ≡ x
kept_same None y is some = absurd (some refl)
kept_same (Some a) None is some = absurd (cc is)
kept_same (Some a) (Some b) is some = ap Some (sym ((condition_eq-Decides a b).0 (not_false (condition_eq a b) is)))

stays_stated : (k : ConditionKind) (old new : List Condition) → is_unsettled k new ≡ false → loses k old new ≡ false → is_stated k old ≡ true → is_stated k new ≡ true
stays_stated k old new settled kept is =
    settled_where k new (kept_found k new (condition_at old k) (condition_at new k) refl kept (stands_found k old (stands_where k old is))) settled

-- ---- one write

-- what stood keeps its verdicts
abbrev pub IsHeirOf : Option Object → Object → Type 0
IsHeirOf None new = Unit {0}
IsHeirOf (Some old) new = KeepsVerdicts old new

abbrev pub IsSteady : Option Object → Option Object → Type 0
IsSteady old None = Unit {0}
IsSteady old (Some new) = HasOneVerdict new × IsHeirOf old new

-- two objects with the same verdicts
abbrev IsAlike : ConditionKind → Object → Object → Type 0
IsAlike k o p = (states k p ≡ states k o) × (verdict_condition k p ≡ verdict_condition k o)

none_stated : (v : ℕ) (now : ℤ) (k : ConditionKind) (o : Object) → states k (created v now o) ≡ false
unfolding created
none_stated v now k (Cert c) = refl
none_stated v now k (Request r) = refl
none_stated v now k (Secret s) = refl

alike-numbered : (v g : ℕ) (k : ConditionKind) (o : Object) → IsAlike k o (numbered v g o)
unfolding numbered
alike-numbered v g k (Cert c) = (refl, refl)
alike-numbered v g k (Request r) = (refl, refl)
alike-numbered v g k (Secret s) = (refl, refl)

alike-updated : (k : ConditionKind) (old new : Object) → IsAlike k old (updated old new)
unfolding updated
alike-updated k (Cert a) (Cert b) = (refl, refl)
alike-updated k (Cert a) (Request b) = (refl, refl)
alike-updated k (Cert a) (Secret b) = (refl, refl)
alike-updated k (Request a) (Cert b) = (refl, refl)
alike-updated k (Request a) (Request b) = (refl, refl)
alike-updated k (Request a) (Secret b) = (refl, refl)
alike-updated k (Secret a) (Cert b) = (refl, refl)
alike-updated k (Secret a) (Request b) = (refl, refl)
alike-updated k (Secret a) (Secret b) = (refl, refl)

alike_over : (k : ConditionKind) (o p q : Object) → IsAlike k o p → IsAlike k p q → IsAlike k o q
alike_over k o p q a b = (b.0 ∙ a.0, b.1 ∙ a.1)

alike-revised : (v : ℕ) (k : ConditionKind) (old object : Object) → IsAlike k old (revised v old object)
alike-revised v k old object =
    alike_over k old (updated old object) (revised v old object) (alike-updated k old object) (alike-numbered v (generation_after old (updated old object)) k (updated old object))

alike-restated : (v : ℕ) (k : ConditionKind) (old object : Object) → IsAlike k (with_status old object) (restated v old object)
alike-restated v k old object = alike-numbered v (meta_of old).generation k (with_status old object)

-- both words say the same of objects that are alike
one_as : (o p : Object) → ((k : ConditionKind) → IsAlike k o p) → HasOneVerdict o → HasOneVerdict p
one_as o p same one a d = one (sym (same Approved).0 ∙ a) (sym (same Denied).0 ∙ d)

keeps_one : (k : ConditionKind) (old o p : Object) → IsAlike k o p → KeepsVerdict k old o → KeepsVerdict k old p
keeps_one k old o p same kept is = let stays = kept is in (same.0 ∙ stays.0, same.1 ∙ stays.1)

keeps_as : (old o p : Object) → ((k : ConditionKind) → IsAlike k o p) → KeepsVerdicts old o → KeepsVerdicts old p
keeps_as old o p same kept = record { approved = λ a. keeps_one Approved old o p (same Approved) kept.approved a; denied = λ d. keeps_one Denied old o p (same Denied) kept.denied d }

pub keeps_self : (o : Object) → KeepsVerdicts o o
keeps_self o = record { approved = λ a. (a, refl); denied = λ d. (d, refl) }

both_false : (a b : Bool) → a ≡ true → b ≡ true → (a && b) ≡ false → ⊥
both_false true true x y z = absurd (cc z)
both_false true false x y z = absurd (cc y)
both_false false b x y z = absurd (cc x)

-- a status that no rule refuses has one verdict and keeps those that stood
record PassesWell (old new : List Condition) : Type 0 where
  one : is_stated Approved new ≡ true → is_stated Denied new ≡ true → ⊥
  approved : is_stated Approved old ≡ true → (is_stated Approved new ≡ true) × (condition_at new Approved ≡ condition_at old Approved)
  denied : is_stated Denied old ≡ true → (is_stated Denied new ≡ true) × (condition_at new Denied ≡ condition_at old Denied)

stays : (k : ConditionKind) (old new : List Condition) → is_unsettled k new ≡ false → loses k old new ≡ false → is_stated k old ≡ true → (is_stated k new ≡ true) × (condition_at new k ≡ condition_at old k)
stays k old new settled kept is =
    (stays_stated k old new settled kept is, kept_same (condition_at old k) (condition_at new k) kept (stands_found k old (stands_where k old is)))

verdicts_pass : (old new : List Condition) → AllPass (verdict_rules old new) → PassesWell old new
verdicts_pass old new pass =
    let settled = or_parts (is_unsettled Approved new) (is_unsettled Denied new) pass.0 in
    let kept = or_parts (loses Approved old new) (loses Denied old new) pass.1.1.0 in record {
      one = λ a d. both_false (has_condition Approved new) (has_condition Denied new) (stands_where Approved new a) (stands_where Denied new d) pass.1.0;
      approved = λ is. stays Approved old new settled.0 kept.0 is;
      denied = λ is. stays Denied old new settled.1 kept.1 is;
    }

passed_status : (old object : Object) → refusing_rule (Some old) object true false ≡ None → HasOneVerdict old → HasOneVerdict (with_status old object) × KeepsVerdicts old (with_status old object)
unfolding with_status refusing_rule
passed_status (Cert a) (Cert b) passed one = (one, record { approved = λ x. (x, refl); denied = λ x. (x, refl) })
passed_status (Cert a) (Request b) passed one = (one, keeps_self (Cert a))
passed_status (Cert a) (Secret b) passed one = (one, keeps_self (Cert a))
passed_status (Request a) (Cert b) passed one = (one, keeps_self (Request a))
passed_status (Request a) (Request b) passed one =
    let v = verdicts_pass a.status.conditions b.status.conditions (all_pass (verdict_rules a.status.conditions b.status.conditions) passed) in
    (λ x y. v.one x y, record { approved = λ x. v.approved x; denied = λ x. v.denied x })
passed_status (Request a) (Secret b) passed one = (one, keeps_self (Request a))
passed_status (Secret a) (Cert b) passed one = (one, keeps_self (Secret a))
passed_status (Secret a) (Request b) passed one = (one, keeps_self (Secret a))
passed_status (Secret a) (Secret b) passed one = (one, keeps_self (Secret a))

-- what is known of the object that stood
abbrev pub IsOne : Option Object → Type 0
IsOne None = Unit {0}
IsOne (Some o) = HasOneVerdict o

pub steady_call : (n : ℕ) (now : ℤ) (m : Objects) (call : Call) → IsFounded m call → IsOne (object_at m (key_of_call call))
    → IsSteady (object_at m (key_of_call call)) (stored n now m call)
unfolding IsFounded
steady_call n now m (Create object generate) is one =
    rw is.0 ((λ a d. let none = none_stated n now Approved object in absurd (cc (a, none))), tt)
steady_call n now m (Update object named) is one =
    let old = is.0 in
    let there = subst IsOne is.1 one in
    rw is.1 (one_as old (revised n old object) (λ k. alike-revised n k old object) there, keeps_as old old (revised n old object) (λ k. alike-revised n k old object) (keeps_self old))
steady_call n now m (UpdateStatus object named) is one =
    let old = is.0 in
    let passed = passed_status old object is.2.passed (subst IsOne is.1 one) in
    rw is.1 (
      one_as (with_status old object) (restated n old object) (λ k. alike-restated n k old object) passed.0,
      keeps_as old (with_status old object) (restated n old object) (λ k. alike-restated n k old object) passed.1,
    )
steady_call n now m (Delete key named) is one = tt
steady_call n now m (Get key) is one = absurd is

-- ---- histories

one_in : (s : Setting) (h : List Entry) (call : Call) → EachWrite IsSteady (writes s h) → (o : Option Object) → object_at (objects s h) (key_of_call call) ≡ o → IsOne o
one_in s h call steady None is = tt
one_in s h call steady (Some o) is =
    standing_is IsSteady HasOneVerdict (writes s h) (key_of_call call) o (λ old new r. r.0) steady (ap (λ (m : Objects). object_at m (key_of_call call)) (writes_leave s h) ∙ is)

-- each accepted write keeps the verdicts of what stood
steady : (s : Setting) (h : List Entry) → IsAnswered s h → EachWrite IsSteady (writes s h)
steady s h right =
    each_write IsSteady s h
    (λ k call reply served each ok. steady_call (accepted s k + 1) (moment s k) (objects s k) (settled call reply) (accepted_found s.faults (state s k) call reply served ok)
    (one_in s k (settled call reply) each (object_at (objects s k) (key_of_call (settled call reply))) refl)) right

lawful_writes : (s : Setting) (h : List Entry) → IsAnswered s h → IsLawful (writes s h)
lawful_writes s [] right = tt
lawful_writes s (Called who call reply ∷ h) right =
    lawful_called s.faults (moment s h) (state s h) call reply (writes s h) (is_accepted reply) refl (writes_count s h) (writes_leave s h) right.0 (lawful_writes s h right.1)
lawful_writes s (other ∷ h) right = lawful_writes s h right

keeps_over : (k : ConditionKind) (o p q : Object) → KeepsVerdict k o p → KeepsVerdict k p q → KeepsVerdict k o q
keeps_over k o p q a b is = let first = a is in let second = b first.0 in (second.0, second.1 ∙ first.1)

verdicts_kept : IsKeptBy IsSteady KeepsVerdicts
verdicts_kept = record {
  same = λ o. keeps_self o;
  over = λ o p q a b. record { approved = λ x. keeps_over Approved o p q a.approved b.approved x; denied = λ x. keeps_over Denied o p q a.denied b.denied x };
  next = λ old new r. r.1;
}

pub verdicts_final : (s : Setting) (h : List Entry) → IsAnswered s h → AreFinal s h
verdicts_final s h right = record {
  one = λ key o has. version_is IsSteady HasOneVerdict (writes s h) key o (λ old new r. r.0) (steady s h right) has;
  kept = λ j k older newer a b same first. versions_linked IsSteady KeepsVerdicts verdicts_kept (writes s h) (lawful_writes s h right) (steady s h right) j k older newer a b same first;
}
