-- What a role remembers of its last pass on a key is what stands in the history of that pass.
use Rattle.std.proofs.Common.{◌≡◌, ◌==◌, ◌⊎◌, ◌++◌, ℕ, ℤ, ◌+◌, ◌<◌, ◌≤◌, List, [], ◌∷◌, length, Option, Some, None, Bool, true, false, refl, sym, ap, subst, ◌∙◌, inl, inr, arith}
use Rattle.std.proofs.lemmas.Bool.Decides.{nat_tests}
use Rattle.std.proofs.lemmas.Bool.{and_from}
use Rattle.std.specs.Prelude.{◌&&◌, if◌then◌else◌, option_map, IfSome}
use Rattle.cmc_meta.specs.declared.key.Key.{Key}
use Rattle.cmc_meta.specs.declared.key.Kind.{Kind}
use Rattle.cmc_meta.specs.Keys.{key_eq}
use Rattle.cmc_objects.specs.declared.certificate.Certificate.{Certificate}
use Rattle.cmc_objects.specs.declared.role.Role.{Role}
use Rattle.cmc_objects.specs.declared.call.Call.{Call}
use Rattle.cmc_objects.specs.declared.call.Reply.{Reply}
use Rattle.cmc_objects.specs.declared.call.Reply.TheVariants.{Ok, Unchanged, Found, Conflict, NotFound, AlreadyExists, Invalid, Unavailable}
use Rattle.cmc_objects.specs.declared.entry.Cause.{Cause}
use Rattle.cmc_objects.specs.declared.entry.Cause.TheVariants as causes
use Rattle.cmc_objects.specs.declared.entry.Positions.{Positions}
use Rattle.cmc_objects.specs.declared.entry.Who.TheVariants.{User, Pass}
use Rattle.cmc_objects.specs.declared.entry.Entry.{Entry}
use Rattle.cmc_objects.specs.declared.entry.Entry.TheVariants.{Script, Call as Called, Deliver, List as Listed, Begin, Ask, Made, Signed, Answered, Judged, End, Stop, Start, Tick}
use Rattle.cmc_objects.specs.Objects.{version_of}
use Rattle.cmc_pass.specs.declared.value.Value.{Value}
use Rattle.cmc_pass.specs.declared.value.Value.TheVariants as values
use Rattle.cmc_pass.specs.declared.pass.Act.{Act}
use Rattle.cmc_pass.specs.declared.pass.Views.{Views}
use Rattle.cmc_model.specs.Replies.{is_accepted, key_of_call}
use Rattle.cmc_model.specs.Histories.{Setting, accepted, role_eq}
use Rattle.cmc_model.specs.Writes.{writes, last_under}
use Rattle.cmc_rules.specs.declared.progress.Obstacle.{Obstacle}
use Rattle.cmc_rules.specs.declared.progress.Obstacle.TheVariants.{Failure, Newer}
use Rattle.cmc_rules.specs.declared.progress.Stage.{Stage}
use Rattle.cmc_rules.specs.declared.progress.Stage.TheVariants.{Fresh, Asked, Given, Read, Saved, Wrote, Refused, Barred}
use Rattle.cmc_rules.specs.declared.progress.OpenPass.{OpenPass}
use Rattle.cmc_rules.specs.declared.progress.Ending.{Ending}
use Rattle.cmc_rules.specs.declared.progress.Ending.TheVariants as endings
use Rattle.cmc_rules.specs.declared.progress.LastPass.{LastPass}
use Rattle.cmc_rules.specs.declared.progress.Past.{Past}
use Rattle.cmc_rules.specs.Views.{views}
use Rattle.cmc_rules.specs.Origins.{begun}
use Rattle.cmc_rules.specs.Issuance.{issuing}
use Rattle.cmc_rules.specs.Passes.{open_pass, gone_on, is_as_seen, is_temporary_act, stage_read, stage_written, stage_by, stage_after, stage_given, new_pass, with_stage, unless_of, is_pass_of}
use Rattle.cmc_rules.specs.Memory.{past, with_own, with_begin, with_ending, ending_at, ending_of, no_past}
use Rattle.cmc_rules.specs.Sameness.{IsStillBehind, EndsAlike, IsSame}
use Rattle.cmc_rules.specs.Legality.{IsLegal}
use Rattle.cmc_rules.specs.Causes.{act_of, IsCaused, EndsBy, MayEnd}
use Rattle.cmc_rules.specs.Safety.{HasEntry}
use Rattle.cmc_rules.proofs.Carrying.{over_begin, over_end, over_stop, over_call, over_ask, over_given}
use Rattle.cmc_safety.specs.Begins.{is_start_of, is_begin_on, IsLastPass, stopping_version, IsStoppedBy, EndedSo, WouldRepeat, IsDueExactly}
use Rattle.cmc_safety.proofs.Alone.{WorksOn, role_is_one, role_is_own, key_is_one, key_is_own, worked_at_entry, worked_at_call, worked_unended, worked_unstopped}
use Rattle.cmc_safety.proofs.Course.{of_open, over_own_entry, same_number}
use Rattle.cmc_safety.proofs.Completing.{own_number, legal_below}
use Rattle.cmc_safety.proofs.OwnWrites.{told_of_own, own_is_told}

-- ---- what refused an open pass stands in its history

abbrev obstacle_by : Kind → Option ℕ → Obstacle
obstacle_by kind None = Failure
obstacle_by kind (Some version) = Newer kind version

-- the entry of this number is a call of the pass, with what its reply names
abbrev IsRefusedAt : Setting → List Entry → ℕ → ℕ → Obstacle → Type 0
IsRefusedAt s [] n number obstacle = ⊥
IsRefusedAt s (e ∷ h) n number obstacle =
    ((number ≡ length h + 1) × ((call : Call) × (reply : Reply) × (e ≡ Called (Pass n) call reply) × (obstacle ≡ obstacle_by (key_of_call call).kind (stopping_version s h call reply))))
    ⊎ IsRefusedAt s h n number obstacle

abbrev HasRefusal : Setting → List Entry → ℕ → Stage → Type 0
HasRefusal s h n (Refused number obstacle) = IsRefusedAt s h n number obstacle
HasRefusal s h n other = Unit {0}

abbrev HasIts : Setting → List Entry → ℕ → OpenPass → Type 0
HasIts s h n p = HasRefusal s h n p.stage

refusal_more : (s : Setting) (e : Entry) (h : List Entry) (n : ℕ) (stage : Stage) → HasRefusal s h n stage → HasRefusal s (e ∷ h) n stage
refusal_more s e h n (Refused number obstacle) has = inr has
refusal_more s e h n other has = tt

its_more : (s : Setting) (e : Entry) (h : List Entry) (n : ℕ) (x : Option OpenPass) → IfSome x (HasIts s h n) → IfSome x (HasIts s (e ∷ h) n)
its_more s e h n None has = tt
its_more s e h n (Some p) has = refusal_more s e h n p.stage has

written_refusal : (s : Setting) (h : List Entry) (n : ℕ) (stand_in : Bool) (stage : Stage) → HasRefusal s h n (stage_written stand_in stage)
written_refusal s h n true Read = tt
written_refusal s h n false Read = tt
written_refusal s h n stand_in other = tt

call_refusal : (s : Setting) (h : List Entry) (n : ℕ) (c : Option Certificate) (stand_in : Bool) (stage : Stage) (call : Call) (reply : Reply)
    → HasRefusal s (Called (Pass n) call reply ∷ h) n (stage_by c stand_in stage (length h + 1) (key_of_call call).kind (last_under (key_of_call call) (writes s h)) reply)
call_refusal s h n c stand_in stage call (Ok version name) = written_refusal s (Called (Pass n) call (Ok version name) ∷ h) n stand_in stage
call_refusal s h n c stand_in stage call (Unchanged version) = written_refusal s (Called (Pass n) call (Unchanged version) ∷ h) n stand_in stage
call_refusal s h n c stand_in stage call (Found o) = by (is_as_seen c o) where
  by : (b : Bool) → HasRefusal s (Called (Pass n) call (Found o) ∷ h) n (stage_read b (length h + 1) (key_of_call call).kind (version_of o))
  by true = tt
  by false = inl (refl, (call, Found o, refl, refl))
call_refusal s h n c stand_in stage call (Conflict named have) = inl (refl, (call, Conflict named have, refl, refl))
call_refusal s h n c stand_in stage call (NotFound at) = inl (refl, (call, NotFound at, refl, refl))
call_refusal s h n c stand_in stage call (AlreadyExists have) = inl (refl, (call, AlreadyExists have, refl, refl))
call_refusal s h n c stand_in stage call (Invalid rule) = tt
call_refusal s h n c stand_in stage call (Unavailable number) = inl (refl, (call, Unavailable number, refl, refl))

given_refusal : (s : Setting) (h : List Entry) (n : ℕ) (value : Value) (stage : Stage) → HasRefusal s h n stage → HasRefusal s h n (stage_given value stage)
given_refusal s h n value (Asked order) has = tt
given_refusal s h n value (Refused number obstacle) has = has
given_refusal s h n value other has = tt

has_refusal : (s : Setting) (h : List Entry) (n : ℕ) → IfSome (open_pass s h n) (HasIts s h n)
has_refusal s [] n = tt
has_refusal s (Called User call reply ∷ h) n = its_more s (Called User call reply) h n (open_pass s h n) (has_refusal s h n)
has_refusal s (Called (Pass m) call reply ∷ h) n =
    over_own_entry (HasIts s h n) (HasIts s (Called (Pass m) call reply ∷ h) n) n m (stage_after s h call reply) (open_pass s h n)
    (λ here q has. subst (λ (i : ℕ). HasRefusal s (Called (Pass i) call reply ∷ h) n (stage_after s h call reply q)) (same_number n m here) (call_refusal s h n q.seen.certificate (is_temporary_act (issuing q.seen q.since)) q.stage call reply))
    (λ there q has. refusal_more s (Called (Pass m) call reply) h n q.stage has) (has_refusal s h n)
has_refusal s (Begin pass role key at now ∷ h) n =
    over_begin (HasIts s (Begin pass role key at now ∷ h) n) (n == pass) (new_pass role key (views s h role key) now) (open_pass s h n) tt (its_more s (Begin pass role key at now) h n (open_pass s h n) (has_refusal s h n))
has_refusal s (Ask pass order ∷ h) n = over_ask (HasIts s (Ask pass order ∷ h) n) n pass order (open_pass s h n) (λ q has. tt) (its_more s (Ask pass order) h n (open_pass s h n) (has_refusal s h n))
has_refusal s (Made pass key ∷ h) n =
    over_given (HasIts s (Made pass key ∷ h) n) n pass (values.Made key) (open_pass s h n) (λ q has. given_refusal s (Made pass key ∷ h) n (values.Made key) q.stage has) (its_more s (Made pass key) h n (open_pass s h n) (has_refusal s h n))
has_refusal s (Signed pass v ∷ h) n =
    over_given (HasIts s (Signed pass v ∷ h) n) n pass (values.Signed v) (open_pass s h n) (λ q has. given_refusal s (Signed pass v ∷ h) n (values.Signed v) q.stage has) (its_more s (Signed pass v) h n (open_pass s h n) (has_refusal s h n))
has_refusal s (Answered pass v ∷ h) n =
    over_given (HasIts s (Answered pass v ∷ h) n) n pass (values.Answered v) (open_pass s h n) (λ q has. given_refusal s (Answered pass v ∷ h) n (values.Answered v) q.stage has) (its_more s (Answered pass v) h n (open_pass s h n) (has_refusal s h n))
has_refusal s (Judged pass v ∷ h) n =
    over_given (HasIts s (Judged pass v ∷ h) n) n pass (values.Judged v) (open_pass s h n) (λ q has. given_refusal s (Judged pass v ∷ h) n (values.Judged v) q.stage has) (its_more s (Judged pass v) h n (open_pass s h n) (has_refusal s h n))
has_refusal s (End pass cause ∷ h) n = over_end (HasIts s (End pass cause ∷ h) n) (n == pass) (open_pass s h n) (its_more s (End pass cause) h n (open_pass s h n) (has_refusal s h n))
has_refusal s (Stop role ∷ h) n = over_stop (HasIts s (Stop role ∷ h) n) role (open_pass s h n) (its_more s (Stop role) h n (open_pass s h n) (has_refusal s h n))
has_refusal s (other ∷ h) n = its_more s other h n (open_pass s h n) (has_refusal s h n)

-- ---- how the last pass ended, by its End

-- the ending that is remembered is that of the cause
abbrev EndsAs : Setting → List Entry → ℕ → Cause → Ending → Type 0
EndsAs s h n causes.Nothing ending = ending ≡ endings.Nothing
EndsAs s h n causes.Wrote ending = ending ≡ endings.Wrote
EndsAs s h n (causes.Stopper number) ending = (obstacle : Obstacle) × (ending ≡ endings.Refused obstacle) × IsRefusedAt s h n number obstacle

as_more : (s : Setting) (e : Entry) (h : List Entry) (n : ℕ) (cause : Cause) (ending : Ending) → EndsAs s h n cause ending → EndsAs s (e ∷ h) n cause ending
as_more s e h n causes.Nothing ending says = says
as_more s e h n causes.Wrote ending says = says
as_more s e h n (causes.Stopper number) ending (obstacle, is, at) = (obstacle, is, inr at)

ends_as : (s : Setting) (h : List Entry) (n : ℕ) (stage : Stage) (does : Act) (cause : Cause) → HasRefusal s h n stage → EndsBy stage does cause → EndsAs s h n cause (ending_at stage)
ends_as s h n Fresh does cause has ends = subst (λ (c : Cause). EndsAs s h n c endings.Nothing) (sym ends.1) refl
ends_as s h n (Asked order) does cause has ends = absurd ends
ends_as s h n (Given order value) does cause has ends = absurd ends
ends_as s h n Read does cause has ends = absurd ends
ends_as s h n Saved does cause has ends = absurd ends
ends_as s h n Wrote does cause has ends = subst (λ (c : Cause). EndsAs s h n c endings.Wrote) (sym ends) refl
ends_as s h n (Refused number obstacle) does cause has ends = subst (λ (c : Cause). EndsAs s h n c (endings.Refused obstacle)) (sym ends) (obstacle, refl, has)
ends_as s h n Barred does cause has ends = absurd ends

abbrev HasEnd : ℕ → Cause → List Entry → Type 0
HasEnd n cause above = HasEntry (λ e. e ≡ End n cause) above

abbrev HasNoEnd : ℕ → List Entry → Type 0
HasNoEnd n above = (cause : Cause) → HasEnd n cause above → ⊥

-- the pass has no End, and is remembered as open; or it is closed, and remembered as its one End says
abbrev IsRemembered : Setting → List Entry → ℕ → List Entry → Ending → Type 0
IsRemembered s h n above ending =
    ((ending ≡ endings.Open) × HasNoEnd n above)
    ⊎ ((open_pass s h n ≡ None) × ((cause : Cause) × HasEnd n cause above × ((c : Cause) → HasEnd n c above → c ≡ cause) × EndsAs s h n cause ending))

record Remembers (s : Setting) (h : List Entry) (role : Role) (key : Key) (n : ℕ) (above : List Entry) (seen : Views) (since : ℤ) : Type 0 where
  ending : Ending
  last : (past s h role key).last ≡ Some (record { seen = seen; since = since; ending = ending })
  so : IsRemembered s h n above ending
  only : (m : ℕ) → WorksOn role key (open_pass s h m) → m ≡ n
  its : IfSome (open_pass s h n) (λ p. is_pass_of role key (Some p) ≡ true)
  numbered : n ≤ begun s h

-- ---- an entry more, neither a start of the role nor a Begin there

-- an entry that is no End leaves the Ends as they are
abbrev IsNoEnd : Entry → Type 0
IsNoEnd (End pass cause) = ⊥
IsNoEnd other = Unit {0}

no_end_is : (e : Entry) (n : ℕ) (cause : Cause) → IsNoEnd e → e ≡ End n cause → ⊥
no_end_is e n cause off is = subst IsNoEnd is off

none_more : (e : Entry) (n : ℕ) (above : List Entry) → ((cause : Cause) → e ≡ End n cause → ⊥) → HasNoEnd n above → HasNoEnd n (e ∷ above)
none_more e n above off none cause (inl here) = off cause here
none_more e n above off none cause (inr there) = none cause there

so_more : (s : Setting) (e : Entry) (h : List Entry) (n : ℕ) (above : List Entry) (ending : Ending) → ((cause : Cause) → e ≡ End n cause → ⊥) → (open_pass s h n ≡ None → open_pass s (e ∷ h) n ≡ None) → IsRemembered s h n above ending
    → IsRemembered s (e ∷ h) n (e ∷ above) ending
so_more s e h n above ending off closed (inl (is, none)) = inl (is, none_more e n above off none)
so_more s e h n above ending off closed (inr (shut, (cause, has, one, says))) = inr (closed shut, (cause, inr has, only, as_more s e h n cause ending says)) where
  only : (c : Cause) → HasEnd n c (e ∷ above) → c ≡ cause
  only c (inl here) = absurd (off c here)
  only c (inr there) = one c there

-- what stays as it was
more : (s : Setting) (e : Entry) (h : List Entry) (role : Role) (key : Key) (n : ℕ) (above : List Entry) (seen : Views) (since : ℤ) → IsNoEnd e → (past s (e ∷ h) role key).last ≡ (past s h role key).last
    → (open_pass s h n ≡ None → open_pass s (e ∷ h) n ≡ None) → ((m : ℕ) → WorksOn role key (open_pass s (e ∷ h) m) → WorksOn role key (open_pass s h m))
    → IfSome (open_pass s (e ∷ h) n) (λ p. is_pass_of role key (Some p) ≡ true) → n ≤ begun s (e ∷ h) → Remembers s h role key n above seen since → Remembers s (e ∷ h) role key n (e ∷ above) seen since
more s e h role key n above seen since off same closed worked its numbered r = record {
  ending = r.ending;
  last = same ∙ r.last;
  so = so_more s e h n above r.ending (λ cause. no_end_is e n cause off) closed r.so;
  only = λ m works. r.only m (worked m works);
  its = its;
  numbered = numbered;
}

-- ---- each entry

none_stays : (own : Bool) (stage : OpenPass → Stage) (x : Option OpenPass) → x ≡ None → (if own then option_map (λ (q : OpenPass). with_stage (stage q) q) x else x) ≡ None
none_stays true stage x none = ap (option_map (λ (q : OpenPass). with_stage (stage q) q)) none
none_stays false stage x none = none

own_last : (b : Bool) (kind : Kind) (version : ℕ) (p : Past) → (if b then with_own kind version p else p).last ≡ p.last
own_last true kind version p = refl
own_last false kind version p = refl

by_call : (s : Setting) (h : List Entry) (role : Role) (key : Key) (n m : ℕ) (call : Call) (reply : Reply) (above : List Entry) (seen : Views) (since : ℤ) → Remembers s h role key n above seen since
    → Remembers s (Called (Pass m) call reply ∷ h) role key n (Called (Pass m) call reply ∷ above) seen since
by_call s h role key n m call reply above seen since r =
    more s (Called (Pass m) call reply) h role key n above seen since tt
    (own_last (is_accepted reply && is_pass_of role key (open_pass s h m)) (key_of_call call).kind (accepted s h + 1) (past s h role key))
    (none_stays (n == m) (stage_after s h call reply) (open_pass s h n))
    (λ i works. worked_at_call role key i (Pass m) (stage_after s h call reply) (open_pass s h i) works)
    (over_call (λ p. is_pass_of role key (Some p) ≡ true) n (Pass m) (stage_after s h call reply) (open_pass s h n) (λ q its. its) r.its) r.numbered r

by_step : (s : Setting) (e : Entry) (h : List Entry) (role : Role) (key : Key) (n m : ℕ) (stage : OpenPass → Stage) (above : List Entry) (seen : Views) (since : ℤ) → IsNoEnd e → (past s (e ∷ h) role key).last ≡ (past s h role key).last
    → ((i : ℕ) → open_pass s (e ∷ h) i ≡ gone_on i m stage (open_pass s h i)) → begun s (e ∷ h) ≡ begun s h → Remembers s h role key n above seen since → Remembers s (e ∷ h) role key n (e ∷ above) seen since
by_step s e h role key n m stage above seen since off same goes count r =
    more s e h role key n above seen since off same
    (λ none. goes n ∙ none_stays (n == m) stage (open_pass s h n) none)
    (λ i works. worked_at_entry role key i m stage (open_pass s h i) (subst (WorksOn role key) (goes i) works))
    (subst (λ (x : Option OpenPass). IfSome x (λ p. is_pass_of role key (Some p) ≡ true)) (sym (goes n))
    (over_call (λ p. is_pass_of role key (Some p) ≡ true) n (Pass m) stage (open_pass s h n) (λ q its. its) r.its))
    (let low = r.numbered in omega (arith, low, count)) r

-- a Begin elsewhere
begun_last : (b : Bool) (seen : Views) (since : ℤ) (p : Past) → b ≡ false → (if b then with_begin seen since p else p).last ≡ p.last
begun_last true seen since p off = absurd (cc off)
begun_last false seen since p off = refl

by_begin : (s : Setting) (h : List Entry) (role : Role) (key : Key) (n pass : ℕ) (r : Role) (k : Key) (at : Positions) (now : ℤ) (above : List Entry) (seen : Views) (since : ℤ) → pass ≡ begun s h + 1 → (role_eq r role && key_eq k key) ≡ false
    → Remembers s h role key n above seen since → Remembers s (Begin pass r k at now ∷ h) role key n (Begin pass r k at now ∷ above) seen since
by_begin s h role key n pass r k at now above seen since numbered elsewhere m = by (n == pass) refl where
  low : n ≤ begun s h
  low = m.numbered

  new : OpenPass
  new = new_pass r k (views s h r k) now

  worked : (i : ℕ) (b : Bool) → WorksOn role key (if b then Some new else open_pass s h i) → WorksOn role key (open_pass s h i)
  worked i true works = absurd (cc (elsewhere, works))
  worked i false works = works

  by : (b : Bool) → (n == pass) ≡ b → Remembers s (Begin pass r k at now ∷ h) role key n (Begin pass r k at now ∷ above) seen since
  by true same = absurd (let one : n ≡ pass = same_number n pass same in omega (arith, low, numbered, one))
  by false there =
      let kept : (if n == pass then Some new else open_pass s h n) ≡ open_pass s h n = ap (λ (b : Bool). if b then Some new else open_pass s h n) there in
      more s (Begin pass r k at now) h role key n above seen since tt (begun_last (role_eq r role && key_eq k key) (views s h r k) now (past s h role key) elsewhere) (λ none. kept ∙ none)
      (λ i works. worked i (i == pass) works) (subst (λ (x : Option OpenPass). IfSome x (λ p. is_pass_of role key (Some p) ≡ true)) (sym kept) m.its) (omega (arith, low)) m

-- an End, of the pass or of another
ended_last : (b : Bool) (ending : Ending) (p : Past) → b ≡ false → (if b then with_ending ending p else p).last ≡ p.last
ended_last true ending p off = absurd (cc off)
ended_last false ending p off = refl

ended_now : (b : Bool) (seen : Views) (since : ℤ) (old ending : Ending) (p : Past) → b ≡ true → p.last ≡ Some (record { seen = seen; since = since; ending = old })
    → (if b then with_ending ending p else p).last ≡ Some (record { seen = seen; since = since; ending = ending })
ended_now true seen since old ending p on last = ap (option_map (λ (l : LastPass). record l { ending = ending })) last
ended_now false seen since old ending p on last = absurd (cc on)

by_end : (s : Setting) (h : List Entry) (role : Role) (key : Key) (n m : ℕ) (cause : Cause) (above : List Entry) (seen : Views) (since : ℤ) → MayEnd s h (open_pass s h m) cause → Remembers s h role key n above seen since
    → Remembers s (End m cause ∷ h) role key n (End m cause ∷ above) seen since
by_end s h role key n m cause above seen since may r = by (n == m) refl where
  low : n ≤ begun s h
  low = r.numbered

  worked : (i : ℕ) → WorksOn role key (open_pass s (End m cause ∷ h) i) → WorksOn role key (open_pass s h i)
  worked i works = worked_unended role key (i == m) (open_pass s h i) works

  its : IfSome (open_pass s (End m cause ∷ h) n) (λ p. is_pass_of role key (Some p) ≡ true)
  its = over_end (λ p. is_pass_of role key (Some p) ≡ true) (n == m) (open_pass s h n) r.its

  other_end : (n == m) ≡ false → (c : Cause) → End m cause ≡ End n c → ⊥
  other_end there c is = let one : m ≡ n = cc is in absurd (grind (arith, nat_tests))

  elsewhere : (n == m) ≡ false → (b : Bool) → is_pass_of role key (open_pass s h m) ≡ b → b ≡ false
  elsewhere there true works = absurd (let one : m ≡ n = r.only m works in grind (arith, nat_tests))
  elsewhere there false off = refl

  there_is : (x : Option OpenPass) → MayEnd s h x cause → (p : OpenPass) × (x ≡ Some p)
  there_is None off = absurd off
  there_is (Some p) on = (p, refl)

  first : (IsRemembered s h n above r.ending) → open_pass s h n ≡ None ⊎ HasNoEnd n above
  first (inl (is, none)) = inr none
  first (inr (shut, rest)) = inl shut

  by : (b : Bool) → (n == m) ≡ b → Remembers s (End m cause ∷ h) role key n (End m cause ∷ above) seen since
  by false there = record {
    ending = r.ending;
    last = ended_last (is_pass_of role key (open_pass s h m)) (ending_of (open_pass s h m)) (past s h role key) (elsewhere there (is_pass_of role key (open_pass s h m)) refl) ∙ r.last;
    so = so_more s (End m cause) h n above r.ending (other_end there) (λ none. ap (λ (b : Bool). if b then None else open_pass s h n) there ∙ none) r.so;
    only = λ i works. r.only i (worked i works);
    its = its;
    numbered = low;
  }
  by true here =
      let found = there_is (open_pass s h m) may in
      let p = found.0 in
      let one : n ≡ m = same_number n m here in
      let opened : open_pass s h n ≡ Some p = ap (open_pass s h) one ∙ found.1 in
      let mine : is_pass_of role key (open_pass s h m) ≡ true = ap (is_pass_of role key) found.1 ∙ of_open (λ q. is_pass_of role key (Some q) ≡ true) (open_pass s h n) p opened r.its in
      let ends : EndsBy p.stage (act_of s h p) cause = subst (λ (x : Option OpenPass). MayEnd s h x cause) found.1 may in
      let refusal : HasRefusal s h n p.stage = of_open (HasIts s h n) (open_pass s h n) p opened (has_refusal s h n) in
      let none : HasNoEnd n above = still (first r.so) p opened in
      record {
        ending = ending_at p.stage;
        last = ended_now (is_pass_of role key (open_pass s h m)) seen since r.ending (ending_of (open_pass s h m)) (past s h role key) mine r.last
            ∙ ap (λ (x : Option OpenPass). Some (record { seen = seen; since = since; ending = ending_of x })) found.1;
        so = inr (
          ap (λ (b : Bool). if b then None else open_pass s h n) here,
          (cause, inl (ap (λ (i : ℕ). End i cause) (sym one)), only none, as_more s (End m cause) h n cause (ending_at p.stage) (ends_as s h n p.stage (act_of s h p) cause refusal ends)),
        );
        only = λ i works. r.only i (worked i works);
        its = its;
        numbered = low;
      } where
        still : open_pass s h n ≡ None ⊎ HasNoEnd n above → (p : OpenPass) → open_pass s h n ≡ Some p → HasNoEnd n above
        still (inl shut) p opened = absurd (let e : None ≡ Some p = sym shut ∙ opened in cc e)
        still (inr none) p opened = none

        only : HasNoEnd n above → (c : Cause) → HasEnd n c (End m cause ∷ above) → c ≡ cause
        only none c (inl is) = let e : End m cause ≡ End n c = is in cc e
        only none c (inr there) = absurd (none c there)

by_stop : (s : Setting) (h : List Entry) (role : Role) (key : Key) (n : ℕ) (r : Role) (above : List Entry) (seen : Views) (since : ℤ) → Remembers s h role key n above seen since → Remembers s (Stop r ∷ h) role key n (Stop r ∷ above) seen since
by_stop s h role key n r above seen since m =
    more s (Stop r) h role key n above seen since tt refl (λ none. ap (unless_of r) none) (λ i works. worked_unstopped role key r (open_pass s h i) works)
    (over_stop (λ p. is_pass_of role key (Some p) ≡ true) r (open_pass s h n) m.its) m.numbered m

started_last : (b : Bool) (p : Past) → b ≡ false → (if b then no_past else p).last ≡ p.last
started_last true p off = absurd (cc off)
started_last false p off = refl

-- an entry that no pass makes
quiet : (s : Setting) (e : Entry) (h : List Entry) (role : Role) (key : Key) (n : ℕ) (above : List Entry) (seen : Views) (since : ℤ) → IsNoEnd e → (past s (e ∷ h) role key).last ≡ (past s h role key).last
    → ((i : ℕ) → open_pass s (e ∷ h) i ≡ open_pass s h i) → begun s (e ∷ h) ≡ begun s h → Remembers s h role key n above seen since → Remembers s (e ∷ h) role key n (e ∷ above) seen since
quiet s e h role key n above seen since off same opened count r =
    more s e h role key n above seen since off same (λ none. opened n ∙ none) (λ i works. subst (WorksOn role key) (opened i) works)
    (subst (λ (x : Option OpenPass). IfSome x (λ p. is_pass_of role key (Some p) ≡ true)) (sym (opened n)) r.its) (let low = r.numbered in omega (arith, low, count)) r

-- ---- from its Begin on

begins : (s : Setting) (h : List Entry) (role : Role) (key : Key) (n : ℕ) (at : Positions) (since : ℤ) → IsLegal s (Begin n role key at since ∷ h) → Remembers s (Begin n role key at since ∷ h) role key n [] (views s h role key) since
unfolding IsLegal
begins s h role key n at since legal = record {
  ending = endings.Open;
  last = ap (λ (b : Bool). (if b then with_begin (views s h role key) since (past s h role key) else past s h role key).last) mine;
  so = inl (refl, λ cause has. has);
  only = λ m works. alone m (m == n) refl works;
  its = subst (λ (b : Bool). IfSome (if b then Some new else open_pass s h n) (λ p. is_pass_of role key (Some p) ≡ true)) (sym (own_number n)) mine;
  numbered = let is = legal.0.numbered in omega (arith, is);
} where
  mine : (role_eq role role && key_eq key key) ≡ true
  mine = and_from (role_eq role role) (key_eq key key) (role_is_own role) (key_is_own key)

  new : OpenPass
  new = new_pass role key (views s h role key) since

  alone : (m : ℕ) (b : Bool) → (m == n) ≡ b → WorksOn role key (if b then Some new else open_pass s h m) → m ≡ n
  alone m true same works = same_number m n same
  alone m false there works = absurd (legal.0.free (m, works))

abbrev LeaveIt : Role → Key → List Entry → Type 0
LeaveIt role key above = (e : Entry) → HasEntry (λ x. x ≡ e) above → (is_start_of role e ≡ false) × (is_begin_on role key e ≡ false)

remembers : (s : Setting) (above base : List Entry) (role : Role) (key : Key) (n : ℕ) (seen : Views) (since : ℤ) → IsLegal s (above ++ base) → IsCaused s (above ++ base) → LeaveIt role key above → Remembers s base role key n [] seen since
    → Remembers s (above ++ base) role key n above seen since
unfolding IsLegal IsCaused
remembers s [] base role key n seen since legal caused leave r = r
remembers s (e ∷ above) base role key n seen since legal caused leave r =
    step e legal caused (leave e (inl refl)) (remembers s above base role key n seen since legal.1 caused.1 (λ x there. leave x (inr there)) r) where
      h : List Entry
      h = above ++ base

      step : (e : Entry) → IsLegal s (e ∷ h) → IsCaused s (e ∷ h) → (is_start_of role e ≡ false) × (is_begin_on role key e ≡ false) → Remembers s h role key n above seen since → Remembers s (e ∷ h) role key n (e ∷ above) seen since
      step (Called User call reply) legal caused off m = quiet s (Called User call reply) h role key n above seen since tt refl (λ i. refl) refl m
      step (Called (Pass pass) call reply) legal caused off m = by_call s h role key n pass call reply above seen since m
      step (Begin pass r k at now) legal caused off m = by_begin s h role key n pass r k at now above seen since legal.0.numbered off.1 m
      step (Ask pass order) legal caused off m = by_step s (Ask pass order) h role key n pass (λ (q : OpenPass). Asked order) above seen since tt refl (λ i. refl) refl m
      step (Made pass v) legal caused off m = by_step s (Made pass v) h role key n pass (λ (q : OpenPass). stage_given (values.Made v) q.stage) above seen since tt refl (λ i. refl) refl m
      step (Signed pass v) legal caused off m = by_step s (Signed pass v) h role key n pass (λ (q : OpenPass). stage_given (values.Signed v) q.stage) above seen since tt refl (λ i. refl) refl m
      step (Answered pass v) legal caused off m = by_step s (Answered pass v) h role key n pass (λ (q : OpenPass). stage_given (values.Answered v) q.stage) above seen since tt refl (λ i. refl) refl m
      step (Judged pass v) legal caused off m = by_step s (Judged pass v) h role key n pass (λ (q : OpenPass). stage_given (values.Judged v) q.stage) above seen since tt refl (λ i. refl) refl m
      step (End pass cause) legal caused off m = by_end s h role key n pass cause above seen since caused.0 m
      step (Stop r) legal caused off m = by_stop s h role key n r above seen since m
      step (Start r at) legal caused off m = quiet s (Start r at) h role key n above seen since tt (started_last (role_eq r role) (past s h role key) off.0) (λ i. refl) refl m
      step (Script x) legal caused off m = quiet s (Script x) h role key n above seen since tt refl (λ i. refl) refl m
      step (Deliver r kind to) legal caused off m = quiet s (Deliver r kind to) h role key n above seen since tt refl (λ i. refl) refl m
      step (Listed r kind to) legal caused off m = quiet s (Listed r kind to) h role key n above seen since tt refl (λ i. refl) refl m
      step (Tick now) legal caused off m = quiet s (Tick now) h role key n above seen since tt refl (λ i. refl) refl m

of_last : (s : Setting) (h : List Entry) (role : Role) (key : Key) (l : IsLastPass s h role key) → IsLegal s h → IsCaused s h → Remembers s h role key l.pass l.above (views s l.before role key) l.since
of_last s h role key l legal caused =
    let base : List Entry = Begin l.pass role key l.at l.since ∷ l.before in
    let here : IsLegal s (l.above ++ base) = subst (IsLegal s) l.split legal in
    let cause : IsCaused s (l.above ++ base) = subst (IsCaused s) l.split caused in
    subst (λ (w : List Entry). Remembers s w role key l.pass l.above (views s l.before role key) l.since) (sym l.split)
    (remembers s l.above base role key l.pass (views s l.before role key) l.since here cause l.newest (begins s l.before role key l.pass l.at l.since (legal_below s l.above base here)))

-- ---- what is remembered has its Begin

last_more : (s : Setting) (e : Entry) (h : List Entry) (role : Role) (key : Key) → is_start_of role e ≡ false → is_begin_on role key e ≡ false → IsLastPass s h role key → IsLastPass s (e ∷ h) role key
last_more s e h role key off elsewhere l = record {
  pass = l.pass;
  at = l.at;
  since = l.since;
  above = e ∷ l.above;
  before = l.before;
  split = ap (λ (w : List Entry). e ∷ w) l.split;
  newest = newest;
} where
  newest : (x : Entry) → HasEntry (λ y. y ≡ x) (e ∷ l.above) → (is_start_of role x ≡ false) × (is_begin_on role key x ≡ false)
  newest x (inl is) = subst (λ (y : Entry). (is_start_of role y ≡ false) × (is_begin_on role key y ≡ false)) is (off, elsewhere)
  newest x (inr there) = l.newest x there

some_before : (f : LastPass → LastPass) (x : Option LastPass) (l : LastPass) → option_map f x ≡ Some l → (m : LastPass) × (x ≡ Some m)
some_before f None l is = absurd (cc is)
some_before f (Some m) l is = (m, refl)

has_begin : (s : Setting) (h : List Entry) (role : Role) (key : Key) (l : LastPass) → (past s h role key).last ≡ Some l → IsLastPass s h role key
has_begin s [] role key l is = absurd (cc is)
has_begin s (Called User call reply ∷ h) role key l is = last_more s (Called User call reply) h role key refl refl (has_begin s h role key l is)
has_begin s (Called (Pass pass) call reply ∷ h) role key l is =
    last_more s (Called (Pass pass) call reply) h role key refl refl
    (has_begin s h role key l (sym (own_last (is_accepted reply && is_pass_of role key (open_pass s h pass)) (key_of_call call).kind (accepted s h + 1) (past s h role key)) ∙ is))
has_begin s (Begin pass r k at now ∷ h) role key l is = by (λ m old. has_begin s h role key m old) (role_eq r role) (key_eq k key) refl refl is where
  by : ((m : LastPass) → (past s h role key).last ≡ Some m → IsLastPass s h role key) → (b c : Bool) → role_eq r role ≡ b → key_eq k key ≡ c
      → (if b && c then with_begin (views s h r k) now (past s h role key) else past s h role key).last ≡ Some l → IsLastPass s (Begin pass r k at now ∷ h) role key
  by old true true same_role same_key found = record {
    pass = pass;
    at = at;
    since = now;
    above = [];
    before = h;
    split = ap (λ (x : Role). Begin pass x k at now ∷ h) (role_is_one r role same_role) ∙ ap (λ (x : Key). Begin pass role x at now ∷ h) (key_is_one k key same_key);
    newest = λ e none. absurd none;
  }
  by old true false same_role other found = last_more s (Begin pass r k at now) h role key refl (ap (λ (x : Bool). x && key_eq k key) same_role ∙ other) (old l found)
  by old false c other any found = last_more s (Begin pass r k at now) h role key refl (ap (λ (x : Bool). x && key_eq k key) other) (old l found)
has_begin s (End pass cause ∷ h) role key l is = by (λ m old. has_begin s h role key m old) (is_pass_of role key (open_pass s h pass)) is where
  by : ((m : LastPass) → (past s h role key).last ≡ Some m → IsLastPass s h role key) → (b : Bool) → (if b then with_ending (ending_of (open_pass s h pass)) (past s h role key) else past s h role key).last ≡ Some l
      → IsLastPass s (End pass cause ∷ h) role key
  by old true found = let before = some_before (λ (x : LastPass). record x { ending = ending_of (open_pass s h pass) }) (past s h role key).last l found in last_more s (End pass cause) h role key refl refl (old before.0 before.1)
  by old false found = last_more s (End pass cause) h role key refl refl (old l found)
has_begin s (Start r at ∷ h) role key l is = by (λ m old. has_begin s h role key m old) (role_eq r role) refl is where
  by : ((m : LastPass) → (past s h role key).last ≡ Some m → IsLastPass s h role key) → (b : Bool) → role_eq r role ≡ b → (if b then no_past else past s h role key).last ≡ Some l → IsLastPass s (Start r at ∷ h) role key
  by old true on found = absurd (cc found)
  by old false off found = last_more s (Start r at) h role key off refl (old l found)
has_begin s (other ∷ h) role key l is = last_more s other h role key refl refl (has_begin s h role key l is)

-- ---- the same again

-- an entry is numbered once
low_number : (s : Setting) (h : List Entry) (n number : ℕ) (obstacle : Obstacle) → IsRefusedAt s h n number obstacle → number ≤ length h
low_number s [] n number obstacle at = absurd at
low_number s (e ∷ h) n number obstacle (inl here) = let is = here.0 in omega (arith, is)
low_number s (e ∷ h) n number obstacle (inr there) = let low = low_number s h n number obstacle there in omega (arith, low)

low_stop : (s : Setting) (h : List Entry) (n number : ℕ) (kind : Kind) (version : ℕ) → IsStoppedBy s h n number kind version → number ≤ length h
low_stop s [] n number kind version at = absurd at
low_stop s (e ∷ h) n number kind version (inl here) = let is = here.0 in omega (arith, is)
low_stop s (e ∷ h) n number kind version (inr there) = let low = low_stop s h n number kind version there in omega (arith, low)

one_obstacle : (s : Setting) (h : List Entry) (n number : ℕ) (kind : Kind) (version : ℕ) (obstacle : Obstacle) → IsStoppedBy s h n number kind version → IsRefusedAt s h n number obstacle → obstacle ≡ Newer kind version
one_obstacle s [] n number kind version obstacle stopped refused = absurd stopped
one_obstacle s (e ∷ h) n number kind version obstacle (inl (at, (call, reply, is, kind_is, names))) (inl (same, (c, r, be, obstacle_is))) =
    let one : Called (Pass n) call reply ≡ Called (Pass n) c r = sym is ∙ be in
    let calls : call ≡ c = cc one in
    let replies : reply ≡ r = cc one in
    obstacle_is ∙ ap (λ (x : Call). obstacle_by (key_of_call x).kind (stopping_version s h x r)) (sym calls) ∙ ap (λ (x : Reply). obstacle_by (key_of_call call).kind (stopping_version s h call x)) (sym replies)
    ∙ ap (obstacle_by (key_of_call call).kind) names ∙ ap (λ (k : Kind). Newer k version) kind_is
one_obstacle s (e ∷ h) n number kind version obstacle (inl stopped) (inr refused) = absurd (let low = low_number s h n number obstacle refused in let is = stopped.0 in omega (arith, low, is))
one_obstacle s (e ∷ h) n number kind version obstacle (inr stopped) (inl refused) = absurd (let low = low_stop s h n number kind version stopped in let is = refused.0 in omega (arith, low, is))
one_obstacle s (e ∷ h) n number kind version obstacle (inr stopped) (inr refused) = one_obstacle s h n number kind version obstacle stopped refused

-- what refused, as the version that it names
by_version : (found : Option ℕ) (k kind : Kind) (version : ℕ) → Newer kind version ≡ obstacle_by k found → (k ≡ kind) × (found ≡ Some version)
by_version None k kind version is = absurd (cc is)
by_version (Some v) k kind version is = (let e : kind ≡ k = cc is in sym e, ap Some (let e : version ≡ v = cc is in sym e))

stopped_by : (s : Setting) (h : List Entry) (n number : ℕ) (kind : Kind) (version : ℕ) → IsRefusedAt s h n number (Newer kind version) → IsStoppedBy s h n number kind version
stopped_by s [] n number kind version at = absurd at
stopped_by s (e ∷ h) n number kind version (inl (at, (call, reply, is, names))) =
    let found = by_version (stopping_version s h call reply) (key_of_call call).kind kind version names in inl (at, (call, reply, is, found.0, found.1))
stopped_by s (e ∷ h) n number kind version (inr there) = inr (stopped_by s h n number kind version there)

-- by the obstacle that is remembered
so_by : (s : Setting) (h : List Entry) (n number : ℕ) (obstacle : Obstacle) (above : List Entry) (since now : ℤ) (at : Positions) → HasEnd n (causes.Stopper number) above → IsRefusedAt s h n number obstacle → IsStillBehind obstacle at
    → EndedSo s h n above since now at
so_by s h n number Failure above since now at has refused behind = absurd behind
so_by s h n number (Newer kind version) above since now at has refused behind = inr (number, kind, version, has, stopped_by s h n number kind version refused, behind)

-- what ends alike is remembered so
alike_so : (s : Setting) (h : List Entry) (n : ℕ) (above : List Entry) (cause : Cause) (ending : Ending) (since now : ℤ) (at : Positions) → HasEnd n cause above → EndsAs s h n cause ending → EndsAlike ending since now at → EndedSo s h n above since now at
alike_so s h n above causes.Nothing ending since now at has says alike = inl (has, subst (λ (x : Ending). EndsAlike x since now at) says alike)
alike_so s h n above causes.Wrote ending since now at has says alike = absurd (subst (λ (x : Ending). EndsAlike x since now at) says alike)
alike_so s h n above (causes.Stopper number) ending since now at has (obstacle, is, refused) alike =
    so_by s h n number obstacle above since now at has refused (subst (λ (x : Ending). EndsAlike x since now at) is alike)

so_of : (s : Setting) (h : List Entry) (n : ℕ) (above : List Entry) (ending : Ending) (since now : ℤ) (at : Positions) → IsRemembered s h n above ending → EndsAlike ending since now at → EndedSo s h n above since now at
so_of s h n above ending since now at (inl (is, none)) alike = absurd (subst (λ (x : Ending). EndsAlike x since now at) is alike)
so_of s h n above ending since now at (inr (shut, (cause, has, one, says))) alike = alike_so s h n above cause ending since now at has says alike

-- and back
nothing_as : (s : Setting) (h : List Entry) (n : ℕ) (cause : Cause) (ending : Ending) → causes.Nothing ≡ cause → EndsAs s h n cause ending → ending ≡ endings.Nothing
nothing_as s h n cause ending is says = subst (λ (c : Cause). EndsAs s h n c ending) (sym is) says

stopper_as : (s : Setting) (h : List Entry) (n : ℕ) (cause : Cause) (number : ℕ) (ending : Ending) → causes.Stopper number ≡ cause → EndsAs s h n cause ending → EndsAs s h n (causes.Stopper number) ending
stopper_as s h n cause number ending is says = subst (λ (c : Cause). EndsAs s h n c ending) (sym is) says

alike_of : (s : Setting) (h : List Entry) (n : ℕ) (above : List Entry) (ending : Ending) (since now : ℤ) (at : Positions) → IsRemembered s h n above ending → EndedSo s h n above since now at → EndsAlike ending since now at
alike_of s h n above ending since now at (inl (is, none)) (inl (has, same)) = absurd (none causes.Nothing has)
alike_of s h n above ending since now at (inl (is, none)) (inr (number, kind, version, has, stopped, behind)) = absurd (none (causes.Stopper number) has)
alike_of s h n above ending since now at (inr (shut, (cause, end, one, says))) (inl (has, same)) =
    subst (λ (x : Ending). EndsAlike x since now at) (sym (nothing_as s h n cause ending (one causes.Nothing has) says)) same
alike_of s h n above ending since now at (inr (shut, (cause, end, one, says))) (inr (number, kind, version, has, stopped, behind)) =
    let its = stopper_as s h n cause number ending (one (causes.Stopper number) has) says in
    subst (λ (x : Ending). EndsAlike x since now at) (sym its.1) (subst (λ (o : Obstacle). IsStillBehind o at) (sym (one_obstacle s h n number kind version its.0 stopped its.2)) behind)

same_of : (s : Setting) (h : List Entry) (role : Role) (key : Key) (seen : Views) (now : ℤ) (at : Positions) → IsLegal s h → IsCaused s h → WouldRepeat s h role key seen now at → IsSame (past s h role key).last seen now at
same_of s h role key seen now at legal caused w =
    let r = of_last s h role key w.last legal caused in
    subst (λ (x : Option LastPass). IsSame x seen now at) (sym r.last) (w.saw, alike_of s h w.last.pass w.last.above r.ending w.last.since now at r.so w.ended)

repeats_by : (s : Setting) (h : List Entry) (role : Role) (key : Key) (seen : Views) (now : ℤ) (at : Positions) (x : Option LastPass) → (past s h role key).last ≡ x → IsLegal s h → IsCaused s h → IsSame x seen now at → WouldRepeat s h role key seen now at
repeats_by s h role key seen now at None is legal caused same = absurd same
repeats_by s h role key seen now at (Some l) is legal caused same =
    let last = has_begin s h role key l is in
    let r = of_last s h role key last legal caused in
    let here = subst (λ (x : Option LastPass). IsSame x seen now at) (sym is ∙ r.last) same in
    record { last = last; saw = here.0; ended = so_of s h last.pass last.above r.ending last.since now at r.so here.1 }

pub due_exactly : (s : Setting) (h : List Entry) → IsLegal s h → IsCaused s h → IsDueExactly s h
due_exactly s h legal caused role key seen now at = (
  λ due. (told_of_own s h role key at due.told, λ again. due.other (same_of s h role key seen now at legal caused again)),
  λ free. record { told = own_is_told s h role key at free.0; other = λ same. free.1 (repeats_by s h role key seen now at (past s h role key).last refl legal caused same) },
)
