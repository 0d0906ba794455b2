-- In a plain run of a load a pass that finds something to do writes, and has 5 entries at most; any other has two.
use Rattle.std.proofs.Common.{◌≡◌, ◌==◌, ◌⊎◌, ℕ, ℤ, ◌+◌, ◌*◌, ◌≤◌, List, ◌∷◌, Bool, true, false, Option, Some, None, refl, sym, ap, subst, ◌∙◌, inl, inr, arith}
use Rattle.std.proofs.lemmas.Bool.Decides.{Decides-eqb}
use Rattle.std.specs.Prelude.{option_map, if◌then◌else◌}
use Rattle.cmc_meta.specs.declared.key.Key.{Key}
use Rattle.cmc_objects.specs.declared.entry.Cause.{Cause}
use Rattle.cmc_objects.specs.declared.entry.Positions.{Positions}
use Rattle.cmc_objects.specs.declared.entry.Entry.{Entry}
use Rattle.cmc_objects.specs.declared.entry.Entry.TheVariants.{Begin, Ask, End}
use Rattle.cmc_objects.specs.declared.orders.Order.{Order}
use Rattle.cmc_objects.specs.declared.role.Role.{Role}
use Rattle.cmc_objects.specs.declared.role.Role.TheVariants.{Trigger, KeyManager, RequestManager, Approver, Issuer, Issuing, Readiness, Revision}
use Rattle.cmc_pass.specs.declared.pass.Act.{Act}
use Rattle.cmc_pass.specs.declared.pass.Act.TheVariants.{Ask as Asks}
use Rattle.cmc_pass.specs.declared.pass.Desk.{Desk}
use Rattle.cmc_pass.specs.declared.pass.Views.{Views}
use Rattle.cmc_pass.specs.declared.value.Value.{Value}
use Rattle.cmc_model.specs.Histories.{Setting, moment}
use Rattle.cmc_rules.specs.declared.progress.OpenPass.{OpenPass}
use Rattle.cmc_rules.specs.declared.progress.Stage.{Stage}
use Rattle.cmc_rules.specs.declared.progress.Stage.TheVariants.{Fresh, Asked, Given, Read, Saved, Wrote, Refused, Barred}
use Rattle.cmc_rules.specs.Acts.{act}
use Rattle.cmc_rules.specs.Causes.{AsksBy, EndsBy, IsAsked, IsGivenBy, MayAsk, MayEnd, MayGive, act_of}
use Rattle.cmc_rules.specs.Desks.{desk}
use Rattle.cmc_rules.specs.Legality.{IsOpen}
use Rattle.cmc_rules.specs.Passes.{gone_on, new_pass, open_pass, stage_given, with_stage}
use Rattle.cmc_rules.specs.Views.{views}
use Rattle.cmc_run_laws.specs.Begins.{count_of}
use Rattle.cmc_run_laws.specs.Lengths.{is_begin, is_of_pass}
use Rattle.cmc_run_laws.proofs.SinceBegin.{AskedByAct}
use Rattle.cmc_load_laws.specs.Measure.{acts}
use Rattle.cmc_load_ends.specs.LoadLengths.{is_role_write}
use Rattle.cmc_load_ends.proofs.PlainEntries.{IsClosed}
use Rattle.cmc_load_ends.proofs.BegunWaits.{idle_begins}

-- ---- what passes cost

abbrev pub entries_of_passes : List Entry → ℕ
entries_of_passes h = count_of is_begin h + count_of is_of_pass h

-- two entries for each pass that finds nothing to do, 5 for each write, and 3 for what an open pass has before it writes
abbrev pub paid_for : Setting → List Entry → ℕ
paid_for s h = 2 * idle_begins s h + (5 * count_of is_role_write h + 3)

-- what is left of it for a pass that has come to this stage
abbrev pub left_at : Stage → Bool → ℕ
left_at Fresh does = if does then 2 else 4
left_at (Asked order) does = 1
left_at (Given order value) does = 0
left_at Read does = 1
left_at Saved does = 0
left_at Wrote does = 4
left_at (Refused entry obstacle) does = 0
left_at Barred does = 0

-- no call of the pass was refused
abbrev pub IsGoingOn : Stage → Type 0
IsGoingOn (Refused entry obstacle) = ⊥
IsGoingOn Barred = ⊥
IsGoingOn other = Unit {0}

-- The pass of the number is the only one that is open.
pub record IsOnly (s : Setting) (h : List Entry) (n : ℕ) : Type 0 where
  pub pass : OpenPass
  pub opened : open_pass s h n ≡ Some pass
  pub only : (m : ℕ) → (m == n) ≡ false → open_pass s h m ≡ None
  pub sees : views s h pass.role pass.key ≡ pass.seen
  pub present : moment s h ≡ pass.since
  pub asked : AskedByAct pass.role pass.seen pass.since pass.stage
  pub on : IsGoingOn pass.stage
  pub low : entries_of_passes h + left_at pass.stage (acts (act_of s h pass)) ≤ paid_for s h

pub record ArePaid (s : Setting) (h : List Entry) : Type 0 where
  pub closed : IsClosed s h
  pub low : entries_of_passes h + 3 ≤ paid_for s h

abbrev pub Pays : Setting → List Entry → Type 0
Pays s h = ArePaid s h ⊎ ((n : ℕ) × IsOnly s h n)

-- where none is open
pub still_paid : (s : Setting) (h : List Entry) → IsClosed s h → Pays s h → ArePaid s h
still_paid s h none (inl p) = p
still_paid s h none (inr (n, o)) = absurd (let opened = o.opened in let closed = none n in cc (opened, closed))

-- and where the one of the number is
number_by : (b : Bool) (s : Setting) (h : List Entry) (n m : ℕ) → (m == n) ≡ b → IsOpen (open_pass s h m) → IsOnly s h n → IsOnly s h m
number_by true s h n m is there o = subst (IsOnly s h) (sym ((Decides-eqb m n).0 is)) o
number_by false s h n m is there o = absurd (subst IsOpen (o.only m is) there)

pub the_one : (s : Setting) (h : List Entry) (m : ℕ) → IsOpen (open_pass s h m) → Pays s h → IsOnly s h m
the_one s h m there (inl p) = absurd (subst IsOpen (p.closed m) there)
the_one s h m there (inr (n, o)) = number_by (m == n) s h n m refl there o

-- ---- a pass begins

same_desk : (s : Setting) (h : List Entry) (n : ℕ) (r role : Role) (k : Key) (at : Positions) (now : ℤ) (seen : Views) → desk s (Begin n r k at now ∷ h) role seen ≡ desk s h role seen
same_desk s h n r Trigger k at now seen = refl
same_desk s h n r KeyManager k at now seen = refl
same_desk s h n r RequestManager k at now seen = refl
same_desk s h n r Approver k at now seen = refl
same_desk s h n r Issuer k at now seen = refl
same_desk s h n r Issuing k at now seen = refl
same_desk s h n r Readiness k at now seen = refl
same_desk s h n r Revision k at now seen = refl

begin_low : (b : Bool) (t i w : ℕ) → t + 3 ≤ 2 * i + (5 * w + 3) → (t + 1) + (if b then 2 else 4) ≤ 2 * (if b then i else i + 1) + (5 * w + 3)
begin_low true t i w low = omega (arith, low)
begin_low false t i w low = omega (arith, low)

begun_low : (b c : Bool) (begins rest i w : ℕ) → b ≡ c → (begins + rest) + 3 ≤ 2 * i + (5 * w + 3) → ((begins + 1) + rest) + (if b then 2 else 4) ≤ 2 * (if c then i else i + 1) + (5 * w + 3)
begun_low b c begins rest i w same low =
    subst (λ (d : Bool). ((begins + 1) + rest) + (if b then 2 else 4) ≤ 2 * (if d then i else i + 1) + (5 * w + 3)) same (let sum = begin_low b (begins + rest) i w low in omega (arith, sum))

none_but : (b : Bool) (new : OpenPass) (x : Option OpenPass) → b ≡ false → x ≡ None → (if b then Some new else x) ≡ None
none_but true new x is none = absurd (cc is)
none_but false new x is none = none

pub begin_pays : (s : Setting) (h : List Entry) (n : ℕ) (r : Role) (k : Key) (at : Positions) (now : ℤ) → now ≡ moment s h → ArePaid s h → IsOnly s (Begin n r k at now ∷ h) n
begin_pays s h n r k at now present p =
    let seen = views s h r k in
    let same : act r seen now (desk s (Begin n r k at now ∷ h) r seen) ≡ act r seen (moment s h) (desk s h r seen) = ap (λ (t : ℤ). act r seen t (desk s (Begin n r k at now ∷ h) r seen)) present ∙ ap (act r seen (moment s h)) (same_desk s h n r r k at now seen) in
    record {
      pass = new_pass r k seen now;
      opened = ap (λ (b : Bool). if b then Some (new_pass r k seen now) else open_pass s h n) ((Decides-eqb n n).1 refl);
      only = λ m off. none_but (m == n) (new_pass r k seen now) (open_pass s h m) off (p.closed m);
      sees = refl;
      present = sym present;
      asked = tt;
      on = tt;
      low = begun_low (acts (act r seen now (desk s (Begin n r k at now ∷ h) r seen))) (acts (act r seen (moment s h) (desk s h r seen))) (count_of is_begin h) (count_of is_of_pass h) (idle_begins s h) (count_of is_role_write h) (ap acts same) p.low;
    }

-- ---- a pass goes on

gone_none : (b : Bool) (f : OpenPass → Stage) (x : Option OpenPass) → b ≡ false → x ≡ None → (if b then option_map (λ (q : OpenPass). with_stage (f q) q) x else x) ≡ None
gone_none true f x is none = absurd (cc is)
gone_none false f x is none = none

gone_some : (b : Bool) (f : OpenPass → Stage) (x : Option OpenPass) (p : OpenPass) → b ≡ true → x ≡ Some p → (if b then option_map (λ (q : OpenPass). with_stage (f q) q) x else x) ≡ Some (with_stage (f p) p)
gone_some true f x p is some = ap (option_map (λ (q : OpenPass). with_stage (f q) q)) some
gone_some false f x p is some = absurd (cc is)

pub gone_pays : (s : Setting) (h : List Entry) (n : ℕ) (e : Entry) (f : OpenPass → Stage) (o : IsOnly s h n) → ((m : ℕ) → open_pass s (e ∷ h) m ≡ gone_on m n f (open_pass s h m)) → views s (e ∷ h) o.pass.role o.pass.key ≡ views s h o.pass.role o.pass.key
    → moment s (e ∷ h) ≡ moment s h → AskedByAct o.pass.role o.pass.seen o.pass.since (f o.pass) → IsGoingOn (f o.pass)
    → entries_of_passes (e ∷ h) + left_at (f o.pass) (acts (act_of s (e ∷ h) (with_stage (f o.pass) o.pass))) ≤ paid_for s (e ∷ h) → IsOnly s (e ∷ h) n
gone_pays s h n e f o form told time asked on low = record {
  pass = with_stage (f o.pass) o.pass;
  opened = form n ∙ gone_some (n == n) f (open_pass s h n) o.pass ((Decides-eqb n n).1 refl) o.opened;
  only = λ m off. form m ∙ gone_none (m == n) f (open_pass s h m) off (o.only m off);
  sees = told ∙ o.sees;
  present = time ∙ o.present;
  asked = asked;
  on = on;
  low = low;
}

-- ---- questions and values

asked_act : (stage : Stage) (role : Role) (seen : Views) (since : ℤ) (d : Desk) (order : Order) → AsksBy stage (act role seen since d) order → AskedByAct role seen since (Asked order)
asked_act Fresh role seen since d order asks = by (act role seen since d) refl asks where
  by : (does : Act) → act role seen since d ≡ does → IsAsked does order → (e : Desk) × (act role seen since e ≡ Asks order)
  by (Asks asked) is asks = (d, is ∙ ap Asks (sym asks))
  by other is asks = absurd asks
asked_act other role seen since d order asks = absurd asks

asks_left : (stage : Stage) (does : Act) (order : Order) → AsksBy stage does order → left_at stage (acts does) ≡ 2
asks_left Fresh (Asks asked) order asks = refl
asks_left Fresh other order asks = absurd asks
asks_left other does order asks = absurd asks

pub one_spent : (begins rest l most k : ℕ) → (begins + rest) + l ≤ most → l ≡ k + 1 → (begins + (rest + 1)) + k ≤ most
one_spent begins rest l most k low is = omega (arith, low, is)

pub ask_pays : (s : Setting) (h : List Entry) (n : ℕ) (order : Order) (o : IsOnly s h n) → MayAsk s h (open_pass s h n) order → IsOnly s (Ask n order ∷ h) n
ask_pays s h n order o may =
    let asks : AsksBy o.pass.stage (act_of s h o.pass) order = subst (λ (x : Option OpenPass). MayAsk s h x order) o.opened may in
    gone_pays s h n (Ask n order) (λ q. Asked order) o (λ m. refl) refl refl (asked_act o.pass.stage o.pass.role o.pass.seen o.pass.since (desk s h o.pass.role o.pass.seen) order asks) tt
    (one_spent (count_of is_begin h) (count_of is_of_pass h) (left_at o.pass.stage (acts (act_of s h o.pass))) (paid_for s h) 1 o.low (asks_left o.pass.stage (act_of s h o.pass) order asks))

given_asked : (stage : Stage) (role : Role) (seen : Views) (since : ℤ) (value : Value) → IsGivenBy stage value → AskedByAct role seen since stage → AskedByAct role seen since (stage_given value stage)
given_asked (Asked order) role seen since value gives asked = asked
given_asked other role seen since value gives asked = absurd gives

given_on : (stage : Stage) (value : Value) → IsGivenBy stage value → IsGoingOn (stage_given value stage)
given_on (Asked order) value gives = tt
given_on other value gives = absurd gives

given_low : (stage : Stage) (value : Value) (a b : Bool) (begins rest most : ℕ) → IsGivenBy stage value → (begins + rest) + left_at stage a ≤ most → (begins + (rest + 1)) + left_at (stage_given value stage) b ≤ most
given_low (Asked order) value a b begins rest most gives low = omega (arith, low)
given_low other value a b begins rest most gives low = absurd gives

pub value_pays : (s : Setting) (h : List Entry) (n : ℕ) (e : Entry) (value : Value) (o : IsOnly s h n) → ((m : ℕ) → open_pass s (e ∷ h) m ≡ gone_on m n (λ (q : OpenPass). stage_given value q.stage) (open_pass s h m))
    → views s (e ∷ h) o.pass.role o.pass.key ≡ views s h o.pass.role o.pass.key → moment s (e ∷ h) ≡ moment s h → count_of is_begin (e ∷ h) ≡ count_of is_begin h → count_of is_of_pass (e ∷ h) ≡ count_of is_of_pass h + 1
    → paid_for s (e ∷ h) ≡ paid_for s h → MayGive (open_pass s h n) value → IsOnly s (e ∷ h) n
value_pays s h n e value o form told time begins rest paid may =
    let gives : IsGivenBy o.pass.stage value = subst (λ (x : Option OpenPass). MayGive x value) o.opened may in
    gone_pays s h n e (λ q. stage_given value q.stage) o form told time (given_asked o.pass.stage o.pass.role o.pass.seen o.pass.since value gives o.asked) (given_on o.pass.stage value gives)
    (let low = given_low o.pass.stage value (acts (act_of s h o.pass)) (acts (act_of s (e ∷ h) (with_stage (stage_given value o.pass.stage) o.pass))) (count_of is_begin h) (count_of is_of_pass h) (paid_for s h) gives o.low in
    omega (arith, low, begins, rest, paid))

-- ---- an end

end_left : (stage : Stage) (does : Act) (cause : Cause) → IsGoingOn stage → EndsBy stage does cause → left_at stage (acts does) ≡ 4
end_left Fresh does cause on ends = ap (λ (a : Act). if acts a then 2 else 4) ends.0
end_left Wrote does cause on ends = refl
end_left (Refused entry obstacle) does cause on ends = absurd on
end_left other does cause on ends = absurd ends

none_after : (b : Bool) (x : Option OpenPass) → (b ≡ false → x ≡ None) → (if b then None else x) ≡ None
none_after true x none = refl
none_after false x none = none refl

pub end_pays : (s : Setting) (h : List Entry) (n : ℕ) (cause : Cause) (o : IsOnly s h n) → MayEnd s h (open_pass s h n) cause → ArePaid s (End n cause ∷ h)
end_pays s h n cause o may =
    let ends : EndsBy o.pass.stage (act_of s h o.pass) cause = subst (λ (x : Option OpenPass). MayEnd s h x cause) o.opened may in
    record {
      closed = λ m. none_after (m == n) (open_pass s h m) (λ off. o.only m off);
      low = one_spent (count_of is_begin h) (count_of is_of_pass h) (left_at o.pass.stage (acts (act_of s h o.pass))) (paid_for s h) 3 o.low (end_left o.pass.stage (act_of s h o.pass) cause o.on ends);
    }
