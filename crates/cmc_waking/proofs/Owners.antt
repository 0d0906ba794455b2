-- On which keys passes are open.
use Rattle.std.proofs.Common.{◌≡◌, ◌==◌, ℕ, ℤ, List, [], ◌∷◌, Option, Some, None, Bool, true, false, refl, sym, ap, subst, ◌∙◌, arith}
use Rattle.std.proofs.lemmas.Bool.{and_parts, and_from}
use Rattle.std.proofs.lemmas.Bool.Decides.{Decides-eqb, nat_tests}
use Rattle.std.specs.Prelude.{◌&&◌, if◌then◌else◌, option_map}
use Rattle.cmc_meta.specs.declared.key.Key.{Key}
use Rattle.cmc_meta.specs.Keys.{key_eq}
use Rattle.cmc_objects.proofs.Ranks.{role_of_rank}
use Rattle.cmc_objects.specs.declared.call.Call.{Call}
use Rattle.cmc_objects.specs.declared.call.Reply.{Reply}
use Rattle.cmc_objects.specs.declared.entry.Cause.{Cause}
use Rattle.cmc_objects.specs.declared.entry.Positions.{Positions}
use Rattle.cmc_objects.specs.declared.orders.Order.{Order}
use Rattle.cmc_objects.specs.declared.entry.Who.{Who}
use Rattle.cmc_objects.specs.declared.entry.Who.TheVariants.{User, Pass}
use Rattle.cmc_objects.specs.declared.entry.Entry.{Entry}
use Rattle.cmc_objects.specs.declared.entry.Entry.TheVariants.{Call as Called, Begin, Ask, Made, Signed, Answered, Judged, End, Stop, Start}
use Rattle.cmc_objects.specs.declared.role.Role.{Role}
use Rattle.cmc_objects.specs.Roles.{role_rank}
use Rattle.cmc_pass.specs.declared.pass.Views.{Views}
use Rattle.cmc_pass.specs.declared.value.Value.{Value}
use Rattle.cmc_pass.specs.declared.value.Value.TheVariants as values
use Rattle.cmc_model.specs.Histories.{Setting, role_eq, runs}
use Rattle.cmc_rules.specs.declared.progress.OpenPass.{OpenPass}
use Rattle.cmc_rules.specs.declared.progress.Stage.{Stage}
use Rattle.cmc_rules.specs.declared.progress.Stage.TheVariants.{Asked}
use Rattle.cmc_rules.specs.Legality.{IsLegal}
use Rattle.cmc_rules.specs.Passes.{called, given, is_pass_of, new_pass, open_pass, stage_after, stage_given, unless_of, with_stage, IsWorking}
use Rattle.cmc_rules.specs.Views.{views}
use Rattle.cmc_rules.proofs.Passes.{closed_beyond}
use Rattle.cmc_queue.proofs.OneRow.{same_by_test}
use Rattle.cmc_queue.proofs.OneRow.{equal_keys}

pub same_role : (a b : Role) → role_eq a b ≡ true → a ≡ b
same_role a b e = role_of_rank a b (grind (arith, nat_tests))

pub equal_roles : (a : Role) → role_eq a a ≡ true
equal_roles a = (Decides-eqb (role_rank a) (role_rank a)).1 refl

turned : (m n : ℕ) → (m == n) ≡ false → (n == m) ≡ false
turned m n off = grind (arith, nat_tests)

-- the test of the role, the other way round
pub roles_turned : (a b : Role) → role_eq a b ≡ false → role_eq b a ≡ false
roles_turned a b off = turned (role_rank a) (role_rank b) off

-- ---- whose a pass is

owner_staged : (r : Role) (k : Key) (stage : OpenPass → Stage) (p : Option OpenPass) → is_pass_of r k (option_map (λ (q : OpenPass). with_stage (stage q) q) p) ≡ is_pass_of r k p
owner_staged r k stage None = refl
owner_staged r k stage (Some p) = refl

owner_gone_on : (b : Bool) (r : Role) (k : Key) (stage : OpenPass → Stage) (p : Option OpenPass) → is_pass_of r k (if b then option_map (λ (q : OpenPass). with_stage (stage q) q) p else p) ≡ is_pass_of r k p
owner_gone_on true r k stage p = owner_staged r k stage p
owner_gone_on false r k stage p = refl

owner_called : (n : ℕ) (who : Who) (r : Role) (k : Key) (stage : OpenPass → Stage) (p : Option OpenPass) → is_pass_of r k (called n who stage p) ≡ is_pass_of r k p
owner_called n User r k stage p = refl
owner_called n (Pass pass) r k stage p = owner_gone_on (n == pass) r k stage p

owner_begun : (b : Bool) (s : Setting) (h : List Entry) (role r : Role) (key k : Key) (seen : Views) (now : ℤ) (n pass : ℕ) → (n == pass) ≡ b → (role_eq role r && key_eq key k) ≡ false → open_pass s h pass ≡ None
    → is_pass_of r k (if b then Some (new_pass role key seen now) else open_pass s h n) ≡ is_pass_of r k (open_pass s h n)
owner_begun true s h role r key k seen now n pass is other none =
    let there : open_pass s h n ≡ None = ap (open_pass s h) ((Decides-eqb n pass).0 is) ∙ none in
    other ∙ sym (ap (is_pass_of r k) there)
owner_begun false s h role r key k seen now n pass is other none = refl

owner_ended : (b : Bool) (s : Setting) (h : List Entry) (r : Role) (k : Key) (n pass : ℕ) → (n == pass) ≡ b → is_pass_of r k (open_pass s h pass) ≡ false → is_pass_of r k (if b then None else open_pass s h n) ≡ is_pass_of r k (open_pass s h n)
owner_ended true s h r k n pass is other = sym (ap (λ (m : ℕ). is_pass_of r k (open_pass s h m)) ((Decides-eqb n pass).0 is) ∙ other)
owner_ended false s h r k n pass is other = refl

stopped_by : (b : Bool) (role r : Role) (k : Key) (p : OpenPass) → role_eq role p.role ≡ b → role_eq role r ≡ false → is_pass_of r k (if b then None else Some p) ≡ is_pass_of r k (Some p)
stopped_by true role r k p is other =
    let off : role_eq p.role r ≡ false = ap (λ (q : Role). role_eq q r) (sym (same_role role p.role is)) ∙ other in
    sym (ap (λ (t : Bool). t && key_eq p.key k) off)
stopped_by false role r k p is other = refl

owner_stopped : (role r : Role) (k : Key) (p : Option OpenPass) → role_eq role r ≡ false → is_pass_of r k (unless_of role p) ≡ is_pass_of r k p
owner_stopped role r k None other = refl
owner_stopped role r k (Some p) other = stopped_by (role_eq role p.role) role r k p refl other

-- whose the passes are after the entry is whose they were
abbrev pub AreSameOwners : Setting → Entry → List Entry → Role → Key → Type 0
AreSameOwners s e h r k = (n : ℕ) → is_pass_of r k (open_pass s (e ∷ h) n) ≡ is_pass_of r k (open_pass s h n)

pub owners_called : (s : Setting) (h : List Entry) (who : Who) (call : Call) (reply : Reply) (r : Role) (k : Key) → AreSameOwners s (Called who call reply) h r k
owners_called s h who call reply r k n = owner_called n who r k (stage_after s h call reply) (open_pass s h n)

pub owners_asked : (s : Setting) (h : List Entry) (pass : ℕ) (order : Order) (r : Role) (k : Key) → AreSameOwners s (Ask pass order) h r k
owners_asked s h pass order r k n = owner_gone_on (n == pass) r k (λ q. Asked order) (open_pass s h n)

pub owners_given : (s : Setting) (h : List Entry) (n pass : ℕ) (value : Value) (r : Role) (k : Key) → is_pass_of r k (given n pass value (open_pass s h n)) ≡ is_pass_of r k (open_pass s h n)
owners_given s h n pass value r k = owner_gone_on (n == pass) r k (λ q. stage_given value q.stage) (open_pass s h n)

-- a pass begins on another key, or of another role
pub owners_begun : (s : Setting) (h : List Entry) (pass : ℕ) (role : Role) (key : Key) (at : Positions) (now : ℤ) (r : Role) (k : Key) → IsLegal s (Begin pass role key at now ∷ h) → (role_eq role r && key_eq key k) ≡ false
    → AreSameOwners s (Begin pass role key at now) h r k
unfolding IsLegal
owners_begun s h pass role key at now r k legal other n =
    owner_begun (n == pass) s h role r key k (views s h role key) now n pass refl other (closed_beyond s h pass legal.1 (let numbered = legal.0.numbered in omega (arith, numbered)))

pub owners_ended : (s : Setting) (h : List Entry) (pass : ℕ) (cause : Cause) (r : Role) (k : Key) → is_pass_of r k (open_pass s h pass) ≡ false → AreSameOwners s (End pass cause) h r k
owners_ended s h pass cause r k other n = owner_ended (n == pass) s h r k n pass refl other

pub owners_stopped : (s : Setting) (h : List Entry) (role r : Role) (k : Key) → role_eq role r ≡ false → AreSameOwners s (Stop role) h r k
owners_stopped s h role r k other n = owner_stopped role r k (open_pass s h n) other

-- ---- a pass that has begun

begun_on : (b : Bool) (role : Role) (key : Key) (seen : Views) (now : ℤ) (p : Option OpenPass) → b ≡ true → is_pass_of role key (if b then Some (new_pass role key seen now) else p) ≡ true
begun_on true role key seen now p is = and_from _ _ (equal_roles role) (equal_keys key)
begun_on false role key seen now p is = absurd (cc is)

pub works_begun : (s : Setting) (h : List Entry) (pass : ℕ) (role : Role) (key : Key) (at : Positions) (now : ℤ) → IsWorking s (Begin pass role key at now ∷ h) role key
works_begun s h pass role key at now = (pass, begun_on (pass == pass) role key (views s h role key) now (open_pass s h pass) ((Decides-eqb pass pass).1 refl))

-- ---- a role that is stopped has no open pass

stopped_all : (b : Bool) (role r : Role) (k : Key) (p : OpenPass) → role_eq role p.role ≡ b → role_eq role r ≡ true → is_pass_of r k (if b then None else Some p) ≡ false
stopped_all true role r k p is same = refl
stopped_all false role r k p is same =
    let off : role_eq p.role r ≡ false = ap (role_eq p.role) (sym (same_role role r same)) ∙ roles_turned role p.role is in
    ap (λ (t : Bool). t && key_eq p.key k) off

owner_stopped_self : (role r : Role) (k : Key) (p : Option OpenPass) → role_eq role r ≡ true → is_pass_of r k (unless_of role p) ≡ false
owner_stopped_self role r k None same = refl
owner_stopped_self role r k (Some p) same = stopped_all (role_eq role p.role) role r k p refl same

pub none_stopped : (s : Setting) (h : List Entry) (role r : Role) (k : Key) → role_eq role r ≡ true → (n : ℕ) → is_pass_of r k (open_pass s (Stop role ∷ h) n) ≡ false
none_stopped s h role r k same n = owner_stopped_self role r k (open_pass s h n) same

-- a role that does not run has no open pass
stop_cases : (b : Bool) (s : Setting) (h : List Entry) (role r : Role) (k : Key) (n : ℕ) → role_eq role r ≡ b → ((b ≡ false) → is_pass_of r k (open_pass s h n) ≡ false) → is_pass_of r k (unless_of role (open_pass s h n)) ≡ false
stop_cases true s h role r k n is before = owner_stopped_self role r k (open_pass s h n) is
stop_cases false s h role r k n is before = owner_stopped role r k (open_pass s h n) is ∙ before refl

started_off : (b before : Bool) → (if b then true else before) ≡ false → before ≡ false
started_off true before off = absurd (cc off)
started_off false before off = off

stopped_off : (b before : Bool) → b ≡ false → (if b then false else before) ≡ false → before ≡ false
stopped_off true before is off = absurd (cc is)
stopped_off false before is off = off

none_running : (b : Bool) (role r : Role) (key k : Key) → (role_eq role r && key_eq key k) ≡ b → (role ≡ r → ⊥) → b ≡ false
none_running true role r key k is apart = absurd (apart (same_role role r (and_parts _ _ is).0))
none_running false role r key k is apart = refl

runs_apart : (s : Setting) (h : List Entry) (role r : Role) → runs s h role ≡ true → runs s h r ≡ false → role ≡ r → ⊥
runs_apart s h role r on off same = let here : runs s h r ≡ true = subst (λ (q : Role). runs s h q ≡ true) same on in cc (here, off)

ended_off : (b : Bool) (r : Role) (k : Key) (p : Option OpenPass) → is_pass_of r k p ≡ false → is_pass_of r k (if b then None else p) ≡ false
ended_off true r k p none = refl
ended_off false r k p none = none

pub none_open : (s : Setting) (h : List Entry) (r : Role) (k : Key) → IsLegal s h → runs s h r ≡ false → (n : ℕ) → is_pass_of r k (open_pass s h n) ≡ false
unfolding IsLegal
none_open s [] r k legal off n = refl
none_open s (Called who call reply ∷ h) r k legal off n = owners_called s h who call reply r k n ∙ none_open s h r k legal.1 off n
none_open s (Begin pass role key at now ∷ h) r k legal off n =
    owners_begun s h pass role key at now r k legal (none_running (role_eq role r && key_eq key k) role r key k refl (runs_apart s h role r legal.0.running off)) n ∙ none_open s h r k legal.1 off n
none_open s (Ask pass order ∷ h) r k legal off n = owners_asked s h pass order r k n ∙ none_open s h r k legal.1 off n
none_open s (Made pass key ∷ h) r k legal off n = owners_given s h n pass (values.Made key) r k ∙ none_open s h r k legal.1 off n
none_open s (Signed pass signature ∷ h) r k legal off n = owners_given s h n pass (values.Signed signature) r k ∙ none_open s h r k legal.1 off n
none_open s (Answered pass answer ∷ h) r k legal off n = owners_given s h n pass (values.Answered answer) r k ∙ none_open s h r k legal.1 off n
none_open s (Judged pass approved ∷ h) r k legal off n = owners_given s h n pass (values.Judged approved) r k ∙ none_open s h r k legal.1 off n
none_open s (End pass cause ∷ h) r k legal off n = ended_off (n == pass) r k (open_pass s h n) (none_open s h r k legal.1 off n)
none_open s (Stop role ∷ h) r k legal off n = stop_cases (role_eq role r) s h role r k n refl (λ is. none_open s h r k legal.1 (stopped_off (role_eq role r) (runs s h r) is off) n)
none_open s (Start role at ∷ h) r k legal off n = none_open s h r k legal.1 (started_off (role_eq role r) (runs s h r) off) n
none_open s (other ∷ h) r k legal off n = none_open s h r k legal.1 off n

-- ---- on a key a role has one open pass

-- what two open passes of one role on one key are
abbrev IsOnlyOne : Setting → List Entry → Role → Key → Type 0
IsOnlyOne s h r k = (m n : ℕ) → is_pass_of r k (open_pass s h m) ≡ true → is_pass_of r k (open_pass s h n) ≡ true → m ≡ n

only_same : (s : Setting) (e : Entry) (h : List Entry) (r : Role) (k : Key) → AreSameOwners s e h r k → IsOnlyOne s h r k → IsOnlyOne s (e ∷ h) r k
only_same s e h r k same only m n one two = only m n (sym (same m) ∙ one) (sym (same n) ∙ two)

begins_other : (b : Bool) (r : Role) (k : Key) (new : OpenPass) (p : Option OpenPass) → is_pass_of r k (if b then Some new else p) ≡ true → (is_pass_of r k p ≡ true → ⊥) → b ≡ true
begins_other true r k new p is free = refl
begins_other false r k new p is free = absurd (free is)

on_key : (role r : Role) (key k : Key) → (role_eq role r && key_eq key k) ≡ true → (role ≡ r) × (key ≡ k)
on_key role r key k is = (same_role role r (and_parts _ _ is).0, same_by_test key k (and_parts _ _ is).1)

only_begun : (b : Bool) (s : Setting) (h : List Entry) (pass : ℕ) (role r : Role) (key k : Key) (at : Positions) (now : ℤ) → (role_eq role r && key_eq key k) ≡ b → IsLegal s (Begin pass role key at now ∷ h) → (IsWorking s h role key → ⊥) → IsOnlyOne s h r k
    → IsOnlyOne s (Begin pass role key at now ∷ h) r k
only_begun true s h pass role r key k at now is legal free only = λ m n one two.
    let who = on_key role r key k is in
    let none = λ (x : ℕ) (on : is_pass_of r k (open_pass s h x) ≡ true). free (x, subst (λ (q : Role). is_pass_of q key (open_pass s h x) ≡ true) (sym who.0) (subst (λ (q : Key). is_pass_of r q (open_pass s h x) ≡ true) (sym who.1) on)) in
    let first = begins_other (m == pass) r k (new_pass role key (views s h role key) now) (open_pass s h m) one (none m) in
    let second = begins_other (n == pass) r k (new_pass role key (views s h role key) now) (open_pass s h n) two (none n) in
    (Decides-eqb m pass).0 first ∙ sym ((Decides-eqb n pass).0 second)
only_begun false s h pass role r key k at now is legal free only = only_same s (Begin pass role key at now) h r k (owners_begun s h pass role key at now r k legal is) only

less_ended : (b : Bool) (r : Role) (k : Key) (p : Option OpenPass) → is_pass_of r k (if b then None else p) ≡ true → is_pass_of r k p ≡ true
less_ended true r k p is = absurd (cc is)
less_ended false r k p is = is

less_by : (b : Bool) (r : Role) (k : Key) (p : OpenPass) → is_pass_of r k (if b then None else Some p) ≡ true → is_pass_of r k (Some p) ≡ true
less_by true r k p is = absurd (cc is)
less_by false r k p is = is

less_stopped : (role r : Role) (k : Key) (p : Option OpenPass) → is_pass_of r k (unless_of role p) ≡ true → is_pass_of r k p ≡ true
less_stopped role r k None is = is
less_stopped role r k (Some p) is = less_by (role_eq role p.role) r k p is

pub one_pass : (s : Setting) (h : List Entry) (r : Role) (k : Key) → IsLegal s h → IsOnlyOne s h r k
unfolding IsLegal
one_pass s [] r k legal = λ m n one two. absurd (cc one)
one_pass s (Called who call reply ∷ h) r k legal = only_same s (Called who call reply) h r k (owners_called s h who call reply r k) (one_pass s h r k legal.1)
one_pass s (Begin pass role key at now ∷ h) r k legal = only_begun (role_eq role r && key_eq key k) s h pass role r key k at now refl legal legal.0.free (one_pass s h r k legal.1)
one_pass s (Ask pass order ∷ h) r k legal = only_same s (Ask pass order) h r k (owners_asked s h pass order r k) (one_pass s h r k legal.1)
one_pass s (Made pass key ∷ h) r k legal = only_same s (Made pass key) h r k (λ n. owners_given s h n pass (values.Made key) r k) (one_pass s h r k legal.1)
one_pass s (Signed pass signature ∷ h) r k legal = only_same s (Signed pass signature) h r k (λ n. owners_given s h n pass (values.Signed signature) r k) (one_pass s h r k legal.1)
one_pass s (Answered pass answer ∷ h) r k legal = only_same s (Answered pass answer) h r k (λ n. owners_given s h n pass (values.Answered answer) r k) (one_pass s h r k legal.1)
one_pass s (Judged pass approved ∷ h) r k legal = only_same s (Judged pass approved) h r k (λ n. owners_given s h n pass (values.Judged approved) r k) (one_pass s h r k legal.1)
one_pass s (End pass cause ∷ h) r k legal = λ m n one two. one_pass s h r k legal.1 m n (less_ended (m == pass) r k (open_pass s h m) one) (less_ended (n == pass) r k (open_pass s h n) two)
one_pass s (Stop role ∷ h) r k legal = λ m n one two. one_pass s h r k legal.1 m n (less_stopped role r k (open_pass s h m) one) (less_stopped role r k (open_pass s h n) two)
one_pass s (other ∷ h) r k legal = one_pass s h r k legal.1

ended_one : (b : Bool) (s : Setting) (h : List Entry) (r : Role) (k : Key) (n pass : ℕ) → (n == pass) ≡ b → IsOnlyOne s h r k → is_pass_of r k (open_pass s h pass) ≡ true → is_pass_of r k (if b then None else open_pass s h n) ≡ true → ⊥
ended_one true s h r k n pass is only mine on = cc on
ended_one false s h r k n pass is only mine on = let same = (Decides-eqb n pass).1 (only n pass on mine) in cc (same, is)

-- where the pass was one of the role on the key, none is open after its end
pub none_ended : (s : Setting) (h : List Entry) (pass : ℕ) (cause : Cause) (r : Role) (k : Key) → IsLegal s h → is_pass_of r k (open_pass s h pass) ≡ true → IsWorking s (End pass cause ∷ h) r k → ⊥
none_ended s h pass cause r k legal mine works = ended_one (works.0 == pass) s h r k works.0 pass refl (one_pass s h r k legal) mine works.1
