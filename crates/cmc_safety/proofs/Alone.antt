-- A role has one open pass on a key at most.
use Rattle.std.proofs.Common.{◌≡◌, ◌==◌, ◌&&◌, ℕ, List, [], ◌∷◌, Option, Some, None, Bool, true, false, refl, sym, ap, subst, ◌∙◌, rules, arith, Ordering, Less, Equal, Greater}
use Rattle.std.proofs.lemmas.Bool.Decides.{nat_tests}
use Rattle.std.proofs.lemmas.Cmp.{eq_by_cmp_equiv}
use Rattle.std.specs.Cmp.Rules.{comparing}
use Rattle.std.specs.Ordering.{is_eq, eq_by_cmp}
use Rattle.std.specs.Prelude.{if◌then◌else◌, option_map}
use Rattle.std.proofs.lemmas.Bool.{and_from, and_parts}
use Rattle.cmc_meta.specs.declared.key.Key.{Key}
use Rattle.cmc_meta.specs.Keys.{key_cmp, key_eq}
use Rattle.cmc_objects.specs.declared.role.Role.{Role}
use Rattle.cmc_objects.specs.declared.entry.Who.{Who}
use Rattle.cmc_objects.specs.declared.entry.Who.TheVariants.{User, Pass}
use Rattle.cmc_objects.specs.declared.entry.Entry.{Entry}
use Rattle.cmc_objects.specs.declared.entry.Entry.TheVariants.{Call as Called, Begin, Ask, Made, Signed, Answered, Judged, End, Stop}
use Rattle.cmc_objects.proofs.Ranks.{role_of_rank}
use Rattle.cmc_pass.specs.declared.value.Value.{Value}
use Rattle.cmc_pass.specs.declared.value.Value.TheVariants as values
use Rattle.cmc_model.specs.Histories.{Setting, role_eq}
use Rattle.cmc_meta.proofs.KeyOrder.{key_cmp-total, key_cmp-IsAntisymmetric}
use Rattle.cmc_rules.specs.declared.progress.OpenPass.{OpenPass}
use Rattle.cmc_rules.specs.declared.progress.Stage.{Stage}
use Rattle.cmc_rules.specs.declared.progress.Stage.TheVariants.{Asked}
use Rattle.cmc_rules.specs.Views.{views}
use Rattle.cmc_rules.specs.Passes.{open_pass, called, gone_on, unless_of, new_pass, with_stage, stage_after, stage_given, is_pass_of}
use Rattle.cmc_rules.specs.Legality.{IsLegal}

-- ---- the tests say that roles and keys are one

pub role_is_one : (a b : Role) → role_eq a b ≡ true → a ≡ b
role_is_one a b e = role_of_rank a b (grind (arith, nat_tests))

pub role_is_own : (r : Role) → role_eq r r ≡ true
role_is_own r = grind (arith, nat_tests)

key_eq-by_cmp : (a b : Key) → key_eq a b ≡ eq_by_cmp key_cmp a b
key_eq-by_cmp = search (comparing, rules)

tie_of : (o : Ordering) → is_eq o ≡ true → o ≡ Equal
tie_of Less e = absurd (cc e)
tie_of Equal e = refl
tie_of Greater e = absurd (cc e)

pub key_is_one : (a b : Key) → key_eq a b ≡ true → a ≡ b
key_is_one a b e = key_cmp-IsAntisymmetric a b (tie_of (key_cmp a b) (sym (key_eq-by_cmp a b) ∙ e))

pub key_is_own : (a : Key) → key_eq a a ≡ true
key_is_own a = key_eq-by_cmp a a ∙ (eq_by_cmp_equiv key_cmp-total).refl a

-- ---- a pass that is open was so before, but for the one that begins

abbrev pub WorksOn : Role → Key → Option OpenPass → Type 0
WorksOn role key p = is_pass_of role key p ≡ true

worked_before : (role : Role) (key : Key) (own : Bool) (stage : OpenPass → Stage) (p : Option OpenPass) → WorksOn role key (if own then option_map (λ (q : OpenPass). with_stage (stage q) q) p else p) → WorksOn role key p
worked_before role key true stage None is = is
worked_before role key true stage (Some p) is = is
worked_before role key false stage p is = is

pub worked_at_entry : (role : Role) (key : Key) (n m : ℕ) (stage : OpenPass → Stage) (p : Option OpenPass) → WorksOn role key (gone_on n m stage p) → WorksOn role key p
worked_at_entry role key n m stage p is = worked_before role key (n == m) stage p is

pub worked_at_call : (role : Role) (key : Key) (n : ℕ) (who : Who) (stage : OpenPass → Stage) (p : Option OpenPass) → WorksOn role key (called n who stage p) → WorksOn role key p
worked_at_call role key n User stage p is = is
worked_at_call role key n (Pass pass) stage p is = worked_at_entry role key n pass stage p is

pub worked_unended : (role : Role) (key : Key) (own : Bool) (p : Option OpenPass) → WorksOn role key (if own then None else p) → WorksOn role key p
worked_unended role key true p is = absurd (cc is)
worked_unended role key false p is = is

pub worked_unstopped : (role : Role) (key : Key) (stop : Role) (p : Option OpenPass) → WorksOn role key (unless_of stop p) → WorksOn role key p
worked_unstopped role key stop None is = is
worked_unstopped role key stop (Some p) is = worked_unended role key (role_eq stop p.role) (Some p) is

-- ---- the law

abbrev pub HaveOnePass : Setting → List Entry → Type 0
HaveOnePass s h = (role : Role) (key : Key) (m n : ℕ) → WorksOn role key (open_pass s h m) → WorksOn role key (open_pass s h n) → m ≡ n

-- where none of the new pass's role and key is open, none of this role and key is
works_elsewhere : (role : Role) (key : Key) (p : OpenPass) (x : Option OpenPass) → (WorksOn p.role p.key x → ⊥) → WorksOn role key (Some p) → WorksOn role key x → ⊥
works_elsewhere role key p x free new old =
    let parts = and_parts (role_eq p.role role) (key_eq p.key key) new in
    free (subst (λ (r : Role). WorksOn r p.key x) (sym (role_is_one p.role role parts.0)) (subst (λ (k : Key). WorksOn role k x) (sym (key_is_one p.key key parts.1)) old))

begun_apart : (s : Setting) (h : List Entry) (role : Role) (key : Key) (pass m n : ℕ) (p : OpenPass) (b c : Bool) → (m == pass) ≡ b → (n == pass) ≡ c
    → ((i : ℕ) → WorksOn p.role p.key (open_pass s h i) → ⊥) → HaveOnePass s h
    → WorksOn role key (if b then Some p else open_pass s h m) → WorksOn role key (if c then Some p else open_pass s h n) → m ≡ n
begun_apart s h role key pass m n p true true e f free apart x y = grind (arith, nat_tests)
begun_apart s h role key pass m n p true false e f free apart x y = absurd (works_elsewhere role key p (open_pass s h n) (free n) x y)
begun_apart s h role key pass m n p false true e f free apart x y = absurd (works_elsewhere role key p (open_pass s h m) (free m) y x)
begun_apart s h role key pass m n p false false e f free apart x y = apart role key m n x y

asked_apart : (s : Setting) (h : List Entry) (pass : ℕ) (stage : OpenPass → Stage) → HaveOnePass s h → (role : Role) (key : Key) (m n : ℕ)
    → WorksOn role key (gone_on m pass stage (open_pass s h m)) → WorksOn role key (gone_on n pass stage (open_pass s h n)) → m ≡ n
asked_apart s h pass stage apart role key m n x y = apart role key m n (worked_at_entry role key m pass stage (open_pass s h m) x) (worked_at_entry role key n pass stage (open_pass s h n) y)

given_apart : (s : Setting) (h : List Entry) (pass : ℕ) (value : Value) → HaveOnePass s h → (role : Role) (key : Key) (m n : ℕ)
    → WorksOn role key (gone_on m pass (λ (q : OpenPass). stage_given value q.stage) (open_pass s h m)) → WorksOn role key (gone_on n pass (λ (q : OpenPass). stage_given value q.stage) (open_pass s h n)) → m ≡ n
given_apart s h pass value apart role key m n x y = asked_apart s h pass (λ (q : OpenPass). stage_given value q.stage) apart role key m n x y

pub apart : (s : Setting) (h : List Entry) → IsLegal s h → HaveOnePass s h
unfolding IsLegal
apart s [] legal role key m n x y = absurd (cc x)
apart s (Called who call reply ∷ h) legal role key m n x y =
    apart s h legal.1 role key m n (worked_at_call role key m who (stage_after s h call reply) (open_pass s h m) x) (worked_at_call role key n who (stage_after s h call reply) (open_pass s h n) y)
apart s (Begin pass r k at now ∷ h) legal role key m n x y =
    begun_apart s h role key pass m n (new_pass r k (views s h r k) now) (m == pass) (n == pass) refl refl (λ i on. legal.0.free (i, on)) (apart s h legal.1) x y
apart s (Ask pass order ∷ h) legal role key m n x y = asked_apart s h pass (λ (q : OpenPass). Asked order) (apart s h legal.1) role key m n x y
apart s (Made pass k ∷ h) legal role key m n x y = given_apart s h pass (values.Made k) (apart s h legal.1) role key m n x y
apart s (Signed pass k ∷ h) legal role key m n x y = given_apart s h pass (values.Signed k) (apart s h legal.1) role key m n x y
apart s (Answered pass k ∷ h) legal role key m n x y = given_apart s h pass (values.Answered k) (apart s h legal.1) role key m n x y
apart s (Judged pass k ∷ h) legal role key m n x y = given_apart s h pass (values.Judged k) (apart s h legal.1) role key m n x y
apart s (End pass cause ∷ h) legal role key m n x y =
    apart s h legal.1 role key m n (worked_unended role key (m == pass) (open_pass s h m) x) (worked_unended role key (n == pass) (open_pass s h n) y)
apart s (Stop r ∷ h) legal role key m n x y = apart s h legal.1 role key m n (worked_unstopped role key r (open_pass s h m) x) (worked_unstopped role key r (open_pass s h n) y)
apart s (other ∷ h) legal role key m n x y = apart s h legal.1 role key m n x y

works_itself : (s : Setting) (h : List Entry) (n : ℕ) (p : OpenPass) → open_pass s h n ≡ Some p → WorksOn p.role p.key (open_pass s h n)
works_itself s h n p is = ap (is_pass_of p.role p.key) is ∙ and_from (role_eq p.role p.role) (key_eq p.key p.key) (role_is_own p.role) (key_is_own p.key)

-- two open passes of one role on one key are one
pub same_pass : (s : Setting) (h : List Entry) (m n : ℕ) (p q : OpenPass) → IsLegal s h → open_pass s h m ≡ Some p → open_pass s h n ≡ Some q → p.role ≡ q.role → p.key ≡ q.key → m ≡ n
same_pass s h m n p q legal a b role key =
    apart s h legal p.role p.key m n (works_itself s h m p a)
    (subst (λ (r : Role). WorksOn r p.key (open_pass s h n)) (sym role) (subst (λ (k : Key). WorksOn q.role k (open_pass s h n)) (sym key) (works_itself s h n q b)))
