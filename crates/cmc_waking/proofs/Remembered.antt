-- What a role remembers of a pass that is open.
use Rattle.std.proofs.Common.{◌≡◌, ◌==◌, ◌+◌, ℕ, ℤ, List, [], ◌∷◌, Option, Some, None, Bool, true, false, refl, sym, ap, subst, ◌∙◌}
use Rattle.std.proofs.lemmas.Bool.{and_parts, and_from}
use Rattle.std.proofs.lemmas.Bool.Decides.{Decides-eqb}
use Rattle.std.specs.Prelude.{◌&&◌, if◌then◌else◌, IfSome, option_map}
use Rattle.cmc_meta.specs.declared.key.Key.{Key}
use Rattle.cmc_meta.specs.declared.key.Kind.{Kind}
use Rattle.cmc_meta.specs.Keys.{key_eq}
use Rattle.cmc_objects.specs.declared.call.Call.{Call}
use Rattle.cmc_objects.specs.declared.call.Reply.{Reply}
use Rattle.cmc_objects.specs.declared.role.Role.{Role}
use Rattle.cmc_objects.specs.declared.entry.Positions.{Positions}
use Rattle.cmc_objects.specs.declared.entry.Who.{Who}
use Rattle.cmc_objects.specs.declared.entry.Who.TheVariants.{User, Pass}
use Rattle.cmc_objects.specs.declared.entry.Entry.{Entry}
use Rattle.cmc_objects.specs.declared.entry.Entry.TheVariants.{Call as Called, Begin, Ask, Made, Signed, Answered, Judged, End, Stop, Start}
use Rattle.cmc_objects.specs.Roles.{role_rank}
use Rattle.cmc_pass.specs.declared.value.Value.TheVariants as values
use Rattle.cmc_pass.specs.declared.pass.Views.{Views}
use Rattle.cmc_rules.specs.declared.progress.OpenPass.{OpenPass}
use Rattle.cmc_rules.specs.declared.progress.Ending.{Ending}
use Rattle.cmc_rules.specs.declared.progress.LastPass.{LastPass}
use Rattle.cmc_rules.specs.declared.progress.Past.{Past}
use Rattle.cmc_model.specs.Replies.{is_accepted, key_of_call}
use Rattle.cmc_model.specs.Histories.{Setting, accepted, role_eq}
use Rattle.cmc_rules.specs.Views.{views}
use Rattle.cmc_rules.specs.Passes.{open_pass, called, new_pass, stage_after, is_pass_of, IsWorking}
use Rattle.cmc_rules.specs.Memory.{past, past_called, no_past, with_begin, with_own, with_ending, ending_of}
use Rattle.cmc_rules.specs.Legality.{IsLegal}
use Rattle.cmc_rules.proofs.Carrying.{over_call, over_ask, over_given, over_begin, over_end, over_stop}
use Rattle.cmc_queue.proofs.OneRow.{equal_keys}
use Rattle.cmc_queue.proofs.OneRow.{same_by_test}
use Rattle.cmc_waking.proofs.Owners.{same_role}

-- the last pass, if one is remembered, saw this at this moment
abbrev pub IsRemembered : Views → ℤ → Option LastPass → Type 0
IsRemembered seen since None = Unit {0}
IsRemembered seen since (Some l) = (l.seen ≡ seen) × (l.since ≡ since)

abbrev pub RemembersPass : Setting → List Entry → OpenPass → Type 0
RemembersPass s h p = IsRemembered p.seen p.since (past s h p.role p.key).last

pub last_called : (s : Setting) (h : List Entry) (role : Role) (key : Key) (p : Past) (who : Who) (kind : Kind) (ok : Bool) → (past_called s h role key p who kind ok).last ≡ p.last
last_called s h role key p User kind ok = refl
last_called s h role key p (Pass pass) kind ok = kept (ok && is_pass_of role key (open_pass s h pass)) where
  kept : (b : Bool) → (if b then with_own kind (accepted s h + 1) p else p).last ≡ p.last
  kept true = refl
  kept false = refl

remembered_ending : (seen : Views) (since : ℤ) (ending : Ending) (l : Option LastPass) → IsRemembered seen since l
    → IsRemembered seen since (option_map (λ (l : LastPass). record l { ending = ending }) l)
remembered_ending seen since ending None same = tt
remembered_ending seen since ending (Some l) same = same

remembered_ended : (b : Bool) (seen : Views) (since : ℤ) (ending : Ending) (p : Past) → IsRemembered seen since p.last
    → IsRemembered seen since (if b then with_ending ending p else p).last
remembered_ended true seen since ending p same = remembered_ending seen since ending p.last same
remembered_ended false seen since ending p same = same

remembered_started : (b : Bool) (seen : Views) (since : ℤ) (p : Past) → IsRemembered seen since p.last → IsRemembered seen since (if b then no_past else p).last
remembered_started true seen since p same = tt
remembered_started false seen since p same = same

-- a fact about the pass, if one is open, from another one about it
carried : (P Q : OpenPass → Type 0) (o : Option OpenPass) → ((p : OpenPass) → o ≡ Some p → P p → Q p) → IfSome o P → IfSome o Q
carried P Q None each holds = tt
carried P Q (Some p) each holds = each p refl holds

remembered_called : (s : Setting) (h : List Entry) (who : Who) (call : Call) (reply : Reply) (p : Option OpenPass) → IfSome p (RemembersPass s h)
    → IfSome p (RemembersPass s (Called who call reply ∷ h))
remembered_called s h who call reply p holds =
    carried (RemembersPass s h) (RemembersPass s (Called who call reply ∷ h)) p
    (λ q is same. subst (IsRemembered q.seen q.since) (sym (last_called s h q.role q.key (past s h q.role q.key) who (key_of_call call).kind (is_accepted reply))) same) holds

same_pass : (role : Role) (key : Key) (p : OpenPass) → (role_eq role p.role && key_eq key p.key) ≡ true → is_pass_of role key (Some p) ≡ true
same_pass role key p is =
    let role_is : role ≡ p.role = same_role role p.role (and_parts _ _ is).0 in
    let key_is : key ≡ p.key = same_by_test key p.key (and_parts _ _ is).1 in
    and_from _ _ ((Decides-eqb (role_rank p.role) (role_rank role)).1 (ap role_rank (sym role_is)))
    (subst (λ (k : Key). key_eq p.key k ≡ true) (sym key_is) (equal_keys p.key))

begun_other : (b : Bool) (role : Role) (key : Key) (p : OpenPass) (seen : Views) (since : ℤ) (old : Past) → (role_eq role p.role && key_eq key p.key) ≡ b
    → is_pass_of role key (Some p) ≡ false → IsRemembered p.seen p.since old.last → IsRemembered p.seen p.since (if b then with_begin seen since old else old).last
begun_other true role key p seen since old is free same = absurd (let mine = same_pass role key p is in cc (mine, free))
begun_other false role key p seen since old is free same = same

begun_itself : (b : Bool) (seen : Views) (since : ℤ) (old : Past) → b ≡ true → IsRemembered seen since (if b then with_begin seen since old else old).last
begun_itself true seen since old is = (refl, refl)
begun_itself false seen since old is = absurd (cc)

itself : (role : Role) (key : Key) → (role_eq role role && key_eq key key) ≡ true
itself role key = and_from _ _ ((Decides-eqb (role_rank role) (role_rank role)).1 refl) (equal_keys key)

not_so : (b : Bool) → (b ≡ true → ⊥) → b ≡ false
not_so true other = absurd (other refl)
not_so false other = refl

no_pass_of : (s : Setting) (h : List Entry) (role : Role) (key : Key) → (IsWorking s h role key → ⊥) → (n : ℕ) → is_pass_of role key (open_pass s h n) ≡ false
no_pass_of s h role key free n = not_so (is_pass_of role key (open_pass s h n)) (λ busy. free (n, busy))

remembered_begun : (s : Setting) (h : List Entry) (n pass : ℕ) (role : Role) (key : Key) (at : Positions) (now : ℤ) → is_pass_of role key (open_pass s h n) ≡ false
    → IfSome (open_pass s h n) (RemembersPass s h)
    → IfSome (if n == pass then Some (new_pass role key (views s h role key) now) else open_pass s h n) (RemembersPass s (Begin pass role key at now ∷ h))
remembered_begun s h n pass role key at now free holds =
    over_begin (RemembersPass s (Begin pass role key at now ∷ h)) (n == pass) (new_pass role key (views s h role key) now) (open_pass s h n)
    (begun_itself (role_eq role role && key_eq key key) (views s h role key) now (past s h role key) (itself role key))
    (carried (RemembersPass s h) (RemembersPass s (Begin pass role key at now ∷ h)) (open_pass s h n)
    (λ p is same.
    begun_other (role_eq role p.role && key_eq key p.key) role key p (views s h role key) now (past s h p.role p.key) refl
    (ap (is_pass_of role key) (sym is) ∙ free) same) holds)

-- the role remembers of an open pass what it saw, unless it started since
pub remembered : (s : Setting) (h : List Entry) (n : ℕ) → IsLegal s h → IfSome (open_pass s h n) (RemembersPass s h)
unfolding IsLegal
remembered s [] n legal = tt
remembered s (Called who call reply ∷ h) n legal =
    remembered_called s h who call reply (called n who (stage_after s h call reply) (open_pass s h n))
    (over_call (RemembersPass s h) n who (stage_after s h call reply) (open_pass s h n) (λ p same. same) (remembered s h n legal.1))
remembered s (Begin pass role key at now ∷ h) n legal = remembered_begun s h n pass role key at now (no_pass_of s h role key legal.0.free n) (remembered s h n legal.1)
remembered s (Ask pass order ∷ h) n legal = over_ask (RemembersPass s h) n pass order (open_pass s h n) (λ p same. same) (remembered s h n legal.1)
remembered s (Made pass key ∷ h) n legal = over_given (RemembersPass s h) n pass (values.Made key) (open_pass s h n) (λ p same. same) (remembered s h n legal.1)
remembered s (Signed pass signature ∷ h) n legal = over_given (RemembersPass s h) n pass (values.Signed signature) (open_pass s h n) (λ p same. same) (remembered s h n legal.1)
remembered s (Answered pass answer ∷ h) n legal = over_given (RemembersPass s h) n pass (values.Answered answer) (open_pass s h n) (λ p same. same) (remembered s h n legal.1)
remembered s (Judged pass approved ∷ h) n legal = over_given (RemembersPass s h) n pass (values.Judged approved) (open_pass s h n) (λ p same. same) (remembered s h n legal.1)
remembered s (End pass cause ∷ h) n legal =
    over_end (RemembersPass s (End pass cause ∷ h)) (n == pass) (open_pass s h n)
    (carried (RemembersPass s h) (RemembersPass s (End pass cause ∷ h)) (open_pass s h n)
    (λ p is same. remembered_ended (is_pass_of p.role p.key (open_pass s h pass)) p.seen p.since (ending_of (open_pass s h pass)) (past s h p.role p.key) same)
    (remembered s h n legal.1))
remembered s (Stop role ∷ h) n legal = over_stop (RemembersPass s h) role (open_pass s h n) (remembered s h n legal.1)
remembered s (Start role at ∷ h) n legal =
    carried (RemembersPass s h) (RemembersPass s (Start role at ∷ h)) (open_pass s h n)
    (λ p is same. remembered_started (role_eq role p.role) p.seen p.since (past s h p.role p.key) same) (remembered s h n legal.1)
remembered s (other ∷ h) n legal = remembered s h n legal.1
