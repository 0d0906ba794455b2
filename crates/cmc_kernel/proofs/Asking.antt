-- What a world holds stays what its history says, with a question that is asked and with a value that is given.
use Rattle.std.proofs.Common.{◌≡◌, ℕ, ◌+◌, ◌<◌, ◌≤◌, List, ◌∷◌, length, Option, Some, None, refl, sym, ap, ◌∙◌, arith}
use Rattle.std.proofs.lemmas.Bool.Decides.{nat_tests}
use Rattle.std.specs.Prelude.{◌==◌, ◌-◌, ◌^◌, Bool, true, false, if◌then◌else◌, option_map}
use Rattle.cmc_meta.specs.declared.key.Key.{Key}
use Rattle.cmc_objects.specs.declared.orders.Order.{Order}
use Rattle.cmc_objects.specs.declared.role.Role.{Role}
use Rattle.cmc_objects.specs.declared.entry.Entry.{Entry}
use Rattle.cmc_objects.specs.declared.entry.Entry.TheVariants.{Ask}
use Rattle.cmc_pass.specs.declared.value.Value.{Value}
use Rattle.cmc_pass.specs.declared.value.Value.TheVariants.{Made, Signed, Answered, Judged}
use Rattle.cmc_rules.specs.declared.progress.OpenPass.{OpenPass}
use Rattle.cmc_rules.specs.declared.progress.Stage.{Stage}
use Rattle.cmc_rules.specs.declared.progress.Stage.TheVariants.{Asked, Given}
use Rattle.cmc_model.specs.Histories.{Setting, moment, state}
use Rattle.cmc_model.specs.Writes.{writes}
use Rattle.cmc_rules.specs.Desks.{asked}
use Rattle.cmc_held.specs.declared.questions.Subject.{Subject}
use Rattle.cmc_held.specs.Questioned.{asks_key_at, asks_issuer_at}
use Rattle.cmc_rules.specs.Positions.{positions}
use Rattle.cmc_rules.specs.Passes.{open_pass, with_stage, stage_given, given}
use Rattle.cmc_rules.specs.Origins.{origins}
use Rattle.cmc_rules.specs.Memory.{past}
use Rattle.cmc_rules.specs.Legality.{IsLegalEntry, IsLegal, IsOpen}
use Rattle.cmc_rules.specs.Causes.{MayAsk, MayGive, IsCausedEntry, IsCaused}
use Rattle.cmc_rules.specs.Scripts.{scripted}
use Rattle.cmc_rules.specs.UserSteps.{owed, FollowsEntry, Follows}
use Rattle.cmc_safety.proofs.MayAct.{asked_short}
use Rattle.cmc_moves.specs.Answers.{kept_at, kept_of, value_entry}
use Rattle.cmc_kernel.specs.Kept.{role_state, Holdings, IsKept}

-- ---- a question

pub kept_asked : (s : Setting) (h : List Entry) (w : Holdings) (n : ℕ) (order : Order) (opened : ℕ → Option OpenPass) (keys answers : Subject → ℕ)
    → IsKept s h w → IsOpen (open_pass s h n) → MayAsk s h (open_pass s h n) order → length h < s.events
    → ((m : ℕ) → opened m ≡ (if m == n then option_map (with_stage (Asked order)) (w.opened m) else w.opened m))
    → ((c : Subject) → keys c ≡ (if asks_key_at c order then w.keys_asked c + 1 else w.keys_asked c))
    → ((c : Subject) → answers c ≡ (if asks_issuer_at c order then w.answers_asked c + 1 else w.answers_asked c))
    → IsKept s (Ask n order ∷ h) (record w { opened = opened; keys_asked = keys; answers_asked = answers })
unfolding IsLegal IsCaused Follows
kept_asked s h w n order opened keys answers k is may room staged keyed answered = record {
  held = record {
    faults = k.held.faults;
    formed = k.held.formed;
    desk = k.held.desk;
    state = k.held.state;
    log = k.held.log;
    moment = k.held.moment;
    made = k.held.made;
    role_state = k.held.role_state;
    told = k.held.told;
    origins = k.held.origins;
    opened = λ m. staged m ∙ ap (λ (o : Option OpenPass). if m == n then option_map (with_stage (Asked order)) o else o) (k.held.opened m);
    past = k.held.past;
    keys_asked = λ c. keyed c ∙ ap (λ (i : ℕ). if asks_key_at c order then i + 1 else i) (k.held.keys_asked c);
    answers_asked = λ c. answered c ∙ ap (λ (i : ℕ). if asks_issuer_at c order then i + 1 else i) (k.held.answers_asked c);
    run = record {
      legal = (is, k.held.run.legal);
      caused = (may, k.held.run.caused);
      follows = (k.settled, k.held.run.follows);
      short = omega (arith, room);
    };
  };
  settled = refl;
}

-- ---- a value

-- the entry of a value leaves all as it was but the pass that it is given to
pub record IsSilent (s : Setting) (h : List Entry) (n : ℕ) (value : Value) (e : Entry) : Type 0 where
  pub legal : IsOpen (open_pass s h n) → IsLegalEntry s h e
  pub caused : MayGive (open_pass s h n) value → IsCausedEntry s h e
  pub follows : owed s h ≡ None → FollowsEntry s h e
  pub settled : owed s (e ∷ h) ≡ None
  pub state : state s (e ∷ h) ≡ state s h
  pub log : writes s (e ∷ h) ≡ writes s h
  pub moment : moment s (e ∷ h) ≡ moment s h
  pub made : scripted (e ∷ h) ≡ scripted h
  pub role_state : (role : Role) → role_state s (e ∷ h) role ≡ role_state s h role
  pub positions : (role : Role) → positions (e ∷ h) role ≡ positions h role
  pub origins : origins s (e ∷ h) ≡ origins s h
  pub opened : (m : ℕ) → open_pass s (e ∷ h) m ≡ given m n value (open_pass s h m)
  pub past : (role : Role) (key : Key) → past s (e ∷ h) role key ≡ past s h role key
  pub asked : (counts : Order → Bool) → asked counts (e ∷ h) ≡ asked counts h

pub silent : (s : Setting) (h : List Entry) (n : ℕ) (value : Value) → IsSilent s h n value (value_entry n value)
silent s h n (Made key) = record { legal = λ x. x; caused = λ x. x; follows = λ x. x; settled = refl; state = refl; log = refl; moment = refl; made = refl; role_state = λ r. refl; positions = λ r. refl; origins = refl; opened = λ m. refl; past = λ r q. refl; asked = λ f. refl }
silent s h n (Signed signature) = record { legal = λ x. x; caused = λ x. x; follows = λ x. x; settled = refl; state = refl; log = refl; moment = refl; made = refl; role_state = λ r. refl; positions = λ r. refl; origins = refl; opened = λ m. refl; past = λ r q. refl; asked = λ f. refl }
silent s h n (Answered answer) = record { legal = λ x. x; caused = λ x. x; follows = λ x. x; settled = refl; state = refl; log = refl; moment = refl; made = refl; role_state = λ r. refl; positions = λ r. refl; origins = refl; opened = λ m. refl; past = λ r q. refl; asked = λ f. refl }
silent s h n (Judged approved) = record { legal = λ x. x; caused = λ x. x; follows = λ x. x; settled = refl; state = refl; log = refl; moment = refl; made = refl; role_state = λ r. refl; positions = λ r. refl; origins = refl; opened = λ m. refl; past = λ r q. refl; asked = λ f. refl }

kept_silent : (s : Setting) (h : List Entry) (w : Holdings) (n : ℕ) (value : Value) (e : Entry) (opened : ℕ → Option OpenPass)
    → IsKept s h w → IsSilent s h n value e → IsOpen (open_pass s h n) → MayGive (open_pass s h n) value → length h < s.events
    → ((m : ℕ) → opened m ≡ given m n value (w.opened m)) → IsKept s (e ∷ h) (record w { opened = opened })
unfolding IsLegal IsCaused Follows
kept_silent s h w n value e opened k q is may room staged = record {
  held = record {
    faults = k.held.faults;
    formed = k.held.formed;
    desk = k.held.desk;
    state = k.held.state ∙ sym q.state;
    log = k.held.log ∙ sym q.log;
    moment = k.held.moment ∙ sym q.moment;
    made = k.held.made ∙ sym q.made;
    role_state = λ r. k.held.role_state r ∙ sym (q.role_state r);
    told = λ r. k.held.told r ∙ sym (q.positions r);
    origins = k.held.origins ∙ sym q.origins;
    opened = λ m. staged m ∙ ap (given m n value) (k.held.opened m) ∙ sym (q.opened m);
    past = λ r key. k.held.past r key ∙ sym (q.past r key);
    keys_asked = λ c. k.held.keys_asked c ∙ sym (q.asked (asks_key_at c));
    answers_asked = λ c. k.held.answers_asked c ∙ sym (q.asked (asks_issuer_at c));
    run = record {
      legal = (q.legal is, k.held.run.legal);
      caused = (q.caused may, k.held.run.caused);
      follows = (q.follows k.settled, k.held.run.follows);
      short = omega (arith, room);
    };
  };
  settled = q.settled;
}

pub kept_given : (s : Setting) (h : List Entry) (w : Holdings) (n : ℕ) (value : Value) (opened : ℕ → Option OpenPass)
    → IsKept s h w → IsOpen (open_pass s h n) → MayGive (open_pass s h n) value → length h < s.events
    → ((m : ℕ) → opened m ≡ given m n value (w.opened m)) → IsKept s (value_entry n value ∷ h) (record w { opened = opened })
kept_given s h w n value opened k is may room staged = kept_silent s h w n value (value_entry n value) opened k (silent s h n value) is may room staged

-- ---- what a pass has then come to

stage_of_given : (stage : Stage) (order : Order) (value : Value) → kept_at stage ≡ Some order → Given order value ≡ stage_given value stage
stage_of_given (Asked asked) order value is = let same : order ≡ asked = cc is in ap (λ (o : Order). Given o value) same
stage_of_given other order value is = absurd (cc is)

pass_given : (order : Order) (value : Value) (o : Option OpenPass) → kept_of o ≡ Some order → option_map (with_stage (Given order value)) o ≡ option_map (λ (q : OpenPass). with_stage (stage_given value q.stage) q) o
pass_given order value None is = refl
pass_given order value (Some p) is = ap (λ (stage : Stage). Some (with_stage stage p)) (stage_of_given p.stage order value is)

given_at : (own : Bool) (m n : ℕ) (order : Order) (value : Value) (o : Option OpenPass) → (m == n) ≡ own → (m ≡ n → kept_of o ≡ Some order)
    → (if own then option_map (with_stage (Given order value)) o else o) ≡ (if own then option_map (λ (q : OpenPass). with_stage (stage_given value q.stage) q) o else o)
given_at true m n order value o is kept = let same : m ≡ n = grind (arith, nat_tests) in pass_given order value o (kept same)
given_at false m n order value o is kept = refl

-- a value that is given to the pass that waits for it
pub staged_given : (s : Setting) (h : List Entry) (w : Holdings) (n : ℕ) (order : Order) (value : Value) (opened : ℕ → Option OpenPass) → IsKept s h w → kept_of (open_pass s h n) ≡ Some order
    → ((m : ℕ) → opened m ≡ (if m == n then option_map (with_stage (Given order value)) (w.opened m) else w.opened m)) → (m : ℕ) → opened m ≡ given m n value (w.opened m)
staged_given s h w n order value opened k kept staged m =
    staged m ∙ given_at (m == n) m n order value (w.opened m) refl (λ same. ap kept_of (k.held.opened m) ∙ ap (λ (i : ℕ). kept_of (open_pass s h i)) same ∙ kept)

-- so many questions can be counted
pub asks_fit : (h : List Entry) (counts : Order → Bool) (n : ℕ) → n ≡ asked counts h → length h ≤ 250000 → n < 2 ^ 64 - 1
asks_fit h counts n is short = let low : asked counts h ≤ length h = asked_short counts h in omega (arith, is, low, short)
