-- What a world holds where room was made, and nothing else has changed.
use Rattle.std.proofs.Common.{◌≡◌, ℕ, List, Option, sym, subst, ◌∙◌}
use Rattle.cmc_meta.specs.declared.key.Key.{Key}
use Rattle.cmc_objects.specs.declared.role.Role.{Role}
use Rattle.cmc_objects.specs.declared.entry.Entry.{Entry}
use Rattle.cmc_model.specs.Histories.{Setting}
use Rattle.cmc_model.specs.Replies.{State}
use Rattle.cmc_rules.specs.declared.progress.OpenPass.{OpenPass}
use Rattle.cmc_rules.specs.declared.progress.Origin.{Origin}
use Rattle.cmc_rules.specs.declared.progress.Past.{Past}
use Rattle.cmc_kernel.specs.Kept.{Holdings, IsKept}

-- each part is what it was
pub kept_spare : (s : Setting) (h k : List Entry) (w : Holdings) (faults : List ℕ) (st : State) (os : List Origin) (opened : ℕ → Option OpenPass) (pasts : Role → Key → Past)
    → IsKept s h w → k ≡ h → faults ≡ w.faults → st ≡ w.state → os ≡ w.origins → ((n : ℕ) → opened n ≡ w.opened n) → ((r : Role) (q : Key) → pasts r q ≡ w.past r q)
    → IsKept s k (record w { faults = faults; state = st; origins = os; opened = opened; past = pasts })
kept_spare s h k w faults st os opened pasts kept same f t o p q =
    subst (λ (x : List Entry). IsKept s x (record w { faults = faults; state = st; origins = os; opened = opened; past = pasts })) (sym same)
    (record {
      held = record {
        faults = f ∙ kept.held.faults;
        state = t ∙ kept.held.state;
        log = kept.held.log;
        moment = kept.held.moment;
        made = kept.held.made;
        role_state = kept.held.role_state;
        told = kept.held.told;
        origins = o ∙ kept.held.origins;
        opened = λ n. p n ∙ kept.held.opened n;
        past = λ r key. q r key ∙ kept.held.past r key;
        keys_asked = kept.held.keys_asked;
        answers_asked = kept.held.answers_asked;
        desk = kept.held.desk;
        run = kept.held.run;
        formed = kept.held.formed;
      };
      settled = kept.settled;
    })
