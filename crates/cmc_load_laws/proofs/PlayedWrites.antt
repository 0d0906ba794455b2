-- What holds of the accepted writes of a run, carried over those of users and over those of passes.
use Rattle.std.proofs.Common.{◌≡◌, ℕ, List, [], ◌∷◌, Some, true}
use Rattle.cmc_objects.specs.declared.call.Call.{Call}
use Rattle.cmc_objects.specs.declared.call.Reply.{Reply}
use Rattle.cmc_objects.specs.declared.entry.Who.TheVariants.{User, Pass}
use Rattle.cmc_objects.specs.declared.entry.Entry.{Entry}
use Rattle.cmc_objects.specs.declared.entry.Entry.TheVariants.{Call as Called}
use Rattle.cmc_model.specs.declared.write.Write.{Write}
use Rattle.cmc_model.specs.Replies.{IsReply, is_accepted}
use Rattle.cmc_model.specs.Histories.{Setting, state}
use Rattle.cmc_model.specs.Writes.{writes}
use Rattle.cmc_rules.specs.declared.effect.Effect.TheVariants as effects
use Rattle.cmc_rules.specs.UserSteps.{owed, Follows}
use Rattle.cmc_rules.specs.Legality.{IsLegal}
use Rattle.cmc_safety.proofs.Carried.{newest, where_accepted}
use Rattle.cmc_safety.proofs.InProgress.{IsPlayed, played_below}

-- what is true of no writes stays so over each accepted write; of a pass its whole entry is known
pub record IsCarriedOn (s : Setting) (T : List Write → Type 0) : Type 0 where
  pub none : T []
  pub user : (h : List Entry) (call : Call) (reply : Reply) → IsPlayed s h → IsReply s.faults (state s h) call reply → owed s h ≡ Some (effects.Call call) → is_accepted reply ≡ true
      → T (writes s h) → T (newest s h call reply ∷ writes s h)
  pub pass : (h : List Entry) (m : ℕ) (call : Call) (reply : Reply) → IsPlayed s (Called (Pass m) call reply ∷ h) → is_accepted reply ≡ true → T (writes s h) → T (newest s h call reply ∷ writes s h)

pub carried_on : (T : List Write → Type 0) (s : Setting) → IsCarriedOn s T → (h : List Entry) → IsPlayed s h → T (writes s h)
unfolding IsLegal Follows
carried_on T s is [] o = is.none
carried_on T s is (Called User call reply ∷ h) o =
    let below = played_below s (Called User call reply) h o in
    where_accepted T (is_accepted reply) (newest s h call reply) (writes s h) (λ ok before. is.user h call reply below o.legal.0.0 o.follows.0 ok before) (carried_on T s is h below)
carried_on T s is (Called (Pass m) call reply ∷ h) o =
    let below = played_below s (Called (Pass m) call reply) h o in
    where_accepted T (is_accepted reply) (newest s h call reply) (writes s h) (λ ok before. is.pass h m call reply o ok before) (carried_on T s is h below)
carried_on T s is (other ∷ h) o = carried_on T s is h (played_below s other h o)
