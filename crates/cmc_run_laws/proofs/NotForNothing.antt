-- No pass begins for nothing.
use Rattle.std.proofs.Common.{◌≡◌, ◌⊎◌, ℕ, ℤ, ◌<◌, ◌≤◌, ◌^◌, ◌++◌, List, [], ◌∷◌, length, sym, subst, inl, inr, arith}
use Rattle.std.specs.Prelude.{true}
use Rattle.cmc_objects.specs.declared.entry.Entry.{Entry}
use Rattle.cmc_objects.specs.declared.entry.Entry.TheVariants.{Begin}
use Rattle.cmc_objects.specs.Requests.{is_run_time}
use Rattle.cmc_model.specs.Histories.{Setting}
use Rattle.cmc_rules.specs.Causes.{IsCaused}
use Rattle.cmc_rules.specs.UserSteps.{Follows}
use Rattle.cmc_rules.specs.Legality.{IsLegal}
use Rattle.cmc_rules.specs.Runs.{IsRun}
use Rattle.cmc_rules.specs.Safety.{HasEntry}
use Rattle.cmc_rules.specs.Views.{views}
use Rattle.cmc_model.specs.Writes.{writes}
use Rattle.cmc_rules.proofs.Positions.{accepted_short}
use Rattle.cmc_rules.proofs.Sighted.{views_known}
use Rattle.cmc_safety.specs.Formed.{IsFormed}
use Rattle.cmc_safety.proofs.Completing.{caused_below, legal_below}
use Rattle.cmc_safety.proofs.Moments.{moment_in_run}
use Rattle.cmc_run_laws.specs.Begins.{BeginsForSomething, IsReason}
use Rattle.cmc_run_laws.proofs.InOrder.{all_in_order, sees_in_order}
use Rattle.cmc_run_laws.proofs.NeverIdle.{never_idle}
use Rattle.cmc_run_laws.proofs.RunningAlone.{NamesLaw}
use Rattle.cmc_run_laws.proofs.SinceBegin.{Begun, HasFreeNames, IsSinceOrStopped, none_begins, reason_or_still, since_begin}
use Rattle.cmc_run_laws.proofs.TablesChange.{SeesInOrder}

follows_below : (s : Setting) (k base : List Entry) → Follows s (k ++ base) → Follows s base
unfolding Follows
follows_below s [] base follows = follows
follows_below s (e ∷ k) base follows = follows_below s k base follows.1

short_below : (k base : List Entry) (n : ℕ) → length (k ++ base) ≤ n → length base ≤ n
short_below [] base n short = short
short_below (e ∷ k) base n short = short_below k base n (omega (arith, short))

few : (n : ℕ) → n ≤ 250000 → n < 2 ^ 64
few n low = omega (arith, low)

free_names : NamesLaw → (s : Setting) → IsFormed s → HasFreeNames s
free_names names s formed h short object reply right =
    let low = formed.short in
    names s h (few _ (omega (arith, accepted_short s h, short, low))) object reply right

pub not_for_nothing : NamesLaw → (s : Setting) (whole : List Entry) → IsFormed s → IsRun s whole → BeginsForSomething whole
unfolding IsLegal IsCaused Follows
not_for_nothing names s whole formed run l k h n m role key at was now since is none =
    let base : List Entry = Begin m role key was since ∷ h in
    let top : List Entry = Begin n role key at now ∷ (k ++ base) in
    let legal : IsLegal s top = legal_below s l top (subst (IsLegal s) is run.legal) in
    let caused : IsCaused s top = caused_below s l top (subst (IsCaused s) is run.caused) in
    let follows : Follows s top = follows_below s l top (subst (Follows s) is run.follows) in
    let short : length top ≤ s.events = short_below l top s.events (subst (λ (g : List Entry). length g ≤ s.events) is run.short) in
    let first : IsLegal s base = legal_below s k base legal.1 in
    let b : Begun = record { pass = m; role = role; key = key; at = was; seen = views s h role key; since = since } in
    let before : Follows s h = (follows_below s k base follows.1).1 in
    let in_run : is_run_time since ≡ true = subst (λ (t : ℤ). is_run_time t ≡ true) (sym first.0.present) (moment_in_run s h formed before) in
    let in_order : SeesInOrder (views s h role key) = sees_in_order (writes s h) (views s h role key) (all_in_order s h (caused_below s k base caused.1).1 before) (views_known s h role key) in
    by legal caused (reason_or_still s base b k (free_names names s formed) (never_idle s b in_run in_order) legal.1 caused.1 (omega (arith, short)) none (since_begin s h m role key was since first.0)) where
      by : IsLegal s (Begin n role key at now ∷ (k ++ (Begin m role key was since ∷ h))) → IsCaused s (Begin n role key at now ∷ (k ++ (Begin m role key was since ∷ h)))
          → HasEntry (IsReason role m) k ⊎ IsSinceOrStopped s (k ++ (Begin m role key was since ∷ h)) (record { pass = m; role = role; key = key; at = was; seen = views s h role key; since = since })
          → HasEntry (IsReason role m) k
      by legal caused (inl stands) = stands
      by legal caused (inr still) =
          absurd (none_begins s (k ++ (Begin m role key was since ∷ h)) (record { pass = m; role = role; key = key; at = was; seen = views s h role key; since = since }) n at now legal.0 caused.0 still)
