-- An open pass is of the present incarnation of its role.
use Rattle.std.proofs.Common.{◌≡◌, ◌==◌, ℕ, List, Some, None, Bool, true, false, refl, sym, ap, subst, ◌∙◌, arith}
use Rattle.std.proofs.lemmas.Bool.Decides.{nat_tests, Decides-eqb}
use Rattle.std.specs.Prelude.{◌&&◌, if◌then◌else◌}
use Rattle.cmc_objects.specs.declared.entry.Entry.{Entry}
use Rattle.cmc_model.specs.Histories.{Setting, incarnation}
use Rattle.cmc_rules.specs.declared.progress.OpenPass.{OpenPass}
use Rattle.cmc_rules.specs.Legality.{IsOpen}
use Rattle.cmc_rules.specs.Origins.{begun}
use Rattle.cmc_rules.specs.Passes.{open_pass}
use Rattle.cmc_rules.specs.Runs.{IsRun}
use Rattle.cmc_setup.specs.Setups.{Setup, IsOrderlyFrom}
use Rattle.cmc_kernel.specs.Kept.{setting_of}
use Rattle.cmc_moves.specs.Answers.{outdated, outdated_at}
use Rattle.cmc_world.specs.Next.{IsNewestPass}
use Rattle.cmc_kernel.specs.Plain.{IsOfPresent}
use Rattle.cmc_world.proofs.Starting.{present_origin_stands}
use Rattle.cmc_world.proofs.Switches.{starts_stopped}
use Rattle.cmc_world.proofs.Making.{ArePresent}

not_outdated_by : (n : ℕ) (same : Bool) → (n == n) ≡ same → (if same && same then None else Some n) ≡ None
not_outdated_by n true is = refl
not_outdated_by n false is = absurd (grind (arith, nat_tests))

not_outdated : (n : ℕ) → outdated_at n n n ≡ None
not_outdated n = not_outdated_by n (n == n) refl

-- in the runs of an orderly script
pub open_present : (u : Setup) (h : List Entry) → IsOrderlyFrom u.roles u.script → IsRun (setting_of u) h → ArePresent (setting_of u) h
open_present u h orderly run n p open_here =
    let s = setting_of u in
    ap (outdated s h (incarnation s h p.role)) (present_origin_stands s h n p (starts_stopped u h orderly run.follows) run.legal open_here) ∙ not_outdated (incarnation s h p.role)

-- the newest pass, which is open and of the incarnation that is named
pub newest_is : (s : Setting) (h : List Entry) (pass named present : ℕ) (p : OpenPass) → pass ≡ begun s h → open_pass s h pass ≡ Some p → present ≡ incarnation s h p.role → (present == named) ≡ true → IsNewestPass s h pass named
newest_is s h pass named present p newest opened is same = record {
  newest = newest;
  stands = subst IsOpen (sym opened) tt;
  present = subst (IsOfPresent s h named) (sym opened) (sym ((Decides-eqb present named).0 same) ∙ is);
}
