use Rattle.std.proofs.Common.{◌∙◌, ap, reverse, rules, List, ℤ}
use Rattle.std.proofs.lemmas.Int.{to_z-of_z}
use Rattle.std.specs.Int.{w64}
use Rattle.cmc_objects.specs.declared.entry.Entry.{Entry}
use Rattle.cmc_history.specs.declared.standing.Standing.{Standing}
use Rattle.cmc_history.specs.Replays.{replayed}
use Rattle.cmc_history.proofs.Versions.{replayed_object}
use Rattle.cmc_history.proofs.history.History.at_version.Goals as goal

pub returns : goal.returns
returns c = λ s begins.
    ap (λ (standing : Standing). standing.object) c.in_ok-object.ensures
    ∙ ap (λ (now : ℤ). (replayed now c.args.position c.args.key.now (reverse c.as_slice.result.now)).object) (to_z-of_z w64 c.args.now (search rules))
    ∙ ap (λ (entries : List Entry). (replayed c.args.now c.args.position c.args.key.now entries).object) c.as_slice.ensures
    ∙ replayed_object s c.args.now c.args.self.now.entries c.args.position c.args.key.now begins
