use Rattle.std.proofs.Common.{◌≡◌, ap, sym, true, ◌∙◌}
use Rattle.std.proofs.lemmas.Result.{on_ok_weaker}
use Rattle.std.specs.Option.{option_copied_mut}
use Rattle.std.specs.Prelude.{◌&&◌, if◌then◌else◌}
use Rattle.cmc_meta.specs.declared.key.Key.{Key}
use Rattle.cmc_meta.specs.Keys.{key_eq}
use Rattle.cmc_informer.specs.Indexes.{points}
use Rattle.cmc_informer.proofs.Leading.{mark_led}
use Rattle.cmc_informer.proofs.targets.Targets.add.Goals as goal
use Rattle.cmc_informer.proofs.targets.Targets.add.Goals.{in-Some, in-None}

pub returns-clause-ok : goal.returns-clause-ok
returns-clause-ok c =
    let same : (s k : Key) → points c.self.inside.map.entries s k ≡ points c.args.self.now s k = rw c.self.view_is c.in_ok-row.ensures in
    elim c.match-get_mut.branch [
      | in-Some w ↦ rw (w.result-is, w.self-inside-is) (on_ok_weaker w.add.result (λ set s k.
          mark_led c.self.inside.map (c.get_mut.follows.lender w.add.new.self) c.args.secret.now c.args.key.now w.in-Some.marks.now w.add.new.self (sym c.get_mut.ensures.value ∙ ap option_copied_mut w.in-Some.is) (c.get_mut.follows.holds w.add.new.self) set s k
          ∙ ap (λ b. if key_eq c.args.secret.now s && key_eq c.args.key.now k then true else b) (same s k)) w.add.ensures.ok)
      | in-None w ↦ rw w.result-is tt
    ]
