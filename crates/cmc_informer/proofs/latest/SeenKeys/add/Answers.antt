use Rattle.std.proofs.Common.{Bor, List, ap, ◌∙◌, ◌||◌}
use Rattle.cmc_meta.specs.declared.key.Key.{Key}
use Rattle.cmc_meta.specs.Keys.{key_eq}
use Rattle.cmc_informer.specs.Superseded.{has_seen}
use Rattle.cmc_informer.proofs.LastWrites.{seen_more}
use Rattle.cmc_informer.proofs.latest.SeenKeys.add.Goals as goal

pub returns-clause-seen : goal.returns-clause-seen
returns-clause-seen c = λ k.
    seen_more c.self.inside.first c.in-Some.first c.self.inside.others.keys c.insert.new.self.keys c.args.key.now k c.in-Some.is (c.in_ok-is_new.ensures.updates.0 (record { ref_ptr = c.args.key.ref_ptr; now = k }))
    ∙ ap (λ (s : List (Bor Key)). key_eq c.args.key.now k || has_seen s k) c.self.view_is
