use Rattle.std.proofs.Common.{◌≡◌, List, rules, sym, subst}
use Rattle.cmc_meta.specs.declared.key.Key.{Key}
use Rattle.cmc_informer.specs.Indexes.{AreKeys, mark_in, on_keys}
use Rattle.cmc_informer.proofs.OneMark.{keys_are}
use Rattle.cmc_informer.proofs.mark_map.MarkMap.keys.Goals as goal

pub returns : goal.returns
returns c =
    let all : c.loop-key.keys ≡ on_keys c.args.self.now = search rules in
    subst (λ (ks : List Key). AreKeys ks (λ k. mark_in c.args.self.now k)) (sym all) (rw (← c.self.view_is) (keys_are c.self.inside.map.entries c.iter-key-items.ensures.ordered))
