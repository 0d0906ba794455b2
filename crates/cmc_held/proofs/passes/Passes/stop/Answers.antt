use Rattle.std.proofs.Common.{rules}
use Rattle.std.proofs.lemmas.Map.Made.{filter_same_pairs}
use Rattle.cmc_held.proofs.OpenOnes.{is_of_other, others_left}
use Rattle.cmc_held.proofs.passes.Passes.stop.Goals as goal

pub returns : goal.returns
returns c =
    let kept = filter_same_pairs _ (λ e. is_of_other c.args.role e.1) _ (λ k v b w f' t. search rules) _ _ c.retain.ensures.filtered in
    rw (← c.self.view_is, kept) (others_left c.args.role c.self.inside.map.entries c.retain.ensures.was_ordered)
