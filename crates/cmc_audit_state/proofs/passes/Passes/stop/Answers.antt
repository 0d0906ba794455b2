use Rattle.std.proofs.Common.{rules}
use Rattle.std.proofs.lemmas.Map.Made.{filter_same_pairs}
use Rattle.cmc_audit_state.proofs.Filing.{filed_still, is_of_other, others_left, tasks_stopped}
use Rattle.cmc_audit_state.proofs.passes.Passes.stop.Goals as goal

pub invariant_of-self : goal.invariant_of-self
invariant_of-self c =
    let kept = filter_same_pairs _ (λ e. is_of_other c.args.role e.1) _ (λ k v b w f' t. search rules) _ _ c.retain.ensures.filtered in
    filed_still _ c.self.inside.rows.entries _ _ (tasks_stopped c.args.role c.self.inside.rows.entries _ (λ n. rw kept (others_left c.args.role c.self.inside.rows.entries c.retain.ensures.was_ordered n))) c.self.invariant

pub returns-clause-rows : goal.returns-clause-rows
returns-clause-rows c =
    let kept = filter_same_pairs _ (λ e. is_of_other c.args.role e.1) _ (λ k v b w f' t. search rules) _ _ c.retain.ensures.filtered in
    rw (← c.self.view_is, kept) (others_left c.args.role c.self.inside.rows.entries c.retain.ensures.was_ordered)
