use Rattle.std.proofs.Common.{ℕ, true, cond, ap, ◌∙◌}
use Rattle.std.specs.Ordering.{is_eq, nat_cmp, ordering_then}
use Rattle.cmc_meta.specs.declared.key.Key.{Key}
use Rattle.cmc_meta.specs.Keys.{key_cmp}
use Rattle.cmc_audit_state.specs.Heard.{has_yes_on, is_same_version}
use Rattle.cmc_audit_state.proofs.Adding.{told_more}
use Rattle.cmc_audit_state.proofs.yeses.Yeses.add.Goals as goal

pub returns-clause-ok : goal.returns-clause-ok
unfolding has_yes_on
returns-clause-ok c =
    rw (← c.self.view_is) (λ v.
    c.in_ok-insert.ensures.updates.0 (v.number, v.key)
    ∙ ap (λ (n : ℕ). cond (is_eq (ordering_then (nat_cmp n v.number) (key_cmp c.into_parts.result.1 v.key))) true (has_yes_on c.self.inside.set.keys v)) c.into_parts.ensures.number
    ∙ ap (λ (k : Key). cond (is_eq (ordering_then (nat_cmp c.args.version.number v.number) (key_cmp k v.key))) true (has_yes_on c.self.inside.set.keys v)) c.into_parts.ensures.key
    ∙ told_more (is_same_version c.args.version v) (has_yes_on c.self.inside.set.keys v))
