use Rattle.std.proofs.Common.{refl, sym, ap, ◌∙◌}
use Rattle.cmc_meta.specs.Keys.{key_eq}
use Rattle.cmc_collector.specs.Caches.{informer_object}
use Rattle.cmc_collector.specs.CachePositions.{has_any_owner}
use Rattle.cmc_collector.specs.Rows.{has_examine_row}
use Rattle.cmc_collector.proofs.Looping.{given_up}
use Rattle.cmc_collector.proofs.rows.give_up_row.Goals as goal

pub returns-clause-keeps : goal.returns-clause-keeps
returns-clause-keeps c = λ k on has.
    given_up (key_eq c.args.key.now k) (λ q. has_any_owner (informer_object c.args.caches.now q)) c.args.key.now k (has_examine_row c.args.rows.now k) (has_examine_row c.remove.new.self k) refl (sym (ap has_any_owner c.get-2.ensures) ∙ sym c.is_owned.ensures ∙ c.if-is_owned.false) on (c.remove.ensures.keeps k) has
