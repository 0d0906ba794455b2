use Rattle.std.proofs.Common.{◌≤◌, ◌<◌, ◌-◌, ◌∙◌, ℕ, ap, sym, subst, arith, length, List}
use Rattle.cmc_objects.specs.declared.entry.Positions.{Positions}
use Rattle.cmc_model.specs.declared.write.Write.{Write}
use Rattle.cmc_setup.specs.Setups.{Setup}
use Rattle.cmc_rules.specs.Positions.{position_of}
use Rattle.cmc_kernel.specs.Kept.{setting_of}
use Rattle.cmc_world.proofs.Affecting.{lists_all, not_news, reaches_back}
use Rattle.cmc_world.proofs.fed_deliveries.reach.Goals as goal

pub returns-then-to-from : goal.returns-then-to-from
returns-then-to-from c =
    not_news (setting_of c.args.kernel.now.scenario) c.args.kernel.now.history c.args.role c.args.kind c.args.to c.at_kind-from.result c.accepted-accepted.result (sym c.has_informer.ensures ∙ c.if-not-has_informer.false)
    (c.at_kind-from.ensures ∙ ap (λ (p : Positions). position_of c.args.kind p) c.told.ensures) (c.accepted-accepted.ensures ∙ ap (λ (ws : List Write). length ws) c.log.ensures) c.then-to-from.either

pub returns-then-accepted-from : goal.returns-then-accepted-from
returns-then-accepted-from c =
    reaches_back (setting_of c.args.kernel.now.scenario) c.args.kernel.now.history c.args.role c.args.kind c.args.to c.at_kind-from.result c.accepted-accepted.result (sym c.has_informer.ensures ∙ c.if-not-has_informer.false)
    (c.at_kind-from.ensures ∙ ap (λ (p : Positions). position_of c.args.kind p) c.told.ensures) (c.accepted-accepted.ensures ∙ ap (λ (ws : List Write). length ws) c.log.ensures) c.if-to-from.false c.if-accepted-to.false
    (subst (λ (n : ℕ). c.accepted-accepted.result - c.at_kind-from.result ≤ n) (c.window.ensures ∙ ap (λ (u : Setup). u.window) c.scenario.ensures) c.if-accepted-from.true)

pub returns-else-accepted-from : goal.returns-else-accepted-from
returns-else-accepted-from c =
    let far = subst (λ (n : ℕ). n < c.accepted-accepted.result - c.at_kind-from.result) (c.window.ensures ∙ ap (λ (u : Setup). u.window) c.scenario.ensures) c.if-accepted-from.false in
    lists_all (setting_of c.args.kernel.now.scenario) c.args.kernel.now.history c.args.role c.args.kind c.args.to c.at_kind-from.result c.accepted-accepted.result (sym c.has_informer.ensures ∙ c.if-not-has_informer.false)
    (c.at_kind-from.ensures ∙ ap (λ (p : Positions). position_of c.args.kind p) c.told.ensures) (c.accepted-accepted.ensures ∙ ap (λ (ws : List Write). length ws) c.log.ensures) c.if-to-from.false c.if-accepted-to.false
    (λ near. absurd (omega (arith, near, far)))
