use Rattle.std.proofs.Common.{ℤ, ap, subst, ◌∙◌, rules, w64}
use Rattle.std.proofs.lemmas.Int.{to_z-of_z}
use Rattle.cmc_pass.specs.declared.pass.Act.{Act}
use Rattle.cmc_rules.specs.Acts as acts
use Rattle.cmc_moves.specs.Prospects.{IsProspect}
use Rattle.cmc_moves.proofs.acts.prospect_of.Goals as goal

pub returns-in_ok-act_of-in_default : goal.returns-in_ok-act_of-in_default
returns-in_ok-act_of-in_default c =
    subst (λ (a : Act). IsProspect c.args.role a c.built.result)
    (c.in_ok-act_of-in_default.ensures ∙ ap (λ (m : ℤ). acts.act c.args.role c.args.seen.now m c.args.desk.now) (to_z-of_z w64 c.args.now (search rules)))
    (c.built.ensures c.args.role)
