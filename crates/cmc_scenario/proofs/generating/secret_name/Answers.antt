use Rattle.std.proofs.Common.{◌≡◌, ℕ, List, true, sym, subst, ◌∙◌}
use Rattle.cmc_meta.specs.Names.{is_subdomain}
use Rattle.cmc_scenario.proofs.LoadLaws.{secret_is_name}
use Rattle.cmc_scenario.proofs.generating.secret_name.Goals as goal

pub named-requires : goal.named-requires
named-requires c = subst (λ (t : List ℕ). is_subdomain t ≡ true) (sym (c.as_str.ensures.value ∙ c.in_ok-text.ensures)) (secret_is_name c.args.number c.requires)
