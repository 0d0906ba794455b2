use Rattle.std.proofs.Common.{List, ℕ, map, sym, ap, ◌∙◌}
use Rattle.cmc_match.proofs.NameLaws.{dns_alone}
use Rattle.cmc_match.proofs.names.has_alternative.Goals as goal

pub returns-then-just : goal.returns-then-just
returns-then-just c =
    sym (dns_alone c.args.spec.now c.args.alternative.now (sym c.asks_for_dns_names_alone.ensures ∙ c.if-asks_for_dns_names_alone.true)
    (c.are_just-just.ensures c.if-just.true ∙ ap (λ (texts : List (List ℕ)). map (λ text. (130, text)) texts) c.as_slice.ensures))
