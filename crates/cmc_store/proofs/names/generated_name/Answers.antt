use Rattle.std.proofs.Common.{List, ℕ, ap, ◌∙◌}
use Rattle.cmc_model.specs.Generated as spec
use Rattle.cmc_store.proofs.Labels.{joined_is}
use Rattle.cmc_store.proofs.names.generated_name.Goals as goal

pub name_of_bytes-requires : goal.name_of_bytes-requires
name_of_bytes-requires c =
    joined_is _ _ _ c.args.name.now c.args.number c.as_str-text.ensures.form (c.as_slice-2.ensures.value ∙ c.in_ok-bytes.ensures)
    (c.in_ok-prefix.ensures ∙ ap (λ (l : List ℕ). spec.prefix l) (c.as_bytes.ensures.value ∙ c.as_str-text.ensures.value))
    (c.as_slice.ensures.value ∙ c.in_ok-suffix.ensures)
