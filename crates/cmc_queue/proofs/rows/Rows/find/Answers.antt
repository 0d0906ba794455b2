use Rattle.std.proofs.Common.{ap, sym, ◌∙◌, Some}
use Rattle.std.proofs.lemmas.Map.Made.{lookup_key_passes}
use Rattle.cmc_meta.specs.declared.key.Key.{Key}
use Rattle.cmc_meta.specs.Keys.{key_eq}
use Rattle.cmc_queue.proofs.OneRow.{same_by_test}
use Rattle.cmc_queue.proofs.rows.Rows.find.Goals as goal

pub returns-in-Some-clause-at : goal.returns-in-Some-clause-at
returns-in-Some-clause-at c =
    let same = same_by_test c.args.key.now c.in-Some._key.now (lookup_key_passes (key_eq c.args.key.now) c.self.inside.map.entries c.in-Some._key.now (sym c.in-Some.ensures.key)) in
    rw (← c.self.view_is) (c.in-Some.ensures.entry ∙ ap (λ (k : Key). Some (k, c.in-Some.row.now)) (sym same))
