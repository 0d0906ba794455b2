use Rattle.std.proofs.Common.{◌≡◌, ap, subst, ◌∙◌, None}
use Rattle.std.specs.List.{position_or_len}
use Rattle.std.specs.Map.{keys_of, lookup}
use Rattle.indexmap.specs.IndexMap.{insert_entry, move_index}
use Rattle.cmc_meta.specs.declared.key.Key.{Key}
use Rattle.cmc_meta.specs.Keys.{key_eq}
use Rattle.cmc_queue.specs.declared.row.Row.{Row}
use Rattle.cmc_queue.specs.Spots.{IsPutIn}
use Rattle.cmc_queue.proofs.OneRow.{none_from_test}
use Rattle.cmc_queue.proofs.RowOrder.{put_in_by_search}
use Rattle.cmc_queue.proofs.rows.put_in.Goals as goal

pub returns-in-Ok-clause-put : goal.returns-in-Ok-clause-put
returns-in-Ok-clause-put c =
    let es = c.args.map.now.entries in
    let key = c.in_ok-key.key in
    let none : lookup (key_eq key) es ≡ None = ap (λ (k : Key). lookup (key_eq k) es) c.in_ok-key.ensures ∙ none_from_test _ c.requires in
    let at = c.in-Ok.ensures.index in
    subst (λ (k : Key). IsPutIn es c.insert_sorted.new.self.entries k c.in-Ok.at) c.in_ok-key.ensures
    (put_in_by_search es c.insert_sorted.new.self.entries key at.0 c.in-Ok.at none at.1.0 at.2
    (c.in-Ok.ensures.entries ∙ ap (λ (r : Row). move_index (insert_entry key_eq es key r) (position_or_len (key_eq key) (keys_of es)) c.in-Ok.at) c.new.ensures))
