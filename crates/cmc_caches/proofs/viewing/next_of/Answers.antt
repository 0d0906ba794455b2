use Rattle.std.proofs.Common.{List, ap, ◌∙◌}
use Rattle.std.proofs.lemmas.Result.{IfOk-weaker}
use Rattle.std.specs.Prelude.{filter_map, option_and_then}
use Rattle.cmc_meta.specs.declared.key.Key.{Key}
use Rattle.cmc_model.specs.Objects.{object_at}
use Rattle.cmc_rules.specs.Views.{next_in}
use Rattle.cmc_caches.proofs.Owners.{next_by_keys}
use Rattle.cmc_caches.specs.Board.{shown_by}
use Rattle.cmc_caches.proofs.viewing.next_of.Goals as goal

pub returns : goal.returns
returns c =
    IfOk-weaker c.next_under.result _ _
    (λ found is.
    is ∙ ap (λ (ks : List Key). filter_map (λ k. option_and_then (next_in c.args.certificate.now) (object_at (shown_by c.args.objects.now) k)) ks) c.as_slice.ensures
    ∙ next_by_keys (shown_by c.args.objects.now) c.args.certificate.now c.in_ok-keys.keys c.in_ok-keys.ensures)
    c.next_under.ensures
