use Rattle.std.proofs.Common.{◌<◌, ◌∙◌, List, ap, subst}
use Rattle.std.specs.Prelude.{◌↔◌, IsTrue}
use Rattle.cmc_model.specs.declared.write.Write.{Write}
use Rattle.cmc_model.specs.Writes.{last_of_kind, write_at}
use Rattle.cmc_rules.specs.Legality.{IsOfKind}
use Rattle.cmc_kernel.specs.Kept.{Seen, on}
use Rattle.cmc_moves.specs.Answers.{AnswersDelivery}
use Rattle.cmc_kernel.proofs.Judging.{judged_delivery}
use Rattle.cmc_kernel.proofs.kernel.Kernel.judge_delivery.Goals as goal

pub returns : goal.returns
returns c =
    subst (λ (v : Seen). on AnswersDelivery v c.args.role c.args.kind c.args.to c.answer_delivery.result) c.self.view_is
    (judged_delivery _ _ _ c.args.role c.args.kind c.args.to c.get-standing.result c.told_of-position.result c.last_of_kind-newest.result c.len-entries.result c.events.result c.has_informer.result c.is_held.result c.is_news-news.result c.has_room-room.result c.answer_delivery.result
    c.self.invariant c.get-standing.ensures c.told_of-position.ensures (c.last_of_kind-newest.ensures ∙ ap (last_of_kind c.args.kind) c.log-log.ensures.writes) (subst (λ (ws : List Write). IsTrue c.is_news-news.result ↔ ((c.told_of-position.result < c.args.to) × IsOfKind c.args.kind (write_at c.args.to ws))) c.log-log.ensures.writes c.is_news-news.ensures) c.len-entries.ensures c.events.ensures.value c.has_room-room.ensures c.has_informer.ensures c.is_held.ensures c.answer_delivery.ensures)
