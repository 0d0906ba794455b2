use Rattle.std.proofs.Common.{◌≡◌, ap, Some}
use Rattle.cmc_model.specs.Replies.{is_accepted, key_of_call, settled}
use Rattle.cmc_store.specs.Kept.{Kept}
use Rattle.cmc_collector.proofs.ByVersion.{accepts, counted_on, tied_more}
use Rattle.cmc_collector.proofs.watched.WatchedStore.call.Goals as goal

pub invariant_of-self-in-Some : goal.invariant_of-self-in-Some
invariant_of-self-in-Some c =
    let some : c.in_ok-reply.field-0.key ≡ Some c.in-Some.key = cc in
    let on = accepts (is_accepted c.in_ok-reply.field-0.reply) c.in-Some.key (key_of_call (settled c.args.call.now c.in_ok-reply.field-0.reply)) c.in_ok-reply.field-0.key c.in_ok-reply.ensures.key some in
    let one = counted_on (is_accepted c.in_ok-reply.field-0.reply) c.self.inside.store.state.accepted c.call.new.self.state.accepted on (ap (λ (s : Kept). s.state.accepted) c.in_ok-reply.ensures.after) in
    tied_more c.self.inside.newest c.with_newest-self-inside.result c.self.inside.store.state c.call.new.self.state c.self.inside.watch.writes c.push.new.self.writes _ c.accepted-version.result
    c.self.invariant one (rw c.in_ok-reserve.ensures.writes at c.push.ensures.writes) c.accepted-version.ensures c.with_newest-self-inside.ensures
