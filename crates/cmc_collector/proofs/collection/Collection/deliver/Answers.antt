use Rattle.std.proofs.Common.{◌≡◌, ◌<◌, List, None, length, ap, subst, sym, arith}
use Rattle.cmc_model.specs.declared.write.Write.{Write}
use Rattle.cmc_collector.specs.declared.entry.Moment.{Moment}
use Rattle.cmc_collector.specs.Kept.{IsCollectorOf}
use Rattle.cmc_collector.specs.Moves.{lack_of_delivery}
use Rattle.cmc_collector.specs.Replays.{Collecting, on}
use Rattle.cmc_collector.proofs.Reading.{count_is, held_covered}
use Rattle.cmc_collector.proofs.Seeing.{delivered_seen, may_tell, room_in, seen}
use Rattle.cmc_collector.proofs.collection.Collection.deliver.Goals as goal

pub tell_with_rows-requires-clause-within : goal.tell_with_rows-requires-clause-within
tell_with_rows-requires-clause-within c =
    let may = subst (λ (v : Collecting). on (lack_of_delivery c.args.kind c.args.to) v ≡ None) (sym c.self.view_is) c.requires.may in
    let within = (may_tell (seen c.self.inside.server c.self.inside.events c.self.inside.entries.moments) c.args.kind c.args.to may).1 in
    let count = count_is (seen c.self.inside.server c.self.inside.events c.self.inside.entries.moments) c.self.inside.server c.self.inside.caches c.self.inside.rows c.self.invariant in
    let size = ap (λ (ws : List Write). length ws) c.watch.ensures.writes in
    omega (arith, within, count, size)

pub tell_with_rows-requires-clause-covered : goal.tell_with_rows-requires-clause-covered
tell_with_rows-requires-clause-covered c = held_covered _ _ _ _ c.self.invariant

pub invariant_of-self-4 : goal.invariant_of-self-4
invariant_of-self-4 c =
    let kept = subst (λ (ns : List Moment). IsCollectorOf (seen c.self.inside.server c.self.inside.events ns) c.self.inside.server c.self.inside.caches c.self.inside.rows) (sym c.in_ok-reserve.ensures.same) c.self.invariant in
    let may = subst (λ (ns : List Moment). on (lack_of_delivery c.args.kind c.args.to) (seen c.self.inside.server c.self.inside.events ns) ≡ None) (sym c.in_ok-reserve.ensures.same)
    (subst (λ (v : Collecting). on (lack_of_delivery c.args.kind c.args.to) v ≡ None) (sym c.self.view_is) c.requires.may) in
    let room = subst (λ (ns : List Moment). length ns < c.self.inside.events) (sym c.in_ok-reserve.ensures.same) (room_in c.self.inside.events c.self.inside.server c.self.inside.entries.moments _ c.self.view_is c.requires.room) in
    delivered_seen c.self.inside.events c.self.inside.server c.self.inside.caches c.tell_with_rows.new.caches c.self.inside.rows c.tell_with_rows.new.rows c.watch.result.now c.reserve.new.self.moments c.push.new.self.moments _ c.args.kind c.args.to
    c.told-entry.result kept may c.told-entry.ensures c.push.ensures room c.watch.ensures.writes c.watch.ensures.window c.in_ok-tell_with_rows.ensures.told c.in_ok-tell_with_rows.ensures.moved
    c.tell_with_rows.ensures.same c.tell_with_rows.ensures.covered
