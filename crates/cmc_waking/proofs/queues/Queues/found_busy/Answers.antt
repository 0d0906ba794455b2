use Rattle.std.proofs.Common.{◌≡◌, ◌+◌, List, subst, sym, true}
use Rattle.cmc_queue.specs.Queues.{fresh_count, has_room, has_room_to_find, row_of, ChangesRow, KeepsRoom, Work}
use Rattle.cmc_queue.specs.Rows.{is_fresh}
use Rattle.cmc_waking.specs.Feeds.{found_busy}
use Rattle.cmc_waking.specs.Queues.{queue_in}
use Rattle.cmc_waking.proofs.Eight.{from_own, put_others, put_own, queue_here}
use Rattle.cmc_waking.proofs.queues.Queues.found_busy.Goals as goal

pub found_something-requires-clause-row : goal.found_something-requires-clause-row
found_something-requires-clause-row c = from_own (λ (q : Work). has_room q c.args.key.now ≡ true) c.self.inside.rows.items c.rank.result c.args.role c.index_mut.result.now (queue_here c.self.inside.rows.items c.rank.result c.args.role c.index_mut.result.now c.self.invariant c.rank.ensures c.index_mut.ensures.value) (subst (λ (qs : List Work). (λ (q : Work). has_room q c.args.key.now ≡ true) (queue_in qs c.args.role)) (sym c.self.view_is) c.requires.row)

pub found_something-requires-clause-place : goal.found_something-requires-clause-place
found_something-requires-clause-place c = from_own (λ (q : Work). has_room_to_find q c.args.key.now ≡ true) c.self.inside.rows.items c.rank.result c.args.role c.index_mut.result.now (queue_here c.self.inside.rows.items c.rank.result c.args.role c.index_mut.result.now c.self.invariant c.rank.ensures c.index_mut.ensures.value) (subst (λ (qs : List Work). (λ (q : Work). has_room_to_find q c.args.key.now ≡ true) (queue_in qs c.args.role)) (sym c.self.view_is) c.requires.place)

pub returns-clause-rows : goal.returns-clause-rows
returns-clause-rows c = rw (← c.self.view_is) (put_own (ChangesRow found_busy c.args.key.now) c.self.inside.rows.items c.rank.result c.args.role c.index_mut.result.now c.found_something.new.self (queue_here c.self.inside.rows.items c.rank.result c.args.role c.index_mut.result.now c.self.invariant c.rank.ensures c.index_mut.ensures.value) c.found_something.ensures.rows)

pub returns-clause-others : goal.returns-clause-others
returns-clause-others c = rw (← c.self.view_is) (put_others c.self.inside.rows.items c.rank.result c.args.role c.index_mut.result.now c.found_something.new.self (queue_here c.self.inside.rows.items c.rank.result c.args.role c.index_mut.result.now c.self.invariant c.rank.ensures c.index_mut.ensures.value))

pub returns-clause-room : goal.returns-clause-room
returns-clause-room c = rw (← c.self.view_is) (put_own (KeepsRoom) c.self.inside.rows.items c.rank.result c.args.role c.index_mut.result.now c.found_something.new.self (queue_here c.self.inside.rows.items c.rank.result c.args.role c.index_mut.result.now c.self.invariant c.rank.ensures c.index_mut.ensures.value) c.found_something.ensures.room)

pub returns-clause-fewer : goal.returns-clause-fewer
returns-clause-fewer c = rw (← c.self.view_is) (put_own (λ (q p : Work). is_fresh (row_of q c.args.key.now) ≡ true → fresh_count q.rows ≡ fresh_count p.rows + 1) c.self.inside.rows.items c.rank.result c.args.role c.index_mut.result.now c.found_something.new.self (queue_here c.self.inside.rows.items c.rank.result c.args.role c.index_mut.result.now c.self.invariant c.rank.ensures c.index_mut.ensures.value) c.found_something.ensures.fewer)
