use Rattle.cmc_queue.specs.Rows.{has_row}
use Rattle.cmc_queue.proofs.OneRow.{room_put_in, rooms_put_in, row_put_in}
use Rattle.cmc_queue.proofs.rows.Rows.make.Goals as goal

pub put_in-requires : goal.put_in-requires
unfolding has_row
put_in-requires c = rw (← c.self.view_is) at c.requires

pub returns-clause-room : goal.returns-clause-room
returns-clause-room c = room_put_in c.self.inside.map.entries c.put_in.new.map.entries c.args.key.now c.in_ok-at.ensures.rows

pub returns-clause-same : goal.returns-clause-same
returns-clause-same c = rw (← c.self.view_is) (row_put_in c.self.inside.map.entries c.put_in.new.map.entries c.args.key.now (rw (← c.self.view_is) at c.requires) c.in_ok-at.ensures.rows)

pub returns-clause-keeps : goal.returns-clause-keeps
returns-clause-keeps c = rw (← c.self.view_is) (rooms_put_in c.self.inside.map.entries c.put_in.new.map.entries c.args.key.now c.in_ok-at.ensures.rows)
