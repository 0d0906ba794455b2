use Rattle.std.proofs.lemmas.Bool.{and_parts}
use Rattle.cmc_queue.specs.Rows.{is_free, is_unknown, row_in}
use Rattle.cmc_queue.proofs.Waits.{free_has_row}
use Rattle.cmc_queue.proofs.queue.Queue.has_fresh.Goals as goal

pub returns : goal.returns
returns c = free_has_row c.args.self.now.rows c.args.key.now (and_parts (is_free (row_in c.args.self.now.rows c.args.key.now)) (is_unknown (row_in c.args.self.now.rows c.args.key.now).work) c.requires).0
