use Rattle.std.specs.Prelude.{is_ok}
use Rattle.cmc_world.proofs.KeptOver.{found_pushed}
use Rattle.cmc_world.proofs.kept.Kept.note.Goals as goal

pub returns-then-len-lt-MOST-clause-looked : goal.returns-then-len-lt-MOST-clause-looked
returns-then-len-lt-MOST-clause-looked c s h all found = found_pushed s h (is_ok c.push-kept.result) c.args.self.now.looked.items c.push-kept.new.self.items c.args.opening c.push-kept.ensures.items all found
