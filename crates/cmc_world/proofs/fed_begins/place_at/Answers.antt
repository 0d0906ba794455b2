use Rattle.cmc_world.proofs.fed_begins.place_at.Goals as goal

pub returns-in-Some-clause-made : goal.returns-in-Some-clause-made
returns-in-Some-clause-made c = (c.place_at.ensures.room c.args.role).rows c.args.key.now c.requires
