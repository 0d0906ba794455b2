use Rattle.cmrun.proofs.top.waits_are_named.Goals as goal

pub returns-clause-named : goal.returns-clause-named
returns-clause-named c = c.each_wait_is_named.ensures.named _ _ c.is_run.ensures.run c.requires.rest
