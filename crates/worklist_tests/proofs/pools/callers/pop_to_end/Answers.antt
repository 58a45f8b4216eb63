-- Each bag of the side's own was found empty.
use Rattle.worklist_tests.proofs.pools.callers.pop_to_end.Goals as goal

pub returns-in-None-clause-bare : goal.returns-in-None-clause-bare
returns-in-None-clause-bare g c place within = (c.in-None.ensures.none.found place within).bare
