-- The accesses left are unclaimed still.
use Rattle.obim_bags.proofs.entries.LogEntry.claim_all.Goals as goal

pub invariant_of-self : goal.invariant_of-self
invariant_of-self c = c.keep_all.ensures.rest _ c.self.invariant
