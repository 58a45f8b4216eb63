use Rattle.obim_bags.proofs.Ties.{distinct_places}
use Rattle.obim_bags.proofs.mirror.Mirror.place_of.Goals as goal

pub returns-clause-distinct : goal.returns-clause-distinct
returns-clause-distinct c = rw (← c.self.view_is) (distinct_places c.self.inside.accesses c.self.invariant)
