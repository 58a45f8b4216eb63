use Rattle.walk_report.proofs.Determined as determined
use Rattle.walk_report.proofs.laws.hops_and_parents_follow_the_arcs.Goals as goal

pub returns : goal.returns
returns c = determined.hops_and_parents_follow_the_arcs
