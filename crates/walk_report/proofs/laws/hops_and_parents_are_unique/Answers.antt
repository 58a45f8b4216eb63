use Rattle.walk_report.proofs.Uniqueness as uniqueness
use Rattle.walk_report.proofs.laws.hops_and_parents_are_unique.Goals as goal

pub returns : goal.returns
returns c = uniqueness.hops_and_parents_are_unique
