use Rattle.hierarchy.proofs.Valleys as valleys
use Rattle.hierarchy.proofs.laws.hierarchies_are_exact.Goals as goal

pub returns : goal.returns
returns c = valleys.hierarchies_are_exact
