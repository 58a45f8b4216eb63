use Rattle.hierarchy.proofs.Valleys as valleys
use Rattle.hierarchy.proofs.laws.checked_is_hierarchy.Goals as goal

pub returns : goal.returns
returns c = valleys.checked_is_hierarchy
