use Rattle.route_walks.proofs.Labels as labels
use Rattle.route_walks.proofs.laws.settled_and_sound_are_least.Goals as goal

pub returns : goal.returns
returns c = labels.settled_and_sound_are_least
