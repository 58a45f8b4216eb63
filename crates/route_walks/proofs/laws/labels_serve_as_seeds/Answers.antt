use Rattle.route_walks.proofs.Reseeding as reseeding
use Rattle.route_walks.proofs.laws.labels_serve_as_seeds.Goals as goal

pub returns : goal.returns
returns c = reseeding.labels_serve_as_seeds
