-- What a search is asked for, and which limits serve it.
use Rattle.std.specs.Prelude.{ℕ, ◌+◌, ◌≤◌, min, List, [], All, slice_index}
use Rattle.route_walks.specs.declared.graph.TheConstants.{INF}
use Rattle.near_labels.specs.declared.aim.SearchAim.{SearchAim}
use Rattle.near_labels.specs.declared.aim.SearchAim.TheVariants as aim

-- the vertices that are named
abbrev pub targets_of : SearchAim → List ℕ
targets_of (aim.Costs targets) = targets.now
targets_of (aim.Walks targets) = targets.now
targets_of (aim.Within bound) = []

-- labels that are least up to the limit are least wherever they are asked for. For walks the limit is above the label
-- of each target that is reached
abbrev pub IsServedBy : SearchAim → List ℕ → ℕ → Type 0
IsServedBy (aim.Costs targets) labels limit = All (λ t. slice_index labels t ≤ limit) targets.now
IsServedBy (aim.Walks targets) labels limit = All (λ t. min (slice_index labels t + 1) INF ≤ limit) targets.now
IsServedBy (aim.Within bound) labels limit = min (bound + 1) INF ≤ limit
