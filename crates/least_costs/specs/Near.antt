-- What searches by the thread that asks find.
use Rattle.std.specs.Prelude.{ℕ, List}
use Rattle.std.specs.declared.vec.Vec.{Vec}
use Rattle.std.specs.declared.alloc.Global.{Global}
use Rattle.route_walks.specs.declared.graph.ArcRec.{ArcRec}
use Rattle.route_walks.specs.Operators.{seeds_from}
use Rattle.near_labels.specs.Noted.{AreLeastOf, AreThoseWithin}
use Rattle.least_costs.specs.Network.{NetworkSeen}

-- the vector holds the least labels of these vertices from a source, in their order
abbrev pub AreLabelsTo : List ArcRec → ℕ → List ℕ → Vec ℕ Global → Type 0
AreLabelsTo arcs source vertices labels = AreLeastOf arcs (seeds_from source) vertices labels.items

-- the vector holds the vertices whose least cost from a source is at most a bound, in rising order, each with its cost
abbrev pub AreCostsWithin : NetworkSeen → ℕ → ℕ → Vec (ℕ × ℕ) Global → Type 0
AreCostsWithin net source bound found = AreThoseWithin bound net.n net.arcs (seeds_from source) found.items
