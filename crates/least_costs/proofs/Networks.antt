-- What is so of the arcs along which costs are least, and of a network that grows.
use Rattle.std.proofs.Common.{◌≡◌, ◌∙◌, ℕ, ◌*◌, ◌<◌, ◌^◌, List, [], ◌∷◌, ◌++◌, length, sym, subst, arith, refl}
use Rattle.std.specs.List.{All, Contains}
use Rattle.std.proofs.lemmas.List.Elements.{All-cons, All-contains, All-contains_itself, All-head, All-map}
use Rattle.std.proofs.lemmas.List.Elements.{All-nil, All-tail, All-weaker}
use Rattle.route_walks.proofs.Facts.{both_ways-append, same_arcs-grown, same_arcs-sym, same_arcs-trans}
use Rattle.route_walks.proofs.Facts.{unit_weights-append}
use Rattle.route_walks.specs.declared.graph.ArcRec.{ArcRec}
use Rattle.route_walks.specs.Operators.{against, along, both_ways, unit_weight}
use Rattle.route_walks.specs.Walk.{HaveSameArcs, IsArcBelow, IsGraph}
use Rattle.least_costs.specs.declared.cost.Cost.{Cost}
use Rattle.least_costs.specs.declared.cost.Cost.TheVariants.{Weight, One, FreeBothWays}
use Rattle.least_costs.specs.Laws.{NetworksGrow}
use Rattle.least_costs.specs.Network.{AreLight, IsNetworkOf, NetworkSeen, arcs_of}

-- what is so of each arc of a list is so of each arc of a list with the same arcs
pub over-same : (P : ArcRec → Type 0) (one other : List ArcRec) → HaveSameArcs one other → All P other → All P one
over-same P one other same all =
    All-weaker (Contains one) P (λ arc here. All-contains P other arc all ((same arc).0 here)) one (All-contains_itself one)

-- weights stay below 2^32, whatever an arc costs
pub light-along : (kind : Cost) (arcs : List ArcRec) → AreLight arcs → AreLight (arcs_of kind arcs)
light-along Weight arcs light = light
light-along One arcs light =
    let IsLight = λ (arc : ArcRec). arc.weight < 2 ^ 32 in
    All-map IsLight unit_weight arcs (All-weaker IsLight (λ arc. 1 < 2 ^ 32) (λ arc _. omega arith) arcs light)
light-along FreeBothWays [] light = light
light-along FreeBothWays (arc ∷ arcs) light =
    let IsLight = λ (arc : ArcRec). arc.weight < 2 ^ 32 in
    let rest = arcs_of FreeBothWays arcs in
    All-cons IsLight (along arc) (against arc ∷ rest) (omega arith)
    (All-cons IsLight (against arc) rest (omega arith) (light-along FreeBothWays arcs (All-tail IsLight arc arcs light)))

-- and ends stay vertices
pub graph-along : (n : ℕ) (kind : Cost) (arcs : List ArcRec) → IsGraph n arcs → IsGraph n (arcs_of kind arcs)
graph-along n Weight arcs graph = graph
graph-along n One arcs graph = All-map (IsArcBelow n) unit_weight arcs graph
graph-along n FreeBothWays [] graph = graph
graph-along n FreeBothWays (arc ∷ arcs) graph =
    let here = All-head (IsArcBelow n) arc arcs graph in
    let rest = arcs_of FreeBothWays arcs in
    All-cons (IsArcBelow n) (along arc) (against arc ∷ rest) here
    (All-cons (IsArcBelow n) (against arc) rest (here.1, here.0)
    (graph-along n FreeBothWays arcs (All-tail (IsArcBelow n) arc arcs graph)))

-- each arc counts twice where it is free both ways
pub both_ways-length : (arcs : List ArcRec) → length (both_ways arcs) ≡ 2 * length arcs
both_ways-length [] = refl
both_ways-length (arc ∷ arcs) = omega (arith, both_ways-length arcs)

arcs_of-append : (kind : Cost) (arcs added : List ArcRec)
    → arcs_of kind (arcs ++ added) ≡ arcs_of kind arcs ++ arcs_of kind added
arcs_of-append Weight arcs added = refl
arcs_of-append One arcs added = unit_weights-append arcs added
arcs_of-append FreeBothWays arcs added = both_ways-append arcs added

pub networks_grow : NetworksGrow
networks_grow n kind arcs added net grown are grows cost is = record {
  vertices = grows.vertices ∙ are.vertices;
  kind_is = cost ∙ are.kind_is;
  along =
      subst (HaveSameArcs grown.arcs) (sym (arcs_of-append kind arcs added))
      (same_arcs-grown grown.arcs net.arcs (arcs_of kind arcs) (arcs_of kind added)
      (subst (λ (xs : List ArcRec). HaveSameArcs grown.arcs (net.arcs ++ xs)) is grows.along) are.along);
}

-- ---- lists with the same arcs have the same arcs along which costs are least

ones_all : (P : ArcRec → Type 0) (arcs : List ArcRec) → All P (arcs_of One arcs) → All (λ arc. P (unit_weight arc)) arcs
ones_all P [] all = All-nil (λ arc. P (unit_weight arc))
ones_all P (arc ∷ arcs) all =
    All-cons (λ arc. P (unit_weight arc)) arc arcs (All-head P (unit_weight arc) (arcs_of One arcs) all)
    (ones_all P arcs (All-tail P (unit_weight arc) (arcs_of One arcs) all))

free_all : (P : ArcRec → Type 0) (arcs : List ArcRec)
    → All P (arcs_of FreeBothWays arcs)
    → All (λ arc. P (along arc) × P (against arc)) arcs
free_all P [] all = All-nil (λ arc. P (along arc) × P (against arc))
free_all P (arc ∷ arcs) all =
    let rest = arcs_of FreeBothWays arcs in
    let later = All-tail P (along arc) (against arc ∷ rest) all in
    All-cons (λ arc. P (along arc) × P (against arc)) arc arcs
    (All-head P (along arc) (against arc ∷ rest) all, All-head P (against arc) rest later)
    (free_all P arcs (All-tail P (against arc) rest later))

all_free : (P : ArcRec → Type 0) (arcs : List ArcRec)
    → All (λ arc. P (along arc) × P (against arc)) arcs
    → All P (arcs_of FreeBothWays arcs)
all_free P [] all = All-nil P
all_free P (arc ∷ arcs) all =
    let rest = arcs_of FreeBothWays arcs in
    let here = All-head (λ arc. P (along arc) × P (against arc)) arc arcs all in
    All-cons P (along arc) (against arc ∷ rest) here.0
    (All-cons P (against arc) rest here.1
    (all_free P arcs (All-tail (λ arc. P (along arc) × P (against arc)) arc arcs all)))

along_within : (kind : Cost) (one other : List ArcRec) → HaveSameArcs one other
    → All (Contains (arcs_of kind other)) (arcs_of kind one)
along_within Weight one other same =
    over-same (Contains other) one other same (All-contains_itself other)
along_within One one other same =
    let P = Contains (arcs_of One other) in
    All-map P unit_weight one
    (over-same (λ arc. P (unit_weight arc)) one other same (ones_all P other (All-contains_itself (arcs_of One other))))
along_within FreeBothWays one other same =
    let P = Contains (arcs_of FreeBothWays other) in
    all_free P one
    (over-same (λ arc. P (along arc) × P (against arc)) one other same
    (free_all P other (All-contains_itself (arcs_of FreeBothWays other))))

pub along-same : (kind : Cost) (one other : List ArcRec)
    → HaveSameArcs one other
    → HaveSameArcs (arcs_of kind one) (arcs_of kind other)
along-same kind one other same arc = (
  λ here.
      All-contains (Contains (arcs_of kind other)) (arcs_of kind one) arc (along_within kind one other same) here,
  λ here.
      All-contains (Contains (arcs_of kind one)) (arcs_of kind other) arc
      (along_within kind other one (same_arcs-sym one other same)) here,
)

-- the network of its arcs by another cost
pub network_by : (n m : ℕ) (kind : Cost) (arcs : List ArcRec) (base net : NetworkSeen)
    → base.n ≡ m → IsNetworkOf n Weight arcs base → IsNetworkOf m kind base.arcs net
    → IsNetworkOf n kind arcs net
network_by n m kind arcs base net vertices are is = record {
  vertices = is.vertices ∙ sym vertices ∙ are.vertices;
  kind_is = is.kind_is;
  along =
      same_arcs-trans net.arcs (arcs_of kind base.arcs) (arcs_of kind arcs) is.along
      (along-same kind base.arcs arcs are.along);
}
