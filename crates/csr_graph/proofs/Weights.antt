-- The graph with weight 1 at each arc lies in the same places.
use Rattle.std.proofs.Common.{◌≡◌, ◌∙◌, sym, ap, refl, ℕ, ◌+◌, ◌-◌, ◌<◌, List, [], ◌∷◌, length, get_or, take, drop, map}
use Rattle.std.proofs.Common.{cond, arith}
use Rattle.std.specs.Prelude.{nat_lt}
use Rattle.std.proofs.lemmas.List.{get_or-map, length-map}
use Rattle.std.proofs.lemmas.List.Elements.{All-map}
use Rattle.std.proofs.lemmas.List.Sums.{sum_by-cons}
use Rattle.std.proofs.lemmas.Bool.Decides.{nat_tests}
use Rattle.route_walks.specs.declared.graph.ArcRec.{ArcRec}
use Rattle.route_walks.specs.Operators.{unit_weight, unit_weights}
use Rattle.route_walks.specs.Walk.{IsArcBelow}
use Rattle.csr_graph.specs.declared.target.Target.{Target}
use Rattle.csr_graph.specs.Graph.{Graph, AreByTail, first_place, row_of, target_of, targets_of}
use Rattle.csr_graph.specs.Layout.{LiesIn, graph_in, row_in, unit_target}
use Rattle.csr_graph.proofs.Facts.{first_place_next, no_arc, row_by_targets}
use Rattle.csr_graph.proofs.Rows.{row_stands}
use Rattle.csr_graph.proofs.Sorting.{graph_of, joined_same, rows_joined}

-- ---- a graph that lies in two lists is the one that they hold

row_there : (firsts : List ℕ) (targets : List Target) (graph : Graph) → LiesIn firsts targets graph
    → (u : ℕ) → u < graph.n → row_in firsts targets u ≡ row_of graph.arcs u
row_there firsts targets graph lies u lt =
    let here : get_or firsts u 0 ≡ first_place graph.arcs u = lies.begins u (omega arith) in
    let next : get_or firsts (u + 1) 0 ≡ first_place graph.arcs (u + 1) = lies.begins (u + 1) (omega arith) in
    let count : get_or firsts (u + 1) 0 - get_or firsts u 0 ≡ length (row_of graph.arcs u) =
    omega (arith, first_place_next graph.arcs u) in
    let stands : take (length (row_of graph.arcs u)) (drop (first_place graph.arcs u) targets) ≡ targets_of graph.arcs u =
    rw lies.leads (row_stands graph lies.in_rows u lt) in
    rw (count, here, stands) (row_by_targets graph.arcs u)

pub lies_is : (firsts : List ℕ) (targets : List Target) (graph : Graph) → LiesIn firsts targets graph
    → graph_in firsts targets ≡ graph
unfolding graph_in
lies_is firsts targets graph lies =
    let last : length firsts - 1 ≡ graph.n = omega (arith, lies.rows) in
    rw last
    (ap (graph_of graph.n)
    (joined_same _ _ graph.n (λ u lt. row_there firsts targets graph lies u lt) ∙ sym (rows_joined graph lies.in_rows)))

-- ---- weight 1

unit_places : (arcs : List ArcRec) (u : ℕ) → first_place (unit_weights arcs) u ≡ first_place arcs u
unit_places [] u = refl
unit_places (arc ∷ arcs) u =
    grind (
      arith,
      nat_tests,
      unit_places arcs u,
      sum_by-cons (λ (a : ArcRec). cond (nat_lt a.tail u) 1 0) arc arcs,
      sum_by-cons (λ (a : ArcRec). cond (nat_lt a.tail u) 1 0) (unit_weight arc) (unit_weights arcs),
    )

unit_targets : (arcs : List ArcRec) → map unit_target (map target_of arcs) ≡ map target_of (unit_weights arcs)
unit_targets [] = refl
unit_targets (arc ∷ arcs) = ap (λ ts. target_of (unit_weight arc) ∷ ts) (unit_targets arcs)

unit_by_tail : (arcs : List ArcRec) → AreByTail arcs → AreByTail (unit_weights arcs)
unit_by_tail arcs rising i j d less lt =
    let long : length (unit_weights arcs) ≡ length arcs = length-map arcs unit_weight in
    let one : get_or (unit_weights arcs) i d ≡ unit_weight (get_or arcs i no_arc) =
    get_or-map unit_weight arcs i no_arc d (omega arith) in
    let other : get_or (unit_weights arcs) j d ≡ unit_weight (get_or arcs j no_arc) =
    get_or-map unit_weight arcs j no_arc d (omega arith) in
    rw (one, other) (rising i j no_arc less (omega arith))

pub unit_lies : (firsts : List ℕ) (targets : List Target) (graph : Graph) → LiesIn firsts targets graph
    → LiesIn firsts (map unit_target targets) (graph_of graph.n (unit_weights graph.arcs))
unit_lies firsts targets graph lies = record {
  in_rows = record {
    ends = All-map (IsArcBelow graph.n) unit_weight graph.arcs lies.in_rows.ends;
    by_tail = unit_by_tail graph.arcs lies.in_rows.by_tail;
    vertices = lies.in_rows.vertices;
    places = omega (arith, lies.in_rows.places, length-map graph.arcs unit_weight);
  };
  rows = lies.rows;
  begins = λ u le. lies.begins u le ∙ sym (unit_places graph.arcs u);
  leads = ap (map unit_target) lies.leads ∙ unit_targets graph.arcs;
}
