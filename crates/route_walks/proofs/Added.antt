-- Lists of arcs, and other arcs after them: what the operators make of them.
use Rattle.std.proofs.Common.{◌≡◌, ℕ, List, [], ◌∷◌, ◌++◌, inl, inr}
use Rattle.std.proofs.lemmas.Grind.{flat_map-append}
use Rattle.std.proofs.lemmas.List.{map-append}
use Rattle.std.proofs.lemmas.List.Elements.{All-append, All-cons, All-head, All-tail}
use Rattle.std.proofs.lemmas.List.Elements.{Contains-append_left, Contains-append_right, Contains-append_cases}
use Rattle.route_walks.specs.declared.graph.ArcRec.{ArcRec}
use Rattle.route_walks.specs.declared.graph.Seed.{Seed}
use Rattle.route_walks.specs.Walk.{IsGraph, IsArcBelow, HaveSameArcs}
use Rattle.route_walks.specs.Operators.{unit_weight, unit_weights, along, against, both_ways}
use Rattle.route_walks.specs.Label.{AreLeastLabels}
use Rattle.route_walks.proofs.SameArcs.{AreAmong, least_labels_follow_the_arcs}

-- the arcs of weight 1 are those of both lists
pub unit_weights-append : (arcs added : List ArcRec)
    → unit_weights (arcs ++ added) ≡ unit_weights arcs ++ unit_weights added
unit_weights-append arcs added = map-append unit_weight arcs added

-- so are the arcs both ways
pub both_ways-append : (arcs added : List ArcRec) → both_ways (arcs ++ added) ≡ both_ways arcs ++ both_ways added
both_ways-append arcs added = flat_map-append (λ (arc : ArcRec). along arc ∷ against arc ∷ []) arcs added

-- arcs both ways have the same ends
pub both_ways-graph : (n : ℕ) (arcs : List ArcRec) → IsGraph n arcs → IsGraph n (both_ways arcs)
both_ways-graph n [] graph = graph
both_ways-graph n (arc ∷ arcs) graph =
    let ends = All-head (IsArcBelow n) arc arcs graph in
    let rest = both_ways-graph n arcs (All-tail (IsArcBelow n) arc arcs graph) in
    All-cons (IsArcBelow n) (along arc) (against arc ∷ both_ways arcs) ends
    (All-cons (IsArcBelow n) (against arc) (both_ways arcs) (ends.1, ends.0) rest)

-- the ends of all are vertices where those of both lists are
pub graph-append : (n : ℕ) (arcs added : List ArcRec) → IsGraph n arcs → IsGraph n added → IsGraph n (arcs ++ added)
graph-append n arcs added here there = All-append (IsArcBelow n) arcs added here there

among-append : (one other more added : List ArcRec) → AreAmong one other → AreAmong more added
    → AreAmong (one ++ more) (other ++ added)
among-append one other more added first second arc within =
    elim (Contains-append_cases one more arc within) [
      | inl here ↦ Contains-append_left other added arc (first arc here)
      | inr there ↦ Contains-append_right other added arc (second arc there)
    ]

-- where two lists have the same arcs, and so have two others, both after both have
pub same_arcs-append : (one other more added : List ArcRec) → HaveSameArcs one other → HaveSameArcs more added
    → HaveSameArcs (one ++ more) (other ++ added)
same_arcs-append one other more added first second arc = (
  among-append one other more added (λ a. (first a).0) (λ a. (second a).0) arc,
  among-append other one added more (λ a. (first a).1) (λ a. (second a).1) arc,
)

-- the other way round
pub same_arcs-sym : (one other : List ArcRec) → HaveSameArcs one other → HaveSameArcs other one
same_arcs-sym one other same arc = ((same arc).1, (same arc).0)

-- lists that have the same arcs as a third have the same arcs
pub same_arcs-trans : (one middle other : List ArcRec) → HaveSameArcs one middle → HaveSameArcs middle other
    → HaveSameArcs one other
same_arcs-trans one middle other first second arc =
    (λ within. (second arc).0 ((first arc).0 within), λ within. (first arc).1 ((second arc).1 within))

-- a graph grown from one with the same arcs as a list has the arcs of the list and the added ones
pub same_arcs-grown : (grown rows arcs added : List ArcRec) → HaveSameArcs grown (rows ++ added)
    → HaveSameArcs rows arcs → HaveSameArcs grown (arcs ++ added)
same_arcs-grown grown rows arcs added grows same =
    same_arcs-trans grown (rows ++ added) (arcs ++ added) grows
    (same_arcs-append rows arcs added added same (λ arc. (λ within. within, λ within. within)))

-- and its least labels are theirs
pub least_labels-grown : (n : ℕ) (grown rows arcs added : List ArcRec) (seeds : List Seed) (labels : List ℕ)
    → HaveSameArcs grown (rows ++ added) → HaveSameArcs rows arcs → AreLeastLabels n grown seeds labels
    → AreLeastLabels n (arcs ++ added) seeds labels
least_labels-grown n grown rows arcs added seeds labels grows same =
    least_labels_follow_the_arcs n grown (arcs ++ added) seeds labels
    (same_arcs-grown grown rows arcs added grows same)
