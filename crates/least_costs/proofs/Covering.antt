-- Arcs that others cover: what cells tell of walks along these they tell of walks along those.
use Rattle.std.proofs.Common.{◌≡◌, ◌∙◌, ℕ, ◌*◌, ◌<◌, ◌≤◌, ◌++◌, [], ◌∷◌, Bool, List, ap, arith, inl, inr, subst, sym}
use Rattle.std.specs.Prelude.{Contains}
use Rattle.std.proofs.lemmas.List.Elements.{All-append, All-contains, All-contains_itself, All-filter, All-weaker}
use Rattle.std.proofs.lemmas.List.Elements.{Contains-append_cases, Contains-append_left}
use Rattle.route_walks.specs.declared.graph.ArcRec.{ArcRec}
use Rattle.route_walks.specs.Walk.{HaveSameArcs, IsWalk, cost}
use Rattle.csr_graph.specs.Changes.{without}
use Rattle.csr_graph.specs.Graph.{Graph}
use Rattle.least_costs.specs.Landmarks.{AreAmong, AreCovered, AreLandmarks, HasCheaper, IsLightGraph, IsTold, LandmarksSeen, column, counted_in}

-- the graph of all arcs that cells count in
abbrev pub graph_told : LandmarksSeen → Graph
graph_told seen = record { n = seen.graph.n; arcs = counted_in seen }

-- along covered arcs a walk has one along the others that costs no more
cheaper-walk : (arcs others : List ArcRec) → AreCovered arcs others → (u v : ℕ) (walk : List ArcRec) → IsWalk arcs u walk v
    → (cheaper : List ArcRec) × IsWalk others u cheaper v × (cost cheaper ≤ cost walk)
cheaper-walk arcs others covered u v [] walks = ([], walks, omega arith)
cheaper-walk arcs others covered u v (arc ∷ walk) walks =
    let here = All-contains (HasCheaper others) arcs arc covered walks.0 in
    let rest = cheaper-walk arcs others covered arc.head v walk walks.2 in (
      record { tail = arc.tail; head = arc.head; weight = here.weight } ∷ rest.0,
      (here.within, walks.1, rest.1),
      omega (arith, here.cheap, rest.2),
    )

-- what cells tell of walks along some arcs they tell of walks along covered ones
told-covered : (n unit : ℕ) (both : Bool) (cell : ℕ → ℕ) (arcs others : List ArcRec) → AreCovered arcs others
    → IsTold (record { n = n; arcs = others }) unit both cell
    → IsTold (record { n = n; arcs = arcs }) unit both cell
told-covered n unit both cell arcs others covered told v t v-in t-in = (
  λ walk walks.
      let cheaper = cheaper-walk arcs others covered v t walk walks in
      omega (arith, (told v t v-in t-in).0 cheaper.0 cheaper.1, cheaper.2),
  λ twins walk walks.
      let cheaper = cheaper-walk arcs others covered v t walk walks in
      omega (arith, (told v t v-in t-in).1 twins cheaper.0 cheaper.1, cheaper.2),
)

-- arcs among others are covered by them
among-covered : (arcs others : List ArcRec) → AreAmong others arcs → AreCovered arcs others
among-covered arcs others among =
    All-weaker (Contains others) (HasCheaper others)
    (λ arc within. record { weight = arc.weight; within = within; cheap = omega arith }) arcs among

pub among-left : (arcs more : List ArcRec) → AreAmong (arcs ++ more) arcs
among-left arcs more =
    All-weaker (Contains arcs) (Contains (arcs ++ more)) (λ arc within. Contains-append_left arcs more arc within) arcs
    (All-contains_itself arcs)

-- the arcs of a graph after a change, and those that are gone, are covered by those before and by what was gone, if the added
-- ones are covered by what is gone
pub covered-after : (before after added gone others : List ArcRec) (removed : List (ℕ × ℕ))
    → AreAmong others before
    → AreAmong others gone
    → AreCovered added gone
    → HaveSameArcs after (without removed before ++ added)
    → AreCovered (after ++ gone) others
covered-after before after added gone others removed old out covered same =
    All-append (HasCheaper others) after gone
    (All-weaker (Contains after) (HasCheaper others)
    (λ arc within.
    elim (Contains-append_cases (without removed before) added arc ((same arc).0 within)) [
      | inl left ↦ record {
        weight = arc.weight;
        within = All-contains (Contains others) (without removed before) arc (All-filter _ (Contains others) before old) left;
        cheap = omega arith;
      }
      | inr come ↦
          let cheaper = All-contains (HasCheaper gone) added arc covered come in record {
            weight = cheaper.weight;
            within = All-contains (Contains others) gone _ out cheaper.within;
            cheap = cheaper.cheap;
          }
    ]) after (All-contains_itself after))
    (among-covered gone others out)

-- what cells tell of all arcs that they count in they tell of the graph's own
pub told-graph : (seen : LandmarksSeen) (i : ℕ) → AreLandmarks seen → i < seen.count
    → IsTold seen.graph seen.unit seen.is_two_way (column seen.count seen.cells i)
told-graph seen i are i-in =
    told-covered seen.graph.n seen.unit seen.is_two_way (column seen.count seen.cells i) seen.graph.arcs (counted_in seen)
    (among-covered seen.graph.arcs (counted_in seen) (among-left seen.graph.arcs seen.gone)) (are.told i i-in)

-- the same cells are those of another graph whose arcs are covered
pub landmarks-after : (seen : LandmarksSeen) (graph : Graph) (gone : List ArcRec) → AreLandmarks seen → IsLightGraph graph
    → graph.n ≡ seen.graph.n
    → AreCovered (graph.arcs ++ gone) (counted_in seen)
    → AreLandmarks (record {
      graph = graph;
      count = seen.count;
      cells = seen.cells;
      unit = seen.unit;
      is_two_way = seen.is_two_way;
      gone = gone;
    })
landmarks-after seen graph gone are light same covered = record {
  light = light;
  unit = are.unit;
  room = are.room ∙ ap (λ (n : ℕ). seen.count * n) (sym same);
  fit = λ i v i-in v-in. are.fit i v i-in (omega (arith, v-in, same));
  told = λ i i-in.
      told-covered graph.n seen.unit seen.is_two_way (column seen.count seen.cells i) (graph.arcs ++ gone) (counted_in seen) covered
      (subst (λ (n : ℕ). IsTold (record { n = n; arcs = counted_in seen }) seen.unit seen.is_two_way (column seen.count seen.cells i))
      (sym same) (are.told i i-in));
}
