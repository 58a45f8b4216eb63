-- Arcs and labels determine hops and parents, whatever the order of the arcs.
use Rattle.std.proofs.Common.{◌≡◌, ◌∙◌, ℕ, ◌<◌, List, [], ◌∷◌, slice_index, sym, arith, inl, inr}
use Rattle.std.proofs.lemmas.Bool.{cases_lt}
use Rattle.std.proofs.lemmas.Grind.{same_number_lists}
use Rattle.route_walks.specs.declared.graph.ArcRec.{ArcRec}
use Rattle.route_walks.specs.declared.graph.TheConstants.{INF}
use Rattle.route_walks.specs.Walk.{IsWalk, HaveSameArcs}
use Rattle.route_walks.proofs.Facts.{same_arcs-sym}
use Rattle.walk_report.specs.Hop.{IsHop, AreHops}
use Rattle.walk_report.specs.Parent.{Leads, IsParent, AreParents, HopsAndParentsFollowTheArcs, HopsAndParentsAreUnique}

walk-over : (one other : List ArcRec) → HaveSameArcs one other → (u v : ℕ) (walk : List ArcRec)
    → IsWalk one u walk v → IsWalk other u walk v
walk-over one other same u v [] walks = walks
walk-over one other same u v (arc ∷ walk) walks =
    ((same arc).0 walks.0, walks.1, walk-over one other same arc.head v walk walks.2)

leads-over : {one other : List ArcRec} → HaveSameArcs one other → {label hop : ℕ → ℕ} {u v : ℕ}
    → Leads one label hop u v → Leads other label hop u v
leads-over same leads = record { weight = leads.weight; within = (same _).0 leads.within; leading = leads.leading }

hop-over : {one other : List ArcRec} → HaveSameArcs one other → {s v d h : ℕ} → IsHop one s v d h → IsHop other s v d h
hop-over {one = one} {other = other} same {s = s} {v = v} hop = record {
  walk = record {
    walk = hop.walk.walk;
    walks = walk-over one other same s v hop.walk.walk hop.walk.walks;
    costs = hop.walk.costs;
    count = hop.walk.count;
  };
  fewest = λ walk walks. hop.fewest walk (walk-over other one (same_arcs-sym one other same) s v walk walks);
}

parent-over : {one other : List ArcRec} → HaveSameArcs one other → {label hop : ℕ → ℕ} {v u : ℕ}
    → IsParent one label hop v u → IsParent other label hop v u
parent-over {one = one} {other = other} same parent = record {
  leads = leads-over same parent.leads;
  least = λ w leads. parent.least w (leads-over (same_arcs-sym one other same) leads);
}

pub hops_and_parents_follow_the_arcs : HopsAndParentsFollowTheArcs
hops_and_parents_follow_the_arcs n one other s labels hops parents same exact led = (
  record {
    count = exact.count;
    none = exact.none;
    below = exact.below;
    hop = λ v below finite. hop-over same (exact.hop v below finite);
  },
  record {
    count = led.count;
    source = led.source;
    none = led.none;
    parent = λ v below far some. parent-over same (led.parent v below far some);
  },
)

-- a vertex has one hop for a label
pub hop-same : {arcs : List ArcRec} {s v d h h' : ℕ} → IsHop arcs s v d h → IsHop arcs s v d h' → h ≡ h'
hop-same one two =
    let low = one.fewest two.walk.walk two.walk.walks two.walk.costs in
    let high = two.fewest one.walk.walk one.walk.walks one.walk.costs in
    omega (arith, low, high, one.walk.count, two.walk.count)

module _ {n : ℕ} {arcs : List ArcRec} {s : ℕ} {labels : List ℕ} where
  hops-same : {hops hops' : List ℕ} → AreHops n arcs s labels hops → AreHops n arcs s labels hops' → hops ≡ hops'
  hops-same {hops = hops} {hops' = hops'} one two =
      same_number_lists hops hops' (one.count ∙ sym two.count) (λ v within.
      let below : v < n = omega (arith, one.count) in
      elim (cases_lt (slice_index labels v) INF) [
        | inl finite ↦ hop-same (one.hop v below finite) (two.hop v below finite)
        | inr infinite ↦ one.none v below infinite ∙ sym (two.none v below infinite)
      ])

  parents-same : {hops parents parents' : List ℕ} → AreHops n arcs s labels hops
      → AreParents n arcs labels hops parents → AreParents n arcs labels hops parents' → parents ≡ parents'
  parents-same {hops = hops} {parents = parents} {parents' = parents'} exact one two =
      same_number_lists parents parents' (one.count ∙ sym two.count) (λ v within.
      let below : v < n = omega (arith, one.count) in
      elim (cases_lt (slice_index labels v) INF) [
        | inr infinite ↦
            let none = exact.none v below infinite in
            one.none v below none ∙ sym (two.none v below none)
        | inl finite ↦
            let some = exact.below v below finite in
            elim (cases_lt 0 (slice_index hops v)) [
              | inl far ↦
                  let first = one.parent v below far some in
                  let second = two.parent v below far some in
                  omega (arith, first.least _ second.leads, second.least _ first.leads)
              | inr near ↦ one.source v below (omega arith) ∙ sym (two.source v below (omega arith))
            ]
      ])

pub hops_and_parents_are_unique : HopsAndParentsAreUnique
hops_and_parents_are_unique n arcs s labels hops hops' parents parents' least one two led led' =
    let same = hops-same one two in
    (same, parents-same two (rw same at led) led')
