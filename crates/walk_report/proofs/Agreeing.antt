-- Labels least up to a limit tell of the vertices below it what the least labels tell.
use Rattle.std.proofs.Common.{◌≡◌, ◌∙◌, ℕ, zero, suc, ◌<◌, ◌≤◌, List, [], ◌∷◌, ◌++◌, slice_index, ap, refl, subst}
use Rattle.std.proofs.Common.{sym, arith, inl, inr}
use Rattle.std.proofs.lemmas.List.Elements.{All-contains}
use Rattle.route_walks.specs.declared.graph.ArcRec.{ArcRec}
use Rattle.route_walks.specs.declared.graph.TheConstants.{INF}
use Rattle.route_walks.specs.Walk.{IsArcBelow, IsGraph}
use Rattle.route_walks.specs.Label.{AreLeastLabels}
use Rattle.route_walks.specs.Limit.{AreLeastLabelsUpTo}
use Rattle.route_walks.specs.Operators.{seeds_from}
use Rattle.walk_report.specs.Hop.{IsHop, AreHops, AreHopsBelow}
use Rattle.walk_report.specs.Parent.{AreParents, Leads}
use Rattle.walk_report.specs.Printed.{printed_walk, WalksBelowAgree}
use Rattle.walk_report.proofs.Determined.{hop-same}

module _ {limit n : ℕ} {arcs : List ArcRec} {s : ℕ} {labels labels' : List ℕ} (few : limit ≤ INF)
    (graph : IsGraph n arcs) (least : AreLeastLabels n arcs (seeds_from s) labels)
    (least' : AreLeastLabelsUpTo limit n arcs (seeds_from s) labels') where
  -- a label below the limit, among the ones or the others, is both
  label-down : (v : ℕ) → v < n → slice_index labels' v < limit → slice_index labels' v ≡ slice_index labels v
  label-down v below low =
      let whole = least.least v below in
      let here = least'.least v below in
      let at_most = whole.least _ (here.attained (omega (arith, low, few))) in
      elim (here.least _ (whole.attained (omega (arith, at_most, low, few)))) [
        | inl less ↦ omega (arith, less, at_most)
        | inr past ↦ absurd (omega (arith, past, at_most, low))
      ]

  -- so it is the other way
  pub label-up : (v : ℕ) → v < n → slice_index labels v < limit → slice_index labels' v ≡ slice_index labels v
  label-up v below low =
      elim ((least'.least v below).least _ ((least.least v below).attained (omega (arith, low, few)))) [
        | inl less ↦ label-down v below (omega (arith, less, low))
        | inr past ↦ absurd (omega (arith, past, low))
      ]

  module _ {hops hops' : List ℕ} (exact : AreHops n arcs s labels hops)
      (exact' : AreHopsBelow limit n arcs s labels' hops') where
    hop-agrees : (v : ℕ) → v < n → slice_index labels' v < limit → slice_index hops' v ≡ slice_index hops v
    hop-agrees v below low =
        let same = label-down v below low in
        let hop : IsHop arcs s v (slice_index labels' v) (slice_index hops v) =
        subst (λ (d : ℕ). IsHop arcs s v d (slice_index hops v)) (sym same)
        (exact.hop v below (omega (arith, same, low, few))) in
        hop-same (exact'.hop v below low) hop

    -- what leads to a vertex below the limit by the ones leads there by the others
    leads-up : (u v : ℕ) → v < n → slice_index labels' v < limit
        → Leads arcs (slice_index labels') (slice_index hops') u v → Leads arcs (slice_index labels) (slice_index hops) u v
    leads-up u v below low leads =
        let tail : u < n = (All-contains (IsArcBelow n) arcs _ graph leads.within).0 in
        let low_u : slice_index labels' u < limit = omega (arith, leads.leading.tight, low) in
        record {
          weight = leads.weight;
          within = leads.within;
          leading = record {
            tight = omega (arith, leads.leading.tight, label-down u tail low_u, label-down v below low);
            nearer = omega (arith, leads.leading.nearer, hop-agrees u tail low_u, hop-agrees v below low);
          };
        }

    leads-down : (u v : ℕ) → v < n → slice_index labels' v < limit
        → Leads arcs (slice_index labels) (slice_index hops) u v → Leads arcs (slice_index labels') (slice_index hops') u v
    leads-down u v below low leads =
        let tail : u < n = (All-contains (IsArcBelow n) arcs _ graph leads.within).0 in
        let same = label-down v below low in
        let same_u = label-up u tail (omega (arith, leads.leading.tight, same, low)) in
        let low_u : slice_index labels' u < limit = omega (arith, same_u, leads.leading.tight, same, low) in
        record {
          weight = leads.weight;
          within = leads.within;
          leading = record {
            tight = omega (arith, leads.leading.tight, same, same_u);
            nearer = omega (arith, leads.leading.nearer, hop-agrees u tail low_u, hop-agrees v below low);
          };
        }

    module _ {parents parents' : List ℕ} (led : AreParents n arcs labels hops parents)
        (led' : AreParents n arcs labels' hops' parents') where
      parent-agrees : (v : ℕ) → v < n → slice_index labels' v < limit → 0 < slice_index hops' v
          → slice_index parents' v ≡ slice_index parents v
      parent-agrees v below low far =
          let same = label-down v below low in
          let hop = hop-agrees v below low in
          let one = led'.parent v below far (exact'.below v below low) in
          let other = led.parent v below (omega (arith, hop, far)) (exact.below v below (omega (arith, same, low, few))) in
          omega (
            arith,
            one.least _ (leads-down _ v below low other.leads),
            other.least _ (leads-up _ v below low one.leads),
          )

      walk-agrees : (h v : ℕ) → v < n → slice_index labels' v < limit → slice_index hops' v ≡ h
          → printed_walk (slice_index parents') h v ≡ printed_walk (slice_index parents) h v
      walk-agrees zero v below low is = refl
      walk-agrees (suc h) v below low is =
          let leads = (led'.parent v below (omega (arith, is)) (exact'.below v below low)).leads in
          let tail : slice_index parents' v < n = (All-contains (IsArcBelow n) arcs _ graph leads.within).0 in
          let before = walk-agrees h (slice_index parents' v) tail (omega (arith, leads.leading.tight, low))
          (omega (arith, leads.leading.nearer, is)) in
          ap (λ (xs : List ℕ). xs ++ v ∷ [])
          (before ∙ ap (printed_walk (slice_index parents) h) (parent-agrees v below low (omega (arith, is))))

pub walks_below_agree : WalksBelowAgree
walks_below_agree limit n arcs s labels hops parents labels' hops' parents' few graph least exact led least' exact' led' v
    below low =
    let hop = hop-agrees few graph least least' exact exact' v below low in
    record {
      label = label-down few graph least least' v below low;
      hop = hop;
      walk =
          walk-agrees few graph least least' exact exact' led led' (slice_index hops' v) v below low refl
          ∙ ap (λ (h : ℕ). printed_walk (slice_index parents) h v) hop;
    }
