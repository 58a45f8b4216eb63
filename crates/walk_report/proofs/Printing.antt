-- The walk that goes through the vertices of a printed walk.
use Rattle.std.proofs.Common.{◌≡◌, ◌∙◌, ℕ, zero, suc, ◌+◌, ◌<◌, List, [], ◌∷◌, ◌++◌, length, slice_index, ap, refl}
use Rattle.std.proofs.Common.{arith}
use Rattle.std.proofs.lemmas.List.{length_push, map-append}
use Rattle.std.specs.List.{All, Contains}
use Rattle.std.proofs.lemmas.List.Elements.{All-contains, All-nil, All-push}
use Rattle.route_walks.specs.declared.graph.ArcRec.{ArcRec}
use Rattle.route_walks.specs.Walk.{IsArcBelow, IsGraph, IsWalk, cost}
use Rattle.route_walks.proofs.Facts.{walk-append, cost-append}
use Rattle.walk_report.specs.declared.hop.TheConstants.{NONE}
use Rattle.walk_report.specs.Hop.{AreHopsBelow}
use Rattle.walk_report.specs.Parent.{AreParents, LeadBack}
use Rattle.walk_report.specs.Printed.{printed_walk, GoesThrough, PrintedWalksAreWalks}

-- a printed walk has a vertex
pub printed_walk-some : (parent : ℕ → ℕ) (h v : ℕ) → 0 < length (printed_walk parent h v)
printed_walk-some parent zero v = omega arith
printed_walk-some parent (suc h) v = omega (arith, length_push (printed_walk parent h (parent v)) v)

-- where parents lead back, a printed walk goes through vertices
pub printed_walk-within : {hops parents : List ℕ} → LeadBack hops parents
    → (h v : ℕ) → v < length hops → slice_index hops v ≡ h → h < NONE
    → All (λ u. u < length hops) (printed_walk (slice_index parents) h v)
printed_walk-within {hops = hops} back zero v below is some =
    All-push (λ u. u < length hops) [] v (All-nil (λ u. u < length hops)) below
printed_walk-within {hops = hops} {parents = parents} back (suc h) v below is some =
    let u = slice_index parents v in
    let within : u < length hops = back.within v below (omega arith) (omega arith) in
    let nearer : slice_index hops u + 1 ≡ slice_index hops v = back.nearer v below (omega arith) (omega arith) in
    All-push (λ x. x < length hops) (printed_walk (slice_index parents) h u) v
    (printed_walk-within back h u within (omega arith) (omega arith)) below

-- a walk of no arcs
no-arcs : (arcs : List ArcRec) (s v : ℕ) (walk : List ArcRec) → IsWalk arcs s walk v → length walk ≡ 0
    → GoesThrough arcs s v (cost walk) 0 (v ∷ [])
no-arcs arcs s v [] walks count =
    record { walk = []; walks = walks; costs = refl; count = refl; through = ap (λ (x : ℕ). x ∷ []) walks }
no-arcs arcs s v (arc ∷ walk) walks count = absurd (omega (arith, count))

-- a walk through some vertices, and then an arc
goes-on : {arcs : List ArcRec} {s u d h : ℕ} {vertices : List ℕ} → GoesThrough arcs s u d h vertices
    → (v w : ℕ) → Contains arcs (record { tail = u; head = v; weight = w })
    → GoesThrough arcs s v (d + w) (suc h) (vertices ++ v ∷ [])
goes-on {arcs = arcs} {s = s} {u = u} goes v w within =
    let arc : ArcRec = record { tail = u; head = v; weight = w } in
    record {
      walk = goes.walk ++ arc ∷ [];
      walks = walk-append arcs s u v goes.walk (arc ∷ []) goes.walks (within, refl, refl);
      costs = omega (arith, cost-append goes.walk (arc ∷ []), goes.costs);
      count = omega (arith, length_push goes.walk arc, goes.count);
      through =
          ap (λ (xs : List ℕ). s ∷ xs) (map-append (λ (a : ArcRec). a.head) goes.walk (arc ∷ []))
          ∙ ap (λ (xs : List ℕ). xs ++ v ∷ []) goes.through;
    }

goes : {limit n : ℕ} {arcs : List ArcRec} {s : ℕ} {labels hops parents : List ℕ} → IsGraph n arcs
    → AreHopsBelow limit n arcs s labels hops → AreParents n arcs labels hops parents
    → (h v : ℕ) → v < n → slice_index labels v < limit → slice_index hops v ≡ h
    → GoesThrough arcs s v (slice_index labels v) h (printed_walk (slice_index parents) h v)
goes {arcs = arcs} {s = s} graph exact led zero v below low is =
    let walk = (exact.hop v below low).walk in
    rw (← walk.costs) (no-arcs arcs s v walk.walk walk.walks (walk.count ∙ is))
goes {n = n} {arcs = arcs} {parents = parents} graph exact led (suc h) v below low is =
    let leads = (led.parent v below (omega arith) (exact.below v below low)).leads in
    let ends = All-contains (IsArcBelow n) arcs _ graph leads.within in
    let to_parent = goes graph exact led h (slice_index parents v) ends.0
    (omega (arith, leads.leading.tight)) (omega (arith, leads.leading.nearer)) in
    rw (← leads.leading.tight) (goes-on to_parent v leads.weight leads.within)

pub printed_walks_are_walks : PrintedWalksAreWalks
printed_walks_are_walks limit n arcs s labels hops parents graph exact led v below low =
    goes graph exact led (slice_index hops v) v below low refl
