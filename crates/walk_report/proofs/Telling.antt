-- The walks by hops and parents below a limit are those that the least labels tell.
use Rattle.std.proofs.Common.{◌≡◌, ◌∙◌, ℕ, ◌+◌, ◌<◌, ◌≤◌, List, [], length, get_or, map, min, slice_index, sym, ap, subst, refl}
use Rattle.std.proofs.Common.{arith, inl, inr}
use Rattle.std.specs.List.{All}
use Rattle.std.specs.declared.vec.Vec.{Vec}
use Rattle.std.specs.declared.alloc.Global.{Global}
use Rattle.std.proofs.lemmas.Bool.{cases_lt}
use Rattle.std.proofs.lemmas.Bool.Decides.{nat_tests}
use Rattle.std.proofs.lemmas.List.{get_or-map, length-map}
use Rattle.std.proofs.lemmas.List.Elements.{All-nil, All-get_or}
use Rattle.route_walks.specs.declared.graph.ArcRec.{ArcRec}
use Rattle.route_walks.specs.declared.graph.TheConstants.{INF}
use Rattle.route_walks.specs.Walk.{IsGraph}
use Rattle.route_walks.specs.Limit.{AreLeastToward}
use Rattle.route_walks.specs.Operators.{seeds_from}
use Rattle.route_walks.proofs.Facts.{least_toward_is_least_up_to, least_up_to_agrees}
use Rattle.walk_report.specs.declared.hop.TheConstants.{NONE}
use Rattle.walk_report.specs.Toward.{AreTightHops}
use Rattle.walk_report.specs.Parent.{AreParents, LeadBack}
use Rattle.walk_report.specs.Printed.{printed_walk}
use Rattle.walk_report.specs.Told.{walk_by, walks_in, IsWalkOf, AreWalksTo}
use Rattle.walk_report.proofs.Toward.{hop-there, walks_toward_agree}
use Rattle.walk_report.proofs.Printing.{printed_walk-some, printed_walk-within}

-- the walk to a vertex without a hop has no vertices
walk_by-none : (hops parents : List ℕ) (v : ℕ) → slice_index hops v ≡ NONE → walk_by hops parents v ≡ []
walk_by-none hops parents v none = grind (arith, nat_tests, none)

-- that of one with a hop is its printed walk
walk_by-some : (hops parents : List ℕ) (v : ℕ) → slice_index hops v < NONE
    → walk_by hops parents v ≡ printed_walk (slice_index parents) (slice_index hops v) v
walk_by-some hops parents v some = grind (arith, nat_tests, some)

module _ {limit n : ℕ} {arcs : List ArcRec} {s : ℕ} {labels hops parents : List ℕ} (few : limit ≤ INF)
    (graph : IsGraph n arcs) (s-in : s < n) (tight : AreTightHops limit n arcs s (slice_index labels) hops)
    (led : AreParents n arcs labels hops parents) (back : LeadBack hops parents) where
  -- a vertex that is not below the limit has no hop
  hop-none : (v : ℕ) → v < n → limit ≤ slice_index labels v → slice_index hops v ≡ NONE
  hop-none v below past =
      elim (cases_lt (slice_index hops v) NONE) [
        | inl some ↦ absurd (omega (arith, tight.low v below some, past))
        | inr none ↦ omega (arith, none, tight.fits v below)
      ]

  -- the walk to a vertex below the limit, on the way to which labels are least
  walk-below : (v : ℕ) → v < n → AreLeastToward limit n arcs (seeds_from s) v (slice_index labels)
      → slice_index labels v < limit
      → IsWalkOf n arcs s v (slice_index labels v) (walk_by hops parents v)
  walk-below v below toward low =
      let some = hop-there labels few graph s-in below toward tight low in
      let walk = walk_by-some hops parents v some in
      rw walk (record {
        told = λ labels' hops' parents' least' exact' led'.
            let same = walks_toward_agree limit n arcs s v labels' hops' parents' labels hops parents few graph least' exact'
            led' s-in below toward tight led low in
            record { label = sym same.label; walk = λ _. same.walk };
        within =
            rw tight.led.count at
            (printed_walk-within back (slice_index hops v) v (omega (arith, tight.led.count, below)) refl some);
        some = λ _. printed_walk-some (slice_index parents) (slice_index hops v) v;
        none = λ is. absurd (omega (arith, is, low, few));
      })

  -- a vertex that no walk reaches
  walk-none : (v : ℕ) → v < n → AreLeastToward limit n arcs (seeds_from s) v (slice_index labels)
      → slice_index labels v ≡ INF → limit ≡ INF
      → IsWalkOf n arcs s v (slice_index labels v) (walk_by hops parents v)
  walk-none v below toward is all =
      let walk = walk_by-none hops parents v (hop-none v below (omega (arith, is, few))) in
      let up = least_toward_is_least_up_to limit arcs (seeds_from s) v (slice_index labels v) (toward v below) in
      rw walk (record {
        told = λ labels' hops' parents' least' exact' led'.
            let there = least'.least v below in
            let agrees = least_up_to_agrees limit arcs (seeds_from s) v (slice_index labels v) (slice_index labels' v) up there in
            record {
              label = omega (arith, agrees.0, agrees.1, is, all, there.capped);
              walk = λ finite. absurd (omega (arith, finite, is));
            };
        within = All-nil (λ (u : ℕ). u < n);
        some = λ finite. absurd (omega (arith, finite, is));
        none = λ _. refl;
      })

  -- the walk to a vertex that the limit serves
  walk-served : (v : ℕ) → v < n → AreLeastToward limit n arcs (seeds_from s) v (slice_index labels)
      → min (slice_index labels v + 1) INF ≤ limit
      → IsWalkOf n arcs s v (slice_index labels v) (walk_by hops parents v)
  walk-served v below toward served =
      elim (cases_lt (slice_index labels v) limit) [
        | inl low ↦ walk-below v below toward low
        | inr past ↦
            walk-none v below toward (omega (arith, past, served, few, (toward v below).capped))
            (omega (arith, past, served, few))
      ]

  -- walks by hops and parents are the walks to the targets
  pub walks-told : (targets : List ℕ) (walks : List (Vec ℕ Global)) → All (λ t. t < n) targets
      → All (λ t. AreLeastToward limit n arcs (seeds_from s) t (slice_index labels)) targets
      → walks_in walks ≡ map (walk_by hops parents) targets
      → AreWalksTo limit n arcs s labels targets walks
  walks-told targets walks within least is =
      let at : (k : ℕ) → k < length targets
      → get_or (walks_in walks) k [] ≡ walk_by hops parents (slice_index targets k) =
      λ k lt. ap (λ (xs : List (List ℕ)). get_or xs k []) is ∙ get_or-map (walk_by hops parents) targets k 0 [] lt in
      let below : (k : ℕ) → k < length targets → slice_index targets k < n =
      λ k lt. All-get_or (λ (t : ℕ). t < n) targets k 0 lt within in
      record {
        count =
            sym (length-map walks (λ (vector : Vec ℕ Global). vector.items)) ∙ ap length is
            ∙ length-map targets (walk_by hops parents);
        each = λ k lt served.
            subst (IsWalkOf n arcs s (slice_index targets k) (slice_index labels (slice_index targets k)))
            (sym (at k lt)) (walk-served (slice_index targets k) (below k lt)
            (All-get_or (λ (t : ℕ). AreLeastToward limit n arcs (seeds_from s) t (slice_index labels)) targets k 0 lt least)
            served);
        past = λ k lt far.
            at k lt ∙ walk_by-none hops parents (slice_index targets k) (hop-none (slice_index targets k) (below k lt) far);
      }
