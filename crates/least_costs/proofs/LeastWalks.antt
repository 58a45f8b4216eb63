-- The printed walks of hops and parents are least walks.
use Rattle.std.proofs.Common.{◌≡◌, ◌≢◌, ◌∙◌, ◌↔◌, ℕ, ◌<◌, List, inl, inr, arith, refl, slice_index}
use Rattle.std.proofs.Common.{IfNone, IfOk, IfSome, Result, Ok, Err, Option, Some, None}
use Rattle.std.specs.Option.{IsNone}
use Rattle.std.proofs.lemmas.Bool.{cases_lt, true≢false}
use Rattle.route_walks.proofs.Facts.{attained-by_walk}
use Rattle.route_walks.specs.declared.graph.TheConstants.{INF}
use Rattle.route_walks.specs.Label.{InfMeansNoWalk}
use Rattle.walk_report.specs.declared.hop.TheConstants.{NONE}
use Rattle.walk_report.specs.Printed.{printed_walk, PrintedWalksAreWalks}
use Rattle.least_costs.specs.declared.start.Start.TheVariants.{At}
use Rattle.least_costs.specs.Costs.{IsUnreached}
use Rattle.least_costs.specs.Network.{NetworkSeen}
use Rattle.least_costs.specs.Walks.{AreWalks, IsLeastWalk}
use Rattle.least_costs.proofs.Unreached.{unreached-at}

-- a vertex that has a hop has a label below INF
finite-at : (net : NetworkSeen) (source : ℕ) (hops parents : List ℕ) (are : AreWalks net source hops parents)
    → (v : ℕ) → v < net.n → slice_index hops v ≢ NONE → slice_index are.labels v < INF
finite-at net source hops parents are v below some =
    elim (cases_lt (slice_index are.labels v) INF) [
      | inl finite ↦ finite
      | inr past ↦ absurd (some (are.fewest.none v below past))
    ]

pub least-walk : PrintedWalksAreWalks → (net : NetworkSeen) (source : ℕ) (hops parents : List ℕ)
    → AreWalks net source hops parents → (v : ℕ) → v < net.n → slice_index hops v ≢ NONE
    → IsLeastWalk net source v (printed_walk (slice_index parents) (slice_index hops v) v)
least-walk law net source hops parents are v below some =
    let finite = finite-at net source hops parents are v below some in
    let goes = law INF net.n net.arcs source are.labels hops parents are.network.ends are.fewest are.before v below finite in
    record {
      walk = goes.walk;
      walks = goes.walks;
      through = goes.through;
      least = λ other walks.
          omega (arith, goes.costs, (are.least.least v below).least _ (attained-by_walk net.arcs source v other walks));
      fewest = λ other walks same.
          omega (arith, goes.count, (are.fewest.hop v below finite).fewest other walks (same ∙ goes.costs));
    }

pub unreached-without_hop : InfMeansNoWalk → (net : NetworkSeen) (source : ℕ) (hops parents : List ℕ)
    → AreWalks net source hops parents → (v : ℕ) → v < net.n → slice_index hops v ≡ NONE
    → IsUnreached net (At source) v
unreached-without_hop law net source hops parents are v below none =
    let capped = (are.least.least v below).capped in
    elim (cases_lt (slice_index are.labels v) INF) [
      | inl finite ↦ absurd (omega (arith, none, are.fewest.below v below finite))
      | inr above ↦ unreached-at law net (At source) are.labels are.network are.within are.least v below (omega (arith, above, capped))
    ]

-- where nothing is found exactly if Z, what follows from Z holds where nothing is found
pub none-told : {A E Z Q : Type 0} (result : Result (Option A) E) → IfOk result (λ found. IsNone found ↔ Z) → (Z → Q)
    → IfOk result (λ found. IfNone found Q)
none-told (Err e) told q = tt
none-told (Ok None) told q = q (told.0 refl)
none-told (Ok (Some a)) told q = tt

-- and what follows from its contrary holds of what is found
pub some-told : {A E Z : Type 0} (P Q : A → Type 0) (result : Result (Option A) E)
    → IfOk result (λ found. IsNone found ↔ Z) → IfOk result (λ found. IfSome found P)
    → ((a : A) → ¬ Z → P a → Q a)
    → IfOk result (λ found. IfSome found Q)
some-told P Q (Err e) told is q = tt
some-told P Q (Ok None) told is q = tt
some-told P Q (Ok (Some a)) told is q = q a (λ z. true≢false (told.1 z)) is
