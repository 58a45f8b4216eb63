-- The seeds of a start are among the vertices, and start low.
use Rattle.std.proofs.Common.{ℕ, ◌<◌, ◌≤◌, ◌^◌, [], arith}
use Rattle.std.specs.List.{All, range_with_len}
use Rattle.std.proofs.lemmas.List.Elements.{All-cons, All-map, All-nil, All-weaker}
use Rattle.std.proofs.lemmas.List.FromFn.{get_or-range_with_len, length-range_with_len}
use Rattle.route_walks.specs.declared.graph.Seed.{Seed}
use Rattle.route_walks.specs.declared.graph.TheConstants.{MAX_VERTICES}
use Rattle.route_walks.specs.Walk.{AreSeeds}
use Rattle.route_walks.specs.Operators.{seed_at}
use Rattle.least_costs.specs.declared.start.Start.{Start}
use Rattle.least_costs.specs.declared.start.Start.TheVariants.{At, Everywhere}
use Rattle.least_costs.specs.Network.{IsStartWithin, seeds_at}

vertices-below : (n : ℕ) → All (λ v. v < n) (range_with_len 0 n)
vertices-below n i d below =
    let here : i < n = omega (arith, below, length-range_with_len 0 n) in
    omega (arith, get_or-range_with_len 0 n i d here)

pub start-seeds : (n : ℕ) (start : Start) → IsStartWithin n start → AreSeeds n (seeds_at n start)
start-seeds n (At source) within =
    All-cons (λ (seed : Seed). seed.vertex < n) (record { vertex = source; start = 0 }) [] within (All-nil _)
start-seeds n Everywhere within =
    All-map (λ (seed : Seed). seed.vertex < n) seed_at (range_with_len 0 n) (vertices-below n)

pub starts-low : (n : ℕ) (start : Start) → n ≤ MAX_VERTICES → All (λ seed. seed.start ≤ 2 ^ 60) (seeds_at n start)
starts-low n (At source) few =
    All-cons (λ (seed : Seed). seed.start ≤ 2 ^ 60) (record { vertex = source; start = 0 }) [] (omega arith) (All-nil _)
starts-low n Everywhere few =
    All-map (λ (seed : Seed). seed.start ≤ 2 ^ 60) seed_at (range_with_len 0 n)
    (All-weaker (λ v. v < n) (λ v. v ≤ 2 ^ 60) (λ v below. omega (arith, few, below)) (range_with_len 0 n)
    (vertices-below n))
