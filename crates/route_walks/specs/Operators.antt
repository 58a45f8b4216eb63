-- The operators: which arcs and seeds give distances, hop levels and components, and the seeds of a run that goes on.
use Rattle.std.specs.Prelude.{ℕ, nat_lt, List, [], ◌∷◌, length, map, slice_index}
use Rattle.std.specs.List.{range_with_len, flat_map, filter}
use Rattle.route_walks.specs.declared.graph.ArcRec.{ArcRec}
use Rattle.route_walks.specs.declared.graph.Seed.{Seed}
use Rattle.route_walks.specs.declared.graph.TheConstants.{INF}

-- for distances and hop levels from s: the one seed (s, 0)
abbrev pub seeds_from : ℕ → List Seed
seeds_from s = record { vertex = s; start = 0 } ∷ []

-- for components: a vertex is a seed that starts at its own number
abbrev pub seed_at : ℕ → Seed
seed_at v = record { vertex = v; start = v }

-- for components: each of n vertices is such a seed
abbrev pub seeds_all : ℕ → List Seed
seeds_all n = map seed_at (range_with_len 0 n)

-- the same arc with weight 1
abbrev pub unit_weight : ArcRec → ArcRec
unit_weight arc = record arc { weight = 1 }

-- for hop levels: each arc counts 1
abbrev pub unit_weights : List ArcRec → List ArcRec
unit_weights arcs = map unit_weight arcs

-- an arc as it points, at no cost
abbrev pub along : ArcRec → ArcRec
along arc = record { tail = arc.tail; head = arc.head; weight = 0 }

-- an arc turned round, at no cost
abbrev pub against : ArcRec → ArcRec
against arc = record { tail = arc.head; head = arc.tail; weight = 0 }

-- for components: each arc along and against, at no cost
abbrev pub both_ways : List ArcRec → List ArcRec
both_ways arcs = flat_map (λ arc. along arc ∷ against arc ∷ []) arcs

-- a vertex is a seed that starts at its label
abbrev pub seed_of : (ℕ → ℕ) → ℕ → Seed
seed_of label v = record { vertex = v; start = label v }

-- for a run that goes on from labels: each vertex whose label is below INF is such a seed
abbrev pub seeds_of : List ℕ → List Seed
seeds_of labels =
    filter (λ seed. nat_lt seed.start INF)
    (map (seed_of (slice_index labels)) (range_with_len 0 (length labels)))
