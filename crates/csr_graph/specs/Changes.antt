-- The arcs between pairs of vertices, and those that are left without them.
use Rattle.std.specs.Prelude.{ℕ, Bool, not, ◌==◌, ◌&&◌, List, filter}
use Rattle.std.specs.List.{list_any}
use Rattle.route_walks.specs.declared.graph.ArcRec.{ArcRec}

-- an arc leads from the first vertex of a pair to the second
abbrev pub leads_between : ArcRec → ℕ × ℕ → Bool
leads_between arc pair = (arc.tail == pair.0) && (arc.head == pair.1)

-- the arcs that lead between none of these pairs, in their order
abbrev pub without : List (ℕ × ℕ) → List ArcRec → List ArcRec
without pairs arcs = filter (λ arc. not (list_any (leads_between arc) pairs)) arcs
