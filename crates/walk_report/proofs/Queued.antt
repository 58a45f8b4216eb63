-- Lists of numbers that only vertices in a queue have, while they are wiped.
use Rattle.std.proofs.Common.{ℕ, ◌<◌, List, slice_index, replicate}
use Rattle.std.proofs.Common.{subst, arith, inl, inr}
use Rattle.std.specs.List.{All, Contains}
use Rattle.std.proofs.lemmas.Bool.{cases_lt}
use Rattle.std.proofs.lemmas.List.{get_or-replicate, length-replicate}
use Rattle.std.proofs.lemmas.List.Elements.{All-from_get_or, Contains-get_or}
use Rattle.route_walks.specs.declared.graph.ArcRec.{ArcRec}
use Rattle.walk_report.specs.declared.hop.TheConstants.{NONE}
use Rattle.walk_report.specs.Search.{AreQueued, IsSearch}

-- where no vertex has a number, the queue may be any
pub queued-none : (n : ℕ) (queue : List ℕ) → AreQueued n (replicate n NONE) queue
queued-none n queue = record {
  count = length-replicate n NONE;
  others = λ v below. inr (get_or-replicate n v NONE 0 below);
}

-- in a search each vertex with a hop is in the queue
pub search-queued : {limit n : ℕ} {arcs : List ArcRec} {label : ℕ → ℕ} {hops queue : List ℕ} {next : ℕ}
    → IsSearch limit n arcs label hops queue next → AreQueued n hops queue
search-queued {hops = hops} {queue = queue} search = record {
  count = search.vertices;
  others = λ v below.
      elim (cases_lt (slice_index hops v) NONE) [
        | inl some ↦
            let stands = search.queued v below some in
            inl (subst (Contains queue) stands.2 (Contains-get_or queue stands.0 0 stands.1))
        | inr none ↦ inr (omega (arith, none, search.fits v below))
      ];
}

pub search-within : {limit n : ℕ} {arcs : List ArcRec} {label : ℕ → ℕ} {hops queue : List ℕ} {next : ℕ}
    → IsSearch limit n arcs label hops queue next → All (λ v. v < n) queue
search-within {n = n} {queue = queue} search =
    All-from_get_or (λ (v : ℕ). v < n) queue 0 (λ k lt. (search.found k lt).vertex)
