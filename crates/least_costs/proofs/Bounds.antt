-- What labels that are least up to a bound say of costs.
use Rattle.std.proofs.Common.{◌≡◌, ℕ, ◌+◌, ◌<◌, ◌≤◌, List, arith, inl, inr, slice_index, subst}
use Rattle.std.specs.Prelude.{min}
use Rattle.std.proofs.lemmas.Bool.{cases_lt}
use Rattle.route_walks.specs.declared.graph.ArcRec.{ArcRec}
use Rattle.route_walks.specs.declared.graph.Seed.{Seed}
use Rattle.route_walks.specs.declared.graph.TheConstants.{INF}
use Rattle.route_walks.specs.Label.{IsLeast}
use Rattle.route_walks.specs.Limit.{AreLeastLabelsUpTo, IsLeastUpTo}
use Rattle.route_walks.specs.Operators.{seeds_from}
use Rattle.route_walks.proofs.Facts.{least_up_to_is_least}
use Rattle.least_costs.specs.Within.{AreLabelsWithin, IsBeyond, IsCostWithin, WithinSeen}
use Rattle.least_costs.proofs.Unreached.{reached-at, unreached-from}

-- labels that are least up to a limit are so up to a lower one
pub lower-limit : (limit less n : ℕ) (arcs : List ArcRec) (seeds : List Seed) (labels : List ℕ) → less ≤ limit
    → AreLeastLabelsUpTo limit n arcs seeds labels → AreLeastLabelsUpTo less n arcs seeds labels
lower-limit limit less n arcs seeds labels le up = record {
  count = up.count;
  least = λ v below.
      let here = up.least v below in
      record {
        capped = here.capped;
        attained = here.attained;
        least = λ c attained.
            elim (here.least c attained) [
              | inl lower ↦ inl lower
              | inr past ↦ inr (omega (arith, past, le))
            ];
      };
}

-- a label within the bound, below INF, is the least cost
pub cost-within : (seen : WithinSeen) (labels : List ℕ) (v label : ℕ) → AreLabelsWithin seen labels → v < seen.net.n
    → slice_index labels v ≡ label → label ≤ seen.bound → label < INF
    → IsCostWithin seen v label
cost-within seen labels v label are within is low found =
    let up : IsLeastUpTo (min (seen.bound + 1) INF) seen.net.arcs (seeds_from seen.source) v label =
    subst (IsLeastUpTo (min (seen.bound + 1) INF) seen.net.arcs (seeds_from seen.source) v) is
    (are.up.least v within) in
    record {
      least =
          reached-at seen.net seen.source v label
          (least_up_to_is_least (min (seen.bound + 1) INF) seen.net.arcs (seeds_from seen.source) v label up
          (omega (arith, low, found))) found;
      within = low;
    }

-- a label above the bound, or of INF, says that each walk costs more than the bound
pub beyond : (seen : WithinSeen) (labels : List ℕ) (v : ℕ) → AreLabelsWithin seen labels → v < seen.net.n
    → seen.bound < slice_index labels v
    → IsBeyond seen v
beyond seen labels v are within high cost walk =
    let here = are.up.least v within in
    elim (here.least cost walk) [
      | inl lower ↦ omega (arith, lower, high)
      | inr past ↦ omega (arith, past, high, here.capped)
    ]

pub beyond-inf : (seen : WithinSeen) (labels : List ℕ) (v : ℕ) → AreLabelsWithin seen labels → v < seen.net.n
    → slice_index labels v ≡ INF
    → IsBeyond seen v
beyond-inf seen labels v are within is cost walk =
    elim (cases_lt seen.bound INF) [
      | inl low ↦ beyond seen labels v are within (omega (arith, is, low)) cost walk
      | inr high ↦
          let least : IsLeast seen.net.arcs (seeds_from seen.source) v INF =
          subst (IsLeast seen.net.arcs (seeds_from seen.source) v) is
          (least_up_to_is_least (min (seen.bound + 1) INF) seen.net.arcs (seeds_from seen.source) v _
          (are.up.least v within) (omega (arith, is, high))) in
          absurd (unreached-from seen.net seen.source v are.network are.source least cost walk)
    ]
