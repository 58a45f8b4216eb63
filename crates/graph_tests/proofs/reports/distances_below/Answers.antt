-- Least labels are least up to each limit, and a label past the limit may be higher.
use Rattle.std.proofs.Common.{◌∙◌, ℕ, ◌<◌, ◌≤◌, List, arith, inl, inr, length, set, slice_index}
use Rattle.std.proofs.lemmas.Bool.{cases_eq}
use Rattle.std.proofs.lemmas.List.{get_or_read, get_or-set_same, get_or-set_other, length-set}
use Rattle.route_walks.specs.declared.graph.ArcRec.{ArcRec}
use Rattle.route_walks.specs.declared.graph.Seed.{Seed}
use Rattle.route_walks.specs.declared.graph.TheConstants.{INF}
use Rattle.route_walks.specs.Limit.{AreLeastLabelsUpTo}
use Rattle.route_walks.specs.Operators.{seeds_from}
use Rattle.graph_tests.proofs.reports.distances_below.Goals as goal
use Rattle.graph_tests.proofs.reports.distances_below.Goals.{then-index-limit, else-index-limit}

-- a label past the limit is raised
raised : (limit n : ℕ) (arcs : List ArcRec) (seeds : List Seed) (labels : List ℕ) (v : ℕ) → limit ≤ slice_index labels v
    → v < length labels → AreLeastLabelsUpTo limit n arcs seeds labels
    → AreLeastLabelsUpTo limit n arcs seeds (set labels v INF)
raised limit n arcs seeds labels v past inside up = record {
  count = length-set labels v INF ∙ up.count;
  least = λ w below.
      elim (cases_eq w v) [
        | inr other ↦ rw (get_or-set_other labels v w INF 0 other) (up.least w below)
        | inl same ↦
            rw (same, get_or-set_same labels v INF 0 inside)
            (record {
              capped = omega arith;
              attained = λ low. absurd (omega (arith, low));
              least = λ c attained.
                  elim ((up.least v (omega (arith, inside, up.count))).least c attained) [
                    | inl less ↦ inr (omega (arith, less, past))
                    | inr far ↦ inr far
                  ];
            })
      ];
}

pub loop-v-init : goal.loop-v-init
loop-v-init c =
    let csr = c.args.csr.now in
    let seeds = seeds_from c.args.s in
    let least = c.in_ok-labels.ensures in
    record {
      count = least.count;
      least = λ v below.
          c.least_up_to_a_limit.ensures.all c.args.limit csr.arcs seeds v (slice_index c.in_ok-labels.labels.items v)
          (least.least v below);
    }

pub loop-v-preserved : goal.loop-v-preserved
loop-v-preserved c =
    let csr = c.args.csr.now in
    let labels = c.loop-v.labels.items in
    let v = c.loop-v.v in
    elim c.if-index-limit.branch [
      | else-index-limit w ↦ rw w.labels-is c.loop-v.invariant
      | then-index-limit w ↦
          let inside : v < length labels =
          omega (
            arith,
            c.loop-v-test.true,
            c.len-v-end.ensures,
            c.loop-v.invariant.count,
            c.in_ok-labels.ensures.count,
            c.in_ok-labels.labels.ok,
          ) in
          let read = get_or_read labels v c.index.result.now inside c.index.ensures 0 in
          let past : c.args.limit ≤ slice_index labels v = omega (arith, w.if-index-limit.true, read) in
          rw w.labels-is
          (raised c.args.limit csr.n csr.arcs (seeds_from c.args.s) labels v past inside c.loop-v.invariant)
    ]
