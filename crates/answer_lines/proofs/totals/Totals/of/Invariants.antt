use Rattle.std.proofs.Common.{◌≡◌, ◌+◌, ◌*◌, ◌<◌, ◌≤◌, length, drop}
use Rattle.route_walks.specs.declared.graph.TheConstants.{INF}
use Rattle.answer_lines.specs.Totals.{farthest, greatest, reached, sum_of}
use Rattle.answer_lines.proofs.totals.Totals.of.Given as goal

abbrev pub invariant-loop-v : goal.invariant-loop-v
invariant-loop-v l = record {
  reached : l.totals.reached ≡ reached (drop l.v l.labels);
  sum : l.totals.sum ≡ sum_of (drop l.v l.labels);
  greatest : l.totals.greatest ≡ greatest (drop l.v l.labels);
  farthest : l.totals.farthest ≡ l.v + farthest (drop l.v l.labels);
  few : l.totals.reached + l.v ≤ length l.labels;
  small : l.totals.sum + INF * l.v ≤ INF * length l.labels;
  low : l.totals.greatest < INF;
}
