use Rattle.std.proofs.Common.{◌<◌, ◌^◌, subst, sym}
use Rattle.std.proofs.lemmas.List.Elements.{All-nil}
use Rattle.route_walks.specs.declared.graph.ArcRec.{ArcRec}
use Rattle.route_walks.specs.Walk.{IsArcBelow, IsGraph}
use Rattle.least_costs.proofs.Networks.{graph-along, light-along, over-same}
use Rattle.least_costs.proofs.network.Network.of_graph.Goals as goal

pub invariant_of-result : goal.invariant_of-result
invariant_of-result g c =
    let rows = c.in_ok-rows.rows in
    record {
      network = record {
        few = c.in_ok-rows.ensures.in_rows.vertices;
        ends = c.in_ok-rows.ensures.in_rows.ends;
        light =
            over-same (λ (arc : ArcRec). arc.weight < 2 ^ 32) rows.arcs _ c.in_ok-rows.ensures.arcs
            (light-along c.args.cost c.args.arcs.items c.requires.weights);
        added_ends = subst (IsGraph rows.n) (sym c.new.ensures.items) (All-nil (IsArcBelow rows.n));
      };
      turned = tt;
      told = tt;
      contracted = tt;
    }

pub returns-clause-arcs : goal.returns-clause-arcs
returns-clause-arcs g c = record {
  ends =
      rw c.in_ok-rows.ensures.vertices
      (graph-along c.args.n c.args.cost c.args.arcs.items c.requires.ends);
  rows = rw c.in_ok-rows.ensures.vertices c.in_ok-rows.ensures.rows;
  count = c.in_ok-rows.ensures.count;
}
