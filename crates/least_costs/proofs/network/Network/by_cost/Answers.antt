use Rattle.std.proofs.Common.{◌<◌, ◌^◌, refl, subst, sym}
use Rattle.std.proofs.lemmas.List.Elements.{All-nil}
use Rattle.route_walks.specs.declared.graph.ArcRec.{ArcRec}
use Rattle.route_walks.specs.Walk.{IsArcBelow, IsGraph}
use Rattle.least_costs.specs.declared.cost.Cost.TheVariants.{Weight}
use Rattle.least_costs.specs.Network.{IsNetworkOf, NetworkSeen}
use Rattle.least_costs.proofs.Networks.{light-along, network_by, over-same}
use Rattle.least_costs.proofs.network.Network.by_cost.Goals as goal

pub invariant_of-result : goal.invariant_of-result
invariant_of-result g c =
    let before = c.self.inside.rows in
    let rows = c.in_ok-rows.rows in
    record {
      network = record {
        few = c.in_ok-rows.ensures.in_rows.vertices;
        ends = c.in_ok-rows.ensures.in_rows.ends;
        light =
            over-same (λ (arc : ArcRec). arc.weight < 2 ^ 32) rows.arcs _ c.in_ok-rows.ensures.arcs
            (light-along c.args.cost before.arcs c.self.invariant.network.light);
        added_ends = subst (IsGraph rows.n) (sym c.new.ensures.items) (All-nil (IsArcBelow rows.n));
      };
      turned = tt;
      told = tt;
      contracted = tt;
    }

pub returns-clause-network : goal.returns-clause-network
returns-clause-network g c n arcs are =
    let before = c.self.inside.rows in
    let rows = c.in_ok-rows.rows in
    let net : NetworkSeen = record { n = rows.n; cost = c.args.cost; arcs = rows.arcs; added = c.new.result.items } in
    subst (λ (base : NetworkSeen). IsNetworkOf n Weight arcs base → IsNetworkOf n c.args.cost arcs net) c.self.view_is
    (λ base_is.
    network_by n before.n c.args.cost arcs
    (record { n = before.n; cost = c.self.inside.cost; arcs = before.arcs; added = c.self.inside.added.items }) net refl
    base_is
    (record { vertices = c.in_ok-rows.ensures.vertices; kind_is = refl; along = c.in_ok-rows.ensures.arcs })) are
