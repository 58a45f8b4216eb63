use Rattle.std.proofs.Common.{◌≡◌, ap, arith, length}
use Rattle.least_costs.specs.Network.{IsNetworkOf}
use Rattle.job_answer.specs.Graphs.{cost_for}
use Rattle.job_answer.specs.declared.question.graphs.GrownNetwork.{GrownNetwork}
use Rattle.job_answer.proofs.Growing.{along-kind, grown-alike}
use Rattle.job_answer.proofs.question.graphs.graphs_for.Goals as goal

pub returns-in-None-clause-network : goal.returns-in-None-clause-network
returns-in-None-clause-network g c = rw c.cost_for.ensures at c.in_ok-network.ensures.network

pub returns-in-None-clause-graphs : goal.returns-in-None-clause-graphs
returns-in-None-clause-graphs g c =
    let is : IsNetworkOf c.args.n (cost_for c.args.answer) c.args.arcs.items c.in_ok-network.network =
    rw c.cost_for.ensures at c.in_ok-network.ensures.network in
    record {
      are = record { is = c.n.ensures.network; grows = tt };
      vertices = is.vertices;
      along = along-kind c.args.answer c.args.n c.args.arcs.items c.in_ok-network.network is;
      alike = rw c.in-None.is tt;
    }

pub returns-clause-network : goal.returns-clause-network
returns-clause-network g c = rw c.cost_for.ensures at c.in_ok-network.ensures.network

pub returns-clause-graphs : goal.returns-clause-graphs
returns-clause-graphs g c =
    let is : IsNetworkOf c.args.n (cost_for c.args.answer) c.args.arcs.items c.in_ok-network.network =
    rw c.cost_for.ensures at c.in_ok-network.ensures.network in
    let more = c.in-Ok.ensures in
    let count : c.len-count.result ≡ length c.in-Some.added.items =
    omega (arith, c.len-count.ensures, c.deref.ensures.len, ap length c.deref.ensures.value) in
    let grown : GrownNetwork = record { count = c.len-count.result; network = c.in-Ok.grown } in
    record {
      are = record {
        is = c.n.ensures.network;
        grows = record { is = c.n-2.ensures.network; to = more.grown };
      };
      vertices = is.vertices;
      along = along-kind c.args.answer c.args.n c.args.arcs.items c.in_ok-network.network is;
      alike =
          rw c.in-Some.is
          (grown-alike c.networks_grow.ensures c.args.answer c.args.n c.args.arcs.items c.in-Some.added.items
          c.in_ok-network.network grown count is more.grown more.kind (rw c.deref.ensures.value at more.added));
    }
