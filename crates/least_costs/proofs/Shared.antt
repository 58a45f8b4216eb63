-- A network may be shared by threads. The prover's own search for that stops at its limits, so it is made here once.
use denote.Param.Send.{IsSync, sendable}
use denote.Param.SendFields.{as_row_sync, declared_sync, variants_sync}
use Rattle.std.proofs.Crossing.{crosses, sync as global_sync}
use Rattle.hierarchy.proofs.Facts.{csr_sync, hierarchy_sync}
use Rattle.least_costs.specs.contracts.network.Network as network
use Rattle.least_costs.specs.contracts.network.landmarks.Landmarks as landmarks
use Rattle.least_costs.specs.contracts.network.reversed.Reversed as reversed
use Rattle.least_costs.specs.contracts.network.shortcuts.Shortcuts as shortcuts
use Rattle.least_costs.specs.contracts.cost.Cost as cost
use Rattle.route_walks.specs.contracts.graph.ArcRec as arc

-- what is shared if its parts are
pub ruleset parts_sync = (as_row_sync, declared_sync, variants_sync, global_sync, crosses, sendable)

cost_sync : IsSync cost.the_row
cost_sync = search parts_sync depth 9

arc_sync : IsSync arc.the_row
arc_sync = search parts_sync depth 9

pub landmarks_sync : IsSync landmarks.the_row
landmarks_sync = search (arc_sync, parts_sync) depth 16

reversed_sync : IsSync reversed.the_row
reversed_sync = search (csr_sync, parts_sync) depth 12

shortcuts_sync : IsSync shortcuts.the_row
shortcuts_sync = search (hierarchy_sync, parts_sync) depth 12

pub network_sync : IsSync network.the_row
network_sync = search (shortcuts_sync, landmarks_sync, reversed_sync, csr_sync, cost_sync, arc_sync, parts_sync) depth 14
