use Rattle.hierarchy.proofs.Facts.{hierarchy_sync, sweep_sync}
use Rattle.least_costs.proofs.Shared.{landmarks_sync, network_sync, parts_sync}
use Rattle.least_costs.proofs.pairs.costs_next.Goals as goal

pub take_ahead-requires-sync-S : goal.take_ahead-requires-sync-S
take_ahead-requires-sync-S g c κs within = search (network_sync, landmarks_sync, hierarchy_sync, sweep_sync, parts_sync) depth 24

pub take_ahead-requires-2-sync-S : goal.take_ahead-requires-2-sync-S
take_ahead-requires-2-sync-S g c κs within = search (network_sync, landmarks_sync, hierarchy_sync, sweep_sync, parts_sync) depth 24
