use Rattle.hierarchy.proofs.Facts.{hierarchy_sync, sweep_sync}
use Rattle.least_costs.proofs.Shared.{landmarks_sync, network_sync, parts_sync}
use Rattle.least_costs.proofs.pairs.take_ahead.Goals as goal

pub take-requires-sync-T : goal.take-requires-sync-T
take-requires-sync-T g c κs within = search (network_sync, landmarks_sync, hierarchy_sync, sweep_sync, parts_sync) depth 24
