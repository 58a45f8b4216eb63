use Rattle.least_costs.proofs.Facts.{parts_sync}
use Rattle.job_answer.proofs.Shared.{ask_sync, count_sync, graphs_sync, lines_sync}
use Rattle.job_answer.proofs.output.walked_pairs.take_lines.Goals as goal

pub take-requires-sync-T : goal.take-requires-sync-T
take-requires-sync-T g c κs within = search (graphs_sync, ask_sync, lines_sync, count_sync, parts_sync) depth 24 fits 20000
