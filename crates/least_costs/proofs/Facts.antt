-- The lemmas that crates above may cite: the seeds of a start, what `to` tells, what a loop over many sources has
-- kept, lists with an entry for each of another, and arcs of which none is removed. A network may be shared by threads, as
-- what has such parts may.
pub use Rattle.least_costs.proofs.BetweenLemmas.{none_removed}
pub use Rattle.least_costs.proofs.Shared.{network_sync, parts_sync}
pub use Rattle.least_costs.proofs.Starts.{start-seeds}
pub use Rattle.least_costs.proofs.Taken.{cost-told, for-at, for-length, for-more, for-same, taken-all, taken-more, taken-none}
