-- The lemmas that crates above may cite: rows, a hierarchy and a sweep may be shared by threads.
pub use Rattle.hierarchy.proofs.Shared.{csr_sync, hierarchy_sync, sweep_sync}
