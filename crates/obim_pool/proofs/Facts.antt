-- The lemma that crates above may cite: of vertices put, and then more.
pub use Rattle.obim_pool.proofs.Putting.{puts_then}
