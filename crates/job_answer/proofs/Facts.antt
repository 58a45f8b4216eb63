-- The lemmas that crates above may cite: bytes given one after another, and the arcs of an answer kind.
pub use Rattle.job_answer.proofs.Known.{appends-then}
pub use Rattle.job_answer.proofs.Growing.{along-kind}
