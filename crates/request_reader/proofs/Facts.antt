-- The lemmas that crates above may cite: lines come to one list, of which what was said is the front, whatever follows.
pub use Rattle.request_reader.proofs.Unique.{one_list}
pub use Rattle.request_reader.proofs.Prefix.{begins_with, so_far}
