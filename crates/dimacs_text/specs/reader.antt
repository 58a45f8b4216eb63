-- The reader from inside. Not part of what a caller is promised.
pub mod Machine
pub mod Entries
pub mod Pieces
pub mod FastArc
pub mod Drafts
pub mod Requests
pub mod ArcRuns
