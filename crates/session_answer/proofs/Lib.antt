pub mod ReplyLemmas
pub mod HeardLemmas
pub mod InitialGraphLemmas
pub mod WholeLemmas
pub mod CutLemmas
pub mod CutSessions
pub mod EndLemmas
pub mod Existence
