pub mod Taken
pub mod Request
pub mod Pieces
