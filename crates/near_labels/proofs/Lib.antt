pub mod Noting
pub mod Lowering
pub mod Bounded
pub mod Meeting
pub mod Facts
pub mod Sweeping
pub mod UpDown
