pub mod Attained
pub mod Facts
pub mod Cuts
pub mod Limits
pub mod Bounds
pub mod Labels
pub mod Lowering
pub mod SameArcs
pub mod Added
pub mod Components
pub mod Reseeding
mod Existence
