pub mod Graph
pub mod Bounds
pub mod Changes
pub mod Layout
pub mod Removal
pub mod Free
pub mod Bins
pub mod Bands
