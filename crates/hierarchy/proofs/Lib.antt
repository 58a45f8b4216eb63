pub mod Arcs
pub mod Listed
pub mod Valleys
pub mod Shared
pub mod Facts
