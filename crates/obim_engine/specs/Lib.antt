pub mod Settings
pub mod Workers
pub mod Grown
pub mod Goal
