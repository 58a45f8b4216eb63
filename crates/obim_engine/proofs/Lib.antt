pub mod Grown
pub mod Stopping
