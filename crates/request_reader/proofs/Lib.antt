pub mod Splits
pub mod Steps
pub mod States
pub mod Unique
pub mod Prefix
pub mod JobRequest
pub mod Facts
pub mod Sections
