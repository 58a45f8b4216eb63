pub mod Views
pub mod Lawful
pub mod State
pub mod Events
pub mod Laws
pub mod Runs
