pub mod Bags
pub mod Accounts
pub mod Held
pub mod Orders
pub mod Scales
pub mod Sides
pub mod Steps
