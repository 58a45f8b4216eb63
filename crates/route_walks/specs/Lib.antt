pub mod Walk
pub mod Operators
pub mod Label
pub mod Limit
pub mod Bounds
pub mod Component
pub mod Existence
