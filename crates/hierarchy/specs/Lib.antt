pub mod Checked
pub mod Hierarchy
pub mod Toward
