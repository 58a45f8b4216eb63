pub mod Hop
pub mod Parent
pub mod Printed
pub mod Search
pub mod Existence
pub mod Told
pub mod Kept
pub mod Toward
