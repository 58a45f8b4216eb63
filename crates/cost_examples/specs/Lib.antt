pub mod Callers
pub mod Spares
