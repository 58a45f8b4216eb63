pub mod Lines
pub mod Raw
pub mod Totals
