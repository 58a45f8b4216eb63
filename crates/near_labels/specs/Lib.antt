pub mod Aim
pub mod Found
pub mod Meeting
pub mod Noted
pub mod Sweep
pub mod UpDown
