mod Buckets
mod Changes
mod Drawing
pub mod Facts
mod Growing
mod Lifting
mod Looking
mod Ordering
mod Popping
mod Putting
mod Standing
