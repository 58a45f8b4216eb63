pub mod Facts
mod Filters
mod Items
mod Bins
mod Sorting
mod Placing
mod Layouts
mod Parts
mod Raising
mod Halves
mod InOrder
mod Rows
mod Bands
mod Windows
mod Weights
mod BothWays
mod Adding
mod Removals
