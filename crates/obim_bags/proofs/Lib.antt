mod BagRule
mod Cuts
mod Distinct
pub mod Facts
mod Indexing
mod Listed
mod LogRule
mod AccessSteps
mod Prefixes
mod Ties
mod Totals
mod Written
