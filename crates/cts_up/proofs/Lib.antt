pub mod Leaves
mod LeafOrder
pub mod Unique
pub mod Regions
pub mod Sides
pub mod Node
pub mod Ascending
mod Whole
pub mod Sited
pub mod Exists
pub mod Merges
mod Example
