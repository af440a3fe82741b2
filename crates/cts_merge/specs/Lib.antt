pub mod Balance
pub mod Laws
pub mod LeastPair
pub mod Lengths
pub mod Merge
pub mod MergingRegion
pub mod Side
pub mod Stretch
