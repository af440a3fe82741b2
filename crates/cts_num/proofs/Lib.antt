pub mod CanonicalTexts
pub mod Computed
pub mod Floors
pub mod FrontNumbers
pub mod Fronts
pub mod Lanes
pub mod Lengths
pub mod Pieces
pub mod Readings
pub mod RunNumbers
pub mod Spelling
pub mod Steps
pub mod Tables
pub mod Texts
mod Rows
