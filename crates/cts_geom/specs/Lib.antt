pub mod Coordinate
pub mod Points
pub mod PointLaws
pub mod RegionLaws
pub mod Regions
