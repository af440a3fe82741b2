pub mod LeafPoints
pub mod SameKeys
pub mod Maps
pub mod Publications
pub mod Endings
pub mod Positions
pub mod Numbering
pub mod Missing
pub mod Capacitances
pub mod Readings
mod Example
pub mod Sent
