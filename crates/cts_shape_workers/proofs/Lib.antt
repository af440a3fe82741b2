pub mod Growing
pub mod Sinks
pub mod AllNodes
pub mod Branches
