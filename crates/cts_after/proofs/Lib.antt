pub mod Inputs
pub mod Refusals
pub mod Unique
pub mod GoOn
