mod Example
pub mod Stretches
