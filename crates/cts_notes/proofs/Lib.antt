pub mod Fronts
pub mod Noting
mod Wording
