pub mod Sums
pub mod Views
pub mod Line
pub mod History
pub mod Steps
pub mod Passes
