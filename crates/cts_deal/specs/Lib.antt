pub mod Counts
pub mod Views
pub mod Dealing
pub mod Steps
pub mod Hands
