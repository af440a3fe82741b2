pub mod Sums
pub mod Joins
pub mod Seats
pub mod Lines
pub mod Histories
pub mod Keeps
pub mod Calls
