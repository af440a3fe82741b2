pub mod Counts
pub mod Seats
pub mod Times
pub mod Keeps
pub mod Sent
