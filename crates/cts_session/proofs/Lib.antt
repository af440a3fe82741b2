pub mod Draws
pub mod Sent
