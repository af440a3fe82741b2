pub mod Turning
pub mod Going
pub mod Serving
pub mod Sent
pub mod Running
