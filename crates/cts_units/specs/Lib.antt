pub mod Choice
pub mod Delay
pub mod Ids
pub mod Limits
