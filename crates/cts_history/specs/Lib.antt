pub mod Replies
pub mod Legal
pub mod History
pub mod Laws
pub mod Opening
pub mod Entries
pub mod Readings
