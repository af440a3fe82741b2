mod Example
pub mod Around
pub mod Backs
pub mod TakenBack
pub mod Indexed
pub mod Books
pub mod Going
pub mod Drawing
pub mod OneSynthesis
pub mod OneReply
