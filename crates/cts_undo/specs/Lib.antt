pub mod Inverses
pub mod SinkList
pub mod Replay
pub mod Book
pub mod Answers
pub mod ReplayText
pub mod Laws
