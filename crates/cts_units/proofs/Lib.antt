pub mod BufferDelay
pub mod Choices
pub mod WireDelay
