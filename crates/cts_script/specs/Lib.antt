pub mod Generator
pub mod Text
pub mod Steps
pub mod Plain
pub mod Scripts
pub mod Replays
pub mod ScriptText
pub mod Laws
