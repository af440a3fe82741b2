pub mod Front
pub mod Notes
pub mod Status
pub mod Stops
pub mod Words
pub use Rattle.cts_read.specs.Grammar
pub use Rattle.cts_read.specs.Whole
