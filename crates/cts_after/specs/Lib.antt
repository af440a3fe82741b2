pub mod Outcomes
pub mod After
pub mod Notes
pub mod Laws
pub use Rattle.cts_notes.specs.Front
pub use Rattle.cts_notes.specs.Status
pub use Rattle.cts_notes.specs.Stops
