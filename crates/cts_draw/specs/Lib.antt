pub mod Drawing
pub mod Notes
pub use Rattle.cts_notes.specs.Front
pub use Rattle.cts_notes.specs.Status
pub use Rattle.cts_notes.specs.Stops
pub use Rattle.cts_picture.specs.Picture
