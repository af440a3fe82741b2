pub use Rattle.cts_edit.proofs.Validities
pub mod Sent
