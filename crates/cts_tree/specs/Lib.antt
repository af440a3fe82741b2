pub mod Corners
pub mod Nodes
pub mod Path
pub use Rattle.cts_postorder.specs.BinaryTree
pub use Rattle.cts_postorder.specs.PostOrder
pub use Rattle.cts_postorder.specs.Occurrence
pub use Rattle.cts_postorder.specs.Pass
