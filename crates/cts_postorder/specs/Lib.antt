pub mod BinaryTree
pub mod PostOrder
pub mod Occurrence
pub mod Pass
pub mod Cut
pub mod Laws
pub mod Stack
pub mod Waiting
