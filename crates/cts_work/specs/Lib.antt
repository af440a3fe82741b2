pub mod Built
pub mod Known
pub mod Last
pub mod Work
pub mod Pieces
pub mod Done
pub mod Numbered
pub mod Plans
