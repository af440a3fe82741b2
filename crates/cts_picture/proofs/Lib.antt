pub mod Ways
pub mod Whole
pub mod Printing
pub mod Once
pub mod InFrame
pub mod Readings
pub mod Pieces
pub mod Found
