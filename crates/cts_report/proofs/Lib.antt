pub mod Numbered
pub mod Printable
