pub mod Shifts
pub mod Freedom
pub mod Steps
pub mod Cursors
pub mod Ahead
pub mod Chosen
pub mod Spans
pub mod Reaches
pub mod Numbered
pub mod Roads
pub mod LimitsMet
pub mod Laying
pub mod Concluding
pub mod Printable
pub mod OneTrunk
mod Example
