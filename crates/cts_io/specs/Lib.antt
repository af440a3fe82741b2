pub mod Faults
pub mod Host
pub mod Lines
pub mod Memory
pub mod Pending
pub mod Taken
pub mod Text
pub mod Written
