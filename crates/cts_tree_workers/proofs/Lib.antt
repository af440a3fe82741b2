pub mod Wires
pub mod Balancing
pub mod Gathering
pub mod Downward
