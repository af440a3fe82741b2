pub mod Desks
pub mod Draws
pub mod Sessions
pub mod Laws
