pub mod Found
pub mod Fronts
pub mod Given
pub mod Chains
pub mod Pieces
pub mod Rises
pub mod Told
