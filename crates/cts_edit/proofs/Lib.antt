pub mod Places
pub mod Histories
pub mod Validities
pub mod Acceptances
mod Example
pub mod Slots
pub mod Rosters
pub mod DistinctIds
