pub mod FirstFaultLemmas
pub mod CountLemmas
pub mod LineLemmas
pub mod TestLemmas
pub mod AllowLemmas
pub mod ValidityLemmas
pub mod PlaceLemmas
mod Rows
pub mod IdLemmas
