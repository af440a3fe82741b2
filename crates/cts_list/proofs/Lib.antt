pub mod Prefixes
pub mod Distinct
pub mod AllOf
