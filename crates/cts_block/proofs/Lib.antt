pub mod ColumnLemmas
pub mod EdgeLemmas
mod Example
pub mod IndexLemmas
pub mod LawLemmas
pub mod MapLemmas
pub mod ObstacleLemmas
pub mod OrderLemmas
pub mod RasterLemmas
pub mod SearchLemmas
