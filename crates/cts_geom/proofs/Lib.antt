pub mod IntervalLemmas
pub mod MeetLemmas
pub mod PassedNumbers
pub mod PointLemmas
pub mod RegionLemmas
