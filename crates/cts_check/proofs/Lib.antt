pub mod Ids
mod Named
pub mod ToldNodes
pub mod SinkRule
pub mod SinkPlaces
pub mod Reaching
pub mod Bare
pub mod BareTrees
pub mod BareSound
pub mod Meeting
pub mod Retold
pub mod EndLengths
pub mod FirstTrue
pub mod Ranks
pub mod Order
pub mod Verdicts
pub mod Accepted
pub mod Judging
pub mod ToldFigures
pub mod FirstFailing
pub mod LegalSteps
pub mod NodesAt
pub mod UpperEnds
pub mod Lengths
mod SeenSpots
