pub mod Parts
pub mod Closest
pub mod Near
pub mod NearShape
pub mod Search
pub mod Forest
pub mod Ends
pub mod Laws
pub mod Synthesis
pub mod TreeEnds
pub use Rattle.cts_up.specs.Plan
pub use Rattle.cts_topo.specs.Shape
pub use Rattle.cts_units.specs.Ids
pub use Rattle.cts_up.specs.Sinks
pub use Rattle.cts_units.specs.Limits
pub use Rattle.cts_plain.specs.Synthesis as PlainSynthesis
pub use Rattle.cts_elmore.specs.Figures
pub use Rattle.cts_elmore.specs.Sound
