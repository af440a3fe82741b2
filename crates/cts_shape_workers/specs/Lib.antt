pub mod Growing
pub mod Placing
pub use Rattle.cts_topo.specs.Shape
pub use Rattle.cts_topo.specs.Sinks
pub use Rattle.cts_topo.specs.Topology
pub use Rattle.cts_up.specs.Sites
