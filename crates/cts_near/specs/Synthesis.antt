-- What an instance comes to over the nearest-pair topology of its sinks.
use Rattle.std.specs.Prelude.{ℕ, List}
use Rattle.cts_instance.specs.declared.parts.Parts.{Parts}
use Rattle.cts_topo.specs.declared.shape.ShapeNode.{ShapeNode}
use Rattle.cts_near.specs.NearShape.{IsNearShape, IsNearBeyond}
use Rattle.cts_plain.specs.Synthesis.{Synthesis, IsSynthesisOver}

-- the shape is the nearest-pair topology, and the synthesis is the one over it
pub record IsSynthesisNear (i : Parts) (synthesis : Synthesis) : Type 0 where
  pub shape : List ShapeNode
  pub near : IsNearShape i.params i.sinks shape
  pub over : IsSynthesisOver i shape synthesis

-- what an instance comes to: there is no shape, since this step is the first one that is beyond; or a synthesis over the
-- shape
pub data NearSynthesis : Type 0 where
  at_step : ℕ → NearSynthesis
  over : Synthesis → NearSynthesis

abbrev pub ComesNear : Parts → NearSynthesis → Type 0
ComesNear i (at_step step) = IsNearBeyond i.params i.sinks step
ComesNear i (over synthesis) = IsSynthesisNear i synthesis
