-- What is told of a tree without a list of its nodes.
use Rattle.std.specs.Prelude.{◌≡◌, List}
use Rattle.cts_topo.specs.declared.shape.ShapeNode.{ShapeNode}
use Rattle.cts_tree.specs.declared.nodes.TreeNode.{TreeNode}
use Rattle.cts_instance.specs.declared.parts.Parts.{Parts}
use Rattle.cts_elmore.specs.declared.figures.Figures.{Figures}
use Rattle.cts_elmore.specs.Figures.{AreFigures}
use Rattle.cts_plain.specs.Synthesis.{IsSynthesisOver, made}
use Rattle.cts_plain.specs.declared.totals.Totals.{Totals}

-- the skew and the wire of the synthesis over a shape
pub record AreTotalsOver (i : Parts) (shape : List ShapeNode) (totals : Totals) : Type 0 where
  pub tree : List TreeNode
  pub is_tree : IsSynthesisOver i shape (made tree)
  pub figures : Figures
  pub are_figures : AreFigures i tree figures
  pub skew_is : figures.skew ≡ totals.skew
  pub wire_is : figures.wire_total ≡ totals.wire
