-- What the measurement of a tree comes to: its figures, or the first node that is over the limits.
use Rattle.std.specs.Prelude.{◌≡◌, List, length}
use Rattle.cts_postorder.specs.Pass.{IsLeastFailure}
use Rattle.cts_tree.specs.declared.nodes.TreeNode.{TreeNode}
use Rattle.cts_tree.specs.Nodes.{tree_children}
use Rattle.cts_instance.specs.declared.parts.Parts.{Parts}
use Rattle.cts_elmore.specs.declared.figures.Figures.{Figures}
use Rattle.cts_elmore.specs.declared.measurement.Measured.{Measured}
use Rattle.cts_elmore.specs.declared.measurement.Measured.TheVariants.{Within, Over}
use Rattle.cts_elmore.specs.Figures.{AreFigures, AreFiguresInRange}
use Rattle.cts_elmore.specs.Limits.{IsOver, IsWithinLimits}

-- the tree is within the limits, and these are its figures, one of each node
pub record HasFigures (i : Parts) (nodes : List TreeNode) (figures : Figures) : Type 0 where
  pub within : IsWithinLimits i nodes
  pub are_figures : AreFigures i nodes figures
  pub one_each : length figures.nodes ≡ length nodes
  pub in_range : AreFiguresInRange figures

abbrev pub IsMeasured : Parts → List TreeNode → Measured → Type 0
IsMeasured i nodes (Within figures) = HasFigures i nodes figures
IsMeasured i nodes (Over node) = IsLeastFailure tree_children nodes (IsOver i nodes) node
