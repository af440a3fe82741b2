-- What is known of the root of a sound tree with its figures.
use Rattle.std.specs.Prelude.{◌≡◌, ◌+◌, ◌-◌, ◌<◌, ◌≤◌, List, [], length, slice_index_or, Some}
use Rattle.cts_geom.specs.Points.{point_of}
use Rattle.cts_units.specs.Limits.{max_length, max_load}
use Rattle.cts_postorder.specs.BinaryTree.{BinaryTree, label, labels, IsNumbered}
use Rattle.cts_postorder.specs.PostOrder.{root_of}
use Rattle.cts_tree.specs.declared.nodes.TreeNode.{TreeNode}
use Rattle.cts_tree.specs.Nodes.{tree_children}
use Rattle.cts_instance.specs.declared.parts.Parts.{Parts}
use Rattle.cts_elmore.specs.declared.figures.NodeFigure.{NodeFigure}
use Rattle.cts_elmore.specs.declared.figures.Figures.{Figures}
use Rattle.cts_elmore.specs.Delays.{source_delay, wire_delay}
use Rattle.cts_elmore.specs.Figures.{AreFiguresOf}
use Rattle.cts_elmore.specs.Fits.{FitsInstance}
use Rattle.cts_elmore.specs.Sound.{IsLegalRoute, upper_end}
use Rattle.cts_trunk.specs.Assembled.{IsRootBefore}
use Rattle.cts_trunk.specs.Laid.{HasTautTrunk}

pub record IsRootKnown (i : Parts) (nodes : List TreeNode) (figures : Figures) : Type 0 where
  pub root : BinaryTree TreeNode
  pub root_is : root_of tree_children nodes ≡ Some root
  pub numbered : IsNumbered tree_children 0 root
  pub labels_are : labels root ≡ nodes
  pub fits : FitsInstance i nodes
  pub figures_of : AreFiguresOf i root figures
  pub one_each : length figures.nodes ≡ length nodes
  pub taut : HasTautTrunk i (label root)
  pub node : (e : TreeNode) → label root ≡ slice_index_or nodes (length nodes - 1) e
  pub some : 0 < length nodes
  pub legal : IsLegalRoute i.blocks i.die (upper_end i []) (point_of (label root).place) (label root).route
  pub short : (label root).wire ≤ max_length
  pub light : figures.source_load ≤ max_load
  pub old : (f : NodeFigure) → (slice_index_or figures.nodes (length nodes - 1) f).delay ≡ source_delay i root + wire_delay i root
  pub before : IsRootBefore (source_delay i root + wire_delay i root) figures
