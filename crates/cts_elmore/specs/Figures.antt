-- The figures of a tree, each told by its definition.
use Rattle.std.specs.Prelude.{◌≡◌, ◌+◌, ◌*◌, ◌^◌, ◌≤◌, ◌↔◌, List, [], sum_by, All, Some, IsTrue}
use Rattle.std.specs.List.{AllZip}
use Rattle.cts_units.specs.Limits.{max_delay}
use Rattle.cts_postorder.specs.BinaryTree.{BinaryTree, labels}
use Rattle.cts_postorder.specs.PostOrder.{root_of}
use Rattle.cts_postorder.specs.Occurrence.{Occurrence, occurrences}
use Rattle.cts_tree.specs.declared.nodes.TreeNode.{TreeNode}
use Rattle.cts_tree.specs.Nodes.{tree_children}
use Rattle.cts_instance.specs.declared.parts.Parts.{Parts}
use Rattle.cts_elmore.specs.declared.figures.NodeFigure.{NodeFigure}
use Rattle.cts_elmore.specs.declared.figures.Figures.{Figures}
use Rattle.cts_elmore.specs.Loads.{load_below, offset_at, source_load}
use Rattle.cts_elmore.specs.Delays.{delay_at, stage_at}
use Rattle.cts_elmore.specs.Skew.{greatest_of, least_of, leaf_delays, leaf_arrivals, residue, skew, bound}
use Rattle.cts_elmore.specs.Limits.{MeetsLoadLimit, MeetsSlewLimit}

-- of a node of the tree with this root
pub record IsNodeFigure (i : Parts) (root : BinaryTree TreeNode) (o : Occurrence TreeNode) (figure : NodeFigure) : Type 0 where
  pub below : figure.below ≡ load_below i o.here
  pub residue_is : figure.residue ≡ residue i o.here
  pub delay : figure.delay ≡ delay_at i root o
  pub stage : figure.stage ≡ stage_at i root o
  pub offset : figure.offset ≡ offset_at i o.here

-- of the whole tree
pub record AreFiguresOf (i : Parts) (root : BinaryTree TreeNode) (figures : Figures) : Type 0 where
  pub each_node : AllZip (IsNodeFigure i root) (occurrences [] root) figures.nodes
  pub source_load_is : figures.source_load ≡ source_load i root
  pub wire_total : figures.wire_total ≡ sum_by (λ node. node.wire) (labels root)
  pub greatest : figures.greatest ≡ greatest_of (leaf_delays i root)
  pub least : figures.least ≡ least_of (leaf_delays i root)
  pub arrival_greatest : figures.arrival_greatest ≡ greatest_of (leaf_arrivals i root)
  pub arrival_least : figures.arrival_least ≡ least_of (leaf_arrivals i root)
  pub skew_is : figures.skew ≡ skew i root
  pub bound_is : figures.bound ≡ bound i root
  pub load_met : IsTrue figures.load_met ↔ MeetsLoadLimit i root
  pub slew_met : IsTrue figures.slew_met ↔ MeetsSlewLimit i root

-- of a tree that is told as the list of its nodes
pub record AreFigures (i : Parts) (nodes : List TreeNode) (figures : Figures) : Type 0 where
  pub root : BinaryTree TreeNode
  pub root_is : root_of tree_children nodes ≡ Some root
  pub figures_of : AreFiguresOf i root figures

-- the delays of a node of a tree that is within the limits, and the arrival of a leaf
pub record IsFigureInRange (figure : NodeFigure) : Type 0 where
  pub residue_within : figure.residue ≤ max_delay
  pub delay_within : figure.delay ≤ max_delay
  pub stage_within : figure.stage ≤ max_delay
  pub arrival_within : figure.delay + 2 * figure.offset ≤ max_delay

-- The delays and arrivals of such a tree. The bound sums the residues of up to 65,535 pairs.
pub record AreFiguresInRange (figures : Figures) : Type 0 where
  pub each_in_range : All IsFigureInRange figures.nodes
  pub greatest_within : figures.greatest ≤ max_delay
  pub least_within : figures.least ≤ max_delay
  pub arrival_greatest_within : figures.arrival_greatest ≤ max_delay
  pub arrival_least_within : figures.arrival_least ≤ max_delay
  pub skew_within : figures.skew ≤ max_delay
  pub bound_within : figures.bound ≤ 2 ^ 121
