use Rattle.std.proofs.Common.{ℕ, ◌<◌, slice_index_or}
use Rattle.cts_tree.specs.declared.nodes.TreeNode.{TreeNode}
use Rattle.cts_elmore.specs.declared.figures.NodeFigure.{NodeFigure}
use Rattle.cts_elmore.specs.Outputs.{SlewIsMet}
use Rattle.cts_trunk.specs.Met.{shifted_stage}
use Rattle.cts_trunk.proofs.met.slews_in_tree_met.Given as goal

abbrev pub invariant-loop-number : goal.invariant-loop-number
invariant-loop-number l =
    (k : ℕ) (node : TreeNode) (figure : NodeFigure) → k < l.number
    → SlewIsMet l.limit (slice_index_or l.nodes k node).kind (shifted_stage l.old l.new (slice_index_or l.figures k figure))
