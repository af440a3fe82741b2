use Rattle.std.proofs.Common.{ℕ, ◌<◌, slice_index_or}
use Rattle.cts_tree.specs.declared.nodes.TreeNode.{TreeNode}
use Rattle.cts_elmore.specs.declared.figures.NodeFigure.{NodeFigure}
use Rattle.cts_elmore.specs.Outputs.{LoadIsMet}
use Rattle.cts_trunk.proofs.met.loads_in_tree_met.Given as goal

abbrev pub invariant-loop-number : goal.invariant-loop-number
invariant-loop-number l =
    (k : ℕ) (node : TreeNode) (figure : NodeFigure) → k < l.number
    → LoadIsMet l.limit (slice_index_or l.nodes k node).kind (slice_index_or l.figures k figure).below
