-- Whether the limits are met, node by node, where every stage that no buffer of the tree begins is shifted.
use Rattle.std.specs.Prelude.{ℕ, ◌+◌, ◌-◌, ◌<◌, ◌==◌, List, length, slice_index_or, if◌then◌else◌}
use Rattle.cts_tree.specs.declared.nodes.TreeNode.{TreeNode}
use Rattle.cts_elmore.specs.declared.figures.NodeFigure.{NodeFigure}
use Rattle.cts_elmore.specs.Outputs.{LoadIsMet, SlewIsMet}

-- no buffer of the tree drives more than the limit
abbrev pub LoadsAreMet : ℕ → List TreeNode → List NodeFigure → Type 0
LoadsAreMet limit nodes figures =
    (k : ℕ) (node : TreeNode) (figure : NodeFigure) → k < length nodes
    → LoadIsMet limit (slice_index_or nodes k node).kind (slice_index_or figures k figure).below

-- The stage of a node, where the root's goes from `old` to `new`. A node has no buffer above it in the tree exactly where its
-- delay is its stage, unless the root's delay is 0.
abbrev pub shifted_stage : ℕ → ℕ → NodeFigure → ℕ
shifted_stage old new figure = if figure.delay == figure.stage then figure.stage - old + new else figure.stage

-- no stage that ends at a leaf or at a buffer has a greater slew than the limit
abbrev pub SlewsAreMet : ℕ → ℕ → ℕ → List TreeNode → List NodeFigure → Type 0
SlewsAreMet limit old new nodes figures =
    (k : ℕ) (node : TreeNode) (figure : NodeFigure) → k < length nodes
    → SlewIsMet limit (slice_index_or nodes k node).kind (shifted_stage old new (slice_index_or figures k figure))
