-- Placed trees whose nodes name what an instance has.
use Rattle.std.specs.Prelude.{ℕ, ◌≤◌, ◌<◌, List, length, All, Some, None}
use Rattle.cts_instance.specs.declared.parts.Parts.{Parts}
use Rattle.cts_tree.specs.declared.nodes.NodeKind.{NodeKind}
use Rattle.cts_tree.specs.declared.nodes.NodeKind.TheVariants.{Leaf, Pair}
use Rattle.cts_tree.specs.declared.nodes.TreeNode.{TreeNode}

-- with so many sinks and so many buffers in the library: a leaf names one of the sinks, and a buffer is one of the
-- library
unfoldable pub NamesWithin : ℕ → ℕ → NodeKind → Type 0
NamesWithin sinks buffers (Leaf id sink) = sink < sinks
NamesWithin sinks buffers (Pair left right None) = Unit {0}
NamesWithin sinks buffers (Pair left right (Some index)) = index < buffers

-- no more nodes than a tree over 65,536 sinks has, each of which names what the instance has
pub record Fits (parts : Parts) (placed : List TreeNode) : Type 0 where
  pub few : length placed ≤ 131071
  pub names : All (λ node. NamesWithin (length parts.sinks) (length parts.params.library) node.kind) placed
