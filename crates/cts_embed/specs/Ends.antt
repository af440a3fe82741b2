-- Why there is no tree.
use Rattle.std.specs.Prelude.{ℕ, ◌-◌, ◌≤◌, List}
use Rattle.cts_postorder.specs.Pass.{IsLeastFailure}
use Rattle.cts_topo.specs.declared.shape.ShapeNode.{ShapeNode}
use Rattle.cts_tree.specs.declared.nodes.TreeNode.{TreeNode}
use Rattle.cts_tree.specs.Nodes.{children_from}
use Rattle.cts_instance.specs.declared.parts.Parts.{Parts}
use Rattle.cts_embed.specs.declared.end.BalanceEnd.{BalanceEnd}
use Rattle.cts_embed.specs.declared.end.BalanceEnd.TheVariants.{Beyond, NoMemory}
use Rattle.cts_embed.specs.declared.end.EmbedEnd.{EmbedEnd}
use Rattle.cts_embed.specs.declared.end.EmbedEnd.TheVariants as embed_end
use Rattle.cts_embed.specs.PlacedTree.{IsGreatestCut}
use Rattle.cts_embed.specs.Balance.{IsBeyondBalance}
use Rattle.cts_embed.specs.BalancedTree.{IsLeastBeyond}

-- the balance may end so: at the least node that is beyond, or for want of memory
abbrev pub BalanceEnds : Parts → List TreeNode → BalanceEnd → Type 0
BalanceEnds parts placed (Beyond node) = IsLeastBeyond parts placed node
BalanceEnds parts placed NoMemory = Unit {0}

-- The balance of a stretch of placed nodes, of which the first has the number `first`, may end so: at the least pair of the
-- stretch that is beyond, or for want of memory.
abbrev pub StretchEnds : Parts → ℕ → List TreeNode → BalanceEnd → Type 0
StretchEnds parts first placed (Beyond node) =
    (first ≤ node)
    × IsLeastFailure (children_from first) placed (IsBeyondBalance parts.params parts.sinks) (node - first)
StretchEnds parts first placed NoMemory = Unit {0}

-- the embedding may end so: at the greatest node that is cut, or for want of memory
abbrev pub EmbedEnds : Parts → List ShapeNode → EmbedEnd → Type 0
EmbedEnds parts shape (embed_end.Cut node) = IsGreatestCut parts shape node
EmbedEnds parts shape embed_end.NoMemory = Unit {0}
