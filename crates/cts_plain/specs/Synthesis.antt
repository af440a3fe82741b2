-- The synthesis of an instance, as a definition: a plan upward, places and routes downward, and the wires balanced upward
-- again. Where one of these ends early there is no tree.
use Rattle.std.specs.Prelude.{ℕ, ◌⊎◌, List}
use Rattle.cts_tree.specs.declared.nodes.TreeNode.{TreeNode}
use Rattle.cts_instance.specs.declared.parts.Parts.{Parts}
use Rattle.cts_topo.specs.declared.shape.ShapeNode.{ShapeNode}
use Rattle.cts_topo.specs.Topology.{shape_of}
use Rattle.cts_merge.specs.declared.side.Finished.{Finished}
use Rattle.cts_up.specs.Plan.{IsPlan}
use Rattle.cts_up.specs.Plan.{IsLeastBeyond as IsBeyondInPlan}
use Rattle.cts_embed.specs.PlacedTree.{IsPlacedTree, IsGreatestCut}
use Rattle.cts_embed.specs.BalancedTree.{IsBalancedTree}
use Rattle.cts_embed.specs.BalancedTree.{IsLeastBeyond as IsBeyondInBalance}

-- what a synthesis comes to: a tree, or the number of the node at which there is none
pub data Synthesis : Type 0 where
  made : List TreeNode → Synthesis
  beyond : ℕ → Synthesis
  cut : ℕ → Synthesis

module _ (i : Parts) (shape : List ShapeNode) where
  -- a placed tree, by the plan of the shape
  pub record IsPlacedBy (placed : List TreeNode) : Type 0 where
    pub plan : List Finished
    pub is_plan : IsPlan i.params i.sinks shape plan
    pub is_placed : IsPlacedTree i shape placed

  -- the plan of a shape, placed and balanced
  pub record IsTreeOf (tree : List TreeNode) : Type 0 where
    pub plan : List Finished
    pub is_plan : IsPlan i.params i.sinks shape plan
    pub placed : List TreeNode
    pub is_placed : IsPlacedTree i shape placed
    pub is_balanced : IsBalancedTree i placed tree

  -- a plan in which a node is cut
  pub record IsCutOf (k : ℕ) : Type 0 where
    pub plan : List Finished
    pub is_plan : IsPlan i.params i.sinks shape plan
    pub is_cut : IsGreatestCut i shape k

  -- a placed tree in which a node is beyond
  pub record IsBeyondOf (k : ℕ) : Type 0 where
    pub plan : List Finished
    pub is_plan : IsPlan i.params i.sinks shape plan
    pub placed : List TreeNode
    pub is_placed : IsPlacedTree i shape placed
    pub is_beyond : IsBeyondInBalance i placed k

  -- Over one shape: first the least node that is beyond in the plan, then the greatest that is cut, then the least that is
  -- beyond in the balance, and else the tree.
  abbrev pub IsSynthesisOver : Synthesis → Type 0
  IsSynthesisOver (made tree) = IsTreeOf tree
  IsSynthesisOver (beyond k) = IsBeyondInPlan i.params i.sinks shape k ⊎ IsBeyondOf k
  IsSynthesisOver (cut k) = IsCutOf k

-- the synthesis of an instance is that over the shape of its sinks
abbrev pub IsSynthesis : Parts → Synthesis → Type 0
IsSynthesis i synthesis = IsSynthesisOver i (shape_of i.sinks) synthesis
