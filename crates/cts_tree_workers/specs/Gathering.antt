-- What is known of a tree's nodes from below as a pass by halves: what it asks for, what its halves are, and what it comes to.
use Rattle.std.specs.Prelude.{◌≡◌, ℕ, ◌+◌, ◌≤◌, List, map, length, Result, IfOk, IfSome}
use Rattle.std.specs.List.{All, AllZip}
use Rattle.cts_num.specs.declared.error.NoMemory.{NoMemory}
use Rattle.cts_postorder.specs.Cut.{IsCut}
use Rattle.cts_postorder.specs.PostOrder.{IsPostOrder, NamesFrom, root_of, trees_of}
use Rattle.cts_tree.specs.declared.nodes.TreeNode.{TreeNode}
use Rattle.cts_tree.specs.Nodes.{children_from, tree_children}
use Rattle.cts_instance.specs.declared.parts.Parts.{Parts}
use Rattle.cts_elmore.specs.declared.figures.NodeFigure.{NodeFigure}
use Rattle.cts_elmore.specs.declared.subtree.Subtree.{Subtree}
use Rattle.cts_elmore.specs.Fits.{FitsInstance}
use Rattle.cts_elmore.specs.Limits.{IsPairOver}
use Rattle.cts_elmore.specs.Loads.{leaf_pins}
use Rattle.cts_elmore.specs.Subtrees.{IsKnownBelow, IsSubtree}
use Rattle.cts_tree_workers.specs.declared.gather.Gather.{Gather}
use Rattle.cts_tree_workers.specs.declared.gather.TreePart.{TreePart}

-- no pair of a stretch of nodes that begins at the number `first` is over the limits
abbrev pub ArePairsWithin : Parts → ℕ → List TreeNode → Type 0
ArePairsWithin i first nodes = All (λ t. ¬ IsPairOver i t) (trees_of (children_from first) nodes)

-- its root has these values on the way up
abbrev pub IsSubtreeFrom : Parts → ℕ → List TreeNode → Subtree → Type 0
IsSubtreeFrom i first nodes s = IfSome (root_of (children_from first) nodes) (λ t. IsSubtree i t s)

-- and this is known from below of its nodes
abbrev pub AreKnownFrom : Parts → ℕ → List TreeNode → List NodeFigure → Type 0
AreKnownFrom i first nodes figures = AllZip (IsKnownBelow i) (trees_of (children_from first) nodes) figures

-- a part can be gathered in a room that has a place for each node
pub record IsReady (work : Gather) (part : TreePart) (room : List NodeFigure) : Type 0 where
  pub post_order : IsPostOrder (map (children_from part.first) part.nodes.now)
  pub numbered : All (NamesFrom tree_children part.first) part.nodes.now
  pub few : part.first + length part.nodes.now ≤ 131071
  pub fits : FitsInstance work.instance.now part.nodes.now
  pub within : ArePairsWithin work.instance.now part.first part.nodes.now
  pub pins_are : part.pins.now ≡ leaf_pins work.instance.now part.nodes.now
  pub places : length room ≡ length part.nodes.now

-- two parts are the halves of a third one, whose root has the one place that is left
pub record AreCut (work : Gather) (part : TreePart) (own : List NodeFigure) (front back : TreePart) : Type 0 where
  pub node : TreeNode
  pub cut : IsCut (children_from part.first) (children_from back.first) part.nodes.now front.nodes.now back.nodes.now node
  pub front_first : front.first ≡ part.first
  pub one : length own ≡ 1
  pub fits : FitsInstance work.instance.now part.nodes.now
  pub within : ArePairsWithin work.instance.now part.first part.nodes.now

-- the room has what is known from below, and the answer is the subtree of the root
pub record IsGathered (work : Gather) (part : TreePart) (room : List NodeFigure) (end : Result Subtree NoMemory) : Type 0 where
  pub root : IfOk end (IsSubtreeFrom work.instance.now part.first part.nodes.now)
  pub known : IfOk end (λ _. AreKnownFrom work.instance.now part.first part.nodes.now room)
