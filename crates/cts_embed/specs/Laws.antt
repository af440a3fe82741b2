-- What holds of every placed tree and its balance.
use Rattle.std.specs.Prelude.{◌≡◌, ℕ, ◌≤◌, ◌⊎◌, List, length, map, All}
use Rattle.std.specs.Option.{is_some}
use Rattle.cts_geom.specs.declared.points.Spot.{Spot}
use Rattle.cts_geom.specs.Points.{point_of, distance_of}
use Rattle.cts_geom.specs.Regions.{ContainsSpot}
use Rattle.cts_block.specs.FreePoints.{IsHalfInDie}
use Rattle.cts_block.specs.NearestFree.{IsFree}
use Rattle.cts_units.specs.declared.params.Sink.{Sink}
use Rattle.cts_units.specs.declared.params.Params.{Params}
use Rattle.cts_units.specs.Limits.{IsWire}
use Rattle.cts_postorder.specs.BinaryTree.{BinaryTree, fork}
use Rattle.cts_postorder.specs.PostOrder.{IsPostOrder}
use Rattle.cts_tree.specs.declared.nodes.TreeNode.{TreeNode}
use Rattle.cts_tree.specs.Nodes.{tree_children}
use Rattle.cts_instance.specs.declared.parts.Parts.{Parts}
use Rattle.cts_instance.specs.Validity.{IsValid}
use Rattle.cts_topo.specs.declared.shape.ShapeNode.{ShapeNode}
use Rattle.cts_topo.specs.Shape.{children, IsShapeOver}
use Rattle.cts_merge.specs.declared.side.Finished.{Finished}
use Rattle.cts_up.specs.Plan.{IsFinished, IsPlan}
use Rattle.cts_embed.specs.Places.{IsFirstPlace, IsPairPlace}
use Rattle.cts_embed.specs.PlacedTree.{IsPlacedTree, IsGreatestCut}
use Rattle.cts_embed.specs.Fitting.{Fits}
use Rattle.cts_embed.specs.declared.node.NodeBalance.{NodeBalance}
use Rattle.cts_embed.specs.Balance.{IsBalance}
use Rattle.cts_embed.specs.BalancedTree.{IsBalancedTree, IsLeastBeyond}

-- a shape has one placed tree
abbrev pub PlacedTreeIsOne : Type 0
PlacedTreeIsOne =
    (parts : Parts) (shape : List ShapeNode) (placed other : List TreeNode) → IsPlacedTree parts shape placed
    → IsPlacedTree parts shape other → placed ≡ other

-- and no node that is cut where it has one
abbrev pub PlacedIsNotCut : Type 0
PlacedIsNotCut =
    (parts : Parts) (shape : List ShapeNode) (placed : List TreeNode) (k : ℕ) → IsPlacedTree parts shape placed
    → IsGreatestCut parts shape k → ⊥

abbrev pub GreatestCutIsOne : Type 0
GreatestCutIsOne =
    (parts : Parts) (shape : List ShapeNode) (j k : ℕ) → IsGreatestCut parts shape j → IsGreatestCut parts shape k → j ≡ k

-- a plan of a valid instance has a placed tree, or else a node that is cut
abbrev pub PlansArePlacedOrCut : Type 0
PlansArePlacedOrCut =
    (parts : Parts) (shape : List ShapeNode) (plan : List Finished) → IsValid parts → IsPostOrder (map children shape)
    → IsPlan parts.params parts.sinks shape plan
    → ((placed : List TreeNode) × IsPlacedTree parts shape placed) ⊎ ((k : ℕ) × IsGreatestCut parts shape k)

-- a placed tree names what the instance has
abbrev pub PlacedTreesFit : Type 0
PlacedTreesFit =
    (parts : Parts) (shape : List ShapeNode) (placed : List TreeNode) → IsPlacedTree parts shape placed → IsValid parts
    → IsShapeOver (length parts.sinks) shape → Fits parts placed

-- all places lie in the die
abbrev pub PlacesLieInDie : Type 0
PlacesLieInDie =
    (parts : Parts) (shape : List ShapeNode) (placed : List TreeNode) → IsPlacedTree parts shape placed → IsValid parts
    → All (λ node. IsHalfInDie parts.die (point_of node.place)) placed

-- the place of a pair is free for what the pair has
abbrev pub PairPlacesAreFree : Type 0
PairPlacesAreFree =
    (parts : Parts) (pair : Finished) (from place : Spot) → IsPairPlace parts pair from place
    → IsFree parts.blocks parts.die (is_some pair.buffer) place

-- Where a pair stands in its own region, the first place of each of its parts is no further away than the length of the
-- upward pass.
abbrev pub PartsAreWithinReach : Type 0
PartsAreWithinReach =
    (params : Params) (sinks : List Sink) (l r : BinaryTree ShapeNode) (n : ShapeNode) (pair a b : Finished) (place first : Spot)
    → IsFinished params sinks (fork l r n) pair → IsFinished params sinks l a → IsFinished params sinks r b
    → ContainsSpot pair.side.region place
    → (IsFirstPlace a place first → distance_of first place ≤ pair.ea)
    × (IsFirstPlace b place first → distance_of first place ≤ pair.eb)

-- the balance makes one thing of a tree
abbrev pub BalanceIsOne : Type 0
BalanceIsOne =
    (params : Params) (sinks : List Sink) (t : BinaryTree TreeNode) (a b : NodeBalance) → IsBalance params sinks t a
    → IsBalance params sinks t b → a ≡ b

-- a placed tree has one balanced tree
abbrev pub BalancedTreeIsOne : Type 0
BalancedTreeIsOne =
    (parts : Parts) (placed : List TreeNode) (tree other : List TreeNode) → IsBalancedTree parts placed tree
    → IsBalancedTree parts placed other → tree ≡ other

-- and no node that is beyond where it has one
abbrev pub BalancedIsNotBeyond : Type 0
BalancedIsNotBeyond =
    (parts : Parts) (placed : List TreeNode) (tree : List TreeNode) (k : ℕ) → IsPostOrder (map tree_children placed)
    → IsBalancedTree parts placed tree → IsLeastBeyond parts placed k → ⊥

abbrev pub LeastBeyondIsOne : Type 0
LeastBeyondIsOne =
    (parts : Parts) (placed : List TreeNode) (j k : ℕ) → IsPostOrder (map tree_children placed)
    → IsLeastBeyond parts placed j → IsLeastBeyond parts placed k → j ≡ k

-- a placed tree has a balanced tree, or else a node that is beyond
abbrev pub PlacedTreesAreBalancedOrBeyond : Type 0
PlacedTreesAreBalancedOrBeyond =
    (parts : Parts) (placed : List TreeNode) → IsWire parts.params.wire → IsPostOrder (map tree_children placed) → Fits parts placed
    → ((tree : List TreeNode) × IsBalancedTree parts placed tree) ⊎ ((k : ℕ) × IsLeastBeyond parts placed k)
