-- The balanced tree: the placed nodes with the lengths of their wires.
use Rattle.std.specs.Prelude.{◌≡◌, ℕ, ◌+◌, ◌⊎◌, List, [], ◌∷◌, length, Some, IfSome}
use Rattle.std.specs.List.{AllZip}
use Rattle.cts_postorder.specs.BinaryTree.{BinaryTree, tip, fork, label}
use Rattle.cts_postorder.specs.PostOrder.{root_of}
use Rattle.cts_postorder.specs.Occurrence.{Occurrence, occurrences_of}
use Rattle.cts_postorder.specs.Pass.{IsLeastFailure}
use Rattle.cts_tree.specs.declared.nodes.TreeNode.{TreeNode}
use Rattle.cts_tree.specs.Nodes.{tree_children, children_from}
use Rattle.cts_instance.specs.declared.parts.Parts.{Parts}
use Rattle.cts_embed.specs.declared.node.NodeBalance.{NodeBalance}
use Rattle.cts_embed.specs.Balance.{IsBalance, IsBeyondBalance, IsRootWithin}

-- The length of the wire above a tree that stands below these pairs, the nearest first: the root's is that of its route,
-- and each part's is what the balance gave to that side of its pair.
unfoldable pub IsWireLength : Parts → List (BinaryTree TreeNode) → BinaryTree TreeNode → ℕ → Type 0
IsWireLength parts [] t len = len ≡ (label t).route.length
IsWireLength parts (tip n ∷ up) t len = ⊥
IsWireLength parts (fork l r n ∷ up) t len =
    (pair : NodeBalance) × IsBalance parts.params parts.sinks (fork l r n) pair
    × (((t ≡ l) × (len ≡ pair.left_wire)) ⊎ ((t ≡ r) × (len ≡ pair.right_wire)))

abbrev pub IsWireOf : Parts → Occurrence TreeNode → ℕ → Type 0
IsWireOf parts o len = IsWireLength parts o.above o.here len

-- The same of a tree in a stretch of nodes, of which these pairs alone are known: where there is none above it, nothing is
-- said of its wire.
unfoldable pub IsWireBelow : Parts → List (BinaryTree TreeNode) → BinaryTree TreeNode → ℕ → Type 0
IsWireBelow parts [] t len = Unit {0}
IsWireBelow parts (pair ∷ up) t len = IsWireLength parts (pair ∷ up) t len

abbrev pub IsWireBelowOf : Parts → Occurrence TreeNode → ℕ → Type 0
IsWireBelowOf parts o len = IsWireBelow parts o.above o.here len

-- a node of the balanced tree: the placed node, and the length of its wire
pub record IsBalancedNode (parts : Parts) (o : Occurrence TreeNode) (node : TreeNode) : Type 0 where
  pub kind : node.kind ≡ (label o.here).kind
  pub place : node.place ≡ (label o.here).place
  pub route : node.route ≡ (label o.here).route
  pub wire : IsWireOf parts o node.wire

-- a node of a balanced stretch: the placed node, and the length of its wire where a pair of the stretch is above it
pub record IsBalancedBelow (parts : Parts) (o : Occurrence TreeNode) (node : TreeNode) : Type 0 where
  pub kind : node.kind ≡ (label o.here).kind
  pub place : node.place ≡ (label o.here).place
  pub route : node.route ≡ (label o.here).route
  pub wire : IsWireBelowOf parts o node.wire

-- The balanced nodes of a stretch of placed nodes whose children are counted from `first` on: the same nodes with the
-- lengths of the wires below the pairs of the stretch.
abbrev pub IsBalancedStretch : Parts → ℕ → List TreeNode → List TreeNode → Type 0
IsBalancedStretch parts first placed nodes = AllZip (IsBalancedBelow parts) (occurrences_of (children_from first) placed) nodes

-- what the balance makes of the root of a stretch
abbrev pub IsStretchBalance : Parts → ℕ → List TreeNode → NodeBalance → Type 0
IsStretchBalance parts first placed balance =
    IfSome (root_of (children_from first) placed) (λ root. IsBalance parts.params parts.sinks root balance)

-- what the balance makes of the whole placed tree
pub record IsBalancedWhole (parts : Parts) (placed : List TreeNode) (root : BinaryTree TreeNode) (balance : NodeBalance)
    : Type 0 where
  pub whole : root_of tree_children placed ≡ Some root
  pub balanced : IsBalance parts.params parts.sinks root balance

-- all of a placed tree is within the limits, those that are asked of the root alone among them
pub record IsBalancedWithin (parts : Parts) (placed : List TreeNode) : Type 0 where
  pub root : BinaryTree TreeNode
  pub balance : NodeBalance
  pub whole : IsBalancedWhole parts placed root balance
  pub within : IsRootWithin parts (label root).route.length balance

-- The balanced tree of a placed tree, which is within the limits: the same nodes with the lengths of their wires.
pub record IsBalancedTree (parts : Parts) (placed : List TreeNode) (tree : List TreeNode) : Type 0 where
  pub within : IsBalancedWithin parts placed
  pub nodes : AllZip (IsBalancedNode parts) (occurrences_of tree_children placed) tree

-- the whole placed tree is balanced, and its root, at this number, is over the limits that are asked of it alone
pub record IsBeyondRoot (parts : Parts) (placed : List TreeNode) (k : ℕ) : Type 0 where
  pub last : k + 1 ≡ length placed
  pub root : BinaryTree TreeNode
  pub balance : NodeBalance
  pub whole : IsBalancedWhole parts placed root balance
  pub over : ¬ IsRootWithin parts (label root).route.length balance

-- the least number of a node that is beyond
abbrev pub IsLeastBeyond : Parts → List TreeNode → ℕ → Type 0
IsLeastBeyond parts placed k =
    IsLeastFailure tree_children placed (IsBeyondBalance parts.params parts.sinks) k ⊎ IsBeyondRoot parts placed k
