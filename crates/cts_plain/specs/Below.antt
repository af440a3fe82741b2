-- A tree of a shape as it is placed and balanced.
use Rattle.std.specs.Prelude.{◌≡◌, ℕ, List, ◌∷◌, slice_get, slice_index_or, MatchOption}
use Rattle.cts_units.specs.declared.params.Sink.{Sink}
use Rattle.cts_postorder.specs.BinaryTree.{BinaryTree, tip, fork, label}
use Rattle.cts_postorder.specs.Occurrence.{Occurrence, occurrence, occurrences_of}
use Rattle.cts_topo.specs.declared.shape.ShapeNode.{ShapeNode}
use Rattle.cts_topo.specs.Shape.{children}
use Rattle.cts_tree.specs.declared.nodes.TreeNode.{TreeNode}
use Rattle.cts_instance.specs.declared.parts.Parts.{Parts}
use Rattle.cts_embed.specs.declared.node.NodeBalance.{NodeBalance}
use Rattle.cts_embed.specs.Balance.{IsBalance, IsLeafBalance}
use Rattle.cts_embed.specs.PlacedTree.{IsPlacedNode}
use Rattle.cts_embed.specs.Range.{IsInRange}
use Rattle.cts_plain.specs.declared.below.Below.{Below}

-- The tree of a shape that stands below these pairs, the nearest first, as it is placed: a tree of the same form, each node
-- in its place.
unfoldable pub IsPlacedBelow : Parts → List (BinaryTree ShapeNode) → BinaryTree ShapeNode → BinaryTree TreeNode → Type 0
IsPlacedBelow parts up (tip n) (tip m) = IsPlacedNode parts (occurrence up (tip n)) m
IsPlacedBelow parts up (tip n) (fork l' r' m) = ⊥
IsPlacedBelow parts up (fork l r n) (tip m) = ⊥
IsPlacedBelow parts up (fork l r n) (fork l' r' m) =
    IsPlacedBelow parts (fork l r n ∷ up) l l' × IsPlacedBelow parts (fork l r n ∷ up) r r'
    × IsPlacedNode parts (occurrence up (fork l r n)) m

-- the balance of the leaf of the sink at this place of the list
abbrev pub IsLeafBelow : List Sink → ℕ → NodeBalance → Type 0
IsLeafBelow sinks place balance = MatchOption (slice_get sinks place) ⊥ (λ sink. IsLeafBalance sink balance)

-- what is told of the tree at a number: it is placed, balanced, and the route to its root has this length
pub record IsBelow (parts : Parts) (nodes : List ShapeNode) (number : ℕ) (below : Below) : Type 0 where
  pub placed : BinaryTree TreeNode
  pub is_placed : (o : Occurrence ShapeNode)
      → IsPlacedBelow parts (slice_index_or (occurrences_of children nodes) number o).above
      (slice_index_or (occurrences_of children nodes) number o).here placed
  pub balanced : IsBalance parts.params parts.sinks placed below.balance
  pub route : (label placed).route.length ≡ below.route
