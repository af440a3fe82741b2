-- How large the residues of a synthesised tree are at most, and with them its skew.
use Rattle.std.specs.Prelude.{◌≡◌, ℕ, ◌+◌, ◌*◌, ◌≤◌, max, List, All, length, Some}
use Rattle.cts_units.specs.declared.params.Wire.{Wire}
use Rattle.cts_postorder.specs.BinaryTree.{BinaryTree, tip, fork, label, subtrees}
use Rattle.cts_postorder.specs.PostOrder.{root_of, trees_of}
use Rattle.cts_tree.specs.declared.nodes.TreeNode.{TreeNode}
use Rattle.cts_tree.specs.Nodes.{tree_children}
use Rattle.cts_instance.specs.declared.parts.Parts.{Parts}
use Rattle.cts_instance.specs.Validity.{IsValid}
use Rattle.cts_topo.specs.declared.shape.ShapeNode.{ShapeNode}
use Rattle.cts_topo.specs.Shape.{IsShapeOver}
use Rattle.cts_elmore.specs.Loads.{load_seen}
use Rattle.cts_elmore.specs.Skew.{residue, skew}
use Rattle.cts_plain.specs.Synthesis.{IsTreeOf}

-- what one unit of length more adds to twice the delay of a wire of this length into this load, which is the delay as it is
-- told, doubled once
abbrev pub step_of : Wire → ℕ → ℕ → ℕ
step_of wire len load = wire.r * (wire.c * (2 * len + 1) + 2 * load)

-- the most pairs that stand above a leaf, down from the root
unfoldable pub height : BinaryTree TreeNode → ℕ
height (tip n) = 0
height (fork l r n) = max (height l) (height r) + 1

module _ (i : Parts) where
  -- Twice the residue of a pair is at most what one unit more would add to a wire of the longer of its two lengths into the
  -- greater of the two loads.
  unfoldable pub HasSmallResidue : BinaryTree TreeNode → Type 0
  HasSmallResidue (tip n) = Unit {0}
  HasSmallResidue (fork l r n) =
      2 * residue i (fork l r n) ≤ step_of i.params.wire (max (label l).wire (label r).wire) (max (load_seen i l) (load_seen i r))

  -- no wire below the root of a tree is longer than this length, and none drives more than this load
  unfoldable pub HasWiresWithin : ℕ → ℕ → BinaryTree TreeNode → Type 0
  HasWiresWithin longest load (tip n) = Unit {0}
  HasWiresWithin longest load (fork l r n) =
      ((label l).wire ≤ longest) × (load_seen i l ≤ load) × ((label r).wire ≤ longest) × (load_seen i r ≤ load)
      × HasWiresWithin longest load l × HasWiresWithin longest load r

-- each pair of the tree of a shape has a small residue
abbrev pub ResiduesAreSmall : Type 0
ResiduesAreSmall =
    (i : Parts) (shape : List ShapeNode) (tree : List TreeNode) → IsValid i → IsShapeOver (length i.sinks) shape
    → IsTreeOf i shape tree → All (HasSmallResidue i) (trees_of tree_children tree)

-- So twice the skew is at most so many times the height of the tree.
abbrev pub SkewIsSmall : Type 0
SkewIsSmall =
    (i : Parts) (shape : List ShapeNode) (tree : List TreeNode) (root : BinaryTree TreeNode) (longest load : ℕ) → IsValid i
    → IsShapeOver (length i.sinks) shape → IsTreeOf i shape tree → root_of tree_children tree ≡ Some root
    → HasWiresWithin i longest load root
    → 2 * skew i root ≤ height root * step_of i.params.wire longest load
