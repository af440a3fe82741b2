-- Skew and its bound: delays and arrivals down from a node to the leaves below it, residues, and their sums. The arrival of a
-- leaf is its delay and twice the offset that its sink wants, since delays are doubled.
use Rattle.std.specs.Prelude.{ℕ, ◌+◌, ◌-◌, ◌*◌, List, [], ◌∷◌, map, take, length, sum_by, min, max}
use Rattle.std.specs.Int.{abs_diff}
use Rattle.cts_postorder.specs.BinaryTree.{BinaryTree, tip, fork}
use Rattle.cts_postorder.specs.Occurrence.{Occurrence, tips}
use Rattle.cts_tree.specs.declared.nodes.TreeNode.{TreeNode}
use Rattle.cts_instance.specs.declared.parts.Parts.{Parts}
use Rattle.cts_elmore.specs.Loads.{offset_at}
use Rattle.cts_elmore.specs.Delays.{wire_delay, buffer_delay, delay_at}

-- the greatest and the least of some numbers, 0 of none
unfoldable pub greatest_of : List ℕ → ℕ
greatest_of [] = 0
greatest_of (x ∷ xs) = max x (greatest_of xs)

unfoldable pub least_of : List ℕ → ℕ
least_of [] = 0
least_of (x ∷ []) = x
least_of (x ∷ y ∷ xs) = min x (least_of (y ∷ xs))

module _ (i : Parts) where
  -- The delay from a node down to a leaf below it, told by the leaf and the pairs from there up to the node: of these
  -- pairs' buffers, the node's own among them, and of the wires below the node.
  abbrev pub delay_down : Occurrence TreeNode → ℕ
  delay_down o = sum_by (buffer_delay i) o.above + sum_by (wire_delay i) (take (length o.above) (o.here ∷ o.above))

  -- the greatest delay from a node down to a leaf at or below it, and the least
  unfoldable pub greatest_delay_below : BinaryTree TreeNode → ℕ
  greatest_delay_below t = greatest_of (map delay_down (tips [] t))

  unfoldable pub least_delay_below : BinaryTree TreeNode → ℕ
  least_delay_below t = least_of (map delay_down (tips [] t))

  -- the arrival at a leaf, told from a node above it on: that delay, and twice the leaf's offset
  abbrev pub arrival_down : Occurrence TreeNode → ℕ
  arrival_down o = delay_down o + 2 * offset_at i o.here

  -- the greatest such arrival at a leaf at or below a node, and the least
  unfoldable pub greatest_below : BinaryTree TreeNode → ℕ
  greatest_below t = greatest_of (map arrival_down (tips [] t))

  unfoldable pub least_below : BinaryTree TreeNode → ℕ
  least_below t = least_of (map arrival_down (tips [] t))

  -- the distance of the greatest arrivals of a pair's two parts, each with its wire
  unfoldable pub residue : BinaryTree TreeNode → ℕ
  residue (tip n) = 0
  residue (fork l r n) = abs_diff (greatest_below l + wire_delay i l) (greatest_below r + wire_delay i r)

  -- the delays of the leaves
  abbrev pub leaf_delays : BinaryTree TreeNode → List ℕ
  leaf_delays root = map (delay_at i root) (tips [] root)

  -- the arrival of a leaf, and those of all leaves
  abbrev pub arrival_at : BinaryTree TreeNode → Occurrence TreeNode → ℕ
  arrival_at root o = delay_at i root o + 2 * offset_at i o.here

  abbrev pub leaf_arrivals : BinaryTree TreeNode → List ℕ
  leaf_arrivals root = map (arrival_at root) (tips [] root)

  -- the greatest arrival of a leaf less the least
  unfoldable pub skew : BinaryTree TreeNode → ℕ
  skew root = greatest_of (leaf_arrivals root) - least_of (leaf_arrivals root)

  -- the greatest sum of residues on the path to a leaf
  unfoldable pub bound : BinaryTree TreeNode → ℕ
  bound root = greatest_of (map (λ o. sum_by residue o.above) (tips [] root))
