-- Binary trees whose places carry nodes, and the numbering of their nodes in post-order.
use Rattle.std.specs.Prelude.{◌≡◌, ℕ, ◌+◌, max, Bool, true, false, List, [], ◌∷◌, ◌++◌, Option, Some, None}

-- A binary tree: each place carries a node, and a place is a tip or has a left and a right part.
pub data BinaryTree (N : Type 0) : Type 0 where
  tip : N → BinaryTree N
  fork : BinaryTree N → BinaryTree N → N → BinaryTree N

-- the node at the root
unfoldable pub label : {N : Type 0} → BinaryTree N → N
label (tip n) = n
label (fork l r n) = n

-- whether it has no parts
abbrev pub is_tip : {N : Type 0} → BinaryTree N → Bool
is_tip (tip n) = true
is_tip (fork l r n) = false

-- how many nodes a tree has
unfoldable pub size : {N : Type 0} → BinaryTree N → ℕ
size (tip n) = 1
size (fork l r n) = size l + size r + 1

-- the most pairs that stand one above another over a tip
unfoldable pub depth : {N : Type 0} → BinaryTree N → ℕ
depth (tip n) = 0
depth (fork l r n) = max (depth l) (depth r) + 1

-- the nodes in post-order: all of the left part, all of the right part, then the node above them
unfoldable pub labels : {N : Type 0} → BinaryTree N → List N
labels (tip n) = n ∷ []
labels (fork l r n) = labels l ++ labels r ++ n ∷ []

-- the subtrees in post-order, each at the number of its root
unfoldable pub subtrees : {N : Type 0} → BinaryTree N → List (BinaryTree N)
subtrees (tip n) = tip n ∷ []
subtrees (fork l r n) = subtrees l ++ subtrees r ++ fork l r n ∷ []

-- the number of a tree's root where its nodes are numbered in post-order from an offset on
unfoldable pub root_number : {N : Type 0} → ℕ → BinaryTree N → ℕ
root_number offset (tip n) = offset
root_number offset (fork l r n) = offset + size l + size r

-- The nodes name their children by post-order numbers that begin at the offset. What a node names is told by kids:
-- the numbers of its left and right child, or nothing at a leaf.
unfoldable pub IsNumbered : {N : Type 0} → (N → Option (ℕ × ℕ)) → ℕ → BinaryTree N → Type 0
IsNumbered kids offset (tip n) = kids n ≡ None
IsNumbered kids offset (fork l r n) =
    IsNumbered kids offset l × IsNumbered kids (offset + size l) r
    × (kids n ≡ Some (root_number offset l, root_number (offset + size l) r))
