-- Subtrees together with the way down to them, for what is carried from the root to the leaves.
use Rattle.std.specs.Prelude.{ℕ, List, [], ◌∷◌, ◌++◌, Option}
use Rattle.std.specs.Option.{option_map_or}
use Rattle.cts_postorder.specs.BinaryTree.{BinaryTree, tip, fork}
use Rattle.cts_postorder.specs.PostOrder.{root_of}

-- a subtree as it stands in a whole tree: the subtree itself, and the pairs above it, the nearest first
pub record Occurrence (N : Type 0) : Type 0 where
  pub above : List (BinaryTree N)
  pub here : BinaryTree N

abbrev pub occurrence : {N : Type 0} → List (BinaryTree N) → BinaryTree N → Occurrence N
occurrence up t = record { above = up; here = t }

-- the subtrees of a tree below the pairs `up`, in post-order, each with the pairs above it
unfoldable pub occurrences : {N : Type 0} → List (BinaryTree N) → BinaryTree N → List (Occurrence N)
occurrences up (tip n) = occurrence up (tip n) ∷ []
occurrences up (fork l r n) =
    occurrences (fork l r n ∷ up) l ++ occurrences (fork l r n ∷ up) r ++ occurrence up (fork l r n) ∷ []

-- the subtrees of a list of nodes, by number, each with the pairs above it
unfoldable pub occurrences_of : {N : Type 0} → (N → Option (ℕ × ℕ)) → List N → List (Occurrence N)
occurrences_of kids nodes = option_map_or (occurrences []) (root_of kids nodes) []

-- The tips of a tree below the pairs `up`, from left to right, each with the pairs above it. With no pair in `up` they
-- are told as they lie below the tree's own root: their pairs are those from the root down to the tip.
unfoldable pub tips : {N : Type 0} → List (BinaryTree N) → BinaryTree N → List (Occurrence N)
tips up (tip n) = occurrence up (tip n) ∷ []
tips up (fork l r n) = tips (fork l r n ∷ up) l ++ tips (fork l r n ∷ up) r
