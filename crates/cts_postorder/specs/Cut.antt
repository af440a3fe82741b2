-- A stretch of nodes cut at its root.
use Rattle.std.specs.Prelude.{◌≡◌, ℕ, List, [], ◌∷◌, ◌++◌, Option}
use Rattle.cts_postorder.specs.BinaryTree.{BinaryTree, fork, labels, IsNumbered}

-- The nodes of a tree are those of its left part, those of its right part and then its root. The nodes of the tree and of the
-- left part name their children by `kids`, those of the right part by `back_kids`, which counts from their first one on.
pub record IsCut {N : Type 0} (kids back_kids : N → Option (ℕ × ℕ)) (nodes front back : List N) (node : N) : Type 0 where
  pub left : BinaryTree N
  pub right : BinaryTree N
  pub front_is : front ≡ labels left
  pub back_is : back ≡ labels right
  pub nodes_are : nodes ≡ front ++ back ++ node ∷ []
  pub numbered : IsNumbered kids 0 (fork left right node)
  pub back_numbered : IsNumbered back_kids 0 right
