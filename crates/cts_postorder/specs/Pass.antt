-- Passes over the nodes of a tree by number: upward, each node after its parts, and downward, each node before them.
use Rattle.std.specs.Prelude.{◌≡◌, ℕ, ◌+◌, ◌⊎◌, List, take, drop, slice_get, All, Option, Some}
use Rattle.cts_postorder.specs.BinaryTree.{BinaryTree}
use Rattle.cts_postorder.specs.PostOrder.{trees_of, root_of}
use Rattle.cts_postorder.specs.Occurrence.{Occurrence, occurrences_of}

-- The least number at which an upward pass fails: the tree at this number fails, and none at a lower one does.
pub record IsLeastFailure {N : Type 0} (kids : N → Option (ℕ × ℕ)) (nodes : List N) (Fails : BinaryTree N → Type 0)
    (k : ℕ) : Type 0 where
  pub tree : BinaryTree N
  pub found : slice_get (trees_of kids nodes) k ≡ Some tree
  pub fails : Fails tree
  pub none_before : All (λ t. ¬ Fails t) (take k (trees_of kids nodes))

-- A condition on the root alone is one more way to fail: the tree at the last number can fail by it, and no other, since
-- only the root has as many nodes as the list.
abbrev pub FailsOrAtRoot : {N : Type 0} → (N → Option (ℕ × ℕ)) → List N → (BinaryTree N → Type 0) → (BinaryTree N → Type 0)
    → BinaryTree N → Type 0
FailsOrAtRoot kids nodes Fails RootFails t = Fails t ⊎ ((root_of kids nodes ≡ Some t) × RootFails t)

-- The greatest number at which a downward pass fails, which comes from the last node: the subtree at this number fails,
-- as it stands below its pairs, and none at a higher one does.
pub record IsGreatestFailure {N : Type 0} (kids : N → Option (ℕ × ℕ)) (nodes : List N) (Fails : Occurrence N → Type 0)
    (k : ℕ) : Type 0 where
  pub here : Occurrence N
  pub found : slice_get (occurrences_of kids nodes) k ≡ Some here
  pub fails : Fails here
  pub none_after : All (λ o. ¬ Fails o) (drop (k + 1) (occurrences_of kids nodes))
