-- Subtrees lie one in another: where the nodes of one reach down to a number, the nodes of the tree at that number are
-- among them.
use Rattle.std.proofs.Common.{◌≡◌, ℕ, zero, suc, ◌+◌, ◌-◌, ◌<◌, ◌≤◌, List, [], ◌∷◌, ◌++◌, map, length, get_or, Option, refl, ap, ◌∙◌, arith}
use Rattle.cts_postorder.specs.BinaryTree.{BinaryTree, tip, fork, size, subtrees}
use Rattle.cts_postorder.specs.PostOrder.{IsPostOrder, trees_of}
use Rattle.cts_postorder.proofs.Sizes.{length-subtrees}
use Rattle.cts_postorder.proofs.Places.{place, in_left, in_right, at_root, past, get_or-left, get_or-right, get_or-root}
use Rattle.cts_postorder.proofs.Lists.{Whole, whole_of}
use Rattle.cts_postorder.proofs.Failures.{size-subtree}

module _ {N : Type 0} (l r : BinaryTree N) (n : N) (d : BinaryTree N) where
  -- the size of the subtree at a place of a pair
  size_left : (j : ℕ) → j < size l → size (get_or (subtrees (fork l r n)) j d) ≡ size (get_or (subtrees l) j d)
  unfolding subtrees
  size_left j h = ap size (get_or-left (subtrees l) (subtrees r) (fork l r n) j d (omega (arith, length-subtrees l)))

  size_right : (i j : ℕ) → j ≡ size l + i → i < size r → size (get_or (subtrees (fork l r n)) j d) ≡ size (get_or (subtrees r) i d)
  unfolding subtrees
  size_right i j is h =
      ap (λ k. size (get_or (subtrees l ++ subtrees r ++ fork l r n ∷ []) k d)) is
      ∙ ap size (get_or-right (subtrees l) (subtrees r) (fork l r n) (size l) i d (length-subtrees l) (omega (arith, length-subtrees r)))

  size_root : (j : ℕ) → j ≡ size l + size r → size (get_or (subtrees (fork l r n)) j d) ≡ size l + size r + 1
  unfolding subtrees size
  size_root j is =
      ap (λ k. size (get_or (subtrees l ++ subtrees r ++ fork l r n ∷ []) k d)) is
      ∙ ap size (get_or-root (subtrees l) (subtrees r) (fork l r n) (size l) (size r) d (length-subtrees l) (length-subtrees r))

pub size-tip : {N : Type 0} (n : N) → size (tip n) ≡ 1
unfolding size
size-tip n = refl

pub size-fork : {N : Type 0} (l r : BinaryTree N) (n : N) → size (fork l r n) ≡ size l + size r + 1
unfolding size
size-fork l r n = refl

-- The tree at place j begins at place j + 1 less its size. Where that is at most k, it is at most where the tree at place k
-- begins.
pub nested-subtree : {N : Type 0} (t : BinaryTree N) (d : BinaryTree N) (j k : ℕ) → j < size t → k ≤ j
    → j + 1 ≤ k + size (get_or (subtrees t) j d)
    → j + 1 + size (get_or (subtrees t) k d) ≤ k + 1 + size (get_or (subtrees t) j d)
nested-subtree (tip n) d zero zero h below reach = omega arith
nested-subtree (tip n) d zero (suc k) h below reach = absurd (omega arith)
nested-subtree (tip n) d (suc j) k h below reach = absurd (omega (arith, h, size-tip n))
nested-subtree (fork l r n) d j k h below reach =
    elim (place (size l) (size r) j) [
      | in_left w ↦
          omega (
            arith,
            size_left l r n d j w,
            size_left l r n d k (omega arith),
            nested-subtree l d j k w below (omega (arith, reach, size_left l r n d j w)),
          )
      | in_right i is w ↦
          let here : size (get_or (subtrees (fork l r n)) j d) ≡ size (get_or (subtrees r) i d) = size_right l r n d i j is w in
          let small : size (get_or (subtrees r) i d) ≤ i + 1 = size-subtree r i d w in
          let there : size (get_or (subtrees (fork l r n)) k d) ≡ size (get_or (subtrees r) (k - size l) d) =
          size_right l r n d (k - size l) k (omega (arith, reach, here, small)) (omega arith) in
          omega (arith, here, there, is, reach, small, nested-subtree r d i (k - size l) w (omega arith) (omega (arith, reach, here, small)))
      | at_root is ↦ omega (arith, size_root l r n d j is, size-subtree (fork l r n) k d (omega arith))
      | past w ↦ absurd (omega (arith, size-fork l r n))
    ]

module _ {N : Type 0} (kids : N → Option (ℕ × ℕ)) (nodes : List N) (ok : IsPostOrder (map kids nodes)) (d : BinaryTree N) where
  -- the same of the trees of a list of nodes
  pub nested : (j k : ℕ) → j < length nodes → k ≤ j → j + 1 ≤ k + size (get_or (trees_of kids nodes) j d)
      → j + 1 + size (get_or (trees_of kids nodes) k d) ≤ k + 1 + size (get_or (trees_of kids nodes) j d)
  nested j k h below reach =
      let w : Whole kids nodes = whole_of kids nodes ok in
      let same : (i : ℕ) → size (get_or (trees_of kids nodes) i d) ≡ size (get_or (subtrees w.tree) i d) =
      λ i. ap (λ ts. size (get_or ts i d)) w.trees_are in
      omega (
        arith,
        same j,
        same k,
        nested-subtree w.tree d j k (omega (arith, w.size_is)) below (omega (arith, reach, same j)),
      )
