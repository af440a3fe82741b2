-- Each node but the root has a pair above it.
use Rattle.std.proofs.Common.{◌≡◌, ℕ, ◌+◌, ◌<◌, ◌⊎◌, inl, inr, List, [], ◌∷◌, ◌++◌, get_or, Option, Some, ap, subst, ◌∙◌, arith}
use Rattle.std.proofs.lemmas.Bool.{cases_lt}
use Rattle.cts_postorder.specs.BinaryTree.{BinaryTree, tip, fork, size, labels, root_number, IsNumbered}
use Rattle.cts_postorder.proofs.Sizes.{length-labels, root_number-next}
use Rattle.cts_postorder.proofs.Places.{place, in_left, in_right, at_root, past, get_or-left, get_or-right, get_or-root}

-- the pair above the place j of a tree that is numbered from the offset
pub record ParentOf {N : Type 0} (kids : N → Option (ℕ × ℕ)) (offset : ℕ) (t : BinaryTree N) (j : ℕ) (e : N) : Type 0 where
  pub pair : ℕ
  pub children : ℕ × ℕ
  pub later : j < pair
  pub within : pair < size t
  pub names : kids (get_or (labels t) pair e) ≡ Some children
  pub child : (offset + j ≡ children.0) ⊎ (offset + j ≡ children.1)

module _ {N : Type 0} (kids : N → Option (ℕ × ℕ)) where
  pub parent_of : (t : BinaryTree N) (offset j : ℕ) (e : N) → IsNumbered kids offset t → j + 1 < size t
      → ParentOf kids offset t j e
  unfolding labels size IsNumbered
  parent_of (tip n) offset j e numbered h = absurd (omega arith)
  parent_of (fork l r n) offset j e numbered h =
      let nodes : List N = labels l ++ labels r ++ n ∷ [] in
      let a : ℕ = root_number offset l in
      let b : ℕ = root_number (offset + size l) r in
      let root : kids (get_or nodes (size l + size r) e) ≡ Some (a, b) =
      ap kids (get_or-root (labels l) (labels r) n (size l) (size r) e (length-labels l) (length-labels r))
      ∙ numbered.2 in
      let a_last : a + 1 ≡ offset + size l = root_number-next offset l in
      let b_last : b + 1 ≡ offset + size l + size r = root_number-next (offset + size l) r in
      elim (place (size l) (size r) j) [
        | in_left w ↦ elim (cases_lt (j + 1) (size l)) [
          | inl u ↦
              let v : ParentOf kids offset l j e = parent_of l offset j e (numbered.0) u in
              record {
                pair = v.pair;
                children = v.children;
                later = v.later;
                within = omega (arith, v.within);
                names = ap kids (get_or-left (labels l) (labels r) n v.pair e (omega (arith, v.within, length-labels l))) ∙ v.names;
                child = v.child;
              }
          | inr u ↦ record {
            pair = size l + size r;
            children = (a, b);
            later = omega arith;
            within = omega arith;
            names = root;
            child = inl (omega arith);
          }
        ]
        | in_right i is w ↦ elim (cases_lt (i + 1) (size r)) [
          | inl u ↦
              let v : ParentOf kids (offset + size l) r i e = parent_of r (offset + size l) i e (numbered.1) u in
              let count : offset + size l + i ≡ offset + j = omega arith in
              record {
                pair = size l + v.pair;
                children = v.children;
                later = omega (arith, v.later);
                within = omega (arith, v.within);
                names = ap kids (get_or-right (labels l) (labels r) n (size l) v.pair e (length-labels l)
                    (omega (arith, v.within, length-labels r))) ∙ v.names;
                child = subst (λ k. (k ≡ v.children.0) ⊎ (k ≡ v.children.1)) count v.child;
              }
          | inr u ↦ record {
            pair = size l + size r;
            children = (a, b);
            later = omega arith;
            within = omega arith;
            names = root;
            child = inr (omega arith);
          }
        ]
        | at_root is ↦ absurd (omega arith)
        | past w ↦ absurd (omega arith)
      ]
