-- Sizes, lengths and numbers of trees.
use Rattle.std.proofs.Common.{◌≡◌, ℕ, ◌+◌, ◌<◌, List, ◌∷◌, map, length, refl, arith, length-append}
use Rattle.std.proofs.lemmas.List.{map-append}
use Rattle.cts_postorder.specs.BinaryTree.{BinaryTree, tip, fork, label, size, labels, subtrees, root_number}
use Rattle.cts_postorder.specs.Occurrence.{Occurrence, occurrences}

pub size_pos : {N : Type 0} (t : BinaryTree N) → 0 < size t
unfolding size
size_pos (tip n) = omega arith
size_pos (fork l r n) = omega arith

pub length-labels : {N : Type 0} (t : BinaryTree N) → length (labels t) ≡ size t
unfolding size labels
length-labels (tip n) = refl
length-labels (fork l r n) = simp length-append (omega (arith, length-labels l, length-labels r))

pub length-subtrees : {N : Type 0} (t : BinaryTree N) → length (subtrees t) ≡ size t
unfolding size subtrees
length-subtrees (tip n) = refl
length-subtrees (fork l r n) = simp length-append (omega (arith, length-subtrees l, length-subtrees r))

pub length-occurrences : {N : Type 0} (up : List (BinaryTree N)) (t : BinaryTree N) → length (occurrences up t) ≡ size t
unfolding size occurrences
length-occurrences up (tip n) = refl
length-occurrences up (fork l r n) =
    simp length-append (omega (arith, length-occurrences (fork l r n ∷ up) l, length-occurrences (fork l r n ∷ up) r))

-- the root has the last number
pub root_number-next : {N : Type 0} (offset : ℕ) (t : BinaryTree N) → root_number offset t + 1 ≡ offset + size t
unfolding size root_number
root_number-next offset (tip n) = refl
root_number-next offset (fork l r n) = omega arith

-- the subtrees carry the nodes
pub map-label-subtrees : {N : Type 0} (t : BinaryTree N) → map label (subtrees t) ≡ labels t
unfolding label labels subtrees
map-label-subtrees (tip n) = refl
map-label-subtrees (fork l r n) =
    simp (map-append, map-label-subtrees l, map-label-subtrees r)

-- the occurrences carry the subtrees
pub map-here-occurrences : {N : Type 0} (up : List (BinaryTree N)) (t : BinaryTree N)
    → map (λ (o : Occurrence N). o.here) (occurrences up t) ≡ subtrees t
unfolding occurrences subtrees
map-here-occurrences up (tip n) = refl
map-here-occurrences up (fork l r n) =
    simp (map-append, map-here-occurrences (fork l r n ∷ up) l, map-here-occurrences (fork l r n ∷ up) r)
