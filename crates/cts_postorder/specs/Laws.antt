-- What holds of every list of nodes in post-order, whatever its nodes are.
use Rattle.std.specs.Prelude.{◌≡◌, ℕ, ◌+◌, ◌<◌, ◌≤◌, ◌↔◌, List, [], ◌++◌, map, filter, take, length, slice_get, All, Option, Some}
use Rattle.cts_postorder.specs.BinaryTree.{BinaryTree, is_tip, size, depth, labels, subtrees, IsNumbered}
use Rattle.cts_postorder.specs.PostOrder.{IsPostOrder, trees_of, root_of}
use Rattle.cts_postorder.specs.Occurrence.{Occurrence, occurrence, occurrences, occurrences_of, tips}

-- a list of nodes is in post-order exactly where they are the nodes of a tree that is numbered from 0
abbrev pub PostOrderIsTree : Type 0 → Type 0
PostOrderIsTree N =
    (kids : N → Option (ℕ × ℕ)) (nodes : List N)
    → (IsPostOrder (map kids nodes)) ↔ ((t : BinaryTree N) × (IsNumbered kids 0 t × (labels t ≡ nodes)))

-- of such a tree, the trees at its nodes are its subtrees, the last of them is the whole, and there is one for each node
abbrev pub TreesAreSubtrees : Type 0 → Type 0
TreesAreSubtrees N =
    (kids : N → Option (ℕ × ℕ)) (t : BinaryTree N) → IsNumbered kids 0 t
    → (trees_of kids (labels t) ≡ subtrees t) × (root_of kids (labels t) ≡ Some t)
    × (occurrences_of kids (labels t) ≡ occurrences [] t) × (length (labels t) ≡ size t)

-- the trees of a front are the front of the trees
abbrev pub FrontsKeepTrees : Type 0 → Type 0
FrontsKeepTrees N =
    (kids : N → Option (ℕ × ℕ)) (nodes : List N) (k : ℕ) → k ≤ length nodes
    → trees_of kids (take k nodes) ≡ take k (trees_of kids nodes)

-- the right child of a pair is the node before it, and the left child comes before all of the right part
abbrev pub ChildrenComeBefore : Type 0 → Type 0
ChildrenComeBefore N =
    (kids : N → Option (ℕ × ℕ)) (nodes : List N) → IsPostOrder (map kids nodes)
    → (k : ℕ) (n : N) (left right : ℕ) → slice_get nodes k ≡ Some n → kids n ≡ Some (left, right)
    → (right + 1 ≡ k) × (left < right)

-- the tips are the occurrences without parts, in their order, one more than there are pairs, and the pairs above each are at
-- most the depth
abbrev pub TipsAreOccurrences : Type 0 → Type 0
TipsAreOccurrences N =
    (t : BinaryTree N)
    → (tips [] t ≡ filter (λ (o : Occurrence N). is_tip o.here) (occurrences [] t))
    × (length (tips [] t) + length (tips [] t) ≡ size t + 1)
    × All (λ (o : Occurrence N). length o.above ≤ depth t) (tips [] t)

-- the tips of a tree that stands below the pairs `up` are its own tips, with these pairs above their own
abbrev pub TipsStandBelow : Type 0 → Type 0
TipsStandBelow N =
    (up : List (BinaryTree N)) (t : BinaryTree N)
    → tips up t ≡ map (λ (o : Occurrence N). occurrence (o.above ++ up) o.here) (tips [] t)
