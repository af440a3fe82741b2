-- The nodes of what is joined.
use Rattle.std.proofs.Common.{◌≡◌, ℕ, ◌+◌, ◌-◌, ◌^◌, ◌<◌, ◌≤◌, List, [], ◌∷◌, ◌++◌, length, get_or, refl, ap, ap₂, ◌∙◌, arith, append_assoc, length-append}
use Rattle.cts_postorder.specs.BinaryTree.{BinaryTree, size, labels, root_number}
use Rattle.cts_postorder.proofs.Sizes.{size_pos, length-labels, root_number-next}
use Rattle.cts_topo.specs.declared.shape.ShapeNode.{ShapeNode}
use Rattle.cts_topo.specs.declared.shape.ShapeNode.TheVariants.{Leaf, Pair}
use Rattle.cts_near.specs.Parts.{Joining, single, pair}
use Rattle.cts_near.specs.NearShape.{numbered}
use Rattle.cts_near.specs.Forest.{NamesEarlier, tree_at}
use Rattle.cts_near.proofs.Trees.{tree_at-pair}

-- how many nodes there are does not depend on their numbers
pub size-numbered : (m n : ℕ) (t : Joining) → size (numbered m t) ≡ size (numbered n t)
unfolding numbered size
size-numbered m n (single sink) = refl
size-numbered m n (pair l r) =
    omega (arith, size-numbered m n l, size-numbered (m + size (numbered m l)) (n + size (numbered n l)) r)

pub size-pair : (m n k : ℕ) (l r : Joining) → size (numbered m (pair l r)) ≡ size (numbered n l) + size (numbered k r) + 1
unfolding numbered size
size-pair m n k l r = omega (arith, size-numbered m n l, size-numbered (m + size (numbered m l)) k r)

pub nodes_some : (m : ℕ) (t : Joining) → 0 < size (numbered m t)
nodes_some m t = size_pos (numbered m t)

-- nodes that are appended, and their number
pub longer : (before : List ShapeNode) (m : ℕ) (t : Joining) (after : List ShapeNode) → after ≡ before ++ labels (numbered m t)
    → length after ≡ length before + size (numbered m t)
longer before m t after is =
    omega (arith, ap length is, length-append before (labels (numbered m t)), length-labels (numbered m t))

-- the left part, the right part, and the pair of the two last nodes
pub written_pair : (before first second : List ShapeNode) (l r : Joining) (i j : ℕ)
    → first ≡ before ++ labels (numbered (length before) l) → second ≡ first ++ labels (numbered (length first) r)
    → i ≡ length first - 1 → j ≡ length second - 1
    → second ++ Pair i j ∷ [] ≡ before ++ labels (numbered (length before) (pair l r))
unfolding numbered labels
written_pair before first second l r i j first_is second_is i_is j_is =
    let a : BinaryTree ShapeNode = numbered (length before) l in
    let one : length first ≡ length before + size a = longer before (length before) l first first_is in
    let b : BinaryTree ShapeNode = numbered (length before + size a) r in
    let right : second ≡ first ++ labels b = second_is ∙ ap (λ m. first ++ labels (numbered m r)) one in
    let two : length second ≡ length first + size b = longer first (length before + size a) r second right in
    let left_number : i ≡ root_number (length before) a =
    omega (arith, one, root_number-next (length before) a, size_pos a) in
    let right_number : j ≡ root_number (length before + size a) b =
    omega (arith, one, two, root_number-next (length before + size a) b, size_pos b) in
    let n : ShapeNode = Pair (root_number (length before) a) (root_number (length before + size a) b) in
    ap₂ (λ k m. second ++ Pair k m ∷ []) left_number right_number
    ∙ ap (λ ns. ns ++ n ∷ []) (right ∙ ap (λ ns. ns ++ labels b) first_is)
    ∙ ap (λ ns. ns ++ n ∷ []) (append_assoc before (labels a) (labels b))
    ∙ append_assoc before (labels a ++ labels b) (n ∷ [])

pub written_leaf : (before : List ShapeNode) (sink : ℕ)
    → before ++ Leaf sink ∷ [] ≡ before ++ labels (numbered (length before) (single sink))
unfolding numbered labels
written_leaf before sink = refl

-- The join of this number is a pair of two earlier ones, whose nodes there is room for.
pub record JoinsTwo (joins : List ShapeNode) (join l r before : ℕ) : Type 0 where
  pub left_less : l < join
  pub right_less : r < join
  pub tree : tree_at joins join ≡ pair (tree_at joins l) (tree_at joins r)
  pub room : before + size (numbered 0 (tree_at joins l)) + size (numbered 0 (tree_at joins r)) + 1 ≤ 2 ^ 32

pub joins_two : (joins : List ShapeNode) (join l r before : ℕ) (e : ShapeNode) → NamesEarlier joins → join < length joins
    → get_or joins join e ≡ Pair l r → before + size (numbered 0 (tree_at joins join)) ≤ 2 ^ 32 → JoinsTwo joins join l r before
joins_two joins join l r before e earlier h is room =
    let less : (l < join) × (r < join) = earlier join l r e h is in
    let tree : tree_at joins join ≡ pair (tree_at joins l) (tree_at joins r) = tree_at-pair joins join l r e h is (less.0) (less.1) in
    record {
      left_less = less.0;
      right_less = less.1;
      tree = tree;
      room = omega (
        arith,
        room,
        ap (λ t. size (numbered 0 t)) tree,
        size-pair 0 0 0 (tree_at joins l) (tree_at joins r),
      );
    }

-- the same size, whatever the first number
pub longer_by : (before : List ShapeNode) (t : Joining) (after : List ShapeNode)
    → after ≡ before ++ labels (numbered (length before) t) → length after ≡ length before + size (numbered 0 t)
longer_by before t after is = omega (arith, longer before (length before) t after is, size-numbered (length before) 0 t)
