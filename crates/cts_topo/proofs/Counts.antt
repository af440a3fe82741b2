-- How many leaves and nodes a shape over so many sinks has.
use Rattle.std.proofs.Common.{◌≡◌, ℕ, zero, suc, ◌+◌, ◌-◌, ◌*◌, ◌<◌, ◌≤◌, ◌==◌, cond, nat_lt, List, [], ◌∷◌, ◌++◌, take, drop, length, get_or, count_by, refl, sym, ap, subst, ◌∙◌, arith, length-append, length-drop, take-append-drop}
use Rattle.std.specs.List.{All, AllByRecursion}
use Rattle.std.proofs.lemmas.List.{take_more}
use Rattle.std.proofs.lemmas.List.Elements.{filter_map-append, recursion_from_All}
use Rattle.std.proofs.lemmas.Bool.Decides.{nat_tests}
use Rattle.cts_postorder.specs.BinaryTree.{BinaryTree, tip, fork, size, labels, IsNumbered}
use Rattle.cts_postorder.proofs.Lists.{Whole, whole_of}
use Rattle.cts_topo.specs.declared.shape.ShapeNode.{ShapeNode}
use Rattle.cts_topo.specs.declared.shape.ShapeNode.TheVariants.{Leaf, Pair}
use Rattle.cts_topo.specs.Shape.{children, leaf_sink, leaf_sinks, IsShapeOver}
use Rattle.cts_topo.specs.Laws.{ShapesHaveCounts}
use Rattle.cts_topo.proofs.Ranks.{count_by-cons}

-- a list in which each number below n stands once, and no other number, has n items
below_next : (n : ℕ) (xs : List ℕ)
    → count_by (λ x. nat_lt x (suc n)) xs ≡ count_by (λ x. nat_lt x n) xs + count_by (λ x. x == n) xs
below_next n [] = refl
below_next n (x ∷ xs) =
    let one : cond (nat_lt x (suc n)) 1 0 ≡ cond (nat_lt x n) 1 0 + cond (x == n) 1 0 = grind (arith, nat_tests) in
    omega (
      arith,
      count_by-cons (λ y. nat_lt y (suc n)) x xs,
      count_by-cons (λ y. nat_lt y n) x xs,
      count_by-cons (λ y. y == n) x xs,
      one,
      below_next n xs,
    )

none_below : (xs : List ℕ) → count_by (λ x. nat_lt x 0) xs ≡ 0
none_below [] = refl
none_below (x ∷ xs) =
    let test : ◌≡◌ {A = ℕ} (cond (nat_lt x 0) 1 0) 0 = grind (arith, nat_tests) in
    omega (arith, count_by-cons (λ y. nat_lt y 0) x xs, test, none_below xs)

each_below : (n : ℕ) (xs : List ℕ) → ((s : ℕ) → s < n → count_by (λ x. x == s) xs ≡ 1) → count_by (λ x. nat_lt x n) xs ≡ n
each_below zero xs once = none_below xs
each_below (suc n) xs once =
    let last : count_by (λ x. x == n) xs ≡ 1 = once n (omega arith) in
    omega (arith, below_next n xs, each_below n xs (λ s h. once s (omega arith)), last)

all_below : (n : ℕ) (xs : List ℕ) → AllByRecursion (λ x. x < n) xs → count_by (λ x. nat_lt x n) xs ≡ length xs
all_below n [] all = refl
all_below n (x ∷ xs) all =
    let here : x < n = all.0 in
    let test : ◌≡◌ {A = ℕ} (cond (nat_lt x n) 1 0) 1 = grind (arith, nat_tests) in
    omega (arith, count_by-cons (λ y. nat_lt y n) x xs, test, all_below n xs (all.1))

pub length-leaf_sinks : (count : ℕ) (nodes : List ShapeNode) → IsShapeOver count nodes → length (leaf_sinks nodes) ≡ count
length-leaf_sinks count nodes over =
    sym (all_below count (leaf_sinks nodes) (recursion_from_All (λ s. s < count) (leaf_sinks nodes) over.within))
    ∙ each_below count (leaf_sinks nodes) over.once

-- a tree has one leaf more than pairs
leaves_of_tree : (offset : ℕ) (t : BinaryTree ShapeNode) → IsNumbered children offset t
    → 2 * length (leaf_sinks (labels t)) ≡ size t + 1
unfolding IsNumbered labels size
leaves_of_tree offset (tip (Leaf s)) numbered = refl
leaves_of_tree offset (tip (Pair l r)) numbered = cc
leaves_of_tree offset (fork l r (Leaf s)) numbered = let names = numbered.2 in cc
leaves_of_tree offset (fork l r (Pair i j)) numbered =
    let n : ShapeNode = Pair i j in
    let parts : leaf_sinks (labels l ++ labels r ++ n ∷ []) ≡ leaf_sinks (labels l) ++ leaf_sinks (labels r) ++ leaf_sinks (n ∷ []) =
    filter_map-append leaf_sink (labels l ++ labels r) (n ∷ [])
    ∙ ap (λ xs. xs ++ leaf_sinks (n ∷ [])) (filter_map-append leaf_sink (labels l) (labels r)) in
    let long : length (leaf_sinks (labels l ++ labels r ++ n ∷ []))
    ≡ length (leaf_sinks (labels l)) + length (leaf_sinks (labels r)) =
    ap length parts ∙ simp length-append (omega arith) in
    omega (arith, long, leaves_of_tree offset l (numbered.0), leaves_of_tree (offset + size l) r (numbered.1))

pub length-shape : (count : ℕ) (nodes : List ShapeNode) → IsShapeOver count nodes → length nodes + 1 ≡ 2 * count
length-shape count nodes over =
    let w : Whole children nodes = whole_of children nodes over.post_order in
    let leaves : 2 * length (leaf_sinks nodes) ≡ size w.tree + 1 =
    subst (λ ns. 2 * length (leaf_sinks ns) ≡ size w.tree + 1) w.labels_are (leaves_of_tree 0 w.tree w.numbered) in
    omega (arith, leaves, length-leaf_sinks count nodes over, w.size_is)

pub shapes_have_counts_lem : ShapesHaveCounts
shapes_have_counts_lem count nodes over = (length-leaf_sinks count nodes over, length-shape count nodes over)

-- the leaves of a front, one node further
pub leaves_more : (nodes : List ShapeNode) (k : ℕ) (e : ShapeNode) → k < length nodes
    → leaf_sinks (take (k + 1) nodes) ≡ leaf_sinks (take k nodes) ++ leaf_sinks (get_or nodes k e ∷ [])
leaves_more nodes k e h =
    ap leaf_sinks (take_more nodes k e h) ∙ filter_map-append leaf_sink (take k nodes) (get_or nodes k e ∷ [])

pub leaves_at_leaf : (nodes : List ShapeNode) (k : ℕ) (e : ShapeNode) (s : ℕ) → k < length nodes → get_or nodes k e ≡ Leaf s
    → length (leaf_sinks (take (k + 1) nodes)) ≡ length (leaf_sinks (take k nodes)) + 1
leaves_at_leaf nodes k e s h is =
    ap length (leaves_more nodes k e h ∙ ap (λ n. leaf_sinks (take k nodes) ++ leaf_sinks (n ∷ [])) is) ∙ simp length-append

pub leaves_at_pair : (nodes : List ShapeNode) (k : ℕ) (e : ShapeNode) (l r : ℕ) → k < length nodes → get_or nodes k e ≡ Pair l r
    → length (leaf_sinks (take (k + 1) nodes)) ≡ length (leaf_sinks (take k nodes))
leaves_at_pair nodes k e l r h is =
    ap length (leaves_more nodes k e h ∙ ap (λ n. leaf_sinks (take k nodes) ++ leaf_sinks (n ∷ [])) is)
    ∙ simp length-append (omega arith)

-- and the rest has no more of them than nodes
leaves_at_most : (nodes : List ShapeNode) → length (leaf_sinks nodes) ≤ length nodes
leaves_at_most [] = omega arith
leaves_at_most (Leaf s ∷ nodes) = omega (arith, leaves_at_most nodes)
leaves_at_most (Pair l r ∷ nodes) = omega (arith, leaves_at_most nodes)

pub leaves_of_front : (nodes : List ShapeNode) (k : ℕ)
    → length (leaf_sinks nodes) ≤ length (leaf_sinks (take k nodes)) + (length nodes - k)
leaves_of_front nodes k =
    let parts : leaf_sinks nodes ≡ leaf_sinks (take k nodes) ++ leaf_sinks (drop k nodes) =
    ap leaf_sinks (sym (take-append-drop k nodes)) ∙ filter_map-append leaf_sink (take k nodes) (drop k nodes) in
    let long : length (leaf_sinks nodes) ≡ length (leaf_sinks (take k nodes)) + length (leaf_sinks (drop k nodes)) =
    ap length parts ∙ length-append (leaf_sinks (take k nodes)) (leaf_sinks (drop k nodes)) in
    omega (arith, long, leaves_at_most (drop k nodes), length-drop k nodes)

-- a leaf names one of the sinks
named_in : (P : ℕ → Type 0) (nodes : List ShapeNode) (k : ℕ) (e : ShapeNode) (s : ℕ) → AllByRecursion P (leaf_sinks nodes)
    → k < length nodes → get_or nodes k e ≡ Leaf s → P s
named_in P [] k e s all h is = absurd (omega arith)
named_in P (Leaf t ∷ nodes) zero e s all h is = subst P (ap named is) (all.0)
  where
    named : ShapeNode → ℕ
    named (Leaf u) = u
    named (Pair l r) = 0
named_in P (Pair l r ∷ nodes) zero e s all h is = cc
named_in P (Leaf t ∷ nodes) (suc k) e s all h is = named_in P nodes k e s (all.1) (omega arith) is
named_in P (Pair l r ∷ nodes) (suc k) e s all h is = named_in P nodes k e s all (omega arith) is

pub named_within : (count : ℕ) (nodes : List ShapeNode) → All (λ sink. sink < count) (leaf_sinks nodes) → (k : ℕ) (e : ShapeNode)
    (s : ℕ) → k < length nodes → get_or nodes k e ≡ Leaf s → s < count
named_within count nodes within k e s h is =
    named_in (λ x. x < count) nodes k e s (recursion_from_All (λ x. x < count) (leaf_sinks nodes) within) h is

pub leaf_within : (count : ℕ) (nodes : List ShapeNode) → IsShapeOver count nodes → (k : ℕ) (e : ShapeNode) (s : ℕ)
    → k < length nodes → get_or nodes k e ≡ Leaf s → s < count
leaf_within count nodes over k e s h is = named_within count nodes over.within k e s h is
