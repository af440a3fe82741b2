-- The definitions, computed on a worked list of nodes.
use Rattle.std.proofs.Common.{◌≡◌, ℕ, List, [], ◌∷◌, Option, Some, None, map, refl, ap, arith}
use Rattle.cts_postorder.specs.BinaryTree.{BinaryTree, tip, fork, label, labels, subtrees, size, depth, root_number, IsNumbered}
use Rattle.cts_postorder.specs.PostOrder.{IsPostOrder, IsPostOrderFrom, trees_of, root_of, grow, tree_over}
use Rattle.cts_postorder.specs.Occurrence.{Occurrence, occurrences, occurrences_of, tips}

-- a node of the example: a leaf with its sink's place in a list, or a pair that names its children
data Node : Type 0 where
  leaf : ℕ → Node
  pair : ℕ → ℕ → Node

abbrev children : Node → Option (ℕ × ℕ)
children (leaf sink) = None
children (pair left right) = Some (left, right)

-- four sinks from the last to the first, in two pairs under a third
abbrev nodes : List Node
nodes = leaf 3 ∷ leaf 2 ∷ pair 0 1 ∷ leaf 1 ∷ leaf 0 ∷ pair 3 4 ∷ pair 2 5 ∷ []

abbrev first : BinaryTree Node
first = fork (tip (leaf 3)) (tip (leaf 2)) (pair 0 1)

abbrev second : BinaryTree Node
second = fork (tip (leaf 1)) (tip (leaf 0)) (pair 3 4)

abbrev whole : BinaryTree Node
whole = fork first second (pair 2 5)

example_is_post_order : IsPostOrder (map children nodes)
unfolding IsPostOrderFrom
example_is_post_order = (refl, (refl, (refl, tt)))

-- with the parts of the first pair exchanged they are not
example_exchanged : ¬ IsPostOrder (map children (leaf 3 ∷ leaf 2 ∷ pair 1 0 ∷ []))
unfolding IsPostOrderFrom
example_exchanged h = let clash : ◌≡◌ {A = ℕ} 1 0 = ap (λ (p : ℕ × ℕ). p.0) (h.0) in omega arith

-- and two leaves alone are no tree
example_two_trees : ¬ IsPostOrder (map children (leaf 3 ∷ leaf 2 ∷ []))
unfolding IsPostOrderFrom
example_two_trees h = h

example_trees : trees_of children nodes
    ≡ tip (leaf 3) ∷ tip (leaf 2) ∷ first ∷ tip (leaf 1) ∷ tip (leaf 0) ∷ second ∷ whole ∷ []
unfolding trees_of grow tree_over
example_trees = refl

example_root : root_of children nodes ≡ Some whole
unfolding root_of trees_of grow tree_over
example_root = refl

example_labels : labels whole ≡ nodes
unfolding labels
example_labels = refl

example_subtrees : subtrees whole ≡ trees_of children nodes
unfolding subtrees trees_of grow tree_over
example_subtrees = refl

example_numbered : IsNumbered children 0 whole
unfolding IsNumbered size root_number
example_numbered = ((refl, refl, refl), (refl, refl, refl), refl)

example_depth : depth whole ≡ 2
unfolding depth
example_depth = refl

-- the pairs above each node, told by their nodes, the nearest first
example_occurrences : map (λ (o : Occurrence Node). map label o.above) (occurrences_of children nodes)
    ≡ (pair 0 1 ∷ pair 2 5 ∷ []) ∷ (pair 0 1 ∷ pair 2 5 ∷ []) ∷ (pair 2 5 ∷ [])
    ∷ (pair 3 4 ∷ pair 2 5 ∷ []) ∷ (pair 3 4 ∷ pair 2 5 ∷ []) ∷ (pair 2 5 ∷ []) ∷ [] ∷ []
unfolding occurrences_of occurrences root_of trees_of grow tree_over label
example_occurrences = refl

-- the tips, from left to right, told by their nodes and those of the pairs above them
example_tips : map (λ (o : Occurrence Node). label o.here ∷ map label o.above) (tips [] whole)
    ≡ (leaf 3 ∷ pair 0 1 ∷ pair 2 5 ∷ []) ∷ (leaf 2 ∷ pair 0 1 ∷ pair 2 5 ∷ [])
    ∷ (leaf 1 ∷ pair 3 4 ∷ pair 2 5 ∷ []) ∷ (leaf 0 ∷ pair 3 4 ∷ pair 2 5 ∷ []) ∷ []
unfolding tips label
example_tips = refl

-- and as they lie below the first pair alone
example_tips_below : map (λ (o : Occurrence Node). label o.here ∷ map label o.above) (tips [] first)
    ≡ (leaf 3 ∷ pair 0 1 ∷ []) ∷ (leaf 2 ∷ pair 0 1 ∷ []) ∷ []
unfolding tips label
example_tips_below = refl
